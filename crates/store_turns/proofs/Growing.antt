-- What a give of one event, or of none, adds to what a pass knows.
use Rattle.std.proofs.Common.{◌≡◌, ℕ, List, [], ◌∷◌, ◌++◌, refl, sym, ap, ◌∙◌, subst, append_assoc}
use Rattle.turn_board.proofs.Named.{append_none}
use Rattle.core_states.specs.declared.actor.Actor.{Actor}
use Rattle.core_states.specs.declared.clock.Clock.{Clock}
use Rattle.core_states.specs.Names.{Name}
use Rattle.core_states.specs.Laters.{Later}
use Rattle.core_states.specs.Parts.{Part, OfShard, OfClock, OfLog, actor_of}
use Rattle.core_laws.proofs.Orders.{later_still}
use Rattle.turn_board.specs.Ones.{DoesOne}
use Rattle.turn_board.specs.Turns.{IsNewest}
use Rattle.turn_board.specs.Views.{Noted, Did, Held, View, EachSeen, taking}
use Rattle.turn_board.specs.Works.{giving, clocks_with}
use Rattle.core_calls.specs.Events.{Told}
use Rattle.store_turns.specs.Grows.{Went, Grew, done_by, AreNotes}

-- what is later than a clock that is later than all that was seen is later than all of that
seen_before : (c k : Clock) (seen : List Clock) → EachSeen (λ x. Later x c) seen → Later c k → EachSeen (λ x. Later x k) seen
seen_before c k [] all later = tt
seen_before c k (x ∷ seen) all later = (later_still x c k all.0 later, seen_before c k seen all.1 later)

pub seen_still : (part : Part) (v : View) → IsNewest part v → (k : Clock) → EachSeen (λ x. Later x k) (clocks_with part v.seen) → EachSeen (λ x. Later x k) v.seen
seen_still (OfShard rows) v newest k all = all
seen_still (OfClock c) v newest k all = seen_before c k v.seen newest all.0
seen_still (OfLog log) v newest k all = all

pub grew_one : (shards turn : ℕ) (v : View) (p part : Part) (n : Name) (t : Told) (a : Actor) → v.held ≡ [] → DoesOne shards (taking turn p v) (done_by n t) part [] a → IsNewest part v → Grew n (t ∷ []) v (giving (done_by n t ∷ []) (taking turn p v))
grew_one shards turn v p part n t a free does newest = record {
  notes = Did (done_by n t) a ∷ [];
  are = (a, [], refl, (refl, does.actor));
  events = does.notes;
  others = does.others;
  held = does.held ∙ sym free;
  same = refl;
  seen = λ k all. seen_still part v newest k (subst (λ z. EachSeen (λ x. Later x k) z) does.seen all);
}

pub grew_none : (turn : ℕ) (v : View) (p : Part) (n : Name) → IsNewest p v → Grew n [] v (giving [] (taking turn p v))
grew_none turn v p n newest = record {
  notes = [];
  are = (refl, refl);
  events = refl;
  others = λ m ne. refl;
  held = refl;
  same = refl;
  seen = λ k all. seen_still p v newest k all;
}

-- nothing was done
pub grew_nothing : (n : Name) (v : View) → Grew n [] v v
grew_nothing n v = record {
  notes = [];
  are = (refl, refl);
  events = sym (append_none v.events);
  others = λ m ne. refl;
  held = refl;
  same = refl;
  seen = λ k all. all;
}

-- notes of events, and of more behind them
are_more : (n : Name) (ts us : List Told) (a b c : Actor) (xs ys : List Noted) → AreNotes n ts a b xs → AreNotes n us b c ys → AreNotes n (ts ++ us) a c (xs ++ ys)
are_more n [] us a b c xs ys first more = subst (λ (z : Actor × List Noted). AreNotes n us z.0 c z.1) (λ i. (first.1 i, sym (ap (λ (zs : List Noted). zs ++ ys) first.0) i)) more
are_more n (t ∷ ts) us a b c xs ys first more = (first.0, first.1 ++ ys, ap (λ (zs : List Noted). zs ++ ys) first.2, are_more n ts us first.0 b c first.1 ys first.3 more)

-- events behind others
pub went_on : (n : Name) (ts us : List Told) (hs gs : List Held) (u v w : View) → Went n ts hs u v → Went n us gs v w → Went n (ts ++ us) gs u w
went_on n ts us hs gs u v w one two = record {
  notes = one.notes ++ two.notes;
  are = are_more n ts us (actor_of u.base u.actors n) (actor_of v.base v.actors n) (actor_of w.base w.actors n) one.notes two.notes one.are two.are;
  events = two.events ∙ ap (λ (xs : List Noted). xs ++ two.notes) one.events ∙ append_assoc u.events one.notes two.notes;
  others = λ m ne. two.others m ne ∙ one.others m ne;
  held = two.held;
  same = two.same ∙ one.same;
  seen = λ k all. one.seen k (two.seen k all);
}

pub grew_on : (n : Name) (ts us : List Told) (u v w : View) → Grew n ts u v → Grew n us v w → Grew n (ts ++ us) u w
grew_on n ts us u v w one two = subst (λ hs. Went n (ts ++ us) hs u w) one.held (went_on n ts us u.held v.held u v w one two)
