-- What a pass has seen visible, it has seen after all that it does.
use Rattle.std.proofs.Common.{◌≡◌, ℕ, ◌≤◌, List, [], ◌∷◌, ◌++◌, sym, ap, subst}
use Rattle.graph_model.specs.declared.graph.Base.{Base}
use Rattle.core_states.specs.declared.clock.Clock.{Clock}
use Rattle.core_states.specs.Laters.{Later}
use Rattle.core_states.specs.Names.{Name}
use Rattle.core_calls.specs.Events.{Told}
use Rattle.turn_board.specs.Views.{Held, View, EachSeen, joining}
use Rattle.turn_board.specs.Works.{giving, clocks_after}
use Rattle.turn_board.specs.Turns.{IsNewest}
use Rattle.store_turns.specs.Grows.{Went}
use Rattle.store_turns.specs.Seeing.{MayMeet, HasSeen}
use Rattle.store_turns.proofs.Growing.{seen_still}

-- a clock that the pass may meet after its events it might meet before them
met_before : (n : Name) (ts : List Told) (hs : List Held) (v w : View) → Went n ts hs v w → (k : Clock) → MayMeet w k → MayMeet v k
met_before n ts hs v w went k met = (subst (λ (b : Base). b.epoch ≤ k.visible) (ap (λ (u : View). u.base) went.same) met.0, went.seen k met.1)

-- events of one of its actors
pub seen_on : (n : Name) (ts : List Told) (hs : List Held) (v w : View) → Went n ts hs v w → (e : ℕ) → HasSeen e v → HasSeen e w
seen_on n ts hs v w went e seen = λ k met. seen k (met_before n ts hs v w went k met)

-- a give of the one turn that it holds, on which nothing was done
pub seen_given : (h : Held) (v : View) → v.held ≡ h ∷ [] → IsNewest h.part v → (e : ℕ) → HasSeen e v → HasSeen e (giving [] v)
seen_given h v held newest e seen = λ k met. seen k (met.0, seen_still h.part v newest k (subst (λ (hs : List Held). EachSeen (λ (x : Clock). Later x k) (clocks_after hs v.seen)) held met.1))

-- a join with another pass, which knows the same base
seen_first : (k : Clock) (xs ys : List Clock) → EachSeen (λ (x : Clock). Later x k) (xs ++ ys) → EachSeen (λ (x : Clock). Later x k) xs
seen_first k [] ys all = tt
seen_first k (x ∷ xs) ys all = (all.0, seen_first k xs ys all.1)

seen_second : (k : Clock) (xs ys : List Clock) → EachSeen (λ (x : Clock). Later x k) (xs ++ ys) → EachSeen (λ (x : Clock). Later x k) ys
seen_second k [] ys all = all
seen_second k (x ∷ xs) ys all = seen_second k xs ys all.1

pub seen_joining : (v w : View) (e : ℕ) → HasSeen e v → HasSeen e (joining v w)
seen_joining v w e seen = λ k met. seen k (met.0, seen_first k v.seen w.seen met.1)

pub seen_joined : (v w : View) → w.base ≡ v.base → (e : ℕ) → HasSeen e w → HasSeen e (joining v w)
seen_joined v w same e seen = λ k met. seen k (subst (λ (b : Base). b.epoch ≤ k.visible) (sym same) met.0, seen_second k v.seen w.seen met.1)
