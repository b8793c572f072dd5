-- The sessions of a worker, while calls on one after another of them are noted.
use Rattle.std.proofs.Common.{◌≡◌, ◌≢◌, ℕ, zero, suc, ◌+◌, ◌<◌, Bool, true, false, List, [], ◌∷◌, ◌++◌, length, slice_index_or, slice_set, drop, refl, sym, ap, ◌∙◌, subst, arith, Option, Some, None, inl, inr, append-nil, append_assoc}
use Rattle.std.specs.Prelude.{◌||◌, ◌==◌, is_some}
use Rattle.std.proofs.lemmas.Bool.{true≢false, eqb-false}
use Rattle.atomic_table.specs.declared.shared.Seat.{Seat}
use Rattle.core_calls.specs.Calls.{Nothing, Opens, Closes, Gives, Leaves}
use Rattle.core_calls.specs.Events.{Told}
use Rattle.core_states.specs.declared.actor.Actor.{Actor}
use Rattle.core_states.specs.declared.transaction.Transaction.{Transaction}
use Rattle.core_states.specs.Numbers.{has_number}
use Rattle.graph_workers.specs.Passes.{SessionCloses}
use Rattle.turn_board.specs.Board.{known}
use Rattle.turn_board.specs.Views.{Noted, Start, View, fresh_view}
use Rattle.turn_board.specs.declared.board.TurnBoard.{TurnBoard}
use Rattle.store_turns.specs.declared.session.Session.{Session}
use Rattle.store_turns.specs.declared.session.Work.{Work}
use Rattle.store_turns.specs.Fits.{Fits, IsSessionOf, IsWorkOf, actor_at, name_in}
use Rattle.store_turns.specs.Grows.{Grew}
use Rattle.store_turns.specs.Moves.{IsLost}
use Rattle.store_board.specs.Standing.{IsAtBoard, Stands, Goes}
use Rattle.store_board.proofs.Standing.{goes_on}
use Rattle.worker_runs.specs.Notes.{OneDid, AllOpened, AllClosed}
use Rattle.worker_sessions.specs.Notes.{actors_in, AreOf}
use Rattle.worker_sessions.specs.Sessions.{indices, AreApart, AllFit, EachIs, FirstAre, Noting, HaveOpened, HaveClosed, IsShut, IsIdle, IsUnused, MayClose}
use Rattle.worker_sessions.proofs.Working.{stepped, of-both, no-txn, closing-one}

-- ---- one session closes

left-then : (ts us : List Told) → Leaves Nothing ts → Closes us → Leaves Closes (ts ++ us)
left-then [] us gives closes = absurd gives
left-then (e ∷ es) us (inl x) closes = inl (x.0, subst (λ (xs : List Told). Closes (xs ++ us)) (sym x.1) closes)
left-then (e ∷ es) us (inr x) closes = inr (x.0, left-then es us x.1 closes)

closing-both : (w : Option Work) (t : Work) (x : Option Transaction) (ts us : List Told) → IsWorkOf w x → w ≡ Some t → Gives ts → Closes us → SessionCloses x (ts ++ us)
closing-both None t x ts us is some gives closes = absurd (let bad : ⊥ = (cc) in bad)
closing-both (Some u) t None ts us is some gives closes = absurd is
closing-both (Some u) t (Some x) ts us is some gives closes = left-then ts us gives closes

module _ {H : Type 0} (board : TurnBoard H) (shards : ℕ) where
  -- what closing a session makes
  abbrev pub Closing : Seat (Option H) View → Seat (Option H) View → Session → Session → Type 0
  Closing p q s s' = (ts : List Told) × SessionCloses (actor_at (known p) (name_in (known p) s.index)).txn ts × Goes board shards ts p q s s'

  pub idle-closes : (p q : Seat (Option H) View) (s s' : Session) → Stands board shards p s → s.work ≡ None → ((ts : List Told) × Closes ts × Goes board shards ts p q s s') → Closing p q s s'
  idle-closes p q s s' stands idle did =
      (did.0, closing-one (actor_at (known p) (name_in (known p) s.index)).txn did.0 (no-txn s.work (actor_at (known p) (name_in (known p) s.index)).txn stands.1.work idle) did.1, did.2)

  pub left-closes : (p q r : Seat (Option H) View) (s s' s'' : Session) → Stands board shards p s → (t : Work) → s.work ≡ Some t → ((ts : List Told) × Gives ts × Goes board shards ts p q s s')
      → ((us : List Told) × Closes us × Goes board shards us q r s' s'') → Closing p r s s''
  left-closes p q r s s' s'' stands t some one two = (
    one.0 ++ two.0,
    closing-both s.work t (actor_at (known p) (name_in (known p) s.index)).txn one.0 two.0 stands.1.work some one.1 two.1,
    goes_on board shards p q r s s' s'' one.0 two.0 one.2 two.2,
  )

  -- the same, where a choice between two ends was made before the close
  pub closes-idle : (p p' q : Seat (Option H) View) (s z s' : Session) → p' ≡ p → z ≡ s → Stands board shards p s → s.work ≡ None → ((ts : List Told) × Closes ts × Goes board shards ts p' q z s') → Closing p q s s'
  closes-idle p p' q s z s' e f stands idle did =
      idle-closes p q s s' stands idle (subst (λ (x : Seat (Option H) View × Session). (ts : List Told) × Closes ts × Goes board shards ts x.0 q x.1 s') (λ i. (e i, f i)) did)

  pub closes-left : (p q q' r : Seat (Option H) View) (s s' z s'' : Session) → q' ≡ q → z ≡ s' → Stands board shards p s → (t : Work) → s.work ≡ Some t → ((ts : List Told) × Gives ts × Goes board shards ts p q s s')
      → ((us : List Told) × Closes us × Goes board shards us q' r z s'') → Closing p r s s''
  closes-left p q q' r s s' z s'' e f stands t some one two =
      left-closes p q r s s' s'' stands t some one (subst (λ (x : Seat (Option H) View × Session). (us : List Told) × Closes us × Goes board shards us x.0 r x.1 s'') (λ i. (e i, f i)) two)

-- what may be given up
pub may-give : (s : Session) → MayClose s → is_some s.work ≡ true → (t : Work) × (s.work ≡ Some t) × IsLost t
may-give s may some = by_work s.work refl
  where
    by_work : (w : Option Work) → s.work ≡ w → (t : Work) × (s.work ≡ Some t) × IsLost t
    by_work None e = absurd (true≢false (sym some ∙ ap (λ (w : Option Work). is_some w) e))
    by_work (Some t) e = (t, e, may.1 t e)

pub has-none : (w : Option Work) → is_some w ≡ false → w ≡ None
has-none None none = refl
has-none (Some t) none = absurd (true≢false none)

-- ---- the other sessions

pub or-false : (a b : Bool) → (a || b) ≡ false → (a ≡ false) × (b ≡ false)
or-false true b h = absurd (true≢false h)
or-false false b h = (refl, h)

-- a session fits still where another one did something
pub fits-beside : (k : ℕ) (ts : List Told) (v w : View) (s : Session) → Grew (name_in v k) ts v w → s.index ≢ k → Fits s v → Fits s w
fits-beside k ts v w s grew ne fits = subst (λ (a : Actor). IsSessionOf s a) (sym ((stepped k ts v w grew).did.others s.index ne)) fits

away-from : (k : ℕ) (s : Session) (ss : List Session) → has_number k (indices (s ∷ ss)) ≡ false → (s.index ≢ k) × (has_number k (indices ss) ≡ false)
away-from k s ss away = let both = or-false (s.index == k) (has_number k (indices ss)) away in (eqb-false s.index k both.0, both.1)

fit-others : (k : ℕ) (ts : List Told) (v w : View) (ss : List Session) → Grew (name_in v k) ts v w → has_number k (indices ss) ≡ false → AllFit ss v → AllFit ss w
fit-others k ts v w [] grew away fit = tt
fit-others k ts v w (s ∷ ss) grew away fit =
    let apart = away-from k s ss away in (fits-beside k ts v w s grew apart.0 fit.0, fit-others k ts v w ss grew apart.1 fit.1)

pub away-at : (k i : ℕ) (ss : List Session) (d : Session) → i < length ss → has_number k (indices ss) ≡ false → (slice_index_or ss i d).index ≢ k
away-at k i [] d low away = absurd (omega (arith, low))
away-at k zero (s ∷ ss) d low away = (away-from k s ss away).0
away-at k (suc i) (s ∷ ss) d low away = away-at k i ss d (omega (arith, low)) (away-from k s ss away).1

-- all sessions fit, after a call on one of them
pub all-fit : (i : ℕ) (ss : List Session) (d s' : Session) (ts : List Told) (v w : View) → i < length ss → AreApart (indices ss) → AllFit ss v → Grew (name_in v (slice_index_or ss i d).index) ts v w → Fits s' w → AllFit (slice_set ss i s') w
all-fit i [] d s' ts v w low apart fit grew new = absurd (omega (arith, low))
all-fit zero (s ∷ ss) d s' ts v w low apart fit grew new = (new, fit-others s.index ts v w ss grew apart.0 fit.1)
all-fit (suc i) (s ∷ ss) d s' ts v w low apart fit grew new = (
  fits-beside (slice_index_or ss i d).index ts v w s grew (λ e. away-at s.index i ss d (omega (arith, low)) apart.0 (sym e)) fit.0,
  all-fit i ss d s' ts v w (omega (arith, low)) apart.1 fit.1 grew new,
)

pub fit-at : (i : ℕ) (ss : List Session) (d : Session) (v : View) → i < length ss → AllFit ss v → Fits (slice_index_or ss i d) v
fit-at i [] d v low fit = absurd (omega (arith, low))
fit-at zero (s ∷ ss) d v low fit = fit.0
fit-at (suc i) (s ∷ ss) d v low fit = fit-at i ss d v (omega (arith, low)) fit.1

-- ---- lists of sessions

pub indices-set : (i : ℕ) (ss : List Session) (d s' : Session) → i < length ss → s'.index ≡ (slice_index_or ss i d).index → indices (slice_set ss i s') ≡ indices ss
indices-set i [] d s' low same = absurd (omega (arith, low))
indices-set zero (s ∷ ss) d s' low same = ap (λ (k : ℕ). k ∷ indices ss) same
indices-set (suc i) (s ∷ ss) d s' low same = ap (λ (ks : List ℕ). s.index ∷ ks) (indices-set i ss d s' (omega (arith, low)) same)

length-set : (i : ℕ) (ss : List Session) (s' : Session) → i < length ss → length (slice_set ss i s') ≡ length ss
length-set i [] s' low = absurd (omega (arith, low))
length-set zero (s ∷ ss) s' low = refl
length-set (suc i) (s ∷ ss) s' low = ap suc (length-set i ss s' (omega (arith, low)))

drop-suc : (i : ℕ) (ss : List Session) (d : Session) → i < length ss → drop i (indices ss) ≡ (slice_index_or ss i d).index ∷ drop (suc i) (indices ss)
drop-suc i [] d low = absurd (omega (arith, low))
drop-suc zero (s ∷ ss) d low = refl
drop-suc (suc i) (s ∷ ss) d low = drop-suc i ss d (omega (arith, low))

plus-one : (n : ℕ) → suc n ≡ n + 1
plus-one n = omega arith

drop-all : (ss : List Session) → drop (length ss) (indices ss) ≡ []
drop-all [] = refl
drop-all (s ∷ ss) = drop-all ss

module _ (F G : Session → Type 0) where
  none-are : (ss : List Session) → EachIs G ss → FirstAre 0 F G ss
  none-are [] are = tt
  none-are (s ∷ ss) are = (are.0, none-are ss are.1)

  all-are : (ss : List Session) → FirstAre (length ss) F G ss → EachIs F ss
  all-are [] are = tt
  all-are (s ∷ ss) are = (are.0, all-are ss are.1)

  next-is : (i : ℕ) (ss : List Session) (d : Session) → i < length ss → FirstAre i F G ss → G (slice_index_or ss i d)
  next-is i [] d low are = absurd (omega (arith, low))
  next-is zero (s ∷ ss) d low are = are.0
  next-is (suc i) (s ∷ ss) d low are = next-is i ss d (omega (arith, low)) are.1

  more-are : (i : ℕ) (ss : List Session) (s' : Session) → i < length ss → FirstAre i F G ss → F s' → FirstAre (suc i) F G (slice_set ss i s')
  more-are i [] s' low are new = absurd (omega (arith, low))
  more-are zero (s ∷ ss) s' low are new = (new, are.1)
  more-are (suc i) (s ∷ ss) s' low are new = (are.0, more-are i ss s' (omega (arith, low)) are.1 new)

-- ---- what is noted

module _ (D E F : List ℕ → (ℕ → Actor) → List Noted → (ℕ → Actor) → Type 0) (v w x : View) (a : Noting D v w) (b : Noting E w x) where
  -- one after the other
  pub noting-both : (E v.number (actors_in w) b.notes (actors_in x) → F v.number (actors_in v) (a.notes ++ b.notes) (actors_in x)) → Noting F v x
  noting-both both = record {
    notes = a.notes ++ b.notes;
    did = both (subst (λ (p : List ℕ). E p (actors_in w) b.notes (actors_in x)) a.number b.did);
    are = of-both v.number a.notes b.notes a.are (subst (λ (p : List ℕ). AreOf p b.notes) a.number b.are);
    events = b.events ∙ ap (λ (xs : List Noted). xs ++ b.notes) a.events ∙ append_assoc v.events a.notes b.notes;
    start_is = b.start_is ∙ a.start_is;
    number = b.number ∙ a.number;
    joined = b.joined ∙ a.joined;
    made = b.made ∙ a.made;
  }

abbrev Ones : ℕ → List Told → List ℕ → (ℕ → Actor) → List Noted → (ℕ → Actor) → Type 0
Ones k ts p old notes new = OneDid p k ts old notes new

abbrev Opened : List ℕ → List ℕ → (ℕ → Actor) → List Noted → (ℕ → Actor) → Type 0
Opened ks p old notes new = AllOpened p ks old notes new

abbrev Closed : List ℕ → List ℕ → (ℕ → Actor) → List Noted → (ℕ → Actor) → Type 0
Closed ks p old notes new = AllClosed p ks old notes new

pub opens-before : (k : ℕ) (ts : List Told) (v w : View) → Grew (name_in v k) ts v w → Opens ts → (ks : List ℕ) (x : View) → HaveOpened ks w x → HaveOpened (k ∷ ks) v x
opens-before k ts v w grew opens ks x b =
    let a = stepped k ts v w grew in
    noting-both (Ones k ts) (Opened ks) (Opened (k ∷ ks)) v w x a b (λ rest. (actors_in w, ts, opens, a.notes, b.notes, refl, a.did, rest))

pub closes-before : (k : ℕ) (ts : List Told) (v w : View) → Grew (name_in v k) ts v w → SessionCloses (actors_in v k).txn ts → (ks : List ℕ) (x : View) → HaveClosed ks w x → HaveClosed (k ∷ ks) v x
closes-before k ts v w grew closes ks x b =
    let a = stepped k ts v w grew in
    noting-both (Ones k ts) (Closed ks) (Closed (k ∷ ks)) v w x a b (λ rest. (actors_in w, ts, closes, a.notes, b.notes, refl, a.did, rest))

pub none-opened : (v : View) → HaveOpened [] v v
none-opened v = record { notes = []; did = (refl, λ k. refl); are = tt; events = sym (append-nil v.events); start_is = refl; number = refl; joined = refl; made = refl }

pub none-closed : (v : View) → HaveClosed [] v v
none-closed v = record { notes = []; did = (refl, λ k. refl); are = tt; events = sym (append-nil v.events); start_is = refl; number = refl; joined = refl; made = refl }

-- ---- a loop over the sessions

-- The calls on the first n of the sessions are done: those are so, the others thus, and what is noted of the others after them makes what is to be noted of all.
pub record SoFar {H : Type 0} (Adds : List ℕ → View → View → Type 0) (F G : Session → Type 0) (board : TurnBoard H) (shards : ℕ) (p q : Seat (Option H) View) (ss zs : List Session) (n : ℕ) : Type 0 where
  pub stands : IsAtBoard board shards q
  pub fit : AllFit zs (known q)
  pub apart : AreApart (indices zs)
  pub same : indices zs ≡ indices ss
  pub len : length zs ≡ length ss
  pub are : FirstAre n F G zs
  pub ahead : (x : View) → Adds (drop n (indices zs)) (known q) x → Adds (indices ss) (known p) x

module _ {H : Type 0} (Adds : List ℕ → View → View → Type 0) (F G : Session → Type 0) (board : TurnBoard H) (shards : ℕ) (p : Seat (Option H) View) (ss : List Session) where
  pub none-yet : IsAtBoard board shards p → AllFit ss (known p) → AreApart (indices ss) → EachIs G ss → SoFar Adds F G board shards p p ss ss 0
  none-yet stands fit apart are = record { stands = stands; fit = fit; apart = apart; same = refl; len = refl; are = none-are F G ss are; ahead = λ x adds. adds }

  pub one-more : (q r : Seat (Option H) View) (zs : List Session) (n : ℕ) (d s' : Session) (ts : List Told) → SoFar Adds F G board shards p q ss zs n → n < length zs → Goes board shards ts q r (slice_index_or zs n d) s' → F s'
      → ((ks : List ℕ) (x : View) → Adds ks (known r) x → Adds ((slice_index_or zs n d).index ∷ ks) (known q) x) → SoFar Adds F G board shards p r ss (slice_set zs n s') (n + 1)
  one-more q r zs n d s' ts was low goes new adds =
      let same : indices (slice_set zs n s') ≡ indices zs = indices-set n zs d s' low goes.index in
      record {
        stands = goes.stands.0;
        fit = all-fit n zs d s' ts (known q) (known r) low was.apart was.fit goes.grew goes.stands.1;
        apart = subst AreApart (sym same) was.apart;
        same = same ∙ was.same;
        len = length-set n zs s' low ∙ was.len;
        are = subst (λ (k : ℕ). FirstAre k F G (slice_set zs n s')) (plus-one n) (more-are F G n zs s' low was.are new);
        ahead = λ x rest. was.ahead x (subst (λ (ks : List ℕ). Adds ks (known q) x) (sym (drop-suc n zs d low)) (adds (drop (suc n) (indices zs)) x
            (subst (λ (z : ℕ × List ℕ). Adds (drop z.0 z.1) (known r) x) (λ i. (sym (plus-one n) i, same i)) rest)));
      }

  pub each-is : (q : Seat (Option H) View) (zs : List Session) (n : ℕ) → SoFar Adds F G board shards p q ss zs n → n ≡ length ss → EachIs F zs
  each-is q zs n was all = all-are F G zs (subst (λ (k : ℕ). FirstAre k F G zs) (all ∙ sym was.len) was.are)

  pub all-added : (q : Seat (Option H) View) (zs : List Session) (n : ℕ) → SoFar Adds F G board shards p q ss zs n → n ≡ length ss → Adds [] (known q) (known q) → Adds (indices ss) (known p) (known q)
  all-added q zs n was all none =
      was.ahead (known q) (subst (λ (ks : List ℕ). Adds ks (known q) (known q)) (sym (ap (λ (k : ℕ). drop k (indices zs)) (all ∙ sym was.len) ∙ drop-all zs)) none)

pub is-idle : (s s' : Session) → IsShut s → s' ≡ record s { is_open = true } → IsIdle s'
is-idle s s' shut is = (ap (λ (x : Session). x.is_open) is, ap (λ (x : Session). x.work) is ∙ shut.1)

pub next-one : (F G : Session → Type 0) (i : ℕ) (ss : List Session) (d : Session) → i < length ss → FirstAre i F G ss → G (slice_index_or ss i d)
next-one F G i ss d low are = next-is F G i ss d low are

-- ---- sessions that have done nothing

pub are-shut : (ss : List Session) → EachIs IsUnused ss → EachIs IsShut ss
are-shut [] are = tt
are-shut (s ∷ ss) are = ((are.0.0, are.0.1), are-shut ss are.1)

fits-fresh : (start : Start) (p : List ℕ) (s : Session) → IsUnused s → Fits s (fresh_view start p [] [])
fits-fresh start p s new = record { row = sym new.0; work = subst (λ (w : Option Work). IsWorkOf w None) (sym new.1) tt; finished = sym new.2; leads = (refl, refl) }

pub all-fresh : (start : Start) (p : List ℕ) (ss : List Session) → EachIs IsUnused ss → AllFit ss (fresh_view start p [] [])
all-fresh start p [] are = tt
all-fresh start p (s ∷ ss) are = (fits-fresh start p s are.0, all-fresh start p ss are.1)

pub may-close : (ss : List Session) → EachIs IsIdle ss → EachIs MayClose ss
may-close [] are = tt
may-close (s ∷ ss) are = ((are.0.0, λ t some. absurd (not-both (sym are.0.1 ∙ some))), may-close ss are.1)
  where
    not-both : {t : Work} → None ≡ Some t → ⊥
    not-both e = let bad : ⊥ = (cc) in bad

-- who is not opened is as before
pub opened-others : (p ks : List ℕ) (old : ℕ → Actor) (notes : List Noted) (new : ℕ → Actor) → AllOpened p ks old notes new → (k : ℕ) → has_number k ks ≡ false → new k ≡ old k
opened-others p [] old notes new did k away = did.1 k
opened-others p (j ∷ ks) old notes new did k away =
    let both = or-false (j == k) (has_number k ks) away in
    opened-others p ks did.0 did.4 new did.7 k both.1 ∙ did.6.others k (λ e. eqb-false j k both.0 (sym e))
