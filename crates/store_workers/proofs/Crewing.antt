-- The lists of workers, as they are split off, run and come back.
use Rattle.std.proofs.Common.{◌≡◌, ℕ, suc, ◌+◌, ◌<◌, ◌≤◌, List, [], ◌∷◌, ◌++◌, length, length-append, map, reverse, refl, sym, ap, ◌∙◌, subst, arith, Option, Vec, Global, append_assoc}
use Rattle.std.proofs.lemmas.List.{reverse-append}
use Rattle.atomic_table.specs.declared.shared.Seat.{Seat}
use Rattle.graph_legal.specs.Lines.{Replied, asked_in}
use Rattle.request_text.specs.declared.reply.Reply.{Reply}
use Rattle.request_text.specs.declared.request.Line.{Line}
use Rattle.store_log.specs.LogChanges.{IsBaseOf}
use Rattle.turn_board.specs.Board.{known}
use Rattle.turn_board.specs.Views.{Start, View, start_of, splitting, joining}
use Rattle.turn_board.specs.declared.board.TurnBoard.{TurnBoard}
use Rattle.store_board.specs.Standing.{IsAtBoard}
use Rattle.worker_lines.specs.Lines.{lines_of, replied_of}
use Rattle.store_workers.specs.declared.worker.Crew.{Crew}
use Rattle.store_workers.specs.declared.worker.Worker.{Worker}
use Rattle.store_workers.specs.Crews.{pass_of, IsFreshAt, IsCrew, At, HasWorked, HasOut, HasParted, MayStart, HasRun, EachRan, AreNumbered, Waits, Ran}
use Rattle.store_workers.proofs.Coming.{parts-more, comes-back}
use Rattle.store_workers.proofs.Numbering.{numbered-more, numbered-less, numbered-on, numbered-as}
use Rattle.store_workers.specs.Orders.{own_at}
use Rattle.store_workers.proofs.Ordering.{no-replies, no-worker}

plus-one : (n : ℕ) → suc n ≡ n + 1
plus-one n = omega arith

pub parts-next : (u : View) (n : ℕ) (v w : View) → HasParted u n v → w ≡ splitting v → HasParted u (n + 1) w
parts-next u n v w has is = subst (λ (z : ℕ × View). HasParted u z.0 z.1) (λ i. (plus-one n i, sym is i)) (parts-more u n v has)

-- the last crew is the next one
pub next-crew : (n : ℕ) (script : List Line) (k : ℕ) (crews xs : List Crew) (crew : Crew) → crews ≡ xs ++ crew ∷ [] → AreNumbered (IsCrew n script) k (reverse crews) → IsCrew n script k crew × AreNumbered (IsCrew n script) (suc k) (reverse xs)
next-crew n script k crews xs crew is are = subst (λ (ys : List Crew). AreNumbered (IsCrew n script) k ys) (ap (λ (ys : List Crew). reverse ys) is ∙ reverse-append xs (crew ∷ [])) are

-- the replies of workers
abbrev pub replies_in : {P : Type 0} → List (Worker P) → List (Vec Reply Global)
replies_in ws = map (λ w. w.crew.replies) ws

module _ {H : Type 0} (board : TurnBoard H) (shards n : ℕ) (script : List Line) (start : Start) (p : List ℕ) where
  abbrev Member : Type 0
  Member = Worker (Seat (Option H) View)

  pub waits-more : (ws zs : List Member) (pass : Seat (Option H) View) (crew : Crew) → AreNumbered (Waits board shards n script start p) 0 ws → zs ≡ ws ++ record { pass = pass; crew = crew } ∷ [] → IsAtBoard board shards pass
      → IsFreshAt start (pass_of p (length ws)) (known pass) → IsCrew n script (length ws) crew → AreNumbered (Waits board shards n script start p) 0 zs × (length zs ≡ length ws + 1)
  waits-more ws zs pass crew wait is stands fresh ready = (
    subst (λ (xs : List Member). AreNumbered (Waits board shards n script start p) 0 xs) (sym is) (numbered-more (Waits board shards n script start p) ws (record { pass = pass; crew = crew }) wait ((stands, fresh), ready)),
    ap length is ∙ length-append ws (record { pass = pass; crew = crew } ∷ []),
  )

  -- each may start
  start-one : IsBaseOf start.base start.found.records → (k : ℕ) (w : Member) → k < n → Waits board shards n script start p k w → MayStart board shards n script k w
  start-one found k w low wait = record {
    number = low;
    fresh = (wait.0.0, wait.0.1.2);
    found = subst (λ (s : Start). IsBaseOf s.base s.found.records) (sym wait.0.1.0) found;
    crew = wait.1;
  }

  pub may-start : (ws : List Member) → IsBaseOf start.base start.found.records → length ws ≡ n → AreNumbered (Waits board shards n script start p) 0 ws → AreNumbered (MayStart board shards n script) 0 ws
  may-start ws found many wait = may-from 0 ws (subst (λ (m : ℕ). m ≤ n) (none (length ws)) (omega (arith, many))) wait
    where
      none : (m : ℕ) → m ≡ 0 + m
      none m = omega arith

      may-from : (k : ℕ) (xs : List Member) → k + length xs ≤ n → AreNumbered (Waits board shards n script start p) k xs → AreNumbered (MayStart board shards n script) k xs
      may-from k [] low are = tt
      may-from k (x ∷ xs) low are = (start-one found k x (omega (arith, low)) are.0, may-from (suc k) xs (omega (arith, low)) are.1)

  -- what one of them ran, and the replies to its lines
  abbrev pub RanLines : ℕ → Member → Type 0
  RanLines k w = At board shards (HasWorked start (pass_of p k) (replied_of k n script w.crew.replies.items)) w.pass × (length w.crew.replies.items ≡ length (lines_of k n script))

  ran-one : (k : ℕ) (x y : Member) → Waits board shards n script start p k x → HasRun board shards n script k x y → RanLines k y
  ran-one k x y wait ran = ((ran.worked.0, subst (λ (z : Start × List ℕ). HasWorked z.0 z.1 (replied_of k n script y.crew.replies.items) (known y.pass)) (λ i. (wait.0.1.0 i, wait.0.1.1 i)) ran.worked.1), ran.len)

  pub all-ran : (ws zs : List Member) → AreNumbered (Waits board shards n script start p) 0 ws → length zs ≡ length ws → EachRan board shards n script ws zs → AreNumbered RanLines 0 zs
  all-ran ws zs wait long ran = numbered-on (Waits board shards n script start p) RanLines (λ k x y. HasRun board shards n script k x y) ran-one ws zs long wait ran

  -- with the lines of each told from the list of all
  pub lines-ran : (zs : List Member) → AreNumbered RanLines 0 zs → AreNumbered (Ran start p (λ k. replied_of k n script (own_at (replies_in zs) k))) 0 zs
  lines-ran zs are = told 0 zs (λ k low. ap (λ (m : ℕ). own_at (replies_in zs) m) (zero-plus k)) are
    where
      zero-plus : (m : ℕ) → 0 + m ≡ m
      zero-plus m = omega arith

      none : (m : ℕ) → m ≡ m + 0
      none m = omega arith

      over : (m j : ℕ) → suc m + j ≡ m + suc j
      over m j = omega arith

      -- the replies of the worker at a place of the list that is left
      told : (k : ℕ) (xs : List Member) → ((j : ℕ) → j < length xs → own_at (replies_in zs) (k + j) ≡ own_at (replies_in xs) j) → AreNumbered RanLines k xs → AreNumbered (Ran start p (λ k. replied_of k n script (own_at (replies_in zs) k))) k xs
      told k [] same are = tt
      told k (x ∷ xs) same are = (
        subst (λ (rs : List Reply). HasWorked start (pass_of p k) (replied_of k n script rs) (known x.pass)) (sym (ap (λ (m : ℕ). own_at (replies_in zs) m) (none k) ∙ same 0 (omega arith))) are.0.0.1,
        told (suc k) xs (λ j low. ap (λ (m : ℕ). own_at (replies_in zs) m) (over k j) ∙ same (suc j) (omega (arith, low))) are.1,
      )

  -- the passes of all stand at the board
  pub all-stand : (zs : List Member) → AreNumbered RanLines 0 zs → AreNumbered (λ _ w. IsAtBoard board shards w.pass) 0 zs
  all-stand zs are = numbered-as RanLines (λ _ w. IsAtBoard board shards w.pass) (λ k x ran. ran.0.0) 0 zs are

  -- each has a reply to each of its lines
  pub replies-whole : (zs : List Member) → AreNumbered RanLines 0 zs → AreNumbered (λ w rs. length rs.items ≡ length (lines_of w n script)) 0 (replies_in zs)
  replies-whole zs are = from 0 zs are
    where
      from : (k : ℕ) (xs : List Member) → AreNumbered RanLines k xs → AreNumbered (λ w rs. length rs.items ≡ length (lines_of w n script)) k (replies_in xs)
      from k [] are = tt
      from k (x ∷ xs) are = (are.0.1, from (suc k) xs are.1)

-- a worker that is not there ran nothing
pub none-beyond : (n : ℕ) (script : List Line) (vs : List (Vec Reply Global)) (k : ℕ) → length vs ≤ k → replied_of k n script (own_at vs k) ≡ []
none-beyond n script vs k high = ap (λ (rs : List Reply). replied_of k n script rs) (no-worker vs k high) ∙ no-replies [] (map (asked_in 0 n) (lines_of k n script))

module _ {H : Type 0} (u : View) (n : ℕ) (lines : ℕ → List Replied) where
  abbrev Ran_of : ℕ → Worker (Seat (Option H) View) → Type 0
  Ran_of k w = Ran (start_of u) u.number lines k w

  last-ran : (ws xs : List (Worker (Seat (Option H) View))) (x : Worker (Seat (Option H) View)) → ws ≡ xs ++ x ∷ [] → AreNumbered Ran_of 0 ws → AreNumbered Ran_of 0 xs × Ran_of (length xs) x
  last-ran ws xs x is ran = numbered-less Ran_of xs x (subst (λ (zs : List (Worker (Seat (Option H) View))). AreNumbered Ran_of 0 zs) is ran)

  comes-one : (ws xs : List (Worker (Seat (Option H) View))) (x : Worker (Seat (Option H) View)) (v z : View) → ws ≡ xs ++ x ∷ [] → HasOut u n lines (length ws) v → Ran_of (length xs) x → z ≡ joining v (known x.pass) → HasOut u n lines (length xs) z
  comes-one ws xs x v z is has ran both =
      let many : length ws ≡ suc (length xs) = let e = ap length is in let m = length-append xs (x ∷ []) in omega (arith, e, m) in
      subst (HasOut u n lines (length xs)) (sym both) (comes-back u n lines (length xs) v (known x.pass) (subst (λ (k : ℕ). HasOut u n lines k v) many has) ran)

  -- one comes back
  pub comes-next : (all ws xs : List (Worker (Seat (Option H) View))) (x : Worker (Seat (Option H) View)) (old v z : View) → ws ≡ xs ++ x ∷ [] → z ≡ joining v (known x.pass)
      → (HasOut u n lines (length all) old → AreNumbered Ran_of 0 all → HasOut u n lines (length ws) v × AreNumbered Ran_of 0 ws)
      → HasOut u n lines (length all) old → AreNumbered Ran_of 0 all → HasOut u n lines (length xs) z × AreNumbered Ran_of 0 xs
  comes-next all ws xs x old v z is both was out ran =
      let now = was out ran in let last = last-ran ws xs x is now.1 in (comes-one ws xs x v z is now.0 last.1 both, last.0)

-- the passes of all but the last, and that of the last
pub stand-less : {H : Type 0} (board : TurnBoard H) (shards : ℕ) (ws xs : List (Worker (Seat (Option H) View))) (x : Worker (Seat (Option H) View)) → ws ≡ xs ++ x ∷ [] → AreNumbered (λ _ w. IsAtBoard board shards w.pass) 0 ws
    → AreNumbered (λ _ w. IsAtBoard board shards w.pass) 0 xs × IsAtBoard board shards x.pass
stand-less {H} board shards ws xs x is stand = numbered-less (λ (k : ℕ) (w : Worker (Seat (Option H) View)). IsAtBoard board shards w.pass) xs x (subst (λ (zs : List (Worker (Seat (Option H) View))). AreNumbered (λ _ w. IsAtBoard board shards w.pass) 0 zs) is stand)

-- the replies that came back, in the order of the workers
pub replies-more : {P : Type 0} (ws xs : List (Worker P)) (x : Worker P) (old rs rs' : List (Vec Reply Global)) → ws ≡ xs ++ x ∷ [] → rs' ≡ rs ++ x.crew.replies ∷ [] → replies_in ws ++ reverse rs ≡ old → replies_in xs ++ reverse rs' ≡ old
replies-more {P} ws xs x old rs rs' is pushed was =
    ap (λ (vs : List (Vec Reply Global)). replies_in xs ++ vs) (ap (λ (vs : List (Vec Reply Global)). reverse vs) pushed ∙ reverse-append rs (x.crew.replies ∷ []))
    ∙ sym (append_assoc (replies_in xs) (x.crew.replies ∷ []) (reverse rs)) ∙ ap (λ (vs : List (Vec Reply Global)). vs ++ reverse rs) (sym (ap (λ ys. replies_in ys) is ∙ map-both xs)) ∙ was
  where
    map-both : (ys : List (Worker P)) → replies_in (ys ++ x ∷ []) ≡ replies_in ys ++ x.crew.replies ∷ []
    map-both [] = refl
    map-both (y ∷ ys) = ap (λ (vs : List (Vec Reply Global)). y.crew.replies ∷ vs) (map-both ys)
