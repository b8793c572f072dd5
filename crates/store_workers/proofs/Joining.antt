-- All workers of a phase have run: what the parent of their passes knows once they are back.
use Rattle.std.proofs.Common.{◌≡◌, ℕ, suc, ◌<◌, List, [], ◌∷◌, ◌++◌, length, refl, sym, ap, ◌∙◌, subst, arith, Option, Vec, Global}
use Rattle.atomic_table.specs.declared.shared.Seat.{Seat}
use Rattle.graph_legal.specs.Lines.{Phase, Replied}
use Rattle.request_text.specs.declared.reply.Reply.{Reply}
use Rattle.request_text.specs.declared.request.Line.{Line}
use Rattle.turn_board.specs.Views.{View, In, numbers, start_of}
use Rattle.turn_board.specs.Histories.{noted}
use Rattle.turn_board.specs.declared.board.TurnBoard.{TurnBoard}
use Rattle.worker_lines.specs.Lines.{replied_of}
use Rattle.store_workers.specs.declared.worker.Worker.{Worker}
use Rattle.store_workers.specs.Crews.{pass_of, AreNumbered, HasOut, HasParted, Ran}
use Rattle.store_workers.specs.Orders.{replies_of, own_at}
use Rattle.store_workers.specs.Phases.{next_parent, HasRunPhases}
use Rattle.store_workers.proofs.Coming.{all-out}
use Rattle.store_workers.proofs.Crewing.{replies_in, RanLines, lines-ran, none-beyond}
use Rattle.store_workers.proofs.Ordering.{own-replies}
use Rattle.store_workers.proofs.Phasing.{new-workers, parent-made, phase-more}

many-replies : {P : Type 0} (ws : List (Worker P)) → length (replies_in ws) ≡ length ws
many-replies [] = refl
many-replies (w ∷ ws) = ap (λ (k : ℕ). suc k) (many-replies ws)

-- the lines that each of the workers ran
abbrev pub ran_by : {P : Type 0} → ℕ → List Line → List (Worker P) → ℕ → List Replied
ran_by n script ws k = replied_of k n script (own_at (replies_in ws) k)

module _ {H : Type 0} (board : TurnBoard H) (shards n : ℕ) (script : List Line) where
  abbrev Member : Type 0
  Member = Worker (Seat (Option H) View)

  all-back : (u : View) (zs ws : List Member) (v w : View) → ws ≡ zs → length zs ≡ n → AreNumbered (RanLines board shards n script (start_of u) u.number) 0 zs → HasParted u n v → ((m : List ℕ) → In m u.made → In m (numbers u)) → ((i : ℕ) → noted (pass_of u.number i) u.events ≡ [])
      → ((x : View) (m : ℕ) (lines : ℕ → List Replied) → HasOut x m lines (length ws) v → AreNumbered (Ran (start_of x) x.number lines) 0 ws → HasOut x m lines 0 w) → HasOut u n (ran_by n script zs) 0 w
  all-back u zs ws v w is many ran has all before back =
      back u n (ran_by n script zs)
      (subst (λ (k : ℕ). HasOut u n (ran_by n script zs) k v) (sym (ap length is ∙ many))
      (all-out u (ran_by n script zs) n v has all before (λ i high. none-beyond n script (replies_in zs) i (let long = many-replies zs in omega (arith, high, long, many)))))
      (subst (λ (xs : List Member). AreNumbered (Ran (start_of u) u.number (ran_by n script zs)) 0 xs) (sym is) (lines-ran board shards n script (start_of u) u.number zs ran))

  -- and so one phase more is over
  pub phase-over : (phases : List Phase) (replies : List Reply) (old u v w : View) (zs ws : List Member) (own : List (Vec Reply Global)) (rs : List Reply) → HasRunPhases phases replies old → u ≡ next_parent old → 0 < n → ws ≡ zs → length zs ≡ n
      → AreNumbered (RanLines board shards n script (start_of u) u.number) 0 zs → HasParted u n v
      → ((x : View) (m : ℕ) (lines : ℕ → List Replied) → HasOut x m lines (length ws) v → AreNumbered (Ran (start_of x) x.number lines) 0 ws → HasOut x m lines 0 w)
      → own ≡ replies_in zs → ((k : ℕ) → k < n → replies_of k n script rs ≡ own_at own k) → length rs ≡ length script → w.held ≡ []
      → HasRunPhases (phases ++ record { script = script; workers = n } ∷ []) (replies ++ rs) w
  phase-over phases replies old u v w zs ws own rs has parent some is many ran parted back own-is each long free =
      phase-more phases replies old has n script rs (ran_by n script zs) w
      (subst (λ (x : View). HasOut x n (ran_by n script zs) 0 w) parent
      (all-back u zs ws v w is many ran parted (subst (λ (x : View). (m : List ℕ) → In m x.made → In m (numbers x)) (sym parent) (parent-made phases replies old has))
      (subst (λ (x : View). (i : ℕ) → noted (pass_of x.number i) x.events ≡ []) (sym parent) (new-workers phases replies old has)) back))
      free long
      (λ k. ap (λ (xs : List Reply). replied_of k n script xs) (sym (own-replies n script rs (replies_in zs) some (many-replies zs ∙ many) (λ j low. each j low ∙ ap (λ (vs : List (Vec Reply Global)). own_at vs j) own-is) k)))
