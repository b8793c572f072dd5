-- The crews of workers, before they run.
use Rattle.std.proofs.Common.{◌≡◌, ℕ, zero, suc, ◌+◌, ◌*◌, ◌/◌, ◌%◌, ◌<◌, ◌≤◌, List, [], ◌∷◌, ◌++◌, length, reverse, slice_get, slice_index_or, sym, ap, ◌∙◌, subst, arith, Some}
use Rattle.std.proofs.lemmas.Bool.{eqb-true}
use Rattle.std.proofs.lemmas.List.{reverse-append}
use Rattle.std.proofs.Math.Nat.{mod-add-div, mul_comm, suc-mul, zero-mul}
use Rattle.request_text.specs.declared.request.Line.{Line}
use Rattle.worker_lines.specs.Lines.{IsSeated}
use Rattle.worker_sessions.specs.Sessions.{EachIs, IsSpaced}
use Rattle.store_workers.specs.declared.worker.Crew.{Crew}
use Rattle.store_workers.specs.Crews.{AreNumbered, IsCrew}

-- ---- a fact of each, told by places

pub each-by-place : {A : Type 0} (F : A → Type 0) (xs : List A) → ((j : ℕ) (d : A) → j < length xs → F (slice_index_or xs j d)) → EachIs F xs
each-by-place F [] at = tt
each-by-place F (x ∷ xs) at = (at 0 x (omega arith), each-by-place F xs (λ j d low. at (suc j) d (omega (arith, low))))

-- ---- the sessions of a worker

below : (first m k limit : ℕ) → limit ≤ first → k ≡ first + m → k < limit → ⊥
below first m k limit high is low = omega (arith, high, is, low)

onto : (first step m n k : ℕ) → n ≡ m + step → k ≡ first + n → k ≡ (first + step) + m
onto first step m n k more is = omega (arith, more, is)

no-step : (first m k : ℕ) → m ≡ 0 → k ≡ first + m → first ≡ k
no-step first m k none is = omega (arith, none, is)

-- the number at a place
spaced-at : (first step limit : ℕ) (ks : List ℕ) (j k : ℕ) → IsSpaced first step limit ks → k ≡ first + j * step → k < limit → slice_get ks j ≡ Some k
spaced-at first step limit [] j k spaced is low = absurd (below first (j * step) k limit spaced is low)
spaced-at first step limit (x ∷ ks) zero k spaced is low = ap Some (spaced.0 ∙ no-step first (zero * step) k (zero-mul step) is)
spaced-at first step limit (x ∷ ks) (suc j) k spaced is low = spaced-at (first + step) step limit ks j k spaced.2 (onto first step (j * step) (suc j * step) k (suc-mul j step) is) low

in-parts : (w n k : ℕ) → k % n ≡ w → k ≡ w + (k / n) * n
in-parts w n k is = sym (mod-add-div k n) ∙ (λ i. is i + mul_comm n (k / n) i)

seat-of : (w n limit : ℕ) (ks : List ℕ) (line : Line) → IsSpaced w n limit ks → line.session < limit → IsSeated w n ks line
seat-of w n limit ks line spaced low own = spaced-at w n limit ks (line.session / n) line.session spaced (in-parts w n line.session (eqb-true (line.session % n) w own)) low

pub seats-of : (w n limit : ℕ) (ks : List ℕ) (script : List Line) → IsSpaced w n limit ks → EachIs (λ line. line.session < limit) script → EachIs (λ line. IsSeated w n ks line) script
seats-of w n limit ks [] spaced low = tt
seats-of w n limit ks (line ∷ script) spaced low = (seat-of w n limit ks line spaced low.0, seats-of w n limit ks script spaced low.1)

-- ---- one crew after another

pub crew-more : (n : ℕ) (script : List Line) (k left : ℕ) (crews more : List Crew) (crew : Crew) → more ≡ crews ++ crew ∷ [] → left ≡ suc k → IsCrew n script k crew → AreNumbered (IsCrew n script) left (reverse crews) → AreNumbered (IsCrew n script) k (reverse more)
crew-more n script k left crews more crew is next one are =
    subst (λ (xs : List Crew). AreNumbered (IsCrew n script) k xs) (sym (ap (λ (xs : List Crew). reverse xs) is ∙ reverse-append crews (crew ∷ [])))
    (one, subst (λ (m : ℕ). AreNumbered (IsCrew n script) m (reverse crews)) next are)
