-- The sessions that a worker is given.
use Rattle.std.proofs.Common.{◌≡◌, ℕ, ◌+◌, ◌<◌, ◌≤◌, Bool, false, List, [], ◌∷◌, ◌++◌, refl, sym, ap, ◌∙◌, subst, arith, append-nil, append_assoc}
use Rattle.std.specs.Prelude.{◌||◌, ◌==◌}
use Rattle.std.proofs.lemmas.Bool.{ne_eqb}
use Rattle.core_states.specs.Numbers.{has_number}
use Rattle.store_turns.specs.declared.session.Session.{Session}
use Rattle.worker_sessions.specs.Sessions.{indices, AreApart, AreReady, EachIs, IsUnused, IsSpaced}

-- one behind the others
indices-more : (ss : List Session) (s : Session) → indices (ss ++ s ∷ []) ≡ indices ss ++ s.index ∷ []
indices-more [] s = refl
indices-more (z ∷ ss) s = ap (λ (ks : List ℕ). z.index ∷ ks) (indices-more ss s)

unused-more : (ss : List Session) (s : Session) → EachIs IsUnused ss → IsUnused s → EachIs IsUnused (ss ++ s ∷ [])
unused-more [] s are is = (is, tt)
unused-more (z ∷ ss) s are is = (are.0, unused-more ss s are.1 is)

-- numbers that go up have none below the first, and no two of them are one
none-below : (j k step limit : ℕ) (ks : List ℕ) → j < k → IsSpaced k step limit ks → has_number j ks ≡ false
none-below j k step limit [] low is = refl
none-below j k step limit (x ∷ ks) low is =
    let same = is.0 in
    ap (λ (b : Bool). b || has_number j ks) (ne_eqb x j (λ e. omega (arith, low, same, e))) ∙ none-below j (k + step) step limit ks (omega (arith, low)) is.2

spaced-apart : (k step limit : ℕ) (ks : List ℕ) → 0 < step → IsSpaced k step limit ks → AreApart ks
spaced-apart k step limit [] up is = tt
spaced-apart k step limit (x ∷ ks) up is =
    let same = is.0 in (none-below x (k + step) step limit ks (omega (arith, up, same)) is.2, spaced-apart (k + step) step limit ks up is.2)

-- The sessions so far, which those from this number on make all.
pub record Filled (first step limit k : ℕ) (ss : List Session) : Type 0 where
  pub unused : EachIs IsUnused ss
  pub ahead : (rest : List ℕ) → IsSpaced k step limit rest → IsSpaced first step limit (indices ss ++ rest)

pub none-filled : (first step limit : ℕ) → Filled first step limit first []
none-filled first step limit = record { unused = tt; ahead = λ rest is. is }

pub one-filled : (first step limit k : ℕ) (ss zs : List Session) (s : Session) → Filled first step limit k ss → k < limit → s ≡ record { index = k; is_open = false; finished = Rattle.std.specs.Prelude.None; work = Rattle.std.specs.Prelude.None }
    → zs ≡ ss ++ s ∷ [] → Filled first step limit (k + step) zs
one-filled first step limit k ss zs s was low new is = record {
  unused = subst (λ (xs : List Session). EachIs IsUnused xs) (sym is) (unused-more ss s was.unused (ap (λ (z : Session). z.is_open) new, ap (λ (z : Session). z.work) new, ap (λ (z : Session). z.finished) new));
  ahead = λ rest more. subst (λ (ks : List ℕ). IsSpaced first step limit ks)
      (sym (ap (λ (ks : List ℕ). ks ++ rest) (ap indices is ∙ indices-more ss s) ∙ append_assoc (indices ss) (s.index ∷ []) rest)) (was.ahead (s.index ∷ rest) (ap (λ (z : Session). z.index) new, low, more));
}

pub all-spaced : (first step limit k : ℕ) (ss : List Session) → Filled first step limit k ss → limit ≤ k → IsSpaced first step limit (indices ss)
all-spaced first step limit k ss was end = subst (λ (ks : List ℕ). IsSpaced first step limit ks) (append-nil (indices ss)) (was.ahead [] end)

pub all-ready : (first step limit k : ℕ) (ss : List Session) → Filled first step limit k ss → 0 < step → limit ≤ k → AreReady ss
all-ready first step limit k ss was up end = record { apart = spaced-apart first step limit (indices ss) up (all-spaced first step limit k ss was end); unused = was.unused }
