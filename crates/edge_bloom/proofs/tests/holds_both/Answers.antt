-- By the clauses of the crate's calls alone.
use Rattle.std.proofs.Common.{ℕ, ◌≡◌, true, false, Bool, ◌||◌, ◌==◌, [], ◌∷◌, refl, ap}
use Rattle.std.proofs.lemmas.Bool.{eq-eqb}
use Rattle.edge_bloom.proofs.tests.holds_both.Goals as goal

first-among : (e d : ℕ) (t : Bool) → (e == e || t) ≡ true
first-among e d t = ap (λ (u : Bool). u || t) (eq-eqb e e refl)

second-among : (s : Bool) (d : ℕ) → (s || (d == d || false)) ≡ true
second-among true d = refl
second-among false d = first-among d d false

pub returns-then-first-clause-held : goal.returns-then-first-clause-held
returns-then-first-clause-held c =
    let has = c.add-2.ensures.added (c.args.d ∷ []) (c.add.ensures.added [] c.clear.ensures.none) in
    c.may_hold.ensures.added (c.args.e ∷ (c.args.d ∷ [])) has (first-among c.args.e c.args.d (c.args.d == c.args.e || false))

pub returns-else-first-clause-held : goal.returns-else-first-clause-held
returns-else-first-clause-held c =
    let has = c.add-2.ensures.added (c.args.d ∷ []) (c.add.ensures.added [] c.clear.ensures.none) in
    c.may_hold-first.ensures.added (c.args.e ∷ (c.args.d ∷ [])) has (second-among (c.args.e == c.args.d) c.args.d)
