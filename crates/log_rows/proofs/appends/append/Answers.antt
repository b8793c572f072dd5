use Rattle.std.proofs.Common.{◌<◌, ◌^◌, [], ◌⊎◌, inl, inr, None}
use Rattle.std.specs.Prelude.{Result, Ok, Err, OnOk, OnErr}
use Rattle.log_rows.proofs.appends.append.Goals as goal

pub append_group-requires-clause-ready : goal.append_group-requires-clause-ready
append_group-requires-clause-ready c = ([], None, record { long = c.requires.long; short = c.requires.short; log = tt }, tt)

-- what follows in each case
any_case : {T E : Type 0} (r : Result T E) (A B C X : Type 0) → OnOk r A → OnErr r (B ⊎ C) → (A → X) → (B → X) → (C → X) → X
any_case (Ok x) A B C X a b f g h = f a
any_case (Err e) A B C X a (inl b) f g h = g b
any_case (Err e) A B C X a (inr b) f g h = h b

pub returns-clause-short : goal.returns-clause-short
returns-clause-short c =
    any_case c.append_group.result _ _ _ (c.append_group.new.self.durable < 2 ^ 63)
    (c.append_group.ensures.appended [] None (record { long = c.requires.long; short = c.requires.short; log = tt }) tt)
    (c.append_group.ensures.attempted [] None (record { long = c.requires.long; short = c.requires.short; log = tt }) tt)
    (λ is. is.short) (λ is. is.short) (λ is. is.short)
