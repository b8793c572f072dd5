use Rattle.std.proofs.Common.{Option, sym, subst}
use Rattle.std.specs.Global.{Box}
use Rattle.std.specs.Prelude.{IfSome}
use Rattle.block_index.specs.declared.notes.Notes.{Notes}
use Rattle.block_index.specs.Noted.{AreNoted}
use Rattle.block_index.proofs.entry_index.EntryIndex.push.Goals as goal

pub returns-in-Some-clause-pushed : goal.returns-in-Some-clause-pushed
returns-in-Some-clause-pushed c = λ xs x is leads total.
    let P : Option (Box Notes) → Type 0 = λ o. IfSome o (λ notes. AreNoted notes.value xs) in
    c.push.ensures.pushed xs x (subst (λ (n : Notes). AreNoted n xs) (sym c.deref_mut.ensures.value) (subst P c.in-Some.is is)) leads total
