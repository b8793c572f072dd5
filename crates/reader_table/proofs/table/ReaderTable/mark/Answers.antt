use Rattle.std.proofs.Common.{ℕ, List, length, ap, sym, ◌∙◌, zero-add, arith}
use Rattle.std.proofs.Math.ListN.{set}
use Rattle.std.proofs.lemmas.List.{length-set}
use Rattle.reader_table.specs.declared.least.Least.{Least}
use Rattle.reader_table.specs.Nodes.{Leaves}
use Rattle.reader_table.specs.Leasts.{leasts_of, least_in}
use Rattle.reader_table.proofs.RowLeasts.{leasts_of-set, length-leasts_of}
use Rattle.reader_table.proofs.table.ReaderTable.mark.Goals as goal

pub set-requires : goal.set-requires
set-requires c =
    let a = ap length c.self.invariant.index in
    let b = length-leasts_of 0 c.self.inside.rows.items in
    let v = ap length c.self.view_is in
    omega (arith, a, b, v, c.requires)

pub invariant_of-self : goal.invariant_of-self
invariant_of-self c = record {
  index =
      ap (λ (s : Leaves). s.rows) c.set.ensures
      ∙ ap (λ (xs : List Least). set xs c.args.number c.of.result) c.self.invariant.index
      ∙ ap (λ (x : Least). set (leasts_of 0 c.self.inside.rows.items) c.args.number x) c.of.ensures
      ∙ ap (λ (n : ℕ). set (leasts_of 0 c.self.inside.rows.items) c.args.number (least_in n c.args.row)) (sym (zero-add c.args.number))
      ∙ sym (leasts_of-set 0 c.self.inside.rows.items c.args.number c.args.row);
  few = let n = length-set c.self.inside.rows.items c.args.number c.args.row in omega (arith, n, c.self.invariant.few);
}
