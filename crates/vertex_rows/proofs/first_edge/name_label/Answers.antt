use Rattle.std.proofs.Common.{◌≡◌, ◌++◌, ◌∷◌, [], ℕ, Bool, subst}
use Rattle.std.specs.Prelude.{IfOk, OnOk, if◌then◌else◌}
use Rattle.vertex_rows.proofs.Fresh.{none_named}
use Rattle.vertex_rows.proofs.RowLogs.{no_place}
use Rattle.vertex_rows.proofs.first_edge.name_label.Goals as goal

pub returns-clause-number : goal.returns-clause-number
returns-clause-number g c =
    subst (λ (k : ℕ). IfOk c.row_or_new.result (λ n. n ≡ k)) (no_place c.args.l c.args.index.now c.requires.unnamed) c.row_or_new.ensures.row

pub returns-clause-named : goal.returns-clause-named
returns-clause-named g c =
    let index = c.args.index.now in
    subst (λ (b : Bool). OnOk c.row_or_new.result (c.row_or_new.new.self ≡ (if b then index else index ++ c.args.l ∷ [])))
    (none_named c.args.l index (no_place c.args.l index c.requires.unnamed)) c.row_or_new.ensures.labels
