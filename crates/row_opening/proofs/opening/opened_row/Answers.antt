-- The row of a vertex that is not there has no blocks, and stands in every room.
use Rattle.std.proofs.Common.{◌≡◌, ◌∙◌, ◌∷◌, [], ap, sym, subst, rules}
use Rattle.std.specs.Prelude.{Some}
use Rattle.graph_model.specs.Graph.{vertex_at}
use Rattle.stamps.specs.declared.stamp.Stamp.TheVariants.{By}
use Rattle.vertex_versions.specs.Versions.{converted_versions}
use Rattle.edge_log.specs.Rooms.{AreApart}
use Rattle.vertex_rows.specs.Blocks.{Trades}
use Rattle.row_opening.proofs.Openings.{none-apart, row-of_parts}
use Rattle.row_opening.proofs.opening.opened_row.Goals as goal

pub returns-in_default-clause-stands : goal.returns-in_default-clause-stands
returns-in_default-clause-stands g c = c.new.ensures.stands c.args.room.now

pub returns-in_default-clause-apart : goal.returns-in_default-clause-apart
returns-in_default-clause-apart g c =
    let out = g.L.EdgeLog.blocks_out c.args.room.now in
    subst (λ bs. AreApart out bs) (sym c.new.ensures.blocks) (none-apart out)

pub returns-clause-stands : goal.returns-clause-stands
returns-clause-stands g c =
    let made = c.in_ok-index.ensures in
    c.from_parts.ensures.stands c.logs_of_lists.new.room made.labelled made.stand made.past

pub returns-clause-opened : goal.returns-clause-opened
returns-clause-opened g c =
    let e = c.args.epoch in
    let p = c.in-Some.payload in
    let pushed : c.push.new.self ≡ record { created = By 0; content = Some p } ∷ [] = search rules in
    c.from_parts.ensures.row c.logs_of_lists.new.room
    ∙ row-of_parts e (vertex_at c.args.v c.args.graph.now) p c.convert.new.self _ (search rules) (c.convert.ensures ∙ ap (converted_versions 0 e) pushed) c.in_ok-index.ensures.opened

pub returns-clause-out : goal.returns-clause-out
returns-clause-out g c =
    let m = g.L.EdgeLog in
    subst (λ bs. Trades (m.blocks_out c.args.room.now) (m.blocks_out c.logs_of_lists.new.room) [] bs) (sym c.from_parts.ensures.blocks) c.in_ok-index.ensures.out
