use Rattle.std.proofs.Common.{◌≡◌, ℕ, List, length, take, ap, ◌∙◌, min}
use Rattle.edge_log.specs.Parts.{part_most}
use Rattle.block_reading.specs.RowLists.{row_list}
use Rattle.block_reading.proofs.ShownLemmas.{row_list-take}
use Rattle.block_reading.proofs.parts.looked_at.Goals as goal

pub returns-clause-rows : goal.returns-clause-rows
returns-clause-rows c = λ start xs held count.
    let rows : List (List ℕ) = c.rows_below-rows.result.now in
    let long : length rows ≡ c.args.place.below = c.rows_below-rows.ensures.long in
    ap (take c.min.result) (c.rows_below-rows.ensures.rows start xs held count)
    ∙ ap (λ (n : ℕ). take n (row_list xs)) (c.min.ensures ∙ ap (λ (n : ℕ). min n 64) long)
    ∙ row_list-take (min c.args.place.below part_most) xs
