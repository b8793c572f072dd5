use Rattle.std.proofs.Common.{◌≡◌, ℕ, ◌-◌, ◌/◌, List, length, drop, ap, ◌∙◌, arith, length-drop}
use Rattle.std.proofs.lemmas.List.{take_all}
use Rattle.block_reading.proofs.RowLemmas.{last_chunks}
use Rattle.block_reading.proofs.rows.rows_below.Goals as goal

pub returns-clause-rows : goal.returns-clause-rows
returns-clause-rows c = λ start xs held count.
    let rows : List (List ℕ) = c.as_rchunks.result.1.now in
    let bytes : List ℕ = c.args.block.now in
    let long : length rows ≡ length bytes / 28 = c.as_rchunks.ensures.back_len in
    take_all _ (drop (length rows - c.args.count) rows) (let d = length-drop (length rows - c.args.count) rows in omega (arith, d))
    ∙ ap (λ (n : ℕ). drop (n - c.args.count) rows) long
    ∙ ap (λ (n : ℕ). drop (length bytes / 28 - n) rows) (let e : c.args.count ≡ length xs = omega arith in e)
    ∙ ap (drop (length bytes / 28 - length xs)) c.as_rchunks.ensures.back
    ∙ last_chunks start xs bytes held
