-- Going over parts, line by line.
use Rattle.std.proofs.Common.{◌≡◌, ℕ, ◌+◌, ◌<◌, ◌≤◌, List, [], ◌∷◌, ◌++◌, length, drop, drop_of_length-le, slice_index_or, sym, ap, ◌∙◌}
use Rattle.graph_model.proofs.Snapshots.{drop-item}
use Rattle.request_text.specs.declared.request.Line.{Line}
use Rattle.script_parts.specs.InParts.{lines_in}

-- what is left of the lines: of one part from a line on, and the parts behind it
abbrev pub left_in : List (List Line) → ℕ → List Line → ℕ → List Line
left_in parts i part j = drop j part ++ lines_in (drop (i + 1) parts)

pub next_part : (parts : List (List Line)) (i : ℕ) (part : List Line) (items : List Line) → i < length parts → part ≡ slice_index_or parts i part → items ≡ part → lines_in (drop i parts) ≡ left_in parts i items 0
next_part parts i part items low is same = ap lines_in (drop-item parts i part low is) ∙ ap (λ (lines : List Line). lines ++ lines_in (drop (i + 1) parts)) (sym same)

pub next_line : (parts : List (List Line)) (i : ℕ) (part : List Line) (j : ℕ) (line : Line) → j < length part → line ≡ slice_index_or part j line → left_in parts i part j ≡ line ∷ left_in parts i part (j + 1)
next_line parts i part j line low is = ap (λ (lines : List Line). lines ++ lines_in (drop (i + 1) parts)) (drop-item part j line low is)

pub part_over : (parts : List (List Line)) (i : ℕ) (part : List Line) (j : ℕ) → length part ≤ j → left_in parts i part j ≡ lines_in (drop (i + 1) parts)
part_over parts i part j end = ap (λ (lines : List Line). lines ++ lines_in (drop (i + 1) parts)) (drop_of_length-le part end)

pub parts_over : (parts : List (List Line)) (i : ℕ) → length parts ≤ i → lines_in (drop i parts) ≡ []
parts_over parts i end = ap lines_in (drop_of_length-le parts end)
