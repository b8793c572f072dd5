-- The lines of parts that are put behind others.
use Rattle.std.proofs.Common.{◌≡◌, ◌+◌, List, [], ◌∷◌, ◌++◌, length, length-append, append-nil, append_assoc, refl, sym, ap, ◌∙◌}
use Rattle.request_text.specs.declared.request.Line.{Line}
use Rattle.script_parts.specs.InParts.{lines_in}

pub lines_append : (xs ys : List (List Line)) → lines_in (xs ++ ys) ≡ lines_in xs ++ lines_in ys
lines_append [] ys = refl
lines_append (x ∷ xs) ys = ap (λ (lines : List Line). x ++ lines) (lines_append xs ys) ∙ sym (append_assoc x (lines_in xs) (lines_in ys))

pub lines_push : (xs : List (List Line)) (x : List Line) → lines_in (xs ++ x ∷ []) ≡ lines_in xs ++ x
lines_push xs x = lines_append xs (x ∷ []) ∙ ap (λ (lines : List Line). lines_in xs ++ lines) (append-nil x)

pub length_append : (xs ys : List Line) → length (xs ++ ys) ≡ length xs + length ys
length_append xs ys = length-append xs ys
