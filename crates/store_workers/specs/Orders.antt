-- The replies of workers, in the order of the lines.
use Rattle.std.specs.Prelude.{ℕ, cond, List, [], ◌∷◌, map, slice_index_or, Vec}
use Rattle.std.specs.declared.alloc.Global.{Global}
use Rattle.request_text.specs.declared.request.Line.{Line}
use Rattle.request_text.specs.declared.reply.Reply.{Reply}
use Rattle.worker_lines.specs.Lines.{is_of}

-- of the replies to these lines, those to the lines of worker w of n
abbrev pub replies_of : ℕ → ℕ → List Line → List Reply → List Reply
replies_of w n [] rs = []
replies_of w n (line ∷ lines) [] = []
replies_of w n (line ∷ lines) (r ∷ rs) = cond (is_of w n line) (r ∷ replies_of w n lines rs) (replies_of w n lines rs)

-- the replies of worker w among those of all, and none where there is no such worker
abbrev pub own_at : List (Vec Reply Global) → ℕ → List Reply
own_at vs w = slice_index_or (map (λ (v : Vec Reply Global). v.items) vs) w []
