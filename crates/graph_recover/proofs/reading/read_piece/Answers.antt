use Rattle.std.proofs.Common.{◌≡◌, length, ◌∙◌, arith, rules}
use Rattle.std.proofs.lemmas.List.{places}
use Rattle.graph_recover.proofs.Pieces.{IsFront-read, take-longer}
use Rattle.graph_recover.proofs.reading.read_piece.Goals as goal

pub returns-clause-front : goal.returns-clause-front
returns-clause-front g c = λ front.
    let old = c.args.bytes.now.items in
    let long : length old ≡ c.len-at.result = search (rules, places) in
    let whole = c.deref_mut.ensures.value ∙ c.in_ok-resize.ensures.items in
    rw c.truncate.ensures.items (IsFront-read _ old _ _ _ _ _ _ _ front long
    (take-longer c.len-at.result c.args.end old _ _ long (omega (arith, c.requires, c.len-at.ensures)) whole)
    c.deref_mut.ensures.len
    (omega (arith, c.read_at.auto.buf, c.deref_mut.ensures.len))
    (omega (arith, c.requires, c.len-at.ensures, c.in_ok-resize.ensures.len)) c.in_ok-n.ensures.read)
