use Rattle.std.proofs.Common.{sym, ap, ◌∙◌, Some}
use Rattle.request_text.specs.Words.{ok_bytes}
use Rattle.request_text.proofs.Payloads.{payload_of-neither, payload_of-digits, length-decoded}
use Rattle.request_text.proofs.word.payload.Goals as goal

pub returns-then-not-has_hex_form : goal.returns-then-not-has_hex_form
returns-then-not-has_hex_form c = payload_of-neither c.args.word.now (rw c.as_slice.ensures at (sym c.if-eq.ensures)) (sym c.if-not-has_hex_form.ensures)

pub from_vec-requires-2 : goal.from_vec-requires-2
from_vec-requires-2 c = length-decoded c.args.word.now c.in-Ok.bytes.items (sym c.if-not-has_hex_form.ensures) c.in-Ok.ensures.ok

pub returns : goal.returns
returns c =
    payload_of-digits c.args.word.now (rw c.as_slice.ensures at (sym c.if-eq.ensures)) (sym c.if-not-has_hex_form.ensures)
    ∙ ap ok_bytes c.in-Ok.ensures.ok ∙ ap Some (sym c.in_ok-from_vec-2.ensures)
