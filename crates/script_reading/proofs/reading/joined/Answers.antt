use Rattle.std.proofs.Common.{Option, Ok, List, take, drop, subst, sym, ap, ◌∙◌}
use Rattle.request_text.specs.declared.request.Line.{Line}
use Rattle.script_reading.specs.Borders.{Reads}
use Rattle.script_reading.proofs.Halves.{halves-read}
use Rattle.script_reading.proofs.reading.joined.Goals as goal

pub returns-in-Ok : goal.returns-in-Ok
returns-in-Ok c = λ bytes at border one two.
    let first = subst (λ (o : Option (List Line)). Reads (take at bytes) o) c.in_ok-script.was one in
    let second = subst (λ (o : Option (List Line)). Reads (drop at bytes) o) c.in_ok-rest.was two in
    halves-read bytes at c.in_ok-script.script c.in_ok-rest.rest border first second ∙ ap Ok (sym c.in-Ok.ensures)
