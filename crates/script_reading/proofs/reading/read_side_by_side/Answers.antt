use Rattle.request_text.proofs.Within.{script_of-within}
use Rattle.script_reading.proofs.reading.read_side_by_side.Goals as goal

pub returns-in-Some-clause-spellable : goal.returns-in-Some-clause-spellable
returns-in-Some-clause-spellable g c = script_of-within c.args.bytes.now c.in-Some.script c.in-Some.ensures
