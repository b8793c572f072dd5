-- The lines that a worker goes over.
use Rattle.std.specs.Prelude.{List}
use Rattle.request_text.specs.declared.request.Line.{Line}
use Rattle.worker_lines.specs.declared.whole.Whole.{Whole}
use Rattle.worker_lines.specs.declared.whole.Whole.TheVariants.{Shared, Own}

abbrev pub all_lines : Whole → List Line
all_lines (Shared script) = script.now
all_lines (Own script) = script
