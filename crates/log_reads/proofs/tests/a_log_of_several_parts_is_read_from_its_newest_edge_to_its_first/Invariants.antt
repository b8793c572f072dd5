use Rattle.edge_log.specs.Plain.{IsPlain}
use Rattle.log_reads.proofs.tests.a_log_of_several_parts_is_read_from_its_newest_edge_to_its_first.Given as goal

abbrev pub invariant-loop-d : goal.invariant-loop-d
invariant-loop-d g l = IsPlain l.log
