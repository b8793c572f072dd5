use Rattle.edge_log.specs.Plain.{content_of as plain_content, IsPlain}
use Rattle.tel_block.specs.Places.{content_of, StandsIn}
use Rattle.log_scripts.specs.Owners.{IsOwned}
use Rattle.log_scripts.proofs.alike.run_both.Given as goal

abbrev pub invariant-loop-i : goal.invariant-loop-i
invariant-loop-i g l = record {
  plain_stands : IsPlain l.plain;
  plain_owned : IsOwned l.plain_writer.read l.plain_writer.tid (plain_content l.plain);
  block_stands : StandsIn l.block l.pool;
  block_owned : IsOwned l.block_writer.read l.block_writer.tid (content_of l.block l.pool);
}
