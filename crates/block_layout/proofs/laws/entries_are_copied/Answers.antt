use Rattle.std.proofs.Common.{◌∙◌}
use Rattle.block_layout.proofs.laws.entries_are_copied.Goals as goal

pub returns : goal.returns
returns c = λ start from xs bytes new held within payloads rows. record {
  fit = held.fit;
  within = within;
  payloads = payloads ∙ held.payloads;
  rows = rows ∙ held.rows;
}
