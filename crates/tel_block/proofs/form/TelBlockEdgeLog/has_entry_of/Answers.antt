use Rattle.std.proofs.Common.{ℕ, List, sym, ap, subst, ◌∙◌}
use Rattle.edge_log.specs.Entries.{has_entry_of}
use Rattle.tel_block.specs.Logs.{IsLog, content_in}
use Rattle.tel_block.proofs.form.TelBlockEdgeLog.has_entry_of.Goals as goal

pub bytes-requires : goal.bytes-requires
bytes-requires c = c.requires.lies.out

pub has_entry_in-requires : goal.has_entry_in-requires
has_entry_in-requires c = subst (λ (bytes : List ℕ). IsLog c.args.self.now bytes) (sym c.bytes.ensures.bytes) c.requires.is_log

pub returns : goal.returns
returns c = c.has_entry_in.ensures ∙ ap (λ (bytes : List ℕ). has_entry_of c.args.tid (content_in c.args.self.now bytes).entries) c.bytes.ensures.bytes
