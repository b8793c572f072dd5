use Rattle.edge_log.proofs.EntryLemmas.{sizes-payloads}
use Rattle.edge_log.proofs.laws.sizes_are_headers_and_payloads.Goals as goal

pub returns : goal.returns
returns c = sizes-payloads
