use Rattle.edge_log.proofs.EntryLemmas.{place-appended, place-ended, place-converted, place-undone}
use Rattle.edge_log.specs.Entries.{fresh_entry}
use Rattle.edge_log.proofs.laws.a_place_stays.Goals as goal

pub returns-clause-appended : goal.returns-clause-appended
returns-clause-appended c xs place d p t is = place-appended xs place (fresh_entry d p t) is

pub returns-clause-ended : goal.returns-clause-ended
returns-clause-ended c = place-ended

pub returns-clause-committed : goal.returns-clause-committed
returns-clause-committed c = place-converted

pub returns-clause-undone : goal.returns-clause-undone
returns-clause-undone c = place-undone
