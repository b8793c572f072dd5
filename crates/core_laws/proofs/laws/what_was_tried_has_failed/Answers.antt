use Rattle.core_laws.proofs.TriedGroups.{opening_tried, tried_stay}
use Rattle.core_laws.proofs.laws.what_was_tried_has_failed.Goals as goal

pub returns-clause-opened : goal.returns-clause-opened
returns-clause-opened c = opening_tried

pub returns-clause-kept : goal.returns-clause-kept
returns-clause-kept c = tried_stay
