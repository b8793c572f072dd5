use Rattle.store_log.specs.Written.{begun}
use Rattle.store_log.proofs.notes.first_notes.Given as goal

abbrev pub ghost-renoted : goal.ghost-renoted
ghost-renoted g a = begun g.origin
