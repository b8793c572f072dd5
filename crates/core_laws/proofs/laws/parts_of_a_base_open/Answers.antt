use Rattle.core_laws.proofs.Parts.{loaded_open, bare_open, opens_is}
use Rattle.core_laws.proofs.laws.parts_of_a_base_open.Goals as goal

pub returns-clause-loaded : goal.returns-clause-loaded
returns-clause-loaded c = loaded_open

pub returns-clause-bare : goal.returns-clause-bare
returns-clause-bare c = bare_open

pub returns-clause-opened : goal.returns-clause-opened
returns-clause-opened c = opens_is
