use Rattle.block_layout.proofs.Raw.{raw_entry-fits}
use Rattle.block_layout.proofs.AtPlaces.{row-fits, row-within, row-at, payload-at}
use Rattle.block_layout.proofs.laws.an_entry_stands_in_its_row.Goals as goal

pub returns-clause-fits : goal.returns-clause-fits
returns-clause-fits c = λ start n xs x bytes held at. raw_entry-fits x (row-fits start n xs x bytes held at)

pub returns-clause-within : goal.returns-clause-within
returns-clause-within c = row-within

pub returns-clause-row : goal.returns-clause-row
returns-clause-row c = row-at

pub returns-clause-payload : goal.returns-clause-payload
returns-clause-payload c = payload-at
