use Rattle.graph_store.proofs.store.Store.open_seat.Given as goal

abbrev pub ghost-opened : goal.ghost-opened
ghost-opened g a = g.origin
