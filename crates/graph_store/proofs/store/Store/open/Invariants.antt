use Rattle.graph_store.proofs.store.Store.open.Given as goal

abbrev pub ghost-open_seat : goal.ghost-open_seat
ghost-open_seat g a = g.origin
