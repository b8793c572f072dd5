-- The map's entry is written where it stands, or goes with its last edge, and shows the lists after the del.
use Rattle.std.proofs.Common.{◌∙◌, List, sym, ap}
use Rattle.graph_model.specs.Vertex.{LabelList}
use Rattle.graph_model.specs.Whole.{are_lists}
use Rattle.graph_model.specs.MapEntries.{Content, lists_of}
use Rattle.graph_model.proofs.Wholes.{are_lists-del}
use Rattle.graph_model.proofs.EntryLists.{lists-unchanged, lists-del_none, lists-del_through, lists-del_emptied}
use Rattle.graph_model.proofs.Shared.{on_err}
use Rattle.graph_model.proofs.vertex_entry.VertexEntry.delete.Goals as goal

pub returns-in_default-clause-taken : goal.returns-in_default-clause-taken
returns-in_default-clause-taken c =
    let es = c.self.inside.lists.entries in
    let shown : List LabelList → Content = λ lists. record { payload = c.self.inside.payload; lists = lists } in
    rw (← c.self.view_is) (ap (λ m. shown (lists_of m.entries)) c.get_mut.follows.holds-at-none ∙ ap shown (lists-del_none es c.args.l c.args.d c.self.invariant (sym c.in_default.ensures.value)))

pub invariant_of-self-then-is_empty : goal.invariant_of-self-then-is_empty
invariant_of-self-then-is_empty c =
    let es = c.self.inside.lists.entries in
    let set = (c.get_mut.follows.lender c.delete.new.self).entries in
    ap are_lists (lists-del_emptied es set c.remove.new.self.entries c.args.l c.args.d c.in-Some.list.now c.delete.new.self c.self.invariant (sym c.in-Some.ensures.value) (c.get_mut.follows.holds c.delete.new.self).0 c.in_ok-delete.ensures.taken (sym c.if-is_empty.ensures) c.remove.ensures.entries)
    ∙ are_lists-del c.args.l c.args.d (lists_of es) c.self.invariant

pub invariant_of-self-else-is_empty : goal.invariant_of-self-else-is_empty
invariant_of-self-else-is_empty c =
    let es = c.self.inside.lists.entries in
    let new = (c.get_mut.follows.lender c.delete.new.self).entries in
    ap are_lists (lists-del_through es new c.args.l c.args.d c.in-Some.list.now c.delete.new.self c.self.invariant (sym c.in-Some.ensures.value) (c.get_mut.follows.holds c.delete.new.self).0 c.in_ok-delete.ensures.taken (sym c.if-is_empty.ensures))
    ∙ are_lists-del c.args.l c.args.d (lists_of es) c.self.invariant

pub returns-else-is_empty-clause-taken : goal.returns-else-is_empty-clause-taken
returns-else-is_empty-clause-taken c =
    let es = c.self.inside.lists.entries in
    let new = (c.get_mut.follows.lender c.delete.new.self).entries in
    let shown : List LabelList → Content = λ lists. record { payload = c.self.inside.payload; lists = lists } in
    rw (← c.self.view_is) (ap shown (lists-del_through es new c.args.l c.args.d c.in-Some.list.now c.delete.new.self c.self.invariant (sym c.in-Some.ensures.value) (c.get_mut.follows.holds c.delete.new.self).0 c.in_ok-delete.ensures.taken (sym c.if-is_empty.ensures)))

pub returns-then-is_empty-clause-taken : goal.returns-then-is_empty-clause-taken
returns-then-is_empty-clause-taken c =
    let es = c.self.inside.lists.entries in
    let set = (c.get_mut.follows.lender c.delete.new.self).entries in
    let shown : List LabelList → Content = λ lists. record { payload = c.self.inside.payload; lists = lists } in
    rw (← c.self.view_is) (ap shown (lists-del_emptied es set c.remove.new.self.entries c.args.l c.args.d c.in-Some.list.now c.delete.new.self c.self.invariant (sym c.in-Some.ensures.value) (c.get_mut.follows.holds c.delete.new.self).0 c.in_ok-delete.ensures.taken (sym c.if-is_empty.ensures) c.remove.ensures.entries))

pub invariant_of-self-in_err-delete : goal.invariant_of-self-in_err-delete
invariant_of-self-in_err-delete c =
    let es = c.self.inside.lists.entries in
    let new = (c.get_mut.follows.lender c.delete.new.self).entries in
    ap are_lists (lists-unchanged es new c.args.l c.in-Some.list.now c.delete.new.self (sym c.in-Some.ensures.value) (c.get_mut.follows.holds c.delete.new.self).0 c.in_err-delete.ensures.unchanged)
    ∙ c.self.invariant

pub returns-in_err-delete-clause-unchanged : goal.returns-in_err-delete-clause-unchanged
returns-in_err-delete-clause-unchanged c =
    let es = c.self.inside.lists.entries in
    let new = (c.get_mut.follows.lender c.delete.new.self).entries in
    let shown : List LabelList → Content = λ lists. record { payload = c.self.inside.payload; lists = lists } in
    rw (← c.self.view_is) (on_err c.from_residual.result (ap shown (lists-unchanged es new c.args.l c.in-Some.list.now c.delete.new.self
    (sym c.in-Some.ensures.value) (c.get_mut.follows.holds c.delete.new.self).0 c.in_err-delete.ensures.unchanged)))
