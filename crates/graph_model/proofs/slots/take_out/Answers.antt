-- The slot is found by its index from the front, and becomes a gap.
use Rattle.std.proofs.Common.{◌≡◌, ◌∙◌, ◌-◌, is_some, length, sym, ap, arith}
use Rattle.std.specs.Prelude.{slice_set, slice_index_or}
use Rattle.graph_model.specs.Gaps.{edges_in, place_of, slot_at}
use Rattle.graph_model.proofs.Gaps.{some-within, slot_at-index, edges-taken, place_of-taken}
use Rattle.graph_model.proofs.slots.take_out.Goals as goal

pub overflow_sub-index-2 : goal.overflow_sub-index-2
overflow_sub-index-2 c =
    let within = some-within c.args.place c.args.slots.now.items c.requires.there in
    omega (arith, within, c.len.ensures, c.args.slots.now.ok.0)

slot-is : (c : goal.After-slots-1) → slot_at c.args.place c.args.slots.now.items ≡ c.take.result
slot-is c =
    let long : c.len.result ≡ length c.args.slots.now.items = c.len.ensures ∙ c.args.slots.now.ok.0 in
    let within = some-within c.args.place c.args.slots.now.items c.requires.there in
    slot_at-index c.args.place c.args.slots.now.items c.index_mut.result.now within
    ∙ ap (λ n. slice_index_or c.args.slots.now.items (n - 1 - c.args.place) c.index_mut.result.now) (sym long) ∙ sym c.index_mut.ensures.value ∙ sym c.take.ensures.value

pub unwrap-requires : goal.unwrap-requires
unwrap-requires c = ap is_some (sym (slot-is c)) ∙ c.requires.there

pub returns-clause-taken : goal.returns-clause-taken
returns-clause-taken c =
    let long : c.len.result ≡ length c.args.slots.now.items = c.len.ensures ∙ c.args.slots.now.ok.0 in
    let within = some-within c.args.place c.args.slots.now.items c.requires.there in
    slot_at-index c.args.place c.args.slots.now.items c.index_mut.result.now within
    ∙ ap (λ n. slice_index_or c.args.slots.now.items (n - 1 - c.args.place) c.index_mut.result.now) (sym long) ∙ sym c.index_mut.ensures.value ∙ sym c.take.ensures.value ∙ c.unwrap.ensures

pub returns-clause-edges : goal.returns-clause-edges
returns-clause-edges c =
    let long : c.len.result ≡ length c.args.slots.now.items = c.len.ensures ∙ c.args.slots.now.ok.0 in
    ap (λ n. edges_in (slice_set c.args.slots.now.items (n - 1 - c.args.place) c.take.new.self)) long
    ∙ ap (λ s. edges_in (slice_set c.args.slots.now.items (length c.args.slots.now.items - 1 - c.args.place) s)) c.take.ensures.after
    ∙ edges-taken c.args.place c.unwrap.result c.args.slots.now.items c.requires.distinct (returns-clause-taken c)

pub returns-clause-places : goal.returns-clause-places
returns-clause-places c = λ d.
    let long : c.len.result ≡ length c.args.slots.now.items = c.len.ensures ∙ c.args.slots.now.ok.0 in
    ap (λ n. place_of d (slice_set c.args.slots.now.items (n - 1 - c.args.place) c.take.new.self)) long
    ∙ ap (λ s. place_of d (slice_set c.args.slots.now.items (length c.args.slots.now.items - 1 - c.args.place) s)) c.take.ensures.after
    ∙ place_of-taken c.args.place d c.unwrap.result c.args.slots.now.items c.requires.distinct (returns-clause-taken c)
