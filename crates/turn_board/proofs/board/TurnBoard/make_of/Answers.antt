use Rattle.std.proofs.Common.{vec_capacity, ◌+◌, ◌≡◌, ◌≤◌, ℕ, List, Option, length, replicate, rules, sym, ap, ◌∙◌, subst, arith, []}
use Rattle.atomic_table.specs.Table.{opening}
use Rattle.graph_model.specs.declared.graph.Base.{Base}
use Rattle.turn_board.specs.Board.{IsBoard, Opens}
use Rattle.turn_board.specs.Views.{Start, fresh_view}
use Rattle.turn_board.specs.Turns.{word_of}
use Rattle.turn_board.specs.Spread.{slot_of}
use Rattle.turn_board.specs.Openings.{limits_of}
use Rattle.turn_board.specs.Starts.{found_in, shards_in}
use Rattle.turn_board.proofs.Spreading.{spread_length, gathers}
use Rattle.turn_board.proofs.Closing.{opens}
use Rattle.turn_board.proofs.board.TurnBoard.make_of.Goals as goal

pub new-requires : goal.new-requires
new-requires g c =
    let zero : c.as_slice.result.now ≡ replicate (word_of c.len-count.result) 0 = search rules in
    let many : length c.as_slice.result.now ≡ word_of (length c.args.values.items) = search rules in
    let start : Start = record { base = c.of.result.value; limits = limits_of c.args.log_most; found = found_in g.H.ShowsPart.shown c.of-2.result.value.items; shards = shards_in c.of-2.result.value.items } in
    subst (λ (xs : List (Option g.row.H.Denot)). IsBoard start g.H.ShowsPart.shown (opening c.as_slice.result.now xs (fresh_view start [] [] []))) (sym c.spread_out.ensures)
    (opens start g.H.ShowsPart.shown (word_of c.len-count.result) c.as_slice.result.now c.args.values.items zero many
    (subst (λ (b : Base). Opens b (limits_of c.args.log_most) g.H.ShowsPart.shown c.args.values.items) (sym c.of.ensures) c.requires.opens)
    (ap (λ xs. found_in g.H.ShowsPart.shown xs.items) (sym c.of-2.ensures)) (ap (λ xs. shards_in xs.items) (sym c.of-2.ensures)))

pub invariant_of-result : goal.invariant_of-result
invariant_of-result g c =
    let e = c.in-Ok-new.ensures.ok in let n : ℕ = length c.args.values.items in let id = c.in-Ok-new.table.shared.table_id in
    let many : length c.as_slice.result.now ≡ word_of n = search rules in
    let deep : id.slots ≡ slot_of n = e.1 ∙ (ap (λ xs. length xs) c.spread_out.ensures ∙ spread_length c.args.values.items) in
    let wide : id.words ≡ word_of n = e.0 ∙ many in
    let shows : n ≡ length c.requires.opens.parts.shards + 2 = c.requires.opens.shows.0 in
    let few : length c.requires.opens.parts.shards ≤ 64 = c.requires.opens.few in
    let room : n ≤ vec_capacity c.in-Ok-with_capacity.room = search rules in record {
      spaced = omega (arith, deep, wide);
      apart = omega (arith, deep);
      few = (omega (arith, deep, shows), omega (arith, deep, shows, few));
      empty = search rules;
      roomy = omega (arith, deep, room);
    }

pub gathered-requires-clause-spread : goal.gathered-requires-clause-spread
gathered-requires-clause-spread g c = (gathers c.args.values.items c.in-Err.refused.slots.items (c.in-Err.ensures.err ∙ c.spread_out.ensures)).0

pub gathered-requires-clause-room : goal.gathered-requires-clause-room
gathered-requires-clause-room g c =
    let back = (gathers c.args.values.items c.in-Err.refused.slots.items (c.in-Err.ensures.err ∙ c.spread_out.ensures)).1 in
    let room : length c.args.values.items ≤ vec_capacity c.in-Ok-with_capacity.room = search rules in
    (search rules, subst (λ (xs : List (Option g.row.H.Denot)). length xs ≤ vec_capacity c.in-Ok-with_capacity.room) (sym back) room)

pub returns-clause-unchanged : goal.returns-clause-unchanged
returns-clause-unchanged g c = c.gathered.ensures ∙ (gathers c.args.values.items c.in-Err.refused.slots.items (c.in-Err.ensures.err ∙ c.spread_out.ensures)).1
