use Rattle.std.proofs.Common.{◌≡◌, List, ap, sym, ◌∙◌, subst, ℕ}
use Rattle.graph_model.specs.Vertex.{Vertex}
use Rattle.graph_model.specs.Graph.{vertex_at}
use Rattle.core_rows.specs.Rows.{fresh_row}
use Rattle.core_states.specs.Openings.{run_limits, no_disk, opened_row}
use Rattle.core_states.specs.States.{State}
use Rattle.core_kept.specs.Bounds.{Kept}
use Rattle.core_kept.proofs.Keeping.{opening_kept, run_may_open}
use Rattle.txn_core.specs.Cores.{state_of}
use Rattle.part_scripts.proofs.together.new_core.Goals as goal
use Rattle.part_scripts.proofs.together.new_core.Goals.{After-new}
use Rattle.part_scripts.proofs.together.new_core.Given.{Over}

pub returns-clause-kept : goal.returns-clause-kept
returns-clause-kept g c =
    let base = c.args.base.now in
    subst (Kept base run_limits) (sym c.new.ensures) (opening_kept base no_disk run_limits (run_may_open base c.requires.good))

-- no vertex was ever there
fresh : (g : Over) (c : After-new g) (v : ℕ) → (state_of c.args.base.now c.new.result).row v ≡ fresh_row
fresh g c v = ap (λ (s : State). s.row v) c.new.ensures ∙ ap (λ (graph : List Vertex). opened_row c.args.base.now.epoch (vertex_at v graph)) c.requires.empty

pub returns-clause-even : goal.returns-clause-even
returns-clause-even g c =
    let at = goal.at.returns-clause-even g c in
    let is = c.requires.even in
    record { is_shard = is.is_shard; number = is.number; shards = is.shards; most = is.most; alike = λ v own. is.rows v ∙ sym (fresh g at.After-new v) }

pub returns-clause-odd : goal.returns-clause-odd
returns-clause-odd g c =
    let at = goal.at.returns-clause-odd g c in
    let is = c.requires.odd in
    record { is_shard = is.is_shard; number = is.number; shards = is.shards; most = is.most; alike = λ v own. is.rows v ∙ sym (fresh g at.After-new v) }

pub returns-clause-clock : goal.returns-clause-clock
returns-clause-clock g c = ap (λ (s : State). s.clock) c.new.ensures
