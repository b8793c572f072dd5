-- The graph is that of the log that was recovered.
use Rattle.std.proofs.Common.{List, [], ℕ, ◌≡◌, ◌≤◌, ◌<◌, ap, ◌∙◌, sym, arith}
use Rattle.graph_model.specs.Vertex.{Vertex}
use Rattle.graph_model.specs.Graph.{at}
use Rattle.graph_model.specs.Records.{last_epoch}
use Rattle.graph_recover.proofs.Epochs.{begins-goes_on, none-after_last}
use Rattle.graph_recover.proofs.Snapshots.{at-all}
use Rattle.graph_model.specs.Records.{all_changes}
use Rattle.graph_dump.specs.DumpText.{text_of_graph, edge_count}
use Rattle.log_commands.proofs.EdgeCounts.{edges_within}
use Rattle.log_commands.proofs.Asked.{above_asked}
use Rattle.log_commands.proofs.dumping.prepare.Goals as goal

pub snapshot-requires : goal.snapshot-requires
snapshot-requires g c =
    let log = c.in_ok-base in
    let graph = ap (λ b. b.graph) log.ensures.base in
    let last = ap (λ b. b.epoch) log.ensures.base in
    let records = log.field-0.records in
    graph ∙ sym (at-all (last_epoch 0 records) records (none-after_last 0 records (begins-goes_on 0 records log.ensures.lawful.epochs))) ∙ ap (λ e. at [] records e) (sym last)

pub returns-then-epoch-last-clause-refused : goal.returns-then-epoch-last-clause-refused
returns-then-epoch-last-clause-refused g c =
    let log = c.in_ok-base in
    let all = log.field-0 in
    record {
      records = all.records;
      durable = all.durable;
      size = all.length;
      log = record { lawful = log.ensures.lawful; within = log.ensures.durable.1; bytes = log.ensures.recovered };
      wanted_is = above_asked c.args.asked all.base.epoch c.unwrap_or-epoch.result c.unwrap_or-epoch.ensures (omega arith);
      last_is = ap (λ b. b.epoch) log.ensures.base;
      above = omega arith;
    }

pub returns-clause-shown : goal.returns-clause-shown
returns-clause-shown g c =
    let log = c.in_ok-base in
    let all = log.field-0 in
    let last : all.base.epoch ≡ last_epoch 0 all.records = ap (λ b. b.epoch) log.ensures.base in
    record {
      records = all.records;
      durable = all.durable;
      size = all.length;
      log = record { lawful = log.ensures.lawful; within = log.ensures.durable.1; bytes = log.ensures.recovered };
      epoch = c.unwrap_or-epoch.result;
      shown = cc;
      within = omega (arith, last);
      spelled = ap (λ (graph : List Vertex). text_of_graph graph c.unwrap_or-epoch.result) c.in_ok-graph.ensures.at;
    }

pub returns-clause-few : goal.returns-clause-few
returns-clause-few g c =
    let log = c.in_ok-base in
    let is : edge_count c.in_ok-graph.graph ≡ edge_count (at [] log.field-0.records c.unwrap_or-epoch.result) = ap edge_count c.in_ok-graph.ensures.at in
    let few = edges_within log.field-0.records c.unwrap_or-epoch.result in
    omega (arith, is, few, log.ensures.changes, log.ensures.durable)
