-- Every state of a run is sound, and every read on the way answers what its transaction sees.
use Rattle.std.proofs.Common.{ℕ, List, take, ap, ◌∙◌}
use Rattle.graph_model.specs.declared.graph.Base.{Base}
use Rattle.graph_model.specs.Graph.{seen, asked_vertex}
use Rattle.graph_model.specs.Records.{IsGood}
use Rattle.core_states.specs.declared.event.Act.{Act}
use Rattle.core_states.specs.declared.event.Event.{Event}
use Rattle.core_states.specs.declared.event.CoreAnswer.TheVariants as answer
use Rattle.core_states.specs.Names.{Name}
use Rattle.core_states.specs.ClockEvents.{for_txn}
use Rattle.core_states.specs.RowEvents.{reads}
use Rattle.core_states.specs.States.{State, answer_to, row_answer}
use Rattle.core_states.specs.Openings.{opening, no_disk, run_limits}
use Rattle.core_kept.specs.Bounds.{Kept}
use Rattle.core_states.specs.Sound.{Sound}
use Rattle.core_states.specs.Reads.{state_at, ReadSees}
use Rattle.core_states.specs.RowEvents.{Limits}
use Rattle.core_kept.proofs.Keeping.{opening_kept, run_may_open, run_allowed, run_kept}
use Rattle.core_kept.proofs.Snapshots.{reads_see}
use Rattle.core_laws.proofs.Sounds.{kept_sound}

-- a read sees the snapshot with the own changes
pub read_sees : (base : Base) (most : Limits) (s : State) (i : Name) (action : Act) → IsGood base → Kept base most s → ReadSees most base s i action
read_sees base most s i action good kept q x is runs working =
    ap (answer_to most s i) is
    ∙ ap (λ o. row_answer (for_txn (λ y. reads y q (s.row (asked_vertex q)) (s.actor i)) o)) runs
    ∙ rw working (ap (λ o. answer.Shown (seen o q)) (reads_see base kept.0.0 s i (asked_vertex q) x good.graph kept.0.1 runs working))

pub run_kept_at : (base : Base) (events : List Event) (n : ℕ) → IsGood base → Kept base run_limits (state_at base events n)
run_kept_at base events n good = run_kept base run_limits (opening base no_disk) (take n events) (opening_kept base no_disk run_limits (run_may_open base good))

-- Every state of a run is sound.
pub run_sound : (base : Base) (events : List Event) (n : ℕ) → IsGood base → Sound base (state_at base events n)
run_sound base events n good = kept_sound base run_limits (state_at base events n) good run_allowed (run_kept_at base events n good)

-- Every read on the way sees its snapshot.
pub run_reads : (base : Base) (events : List Event) (n : ℕ) (i : Name) (action : Act) → IsGood base → ReadSees run_limits base (state_at base events n) i action
run_reads base events n i action good = read_sees base run_limits (state_at base events n) i action good (run_kept_at base events n good)
