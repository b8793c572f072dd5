-- The same run on the parts of the core, as a board of turns keeps them.
use Rattle.std.specs.Prelude.{◌≡◌, ℕ, ◌<◌, true, List, [], ◌∷◌, length}
use Rattle.graph_model.specs.declared.graph.Base.{Base}
use Rattle.core_states.specs.Names.{Name}
use Rattle.core_states.specs.declared.event.Reach.{Reach}
use Rattle.core_states.specs.Parts.{Parts, actor_of, state_of_parts, covers, move_of, step}
use Rattle.core_states.specs.States.{reach_of}
use Rattle.core_kept.specs.Bounds.{Kept}
use Rattle.core_states.specs.Laters.{Later, LaterLog, ReceiptsStay}
use Rattle.core_calls.specs.Events.{Told}

-- The parts go on by events of others.
pub record PartsGoOn (base : Base) (name : ℕ → Name) (p q : Parts) : Type 0 where
  pub limits : q.limits ≡ p.limits
  pub shards : 0 < length q.shards
  pub kept : Kept base q.limits (state_of_parts base q)
  pub later : Later p.clock q.clock
  pub later_log : LaterLog p.log q.log
  pub receipts : ReceiptsStay (state_of_parts base p) (state_of_parts base q)
  pub same : (k : ℕ) → actor_of base q.actors (name k) ≡ actor_of base p.actors (name k)

-- One actor does these events, each on the parts that it holds: what the event works on, or the log and the clock.
abbrev pub DidOnParts : Base → (ℕ → Name) → Name → List Told → Parts → Parts → Type 0
DidOnParts base name i [] p q = PartsGoOn base name p q
DidOnParts base name i (e ∷ es) p q =
    (now : Parts) × PartsGoOn base name p now × (held : Reach) × (covers held (reach_of e.act) ≡ true)
    × ((move_of held base now i e.act).answer ≡ e.says) × DidOnParts base name i es (step held base now i e.act) q
