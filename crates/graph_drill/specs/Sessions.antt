-- What the sessions of a drill keep from round to round.
use Rattle.std.specs.Prelude.{◌≡◌, ℕ, ◌+◌, ◌-◌, ◌^◌, ◌<◌, List, length, slice_index_or}
use Rattle.rand_core.specs.Steps.{stream_of}
use Rattle.rand_xoshiro.specs.SplitMix64.{splitmix_steps}
use Rattle.graph_drill.specs.declared.drill.Drill.{Drill}
use Rattle.graph_drill.specs.declared.drill_session.DrillSession.{DrillSession}
use Rattle.graph_drill.specs.Scripts.{generator_of, after_words, word_of, label_of}

-- A session after so many rounds: its generator has given a word for each, and it has the labels of the last two.
pub record IsAfter (drill : Drill) (rounds : ℕ) (x : DrillSession) : Type 0 where
  pub vertex : drill.next_vertex + x.number < 2 ^ 62
  pub words : stream_of splitmix_steps x.words ≡ after_words rounds (generator_of drill.seed x.number)
  pub last : 0 < rounds → x.last ≡ label_of (word_of drill.seed x.number rounds)
  pub before_last : 1 < rounds → x.before_last ≡ label_of (word_of drill.seed x.number (rounds - 1))

-- All sessions after so many rounds, each in the place of its number.
pub record AreAfter (drill : Drill) (rounds : ℕ) (all : List DrillSession) : Type 0 where
  pub count : length all ≡ drill.sessions
  pub numbers : (k : ℕ) (x : DrillSession) → k < length all → (slice_index_or all k x).number ≡ k
  pub each : (k : ℕ) (x : DrillSession) → k < length all → IsAfter drill rounds (slice_index_or all k x)
