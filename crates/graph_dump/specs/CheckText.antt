-- The text of a log that was read: its last epoch, and how far it goes.
use Rattle.std.specs.Prelude.{ℕ, ◌-◌, List, [], ◌∷◌, ◌++◌, length, codes}
use Rattle.graph_recover.specs.declared.recovered.Recovered.{Recovered}
use Rattle.graph_dump.specs.Lines.{named, line}

-- the format and the last epoch
abbrev pub epoch_words : ℕ → List ℕ
epoch_words epoch = named (codes "format 1 epoch") (epoch ∷ [])

-- the number of records
abbrev pub records_words : ℕ → List ℕ
records_words count = named (codes " records") (count ∷ [])

-- the durable length
abbrev pub durable_words : ℕ → List ℕ
durable_words durable = named (codes " durable") (durable ∷ [])

-- what `check` prints: last comes the number of the bytes behind the durable length
abbrev pub text_of_log : Recovered → List ℕ
text_of_log log =
    epoch_words log.base.epoch ++ (records_words (length log.records)
    ++ (durable_words log.durable ++ line (codes " rest") ((log.length - log.durable) ∷ [])))
