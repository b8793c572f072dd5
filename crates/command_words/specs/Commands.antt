-- Which command a list of words is.
use Rattle.std.specs.Prelude.{◌≡◌, ◌⊎◌, ℕ, ◌-◌, ◌*◌, ◌^◌, ◌<◌, ◌≤◌, List, [], ◌∷◌, ◌++◌, Option, Some, None, codes}
use Rattle.graph_model.specs.Records.{number_end}
use Rattle.request_text.specs.Words.{number_of}
use Rattle.command_words.specs.declared.command.Command.{Command}
use Rattle.command_words.specs.declared.command.Command.TheVariants as command

-- The words end: a word `--` may stand behind the options, and no other does.
abbrev pub EndsWords : List (List ℕ) → Type 0
EndsWords words = (words ≡ []) ⊎ (words ≡ codes "--" ∷ [])

-- The words give the option of this name this value, in one of the two ways, and those behind are as they are to be.
abbrev pub GivesOption : List ℕ → List ℕ → (List (List ℕ) → Type 0) → List (List ℕ) → Type 0
GivesOption name value Behind words =
    (rest : List (List ℕ)) × Behind rest
    × ((words ≡ (codes "--" ++ name) ∷ value ∷ rest) ⊎ (words ≡ (codes "--" ++ name ++ codes "=" ++ value) ∷ rest))

-- The words ask for an epoch, spelled as a number in a script, or for none.
abbrev pub AsksFor : Option ℕ → List (List ℕ) → Type 0
AsksFor None words = EndsWords words
AsksFor (Some epoch) words =
    (value : List ℕ) × (number_of (number_end - 1) value ≡ Some epoch) × GivesOption (codes "at") value EndsWords words

-- The words give these values to `--workers` and to `--shards`, each at most once and in any order, and then they end.
abbrev pub GivesCrew : Option (List ℕ) → Option (List ℕ) → List (List ℕ) → Type 0
GivesCrew None None words = EndsWords words
GivesCrew (Some workers) None words = GivesOption (codes "workers") workers EndsWords words
GivesCrew None (Some shards) words = GivesOption (codes "shards") shards EndsWords words
GivesCrew (Some workers) (Some shards) words =
    GivesOption (codes "workers") workers (GivesOption (codes "shards") shards EndsWords) words
    ⊎ GivesOption (codes "shards") shards (GivesOption (codes "workers") workers EndsWords) words

-- The word spells this number, from 1 to so many, as in a script.
abbrev pub SpellsCount : ℕ → List ℕ → ℕ → Type 0
SpellsCount most word count = (number_of most word ≡ Some count) × (0 < count)

-- The value asks for so many: a number from 1 to 64, spelled as in a script. Without a value that is the default.
abbrev pub AsksForCount : ℕ → Option (List ℕ) → ℕ → Type 0
AsksForCount default None count = count ≡ default
AsksForCount default (Some value) count = SpellsCount 64 value count

-- The words ask for so many workers, else for one, and for so many shards, else for 16.
pub record AsksForCrew (workers shards : ℕ) (words : List (List ℕ)) : Type 0 where
  pub given : Option (List ℕ)
  pub given_shards : Option (List ℕ)
  pub gives : GivesCrew given given_shards words
  pub workers_asked : AsksForCount 1 given workers
  pub shards_asked : AsksForCount 16 given_shards shards

-- The words are these positional words in their order, and one word `--` may stand before, between or behind them.
abbrev pub ArePositional : List (List ℕ) → List (List ℕ) → Type 0
ArePositional positional words =
    (words ≡ positional)
    ⊎ ((before behind : List (List ℕ)) × (positional ≡ before ++ behind) × (words ≡ before ++ codes "--" ∷ behind))

-- The words are these positional words and, where it has a value, the option `--workers` with this value, which stands
-- before, between or behind them, and before any `--` that ends the options.
abbrev pub GivesDrill : Option (List ℕ) → List (List ℕ) → List (List ℕ) → Type 0
GivesDrill None positional words = ArePositional positional words
GivesDrill (Some workers) positional words =
    (before behind rest : List (List ℕ)) × (positional ≡ before ++ behind) × (words ≡ before ++ rest)
    × GivesOption (codes "workers") workers (ArePositional behind) rest

-- The words ask for a drill: three positional words spell its seed, its sessions and the rounds of each, 100,000 rounds
-- at most of all sessions together, and the option so many workers, else one.
pub record AsksForDrill (seed sessions rounds workers : ℕ) (words : List (List ℕ)) : Type 0 where
  pub seed_word : List ℕ
  pub sessions_word : List ℕ
  pub rounds_word : List ℕ
  pub given : Option (List ℕ)
  pub gives : GivesDrill given (seed_word ∷ sessions_word ∷ rounds_word ∷ []) words
  pub seed_asked : number_of (2 ^ 64 - 1) seed_word ≡ Some seed
  pub sessions_asked : SpellsCount 65535 sessions_word sessions
  pub rounds_asked : SpellsCount 2000 rounds_word rounds
  pub few : sessions * rounds ≤ 100000
  pub workers_asked : AsksForCount 1 given workers

-- The first word is this name, and those behind it fit.
abbrev pub IsNamed : List ℕ → (List (List ℕ) → Type 0) → List (List ℕ) → Type 0
IsNamed name Fit [] = ⊥
IsNamed name Fit (word ∷ words) = (word ≡ name) × Fit words

-- The words are this command.
abbrev pub IsCommand : List (List ℕ) → Command → Type 0
IsCommand words command.Init = IsNamed (codes "init") EndsWords words
IsCommand words (command.Run workers shards) = IsNamed (codes "run") (AsksForCrew workers shards) words
IsCommand words command.Check = IsNamed (codes "check") EndsWords words
IsCommand words (command.Dump at) = IsNamed (codes "dump") (AsksFor at) words
IsCommand words (command.Drill seed sessions rounds workers) = IsNamed (codes "drill") (AsksForDrill seed sessions rounds workers) words

-- A run has from 1 to 64 workers and from 1 to 64 shards. A drill has a seed below 2 to the 64, from 1 to 65,535 sessions,
-- from 1 to 2,000 rounds of each and 100,000 at most of all of them, and from 1 to 64 workers.
abbrev pub IsWithinCounts : Command → Type 0
IsWithinCounts (command.Run workers shards) = (0 < workers) × (workers ≤ 64) × (0 < shards) × (shards ≤ 64)
IsWithinCounts (command.Drill seed sessions rounds workers) =
    (seed < 2 ^ 64) × (0 < sessions) × (sessions ≤ 65535) × (0 < rounds) × (rounds ≤ 2000)
    × (sessions * rounds ≤ 100000) × (0 < workers) × (workers ≤ 64)
IsWithinCounts c = Unit {0}
