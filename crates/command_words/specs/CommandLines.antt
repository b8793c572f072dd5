-- The command lines that clap is given: without options, with the option `--at`, with `--workers` and `--shards`, and with
-- `--workers` and three positional words.
use Rattle.std.specs.Prelude.{ℕ, Bool, ◌-◌, ◌*◌, ◌^◌, ◌&&◌, nat_lt, nat_le, if◌then◌else◌, true, List, Option, Some, None, Result, Ok, Err, codes}
use Rattle.graph_model.specs.Records.{number_end}
use Rattle.request_text.specs.Words.{number_of}
use Rattle.command_words.specs.declared.command.WordsRefusal.{WordsRefusal}
use Rattle.command_words.specs.declared.command.WordsRefusal.TheVariants.{Usage}
use Rattle.clap.specs.Simple.{App, new_app, new_rule, on_top, with_rule}
use Rattle.clap.specs.Walk.{Rule}

abbrev pub plain_app : App
plain_app = on_top (λ s. record s { disable_help_flag = true }) (new_app (codes "graph"))

abbrev pub at_rule : Rule
at_rule = record (new_rule (codes "at")) { long = Some (codes "at") }

abbrev pub epoch_app : App
epoch_app = with_rule plain_app at_rule

-- what the value of `--at` asks for, where it was given
abbrev pub epoch_word : Option ℕ → Result (Option ℕ) WordsRefusal
epoch_word None = Err Usage
epoch_word (Some epoch) = Ok (Some epoch)

abbrev pub epoch_of : Option (List ℕ) → Result (Option ℕ) WordsRefusal
epoch_of None = Ok None
epoch_of (Some value) = epoch_word (number_of (number_end - 1) value)

abbrev pub workers_rule : Rule
workers_rule = record (new_rule (codes "workers")) { long = Some (codes "workers") }

abbrev pub shards_rule : Rule
shards_rule = record (new_rule (codes "shards")) { long = Some (codes "shards") }

abbrev pub crew_app : App
crew_app = with_rule (with_rule plain_app workers_rule) shards_rule

-- what the value of an option that counts asks for
abbrev pub count_word : Option ℕ → Result ℕ WordsRefusal
count_word None = Err Usage
count_word (Some count) = if nat_lt 0 count then Ok count else Err Usage

abbrev pub count_of : ℕ → Option (List ℕ) → Result ℕ WordsRefusal
count_of default None = Ok default
count_of default (Some value) = count_word (number_of 64 value)

abbrev pub both_of : Result ℕ WordsRefusal → Result ℕ WordsRefusal → Result (ℕ × ℕ) WordsRefusal
both_of (Err refusal) shards = Err refusal
both_of (Ok workers) (Err refusal) = Err refusal
both_of (Ok workers) (Ok shards) = Ok (workers, shards)

abbrev pub crew_of : Option (List ℕ) → Option (List ℕ) → Result (ℕ × ℕ) WordsRefusal
crew_of workers shards = both_of (count_of 1 workers) (count_of 16 shards)

abbrev pub seed_rule : Rule
seed_rule = new_rule (codes "seed")

abbrev pub sessions_rule : Rule
sessions_rule = new_rule (codes "sessions")

abbrev pub rounds_rule : Rule
rounds_rule = new_rule (codes "rounds")

abbrev pub drill_app : App
drill_app = with_rule (with_rule (with_rule (with_rule plain_app seed_rule) sessions_rule) rounds_rule) workers_rule

-- the number that a positional word spells, where it stands there
abbrev pub spelled : ℕ → Option (List ℕ) → Option ℕ
spelled most None = None
spelled most (Some word) = number_of most word

-- a drill has sessions and rounds, and not too many of both
abbrev pub is_drill : ℕ → ℕ → Bool
is_drill sessions rounds = nat_lt 0 sessions && (nat_lt 0 rounds && nat_le (sessions * rounds) 100000)

-- what positional words and an option that spell these numbers ask for
abbrev pub drill_word : Option ℕ → Option ℕ → Option ℕ → Result ℕ WordsRefusal → Result (ℕ × ℕ × ℕ × ℕ) WordsRefusal
drill_word (Some seed) (Some sessions) (Some rounds) (Ok workers) =
    if is_drill sessions rounds then Ok (seed, sessions, rounds, workers) else Err Usage
drill_word _ _ _ _ = Err Usage

abbrev pub drill_of : Option (List ℕ) → Option (List ℕ) → Option (List ℕ) → Option (List ℕ) → Result (ℕ × ℕ × ℕ × ℕ) WordsRefusal
drill_of seed sessions rounds workers =
    drill_word (spelled (2 ^ 64 - 1) seed) (spelled 65535 sessions) (spelled 2000 rounds) (count_of 1 workers)
