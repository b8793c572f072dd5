-- What clap's answer says of the words behind `drill`, in the words of the table.
use Rattle.std.proofs.Common.{◌≡◌, ◌∙◌, ℕ, ◌-◌, ◌*◌, ◌^◌, ◌<◌, ◌≤◌, true, List, [], ◌∷◌, drop, Option, Some, None, Result, Ok, Err, IfOk, IfErr, refl, sym, ap, arith, inl, inr}
use Rattle.std.specs.Prelude.{codes}
use Rattle.std.proofs.lemmas.Bool.{cases_Bool}
use Rattle.request_text.specs.Words.{number_of}
use Rattle.clap.specs.Walk.{first_of, rows_of}
use Rattle.clap.specs.Simple.{App, matches_of}
use Rattle.clap.specs.Faults.{fault_of}
use Rattle.clap.specs.Matches.{first_value}
use Rattle.clap.specs.declared.parser.matches.Found.{Found}
use Rattle.clap.proofs.WalkLemmas.{first_value-rows}
use Rattle.command_words.specs.Commands.{AsksForCount, AsksForDrill, GivesDrill}
use Rattle.command_words.specs.CommandLines.{drill_app, count_of, is_drill, drill_word, drill_of}
use Rattle.command_words.specs.declared.command.WordsRefusal.{WordsRefusal}
use Rattle.command_words.specs.declared.command.WordsRefusal.TheVariants.{Usage}
use Rattle.command_words.proofs.Reading.{is_plain, decimal_of}
use Rattle.command_words.proofs.CrewReading.{counts, counted, plain_value}
use Rattle.command_words.proofs.CrewWalks.{IsPlain}
use Rattle.command_words.proofs.DrillRows.{Part, Seed, Sessions, Rounds, Crew, name_of, Seen, Nothing, One, Two, Three, words_of, value_of}
use Rattle.command_words.proofs.DrillWalks.{finds, first, drill_level, drill_refuses}
use Rattle.command_words.proofs.DrillTakes.{drill_takes}

-- a drill: its seed, its sessions, the rounds of each, and its workers
abbrev Drill : Type 0
Drill = ℕ × ℕ × ℕ × ℕ

abbrev Asks : List (List ℕ) → Drill → Type 0
Asks words drill = AsksForDrill drill.0 drill.1 drill.2 drill.3 words

-- ---- what was found asks for a drill

no_sessions : (words : List (List ℕ)) (seed rounds : Option ℕ) (workers : Result ℕ WordsRefusal) → IfOk (drill_word seed None rounds workers) (Asks words)
no_sessions words None rounds workers = tt
no_sessions words (Some seed) rounds workers = tt

no_rounds : (words : List (List ℕ)) (seed sessions : Option ℕ) (workers : Result ℕ WordsRefusal) → IfOk (drill_word seed sessions None workers) (Asks words)
no_rounds words None sessions workers = tt
no_rounds words (Some seed) None workers = tt
no_rounds words (Some seed) (Some sessions) workers = tt

three : (words : List (List ℕ)) (a b c : List ℕ) (given : Option (List ℕ)) → GivesDrill given (a ∷ b ∷ c ∷ []) words
    → (seed sessions rounds : Option ℕ) (workers : Result ℕ WordsRefusal)
    → number_of (2 ^ 64 - 1) a ≡ seed → number_of 65535 b ≡ sessions → number_of 2000 c ≡ rounds → IfOk workers (λ count. AsksForCount 1 given count)
    → IfOk (drill_word seed sessions rounds workers) (Asks words)
three words a b c given gives None sessions rounds workers ha hb hc hw = tt
three words a b c given gives (Some seed) None rounds workers ha hb hc hw = tt
three words a b c given gives (Some seed) (Some sessions) None workers ha hb hc hw = tt
three words a b c given gives (Some seed) (Some sessions) (Some rounds) (Err refusal) ha hb hc hw = tt
three words a b c given gives (Some seed) (Some sessions) (Some rounds) (Ok workers) ha hb hc hw =
    elim (cases_Bool (is_drill sessions rounds)) [
      | inl fit ↦ rw fit (record {
        seed_word = a;
        sessions_word = b;
        rounds_word = c;
        given = given;
        gives = gives;
        seed_asked = ha;
        sessions_asked = (hb, grind (arith, fit));
        rounds_asked = (hc, grind (arith, fit));
        few = grind (arith, fit);
        workers_asked = hw;
      })
      | inr unfit ↦ rw unfit tt
    ]

asked : (words : List (List ℕ)) (given : Option (List ℕ)) (seen : Seen) → GivesDrill given (words_of seen) words
    → IfOk (drill_of (value_of seen given Seed) (value_of seen given Sessions) (value_of seen given Rounds) given) (Asks words)
asked words given Nothing gives = tt
asked words given (One a) gives = no_sessions words (number_of (2 ^ 64 - 1) a) None (count_of 1 given)
asked words given (Two a b) gives = no_rounds words (number_of (2 ^ 64 - 1) a) (number_of 65535 b) (count_of 1 given)
asked words given (Three a b c) gives =
    three words a b c given gives (number_of (2 ^ 64 - 1) a) (number_of 65535 b) (number_of 2000 c) (count_of 1 given) refl refl refl (counts 1 given)

-- what was found is what the walk finds
found_is : (q : Part) (a : App) (f : Found) (words : List (List ℕ)) → a ≡ drill_app → rows_of f ≡ matches_of a words → first_value f (name_of q) ≡ first_of (name_of q) (matches_of drill_app words)
found_is q a f words is rows = first_value-rows f (name_of q) ∙ ap (first_of (name_of q)) (rows ∙ ap (λ b. matches_of b words) is)

pub asks : (a : App) (f : Found) (words : List (List ℕ)) → a ≡ drill_app → fault_of a words ≡ [] → rows_of f ≡ matches_of a words
    → IfOk (drill_of (first_value f (codes "seed")) (first_value f (codes "sessions")) (first_value f (codes "rounds")) (first_value f (codes "workers"))) (λ drill. AsksForDrill drill.0 drill.1 drill.2 drill.3 (drop 1 words))
asks a f words is none rows =
    let found = drill_refuses (drop 1 words) (ap (λ b. fault_of b words) (sym is) ∙ none) in
    rw (found_is Seed a f words is rows ∙ found.found Seed, found_is Sessions a f words is rows ∙ found.found Sessions, found_is Rounds a f words is rows ∙ found.found Rounds, found_is Crew a f words is rows ∙ found.found Crew)
    (asked (drop 1 words) found.given found.seen found.gives)

-- ---- words that ask for a drill are taken

-- and what they give is found
abbrev Taken : List (List ℕ) → Seen → Option (List ℕ) → Type 0
Taken words seen given = (drill_level words ≡ []) × ((q : Part) → finds q first words ≡ value_of seen given q)

taken : (seed sessions rounds workers : ℕ) (words : List (List ℕ)) (asks : AsksForDrill seed sessions rounds workers words) → Taken words (Three asks.seed_word asks.sessions_word asks.rounds_word) asks.given
taken seed sessions rounds workers words asks =
    let a : IsPlain asks.seed_word = is_plain asks.seed_word (decimal_of (2 ^ 64 - 1) asks.seed_word seed asks.seed_asked) in
    let b : IsPlain asks.sessions_word = is_plain asks.sessions_word (decimal_of 65535 asks.sessions_word sessions asks.sessions_asked.0) in
    let c : IsPlain asks.rounds_word = is_plain asks.rounds_word (decimal_of 2000 asks.rounds_word rounds asks.rounds_asked.0) in
    drill_takes asks.given (Three asks.seed_word asks.sessions_word asks.rounds_word) words (a, (b, (c, tt))) (plain_value 1 asks.given workers asks.workers_asked) asks.gives

pub drill_usage : (a : App) (words : List (List ℕ)) → a ≡ drill_app → (fault_of a words ≡ [] → ⊥) → (seed sessions rounds workers : ℕ) → AsksForDrill seed sessions rounds workers (drop 1 words) → ⊥
drill_usage a words is some seed sessions rounds workers asks = some (ap (λ b. fault_of b words) is ∙ (taken seed sessions rounds workers (drop 1 words) asks).0)

-- what clap finds of these words
abbrev told : List (List ℕ) → Result Drill WordsRefusal
told words =
    drill_of (first_of (codes "seed") (matches_of drill_app words)) (first_of (codes "sessions") (matches_of drill_app words))
    (first_of (codes "rounds") (matches_of drill_app words)) (first_of (codes "workers") (matches_of drill_app words))

fits : (sessions rounds : ℕ) → 0 < sessions → 0 < rounds → sessions * rounds ≤ 100000 → is_drill sessions rounds ≡ true
fits sessions rounds some each few = grind arith

-- and it tells the drill
pub tells_drill : (words : List (List ℕ)) (seed sessions rounds workers : ℕ) → AsksForDrill seed sessions rounds workers (drop 1 words)
    → drill_of (first_of (codes "seed") (matches_of drill_app words)) (first_of (codes "sessions") (matches_of drill_app words)) (first_of (codes "rounds") (matches_of drill_app words)) (first_of (codes "workers") (matches_of drill_app words)) ≡ Ok (seed, sessions, rounds, workers)
tells_drill words seed sessions rounds workers asks =
    let is = taken seed sessions rounds workers (drop 1 words) asks in
    rw (is.1 Seed, is.1 Sessions, is.1 Rounds, is.1 Crew, asks.seed_asked, asks.sessions_asked.0, asks.rounds_asked.0, counted 1 asks.given workers asks.workers_asked, fits sessions rounds asks.sessions_asked.1 asks.rounds_asked.1 asks.few) refl

only_ok : (words : List (List ℕ)) (r : Result Drill WordsRefusal) → ((seed sessions rounds workers : ℕ) → AsksForDrill seed sessions rounds workers words → r ≡ Ok (seed, sessions, rounds, workers))
    → IfErr r (λ refusal. refusal ≡ Usage → (seed sessions rounds workers : ℕ) → AsksForDrill seed sessions rounds workers words → ⊥)
only_ok words (Ok x) h = tt
only_ok words (Err refusal) h = λ same seed sessions rounds workers asks. let told = h seed sessions rounds workers asks in cc told

pub no_drill : (a : App) (f : Found) (words : List (List ℕ)) → a ≡ drill_app → rows_of f ≡ matches_of a words
    → IfErr (drill_of (first_value f (codes "seed")) (first_value f (codes "sessions")) (first_value f (codes "rounds")) (first_value f (codes "workers"))) (λ refusal. refusal ≡ Usage → (seed sessions rounds workers : ℕ) → AsksForDrill seed sessions rounds workers (drop 1 words) → ⊥)
no_drill a f words is rows =
    rw (found_is Seed a f words is rows, found_is Sessions a f words is rows, found_is Rounds a f words is rows, found_is Crew a f words is rows)
    (only_ok (drop 1 words) (told words) (tells_drill words))
