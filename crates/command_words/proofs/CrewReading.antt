-- What clap's answer says of the words behind `run`, in the words of the table.
use Rattle.std.proofs.Common.{◌≡◌, ◌∙◌, ℕ, true, List, [], drop, Option, Some, None, Result, Ok, Err, IfOk, IfErr, refl, sym, ap, subst, arith, inl, inr}
use Rattle.std.specs.Prelude.{codes, nat_lt}
use Rattle.std.proofs.lemmas.Bool.{cases_Bool}
use Rattle.request_text.specs.Words.{number_of}
use Rattle.clap.specs.Walk.{first_of, rows_of}
use Rattle.clap.specs.Simple.{App, matches_of}
use Rattle.clap.specs.Faults.{fault_of}
use Rattle.clap.specs.Matches.{first_value}
use Rattle.clap.specs.declared.parser.matches.Found.{Found}
use Rattle.clap.proofs.WalkLemmas.{first_value-rows}
use Rattle.command_words.specs.Commands.{GivesCrew, AsksForCount, AsksForCrew}
use Rattle.command_words.specs.CommandLines.{crew_app, count_word, count_of, both_of, crew_of}
use Rattle.command_words.specs.declared.command.WordsRefusal.{WordsRefusal}
use Rattle.command_words.specs.declared.command.WordsRefusal.TheVariants.{Usage}
use Rattle.command_words.proofs.Reading.{is_plain, decimal_of}
use Rattle.command_words.proofs.CrewForms.{Name, Workers, Shards, name_of}
use Rattle.command_words.proofs.CrewWalks.{IsPlain, Taken, crew_refuses, crew_takes}

-- ---- what was found asks for so many

some_count : (v : List ℕ) (o : Option ℕ) (default : ℕ) → number_of 64 v ≡ o → IfOk (count_word o) (λ count. AsksForCount default (Some v) count)
some_count v None default h = tt
some_count v (Some count) default h =
    elim (cases_Bool (nat_lt 0 count)) [
      | inl some ↦ rw some (h, grind arith)
      | inr none ↦ rw none tt
    ]

pub counts : (default : ℕ) (o : Option (List ℕ)) → IfOk (count_of default o) (λ count. AsksForCount default o count)
counts default None = refl
counts default (Some v) = some_count v (number_of 64 v) default refl

both : (words : List (List ℕ)) (given given_shards : Option (List ℕ)) (w s : Result ℕ WordsRefusal) → GivesCrew given given_shards words
    → IfOk w (λ count. AsksForCount 1 given count) → IfOk s (λ count. AsksForCount 16 given_shards count)
    → IfOk (both_of w s) (λ crew. AsksForCrew crew.0 crew.1 words)
both words given given_shards (Err refusal) s gives workers shards = tt
both words given given_shards (Ok w) (Err refusal) gives workers shards = tt
both words given given_shards (Ok w) (Ok s) gives workers shards = record { given = given; given_shards = given_shards; gives = gives; workers_asked = workers; shards_asked = shards }

-- what was found is what the walk finds
found_is : (n : Name) (a : App) (f : Found) (words : List (List ℕ)) → a ≡ crew_app → rows_of f ≡ matches_of a words → first_value f (name_of n) ≡ first_of (name_of n) (matches_of crew_app words)
found_is n a f words is rows = first_value-rows f (name_of n) ∙ ap (first_of (name_of n)) (rows ∙ ap (λ b. matches_of b words) is)

pub asks : (a : App) (f : Found) (words : List (List ℕ)) → a ≡ crew_app → fault_of a words ≡ [] → rows_of f ≡ matches_of a words
    → IfOk (crew_of (first_value f (codes "workers")) (first_value f (codes "shards"))) (λ crew. AsksForCrew crew.0 crew.1 (drop 1 words))
asks a f words is none rows =
    let found = crew_refuses (drop 1 words) (ap (λ b. fault_of b words) (sym is) ∙ none) in
    rw (found_is Workers a f words is rows ∙ found.3, found_is Shards a f words is rows ∙ found.4)
    (both (drop 1 words) found.0 found.1 (count_of 1 found.0) (count_of 16 found.1) found.2 (counts 1 found.0) (counts 16 found.1))

-- ---- words that ask for so many are taken

pub counted : (default : ℕ) (o : Option (List ℕ)) (count : ℕ) → AsksForCount default o count → count_of default o ≡ Ok count
counted default None count asks = ap Ok (sym asks)
counted default (Some v) count asks = let some : nat_lt 0 count ≡ true = grind arith in ap count_word asks.0 ∙ rw some refl

pub plain_value : (default : ℕ) (o : Option (List ℕ)) (count : ℕ) → AsksForCount default o count → (v : List ℕ) → o ≡ Some v → IsPlain v
plain_value default None count asks v is = absurd (cc is)
plain_value default (Some u) count asks v is =
    let plain : IsPlain u = is_plain u (decimal_of 64 u count asks.0) in
    let same : u ≡ v = cc is in
    subst IsPlain same plain

taken : (workers shards : ℕ) (words : List (List ℕ)) (asks : AsksForCrew workers shards words) → Taken words asks.given asks.given_shards
taken workers shards words asks = crew_takes asks.given asks.given_shards words asks.gives (plain_value 1 asks.given workers asks.workers_asked) (plain_value 16 asks.given_shards shards asks.shards_asked)

pub crew_usage : (a : App) (words : List (List ℕ)) → a ≡ crew_app → (fault_of a words ≡ [] → ⊥) → (workers shards : ℕ) → AsksForCrew workers shards (drop 1 words) → ⊥
crew_usage a words is some workers shards asks = some (ap (λ b. fault_of b words) is ∙ (taken workers shards (drop 1 words) asks).0)

-- and tell so many
pub tells_crew : (words : List (List ℕ)) (workers shards : ℕ) → AsksForCrew workers shards (drop 1 words)
    → crew_of (first_of (codes "workers") (matches_of crew_app words)) (first_of (codes "shards") (matches_of crew_app words)) ≡ Ok (workers, shards)
tells_crew words workers shards asks =
    let is = taken workers shards (drop 1 words) asks in
    rw (is.1, is.2, counted 1 asks.given workers asks.workers_asked, counted 16 asks.given_shards shards asks.shards_asked) refl

only_ok : (words : List (List ℕ)) (r : Result (ℕ × ℕ) WordsRefusal) → ((workers shards : ℕ) → AsksForCrew workers shards words → r ≡ Ok (workers, shards))
    → IfErr r (λ refusal. refusal ≡ Usage → (workers shards : ℕ) → AsksForCrew workers shards words → ⊥)
only_ok words (Ok x) h = tt
only_ok words (Err refusal) h = λ same workers shards asks. let told = h workers shards asks in cc told

pub no_crew : (a : App) (f : Found) (words : List (List ℕ)) → a ≡ crew_app → rows_of f ≡ matches_of a words
    → IfErr (crew_of (first_value f (codes "workers")) (first_value f (codes "shards"))) (λ refusal. refusal ≡ Usage → (workers shards : ℕ) → AsksForCrew workers shards (drop 1 words) → ⊥)
no_crew a f words is rows =
    rw (found_is Workers a f words is rows, found_is Shards a f words is rows)
    (only_ok (drop 1 words) (crew_of (first_of (codes "workers") (matches_of crew_app words)) (first_of (codes "shards") (matches_of crew_app words))) (tells_crew words))
