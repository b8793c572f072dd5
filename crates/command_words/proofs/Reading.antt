-- What clap's answer says of the words, in the words of the table.
use Rattle.std.proofs.Common.{◌≡◌, ◌∙◌, inl, inr, ℕ, ◌-◌, ◌==◌, nat_le, true, false, List, [], ◌∷◌, drop, Option, Some, None, Result, Ok, Err, IfOk, IfErr, refl, sym, ap, subst, arith}
use Rattle.std.specs.Str.{bytes_eq}
use Rattle.std.proofs.lemmas.Bool.{cases_Bool, false≢true}
use Rattle.graph_model.specs.Records.{number_end}
use Rattle.request_text.specs.Words.{is_decimal, number_of}
use Rattle.clap.specs.Lexer.{long_of, short_of}
use Rattle.clap.specs.Walk.{first_of, rows_of}
use Rattle.clap.specs.Simple.{App, matches_of}
use Rattle.clap.specs.Faults.{fault_of}
use Rattle.clap.specs.Matches.{first_value}
use Rattle.clap.specs.declared.parser.matches.Found.{Found}
use Rattle.clap.proofs.WalkLemmas.{first_value-rows}
use Rattle.command_words.specs.Commands.{EndsWords, GivesOption, AsksFor}
use Rattle.command_words.specs.CommandLines.{plain_app, epoch_app, epoch_word, epoch_of}
use Rattle.command_words.specs.declared.command.WordsRefusal.{WordsRefusal}
use Rattle.command_words.specs.declared.command.WordsRefusal.TheVariants.{Usage}
use Rattle.command_words.proofs.Turns.{at}
use Rattle.command_words.proofs.Walks.{Given, finds_none, bare_refuses, bare_takes, dated_refuses, dated_takes, dated_takes_none}

pub plain_ended : (a : App) (words : List (List ℕ)) → a ≡ plain_app → fault_of a words ≡ [] → EndsWords (drop 1 words)
plain_ended a words is none = bare_refuses (drop 1 words) (ap (λ b. fault_of b words) (sym is) ∙ none)

pub plain_usage : (a : App) (words : List (List ℕ)) → a ≡ plain_app → (fault_of a words ≡ [] → ⊥) → EndsWords (drop 1 words) → ⊥
plain_usage a words is some ends = some (ap (λ b. fault_of b words) is ∙ bare_takes (drop 1 words) ends)

-- ---- a number is no flag

below_45 : (b : ℕ) → nat_le 48 b ≡ true → (b == 45) ≡ false
below_45 b h = grind arith

digits_first : (b : ℕ) (bs : List ℕ) → is_decimal (b ∷ bs) ≡ true → (b == 45) ≡ false
digits_first b [] h = grind arith
digits_first b (c ∷ bs) h = grind arith

-- a number begins with no hyphen
pub is_plain : (v : List ℕ) → is_decimal v ≡ true → (bytes_eq v (45 ∷ 45 ∷ []) ≡ false) × (long_of v ≡ None) × (short_of v ≡ None)
is_plain [] h = absurd (false≢true h)
is_plain (b ∷ bs) h = let other = digits_first b bs h in (rw other refl, rw other refl, rw other refl)

pub decimal_of : (most : ℕ) (v : List ℕ) (e : ℕ) → number_of most v ≡ Some e → is_decimal v ≡ true
decimal_of most v e h =
    elim (cases_Bool (is_decimal v)) [
      | inl same ↦ same
      | inr other ↦ let none : number_of most v ≡ None = rw other refl in cc (sym none ∙ h)
    ]

-- ---- the value of `--at`

-- what was found, where clap took the words
found_is : (a : App) (f : Found) (words : List (List ℕ)) → a ≡ epoch_app → rows_of f ≡ matches_of a words → first_value f at ≡ first_of at (matches_of epoch_app words)
found_is a f words is rows = first_value-rows f at ∙ ap (first_of at) (rows ∙ ap (λ b. matches_of b words) is)

given_found : (a : App) (f : Found) (words : List (List ℕ)) → a ≡ epoch_app → fault_of a words ≡ [] → rows_of f ≡ matches_of a words → Given (first_value f at) (drop 1 words)
given_found a f words is none rows =
    let P : Option (List ℕ) → Type 0 = λ o. Given o (drop 1 words) in
    subst P (sym (found_is a f words is rows)) (dated_refuses (drop 1 words) (ap (λ b. fault_of b words) (sym is) ∙ none))

asked_word : (v : List ℕ) (words : List (List ℕ)) → GivesOption at v EndsWords words → (o : Option ℕ) → number_of (number_end - 1) v ≡ o → IfOk (epoch_word o) (λ asked. AsksFor asked words)
asked_word v words gives None h = tt
asked_word v words gives (Some e) h = (v, h, gives)

asked_given : (o : Option (List ℕ)) (words : List (List ℕ)) → Given o words → IfOk (epoch_of o) (λ asked. AsksFor asked words)
asked_given None words given = given
asked_given (Some v) words given = asked_word v words given (number_of (number_end - 1) v) refl

pub asks : (a : App) (f : Found) (words : List (List ℕ)) → a ≡ epoch_app → fault_of a words ≡ [] → rows_of f ≡ matches_of a words → IfOk (epoch_of (first_value f at)) (λ asked. AsksFor asked (drop 1 words))
asks a f words is none rows = asked_given (first_value f at) (drop 1 words) (given_found a f words is none rows)

-- words that ask for an epoch are taken, and tell it
pub takes_epoch : (words : List (List ℕ)) (e : ℕ) → AsksFor (Some e) (drop 1 words) → (fault_of epoch_app words ≡ []) × (epoch_of (first_of at (matches_of epoch_app words)) ≡ Ok (Some e))
takes_epoch words e (v, spelled, gives) =
    let plain = is_plain v (decimal_of (number_end - 1) v e spelled) in
    let taken = dated_takes v (drop 1 words) plain.0 plain.1 plain.2 gives in
    (taken.0, ap epoch_of taken.1 ∙ ap epoch_word spelled)

pub epoch_usage : (a : App) (words : List (List ℕ)) → a ≡ epoch_app → (fault_of a words ≡ [] → ⊥) → (asked : Option ℕ) → AsksFor asked (drop 1 words) → ⊥
epoch_usage a words is some None asks = some (ap (λ b. fault_of b words) is ∙ dated_takes_none (drop 1 words) asks)
epoch_usage a words is some (Some e) asks = some (ap (λ b. fault_of b words) is ∙ (takes_epoch words e asks).0)

-- a value that is no number of an epoch: the words ask for nothing
told : (a : App) (f : Found) (words : List (List ℕ)) → a ≡ epoch_app → rows_of f ≡ matches_of a words → (asked : Option ℕ) → AsksFor asked (drop 1 words)
    → (x : Option ℕ) × (epoch_of (first_value f at) ≡ Ok x)
told a f words is rows None asks = (None, ap epoch_of (found_is a f words is rows ∙ finds_none (drop 1 words) asks))
told a f words is rows (Some e) asks = (Some e, ap epoch_of (found_is a f words is rows) ∙ (takes_epoch words e asks).1)

only_ok : (words : List (List ℕ)) (r : Result (Option ℕ) WordsRefusal) → ((asked : Option ℕ) → AsksFor asked words → (x : Option ℕ) × (r ≡ Ok x))
    → IfErr r (λ refusal. refusal ≡ Usage → (asked : Option ℕ) → AsksFor asked words → ⊥)
only_ok words (Ok x) h = tt
only_ok words (Err refusal) h = λ same asked asks. let told = (h asked asks).1 in cc told

pub no_epoch : (a : App) (f : Found) (words : List (List ℕ)) → a ≡ epoch_app → rows_of f ≡ matches_of a words
    → IfErr (epoch_of (first_value f at)) (λ refusal. refusal ≡ Usage → (asked : Option ℕ) → AsksFor asked (drop 1 words) → ⊥)
no_epoch a f words is rows = only_ok (drop 1 words) (epoch_of (first_value f at)) (told a f words is rows)
