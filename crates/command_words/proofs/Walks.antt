-- What clap makes of the words behind a command: it takes exactly those that the table has, and finds the value of
-- `--at` that they give.
use Rattle.std.proofs.Common.{◌≡◌, ◌∙◌, ◌⊎◌, inl, inr, Bool, true, false, List, [], ◌∷◌, ◌++◌, length, Option, Some, None, refl, sym, ap, subst, fold}
use Rattle.std.specs.Prelude.{codes}
use Rattle.std.specs.Str.{bytes_eq}
use Rattle.clap.specs.Lexer.{long_of, short_of}
use Rattle.clap.specs.Walk.{Held, Row, Rule, Text, Waiting, Walk, idle, option, walk, walk_from, walked, settled, finished, nothing_held, has_row, values_or_missing, first_of, rows_after, reading_by}
use Rattle.clap.specs.Simple.{Shape, built}
use Rattle.clap.specs.Faults.{turn_fault, walk_fault, settle_fault, use_fault, action_fault, defaults_fault, check_fault, level_fault, built_fault}
use Rattle.clap.specs.Kinds.{Kinds, or_else, range_kinds}
use Rattle.clap.specs.declared.builder.action.ArgAction.TheVariants.{Set}
use Rattle.clap.specs.declared.builder.value_parser.ValueParser.TheVariants.{String}
use Rattle.clap.specs.declared.parser.matches.ValueSource.TheVariants.{CommandLine}
use Rattle.command_words.specs.CommandLines.{plain_app, epoch_app}
use Rattle.command_words.specs.Commands.{EndsWords, GivesOption}
use Rattle.command_words.proofs.WordForms.{form_of}
use Rattle.command_words.proofs.Turns.{Bad, bad-cons, bad-left, bad-right, bare, dated, at, between, wants, has, bare_trailing, bare_word, dated_trailing, dated_word, value_word}

-- ---- a level of a command line

-- the walk has a fault, or the argument that waits at its end does
abbrev pub Ends : Shape → Walk → List Text → Type 0
Ends s w words = Bad (walk_fault s [] w words) ⊎ Bad (settle_fault s.rules s.args_override_self (fold (walked s.rules []) w words).held)

pub level_bad : (s : Shape) (words : List Text) (inside : Bool) (below : Kinds) → Ends s (walk_from nothing_held) words → Bad (level_fault s [] nothing_held words inside below)
level_bad s words inside below ends =
    let end : Held = (walk s.rules [] nothing_held words).held in
    let last : Kinds = or_else (defaults_fault (settled s.rules end).rows s.rules) (check_fault s (finished s.rules end) inside) in
    let waiting : Kinds = settle_fault s.rules s.args_override_self end in
    let walking : Kinds = walk_fault s [] (walk_from nothing_held) words in
    elim ends [
      | inl h ↦ bad-left walking (or_else below (or_else waiting last)) h
      | inr h ↦ bad-right walking (or_else below (or_else waiting last)) (bad-right below (or_else waiting last) (bad-left waiting last h))
    ]

-- the first word is refused
pub ends_here : (s : Shape) (w : Walk) (x : Text) (words : List Text) → Bad (turn_fault s [] w x) → Ends s w (x ∷ words)
unfolding walk_fault
ends_here s w x words h = inl (bad-left (turn_fault s [] w x) (walk_fault s [] (walked s.rules [] w x) words) h)

-- the words behind it are
pub ends_later : (s : Shape) (w w' : Walk) (x : Text) (words : List Text) → walked s.rules [] w x ≡ w' → Ends s w' words → Ends s w (x ∷ words)
unfolding walk_fault
ends_later s w w' x words e ends =
    let P : Walk → Type 0 = λ v. Ends s v words in
    elim (subst P (sym e) ends) [
      | inl h ↦ inl (bad-right (turn_fault s [] w x) (walk_fault s [] (walked s.rules [] w x) words) h)
      | inr h ↦ inr h
    ]

-- ---- no options

bare_dashes : (x : Text) (words : List Text) → Ends bare (between [] None idle true) (x ∷ words)
bare_dashes x words = ends_here bare (between [] None idle true) x words (bare_trailing [] None idle x)

bare_reads : (words : List Text) → EndsWords words ⊎ Ends bare (between [] None idle false) words
unfolding walked
bare_reads [] = inl (inl refl)
bare_reads (x ∷ words) =
    elim (bare_word x (form_of x)) [
      | inl e ↦ elim words as (λ ws. EndsWords (x ∷ ws) ⊎ Ends bare (between [] None idle false) (x ∷ ws)) [
        | [] ↦ inl (inr (ap (λ y. y ∷ []) e))
        | y ∷ more ↦ inr (ends_later bare (between [] None idle false) (between [] None idle true) x (y ∷ more) (ap (λ z. walked bare.rules [] (between [] None idle false) z) e ∙ refl) (bare_dashes y more))
      ]
      | inr h ↦ inr (ends_here bare (between [] None idle false) x words h)
    ]

abbrev bare_level : List Text → Kinds
bare_level words = built_fault (built plain_app) nothing_held words

pub bare_refuses : (words : List Text) → (bare_level words ≡ []) → EndsWords words
bare_refuses words none =
    elim (bare_reads words) [
      | inl h ↦ h
      | inr ends ↦ absurd (level_bad bare words _ _ ends none)
    ]

pub bare_takes : (words : List Text) → EndsWords words → bare_level words ≡ []
unfolding walk_fault walked defaults_fault
bare_takes words (inl e) = rw e refl
bare_takes words (inr e) = rw e refl

-- ---- the option given a second time

abbrev at_rule : Rule
at_rule = record {
  id = at;
  long = Some at;
  aliases = [];
  short = None;
  short_aliases = [];
  index = None;
  action = Some Set;
  range = Some (record { start_inclusive = 1; end_inclusive = 1 });
  value_names = 0;
  defaults = [];
  missing = [];
  trailing_var_arg = false;
  parser = Some String;
  ignore_case = false;
  required = false;
  is_simple = true;
  is_free = true;
}

rules_are : dated.rules ≡ at_rule ∷ []
rules_are = refl

-- what is used again is refused, whatever its values
again : (vs : List Text) (rows : List Row) → has_row at rows ≡ true → Bad (use_fault false at_rule vs rows)
again vs rows there =
    bad-right (range_kinds 1 1 (length vs)) (action_fault Set false at_rule (values_or_missing at_rule vs) rows)
    (rw there (bad-cons _ _))

again_trailing : (rows : List Row) (vs : List Text) (w : Waiting) → has_row at rows ≡ true → (words : List Text) → Ends dated (between rows (Some (at, vs)) w true) words
again_trailing rows vs w there [] = inr (again vs rows there)
again_trailing rows vs w there (x ∷ words) =
    ends_here dated (between rows (Some (at, vs)) w true) x words (dated_trailing rows (Some (at, vs)) w x)

again_idle : (rows : List Row) (v : Text) → has_row at rows ≡ true → (words : List Text) → Ends dated (has rows v false) words
unfolding walked
again_idle rows v there [] = inr (again (v ∷ []) rows there)
again_idle rows v there (x ∷ words) =
    let here : Bad (turn_fault dated [] (has rows v false) x) → Ends dated (has rows v false) (x ∷ words) = ends_here dated (has rows v false) x words in
    elim (dated_word rows (Some (at, v ∷ [])) x (form_of x)) [
      | inl e ↦ ends_later dated (has rows v false) (has rows v true) x words (ap (λ z. walked dated.rules [] (has rows v false) z) e) (again_trailing rows (v ∷ []) idle there words)
      | inr m ↦ elim m [
        | inl e ↦ here (rw (e, there) (bad-cons _ _))
        | inr n ↦ elim n [
          | inl p ↦ here (rw (p.1, there) (bad-cons _ _))
          | inr bad ↦ here bad
        ]
      ]
    ]

again_wanting : (rows : List Row) → has_row at rows ≡ true → (words : List Text) → Ends dated (wants rows false) words
unfolding walked
again_wanting rows there [] = inr (again [] rows there)
again_wanting rows there (x ∷ words) =
    elim (value_word rows x (form_of x)) [
      | inl e ↦ ends_later dated (wants rows false) (wants rows true) x words (ap (λ z. walked dated.rules [] (wants rows false) z) e) (again_trailing rows [] (option at) there words)
      | inr m ↦ elim m [
        | inl bad ↦ ends_here dated (wants rows false) x words bad
        | inr e ↦ ends_later dated (wants rows false) (has rows x false) x words e (again_idle rows x there words)
      ]
    ]

-- ---- the option given once

-- what was found of the option, given this value
abbrev found : Text → List Row
found v = record { id = at; values = v ∷ []; count = None; source = Some CommandLine; reading = reading_by at_rule } ∷ []

-- behind a value nothing stands but `--`
behind_has : (v : Text) (words : List Text) → EndsWords words ⊎ Ends dated (has [] v false) words
unfolding walked
behind_has v [] = inl (inl refl)
behind_has v (x ∷ words) =
    let here : Bad (turn_fault dated [] (has [] v false) x) → Ends dated (has [] v false) (x ∷ words) = ends_here dated (has [] v false) x words in
    elim (dated_word [] (Some (at, v ∷ [])) x (form_of x)) [
      | inl e ↦ elim words as (λ ws. EndsWords (x ∷ ws) ⊎ Ends dated (has [] v false) (x ∷ ws)) [
        | [] ↦ inl (inr (ap (λ y. y ∷ []) e))
        | y ∷ more ↦ inr (ends_later dated (has [] v false) (has [] v true) x (y ∷ more) (ap (λ z. walked dated.rules [] (has [] v false) z) e)
            (ends_here dated (has [] v true) y more (dated_trailing [] (Some (at, v ∷ [])) idle y)))
      ]
      | inr m ↦ elim m [
        | inl e ↦ inr (ends_later dated (has [] v false) (wants (found v) false) x words (ap (λ z. walked dated.rules [] (has [] v false) z) e) (again_wanting (found v) refl words))
        | inr n ↦ elim n [
          | inl p ↦ inr (here (rw (p.1) (bad-cons _ _)))
          | inr bad ↦ inr (here bad)
        ]
      ]
    ]

behind_found : (v : Text) (words : List Text) → EndsWords words ⊎ Ends dated (between (found v) None idle false) words
unfolding walked
behind_found v [] = inl (inl refl)
behind_found v (x ∷ words) =
    let w : Walk = between (found v) None idle false in
    let here : Bad (turn_fault dated [] w x) → Ends dated w (x ∷ words) = ends_here dated w x words in
    elim (dated_word (found v) None x (form_of x)) [
      | inl e ↦ elim words as (λ ws. EndsWords (x ∷ ws) ⊎ Ends dated w (x ∷ ws)) [
        | [] ↦ inl (inr (ap (λ y. y ∷ []) e))
        | y ∷ more ↦ inr (ends_later dated w (between (found v) None idle true) x (y ∷ more) (ap (λ z. walked dated.rules [] w z) e)
            (ends_here dated (between (found v) None idle true) y more (dated_trailing (found v) None idle y)))
      ]
      | inr m ↦ elim m [
        | inl e ↦ inr (ends_later dated w (wants (found v) false) x words (ap (λ z. walked dated.rules [] w z) e) (again_wanting (found v) refl words))
        | inr n ↦ elim n [
          | inl p ↦ inr (here (rw (p.1) (bad-cons _ _)))
          | inr bad ↦ inr (here bad)
        ]
      ]
    ]

-- ---- what is found

-- the value of the option at the end of a walk
abbrev pub finds : Walk → List Text → Option Text
finds w words = first_of at (finished dated.rules (fold (walked dated.rules []) w words).held)

abbrev first : Walk
first = between [] None idle false

-- the words give this value, or none
abbrev pub Given : Option Text → List Text → Type 0
Given None words = EndsWords words
Given (Some v) words = GivesOption at v EndsWords words

finds_later : (w w' : Walk) (x : Text) (words : List Text) → walked dated.rules [] w x ≡ w' → finds w (x ∷ words) ≡ finds w' words
finds_later w w' x words e = ap (λ v. finds v words) e

finds_has : (v : Text) (words : List Text) → EndsWords words → finds (has [] v false) words ≡ Some v
unfolding walked
finds_has v words (inl e) = rw e refl
finds_has v words (inr e) = rw e refl

finds_found : (v : Text) (words : List Text) → EndsWords words → finds (between (found v) None idle false) words ≡ Some v
unfolding walked
finds_found v words (inl e) = rw e refl
finds_found v words (inr e) = rw e refl

pub finds_none : (words : List Text) → EndsWords words → finds first words ≡ None
unfolding walked
finds_none words (inl e) = rw e refl
finds_none words (inr e) = rw e refl

as_given : (words : List Text) (o : Option Text) → finds first words ≡ o → Given o words → Given (finds first words) words
as_given words o e h = let P : Option Text → Type 0 = λ p. Given p words in subst P (sym e) h

after_alone : (x : Text) → x ≡ codes "--at" → walked dated.rules [] first x ≡ wants [] false
unfolding walked
after_alone x e = ap (λ z. walked dated.rules [] first z) e

after_with_value : (x v : Text) → x ≡ codes "--at=" ++ v → walked dated.rules [] first x ≡ between (found v) None idle false
unfolding walked
after_with_value x v e = ap (λ z. walked dated.rules [] first z) e

after_dashes : (x : Text) → x ≡ 45 ∷ 45 ∷ [] → walked dated.rules [] first x ≡ between [] None idle true
unfolding walked
after_dashes x e = ap (λ z. walked dated.rules [] first z) e

wants_dashes : (x : Text) → x ≡ 45 ∷ 45 ∷ [] → walked dated.rules [] (wants [] false) x ≡ wants [] true
unfolding walked
wants_dashes x e = ap (λ z. walked dated.rules [] (wants [] false) z) e

wants_trailing : (words : List Text) → Ends dated (wants [] true) words
wants_trailing [] = inr (bad-cons _ _)
wants_trailing (x ∷ words) = ends_here dated (wants [] true) x words (dated_trailing [] (Some (at, [])) (option at) x)

-- the words behind `--at`
reads_alone : (x : Text) → x ≡ codes "--at" → (words : List Text) → Given (finds first (x ∷ words)) (x ∷ words) ⊎ Ends dated first (x ∷ words)
reads_alone x e [] = inr (ends_later dated first (wants [] false) x [] (after_alone x e) (inr (bad-cons _ _)))
reads_alone x e (v ∷ words) =
    let later : Ends dated (wants [] false) (v ∷ words) → Ends dated first (x ∷ v ∷ words) = ends_later dated first (wants [] false) x (v ∷ words) (after_alone x e) in
    elim (value_word [] v (form_of v)) [
      | inl d ↦ inr (later (ends_later dated (wants [] false) (wants [] true) v words (wants_dashes v d) (wants_trailing words)))
      | inr m ↦ elim m [
        | inl bad ↦ inr (later (ends_here dated (wants [] false) v words bad))
        | inr is ↦ elim (behind_has v words) [
          | inl ends ↦
              inl (as_given (x ∷ v ∷ words) (Some v)
              (finds_later first (wants [] false) x (v ∷ words) (after_alone x e) ∙ finds_later (wants [] false) (has [] v false) v words is ∙ finds_has v words ends)
              (words, ends, inl (ap (λ z. z ∷ v ∷ words) e)))
          | inr ends ↦ inr (later (ends_later dated (wants [] false) (has [] v false) v words is ends))
        ]
      ]
    ]

-- the words behind `--at=` with a value
reads_with_value : (x v : Text) → x ≡ codes "--at=" ++ v → (words : List Text) → Given (finds first (x ∷ words)) (x ∷ words) ⊎ Ends dated first (x ∷ words)
reads_with_value x v e words =
    let w : Walk = between (found v) None idle false in
    elim (behind_found v words) [
      | inl ends ↦
          inl (as_given (x ∷ words) (Some v) (finds_later first w x words (after_with_value x v e) ∙ finds_found v words ends)
          (words, ends, inr (ap (λ z. z ∷ words) e)))
      | inr ends ↦ inr (ends_later dated first w x words (after_with_value x v e) ends)
    ]

reads_dashes : (x : Text) → x ≡ 45 ∷ 45 ∷ [] → (words : List Text) → Given (finds first (x ∷ words)) (x ∷ words) ⊎ Ends dated first (x ∷ words)
reads_dashes x e [] = inl (as_given (x ∷ []) None (finds_none (x ∷ []) (inr (ap (λ z. z ∷ []) e))) (inr (ap (λ z. z ∷ []) e)))
reads_dashes x e (y ∷ words) =
    inr (ends_later dated first (between [] None idle true) x (y ∷ words) (after_dashes x e)
    (ends_here dated (between [] None idle true) y words (dated_trailing [] None idle y)))

dated_reads : (words : List Text) → Given (finds first words) words ⊎ Ends dated first words
dated_reads [] = inl (inl refl)
dated_reads (x ∷ words) =
    elim (dated_word [] None x (form_of x)) [
      | inl e ↦ reads_dashes x e words
      | inr m ↦ elim m [
        | inl e ↦ reads_alone x e words
        | inr n ↦ elim n [
          | inl p ↦ reads_with_value x p.0 p.1 words
          | inr bad ↦ inr (ends_here dated first x words bad)
        ]
      ]
    ]

abbrev pub dated_level : List Text → Kinds
dated_level words = built_fault (built epoch_app) nothing_held words

pub dated_refuses : (words : List Text) → (dated_level words ≡ []) → Given (first_of at (rows_after dated.rules [] words)) words
dated_refuses words none =
    elim (dated_reads words) [
      | inl h ↦ h
      | inr ends ↦ absurd (level_bad dated words _ _ ends none)
    ]

pub dated_takes_none : (words : List Text) → EndsWords words → dated_level words ≡ []
unfolding walk_fault walked defaults_fault
dated_takes_none words (inl e) = rw e refl
dated_takes_none words (inr e) = rw e refl

-- a value that is no flag is found, in both ways to give it
pub dated_takes : (v : Text) (words : List Text) → bytes_eq v (45 ∷ 45 ∷ []) ≡ false → long_of v ≡ None → short_of v ≡ None → GivesOption at v EndsWords words
    → (dated_level words ≡ []) × (first_of at (rows_after dated.rules [] words) ≡ Some v)
unfolding walk_fault walked defaults_fault
dated_takes v words apart long short (ends, inl e, inl is) = (rw (is, e, apart, long, short) refl, rw (is, e, apart, long, short) refl)
dated_takes v words apart long short (ends, inl e, inr is) = (rw (is, e) refl, rw (is, e) refl)
dated_takes v words apart long short (ends, inr e, inl is) = (rw (is, e, apart, long, short) refl, rw (is, e, apart, long, short) refl)
dated_takes v words apart long short (ends, inr e, inr is) = (rw (is, e) refl, rw (is, e) refl)
