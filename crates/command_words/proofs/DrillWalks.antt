-- What clap makes of the words behind `drill`: it takes exactly those that give at most three positional words and the option
-- at most once, and finds them.
use Rattle.std.proofs.Common.{◌≡◌, ◌∙◌, ◌⊎◌, inl, inr, Bool, true, false, List, [], ◌∷◌, ◌++◌, Option, Some, None, refl, sym, ap, subst, fold, append_assoc, append-nil}
use Rattle.std.specs.Prelude.{codes}
use Rattle.clap.specs.Walk.{Row, Text, Waiting, Walk, idle, option, walked, finished, nothing_held, has_row, first_of, used}
use Rattle.clap.specs.Simple.{built}
use Rattle.clap.specs.Faults.{built_fault}
use Rattle.clap.specs.Kinds.{Kinds}
use Rattle.command_words.specs.CommandLines.{drill_app}
use Rattle.command_words.specs.Commands.{ArePositional, GivesDrill}
use Rattle.command_words.proofs.Walks.{Ends, level_bad, ends_here, ends_later}
use Rattle.command_words.proofs.CrewForms.{Workers, flag, flag_value, form_of}
use Rattle.command_words.proofs.DrillRows.{drilled, Part, Crew, name_of, rule, Seen, Nothing, words_of, value_of, gives_crew, now, Stands, stands_nothing, stands_rows, stands_waiting, Doomed, doomed_again, doomed_unvalued, finished_is}
use Rattle.command_words.proofs.DrillTurns.{standing, wants, Next, next_of, met_dashes, met_flag, met_value, met_loose, met_refusal, met, after_dashes, after_flag, value_again, after_value, wanted_dashes, wanted_value, wanted_refusal, wanted, wanted_dashes_leave, doomed_flag, doomed_value, doomed_loose, doomed_trailing}

-- ---- what is found

-- the value of a part at the end of a walk
abbrev pub finds : Part → Walk → List Text → Option Text
finds q w words = first_of (name_of q) (finished drilled.rules (fold (walked drilled.rules []) w words).held)

pub finds_end : (s : Seen) (g : Option Text) (rows : List Row) (p : Option (Text × List Text)) (w : Waiting) (trailing : Bool) → Stands s g rows p → (q : Part) → finds q (standing s rows p w trailing) [] ≡ value_of s g q
finds_end s g rows p w trailing stands q = ap (first_of (name_of q)) (finished_is rows p) ∙ stands.holds.finds q

-- A walk ends with these further positional words, and finds what all words gave.
pub record Read (s : Seen) (g : Option Text) (positional : List Text) (w : Walk) (words : List Text) : Type 0 where
  pub seen : Seen
  pub all : words_of seen ≡ words_of s ++ positional
  pub found : (q : Part) → finds q w words ≡ value_of seen g q

read_end : (s : Seen) (g : Option Text) (rows : List Row) (p : Option (Text × List Text)) (trailing : Bool) → Stands s g rows p → Read s g [] (standing s rows p idle trailing) []
read_end s g rows p trailing stands = record {
  seen = s;
  all = sym (append-nil (words_of s));
  found = finds_end s g rows p idle trailing stands;
}

-- a word that is no positional one
read_past : (s : Seen) (g : Option Text) (positional : List Text) (w w' : Walk) (x : Text) (words : List Text) → walked drilled.rules [] w x ≡ w' → Read s g positional w' words → Read s g positional w (x ∷ words)
read_past s g positional w w' x words step read = record {
  seen = read.seen;
  all = read.all;
  found = λ q. ap (λ z. finds q z words) step ∙ read.found q;
}

-- a positional word
read_later : (s t : Seen) (g : Option Text) (positional : List Text) (w w' : Walk) (x : Text) (words : List Text) → words_of t ≡ words_of s ++ x ∷ [] → walked drilled.rules [] w x ≡ w' → Read t g positional w' words → Read s g (x ∷ positional) w (x ∷ words)
read_later s t g positional w w' x words more step read = record {
  seen = read.seen;
  all = read.all ∙ ap (λ xs. xs ++ positional) more ∙ append_assoc (words_of s) (x ∷ []) positional;
  found = λ q. ap (λ z. finds q z words) step ∙ read.found q;
}

pub stands_next : (s : Seen) (g : Option Text) (rows : List Row) (p : Option (Text × List Text)) (x : Text) (next : Next s x) → Stands s g rows p → Stands next.seen g (now rows p) (Some (name_of next.part, x ∷ []))
stands_next s g rows p x next stands = stands_waiting s g next.part x next.seen g rows p (next.gives g) stands

-- ---- behind `--`

trail : (words : List Text) (s : Seen) (g : Option Text) (rows : List Row) (p : Option (Text × List Text)) → Stands s g rows p
    → Read s g words (standing s rows p idle true) words ⊎ Ends drilled (standing s rows p idle true) words
trail [] s g rows p stands = inl (read_end s g rows p true stands)
trail (x ∷ words) s g rows p stands =
    let w : Walk = standing s rows p idle true in
    elim (next_of s x) [
      | inl next ↦
          let w' : Walk = standing next.seen (now rows p) (Some (name_of next.part, x ∷ [])) idle true in
          elim (trail words next.seen g (now rows p) (Some (name_of next.part, x ∷ [])) (stands_next s g rows p x next stands)) [
            | inl read ↦ inl (read_later s next.seen g words w w' x words next.words (next.trailing rows p) read)
            | inr ends ↦ inr (ends_later drilled w w' x words (next.trailing rows p) ends)
          ]
      | inr none ↦ inr (ends_here drilled w x words (none.trailing rows p idle))
    ]

-- ---- what waits is refused

doomed_behind : (s : Seen) (rows : List Row) (p : Option (Text × List Text)) (w : Waiting) → Doomed rows p → (words : List Text) → Ends drilled (standing s rows p w true) words
doomed_behind s rows p w doomed [] = inr doomed
doomed_behind s rows p w doomed (x ∷ words) = ends_here drilled (standing s rows p w true) x words (doomed_trailing s rows p w x doomed)

dooms : (s : Seen) (rows : List Row) (p : Option (Text × List Text)) → Doomed rows p → (words : List Text) → Ends drilled (standing s rows p idle false) words
dooms s rows p doomed [] = inr doomed
dooms s rows p doomed (x ∷ words) =
    let w : Walk = standing s rows p idle false in
    elim (met s rows p x (form_of x)) [
      | met_dashes e ↦ ends_later drilled w (standing s rows p idle true) x words (after_dashes s rows p x e) (doomed_behind s rows p idle doomed words)
      | met_flag e ↦ ends_here drilled w x words (doomed_flag s rows p x e doomed)
      | met_value v e ↦ ends_here drilled w x words (doomed_value s rows p v x e doomed)
      | met_loose loose ↦ ends_here drilled w x words (doomed_loose s rows p x loose doomed)
      | met_refusal bad ↦ ends_here drilled w x words bad
    ]

-- no value behind the option
unvalued : (s : Seen) (rows : List Row) (x : Text) (words : List Text) → x ≡ 45 ∷ 45 ∷ [] → Ends drilled (wants s rows false) (x ∷ words)
unvalued s rows x words e =
    ends_later drilled (wants s rows false) (wants s rows true) x words (wanted_dashes_leave s rows x e)
    (doomed_behind s rows (Some (codes "workers", [])) (option (codes "workers")) (doomed_unvalued rows) words)

-- the option a second time
wants_again : (s : Seen) (rows : List Row) → has_row (codes "workers") rows ≡ true → (words : List Text) → Ends drilled (wants s rows false) words
wants_again s rows there [] = inr (doomed_unvalued rows)
wants_again s rows there (x ∷ words) =
    elim (wanted s rows x (form_of x)) [
      | wanted_dashes e ↦ unvalued s rows x words e
      | wanted_value is ↦ ends_later drilled (wants s rows false) (standing s rows (Some (codes "workers", x ∷ [])) idle false) x words is (dooms s rows (Some (codes "workers", x ∷ [])) (doomed_again x rows there) words)
      | wanted_refusal bad ↦ ends_here drilled (wants s rows false) x words bad
    ]

-- ---- behind the option

-- the words are positional, and they are found
abbrev ReadsBehind : Seen → Text → Walk → List Text → Type 0
ReadsBehind s v w words = (positional : List Text) × ArePositional positional words × Read s (Some v) positional w words

pub positional_later : (x : Text) (positional words : List Text) → ArePositional positional words → ArePositional (x ∷ positional) (x ∷ words)
positional_later x positional words (inl is) = inl (ap (λ z. x ∷ z) is)
positional_later x positional words (inr (before, after, are, is)) = inr (x ∷ before, after, ap (λ z. x ∷ z) are, ap (λ z. x ∷ z) is)

pub positional_dashes : (x : Text) (words : List Text) → x ≡ 45 ∷ 45 ∷ [] → ArePositional words (x ∷ words)
positional_dashes x words e = inr ([], words, refl, ap (λ z. z ∷ words) e)

reads_behind : (words : List Text) (s : Seen) (v : Text) (rows : List Row) (p : Option (Text × List Text)) → Stands s (Some v) rows p
    → ReadsBehind s v (standing s rows p idle false) words ⊎ Ends drilled (standing s rows p idle false) words
reads_behind [] s v rows p stands = inl ([], inl refl, read_end s (Some v) rows p false stands)
reads_behind (x ∷ words) s v rows p stands =
    let w : Walk = standing s rows p idle false in
    elim (met s rows p x (form_of x)) [
      | met_dashes e ↦ elim (trail words s (Some v) rows p stands) [
        | inl read ↦ inl (words, positional_dashes x words e, read_past s (Some v) words w (standing s rows p idle true) x words (after_dashes s rows p x e) read)
        | inr ends ↦ inr (ends_later drilled w (standing s rows p idle true) x words (after_dashes s rows p x e) ends)
      ]
      | met_flag e ↦ inr (ends_later drilled w (wants s (now rows p) false) x words (after_flag s rows p x e) (wants_again s (now rows p) (stands.holds.has Crew) words))
      | met_value u e ↦ inr (ends_here drilled w x words (value_again s rows p u x e stands.settles (stands.holds.has Crew)))
      | met_loose loose ↦ elim (next_of s x) [
        | inl next ↦
            let w' : Walk = standing next.seen (now rows p) (Some (name_of next.part, x ∷ [])) idle false in
            elim (reads_behind words next.seen v (now rows p) (Some (name_of next.part, x ∷ [])) (stands_next s (Some v) rows p x next stands)) [
              | inl read ↦ inl (x ∷ read.0, positional_later x read.0 words read.1, read_later s next.seen (Some v) read.0 w w' x words next.words (next.loose rows p loose) read.2)
              | inr ends ↦ inr (ends_later drilled w w' x words (next.loose rows p loose) ends)
            ]
        | inr none ↦ inr (ends_here drilled w x words (none.loose rows p loose))
      ]
      | met_refusal bad ↦ inr (ends_here drilled w x words bad)
    ]

-- ---- all words

-- the words are positional, with the option or without it, and they are found
abbrev Reads : Seen → Walk → List Text → Type 0
Reads s w words = (given : Option Text) × (positional : List Text) × GivesDrill given positional words × Read s given positional w words

pub given_later : (given : Option Text) (x : Text) (positional words : List Text) → GivesDrill given positional words → GivesDrill given (x ∷ positional) (x ∷ words)
given_later None x positional words gives = positional_later x positional words gives
given_later (Some v) x positional words (before, after, rest, are, is, there) = (x ∷ before, after, rest, ap (λ z. x ∷ z) are, ap (λ z. x ∷ z) is, there)

-- the option in two words
reads_flag : (s : Seen) (rows : List Row) (p : Option (Text × List Text)) (x : Text) (words : List Text) → x ≡ flag Workers → Stands s None rows p
    → Reads s (standing s rows p idle false) (x ∷ words) ⊎ Ends drilled (standing s rows p idle false) (x ∷ words)
reads_flag s rows p x [] e stands = inr (ends_later drilled (standing s rows p idle false) (wants s (now rows p) false) x [] (after_flag s rows p x e) (inr (doomed_unvalued (now rows p))))
reads_flag s rows p x (v ∷ words) e stands =
    let w : Walk = standing s rows p idle false in
    let waits : Walk = wants s (now rows p) false in
    let w' : Walk = standing s (now rows p) (Some (codes "workers", v ∷ [])) idle false in
    elim (wanted s (now rows p) v (form_of v)) [
      | wanted_dashes d ↦ inr (ends_later drilled w waits x (v ∷ words) (after_flag s rows p x e) (unvalued s (now rows p) v words d))
      | wanted_value is ↦ elim (reads_behind words s v (now rows p) (Some (codes "workers", v ∷ [])) (stands_waiting s None Crew v s (Some v) rows p (gives_crew s v) stands)) [
        | inl read ↦ inl (
          Some v,
          read.0,
          ([], read.0, x ∷ v ∷ words, refl, refl, (words, read.1, inl (ap (λ z. z ∷ v ∷ words) e))),
          read_past s (Some v) read.0 w waits x (v ∷ words) (after_flag s rows p x e) (read_past s (Some v) read.0 waits w' v words is read.2),
        )
        | inr ends ↦ inr (ends_later drilled w waits x (v ∷ words) (after_flag s rows p x e) (ends_later drilled waits w' v words is ends))
      ]
      | wanted_refusal bad ↦ inr (ends_later drilled w waits x (v ∷ words) (after_flag s rows p x e) (ends_here drilled waits v words bad))
    ]

-- the option in one word
reads_value : (s : Seen) (rows : List Row) (p : Option (Text × List Text)) (v x : Text) (words : List Text) → x ≡ flag_value Workers v → Stands s None rows p
    → Reads s (standing s rows p idle false) (x ∷ words) ⊎ Ends drilled (standing s rows p idle false) (x ∷ words)
reads_value s rows p v x words e stands =
    let w : Walk = standing s rows p idle false in
    let w' : Walk = standing s (used (rule Crew) (v ∷ []) (now rows p)) None idle false in
    elim (reads_behind words s v (used (rule Crew) (v ∷ []) (now rows p)) None (stands_rows s None Crew v s (Some v) rows p (gives_crew s v) stands)) [
      | inl read ↦ inl (
        Some v,
        read.0,
        ([], read.0, x ∷ words, refl, refl, (words, read.1, inr (ap (λ z. z ∷ words) e))),
        read_past s (Some v) read.0 w w' x words (after_value s rows p v x e) read.2,
      )
      | inr ends ↦ inr (ends_later drilled w w' x words (after_value s rows p v x e) ends)
    ]

reads : (words : List Text) (s : Seen) (rows : List Row) (p : Option (Text × List Text)) → Stands s None rows p
    → Reads s (standing s rows p idle false) words ⊎ Ends drilled (standing s rows p idle false) words
reads [] s rows p stands = inl (None, [], inl refl, read_end s None rows p false stands)
reads (x ∷ words) s rows p stands =
    let w : Walk = standing s rows p idle false in
    elim (met s rows p x (form_of x)) [
      | met_dashes e ↦ elim (trail words s None rows p stands) [
        | inl read ↦ inl (None, words, positional_dashes x words e, read_past s None words w (standing s rows p idle true) x words (after_dashes s rows p x e) read)
        | inr ends ↦ inr (ends_later drilled w (standing s rows p idle true) x words (after_dashes s rows p x e) ends)
      ]
      | met_flag e ↦ reads_flag s rows p x words e stands
      | met_value v e ↦ reads_value s rows p v x words e stands
      | met_loose loose ↦ elim (next_of s x) [
        | inl next ↦
            let w' : Walk = standing next.seen (now rows p) (Some (name_of next.part, x ∷ [])) idle false in
            elim (reads words next.seen (now rows p) (Some (name_of next.part, x ∷ [])) (stands_next s None rows p x next stands)) [
              | inl read ↦ inl (read.0, x ∷ read.1, given_later read.0 x read.1 words read.2, read_later s next.seen read.0 read.1 w w' x words next.words (next.loose rows p loose) read.3)
              | inr ends ↦ inr (ends_later drilled w w' x words (next.loose rows p loose) ends)
            ]
        | inr none ↦ inr (ends_here drilled w x words (none.loose rows p loose))
      ]
      | met_refusal bad ↦ inr (ends_here drilled w x words bad)
    ]

abbrev pub first : Walk
first = standing Nothing [] None idle false

abbrev pub drill_level : List Text → Kinds
drill_level words = built_fault (built drill_app) nothing_held words

-- The words are positional, with the option or without it, and the walk over all of them finds what they give.
pub record Found (words : List Text) : Type 0 where
  pub given : Option Text
  pub seen : Seen
  pub gives : GivesDrill given (words_of seen) words
  pub found : (q : Part) → finds q first words ≡ value_of seen given q

found_all : (words : List Text) → Reads Nothing first words → Found words
found_all words (given, positional, gives, read) =
    let P : List Text → Type 0 = λ xs. GivesDrill given xs words in
    record { given = given; seen = read.seen; gives = subst P (sym read.all) gives; found = read.found }

pub drill_refuses : (words : List Text) → (drill_level words ≡ []) → Found words
drill_refuses words none =
    elim (reads words Nothing [] None stands_nothing) [
      | inl h ↦ found_all words h
      | inr ends ↦ absurd (level_bad drilled words _ _ ends none)
    ]
