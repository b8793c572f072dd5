-- The words behind `drill` that the table has are taken, and what they give is found.
use Rattle.std.proofs.Common.{◌≡◌, ◌∙◌, ◌⊎◌, ◌||◌, inl, inr, Bool, true, false, List, [], ◌∷◌, ◌++◌, Option, Some, None, refl, sym, ap, subst, fold, append_assoc, append-nil}
use Rattle.std.specs.Prelude.{codes, slice_get}
use Rattle.clap.specs.Walk.{Row, Text, Walk, idle, walked, settled, with_default, has_row, used}
use Rattle.clap.specs.Simple.{built, entered}
use Rattle.clap.specs.Faults.{turn_fault, walk_fault, settle_fault, default_fault, defaults_fault, entered_fault}
use Rattle.clap.specs.Kinds.{or_else}
use Rattle.command_words.specs.CommandLines.{drill_app}
use Rattle.command_words.specs.Commands.{GivesOption, ArePositional, GivesDrill}
use Rattle.command_words.proofs.CrewForms.{Workers, flag, flag_value}
use Rattle.command_words.proofs.CrewWalks.{IsPlain}
use Rattle.command_words.proofs.DrillRows.{drilled, Part, Seed, Sessions, Rounds, Crew, name_of, rule, Seen, Nothing, words_of, value_of, gives_crew, now, Stands, stands_nothing, stands_rows, stands_waiting}
use Rattle.command_words.proofs.DrillTurns.{standing, wants, loose_plain, Next, next_of, dashes_fault, after_dashes, flag_fault, after_flag, value_fault, after_value, plain_value_fault, plain_value}
use Rattle.command_words.proofs.DrillWalks.{finds, finds_end, stands_next, first, drill_level}

-- The words are taken from here on, and what is found in the end is what these positional words and this option give.
pub record Taken (t : Seen) (g : Option Text) (w : Walk) (words : List Text) : Type 0 where
  pub walks : walk_fault drilled [] w words ≡ []
  pub settles : settle_fault drilled.rules false (fold (walked drilled.rules []) w words).held ≡ []
  pub found : (q : Part) → finds q w words ≡ value_of t g q

same_values : (s t : Seen) (g : Option Text) → words_of t ≡ words_of s ++ [] → (q : Part) → value_of s g q ≡ value_of t g q
same_values s t g e Seed = ap (λ xs. slice_get xs 0) (sym (e ∙ append-nil (words_of s)))
same_values s t g e Sessions = ap (λ xs. slice_get xs 1) (sym (e ∙ append-nil (words_of s)))
same_values s t g e Rounds = ap (λ xs. slice_get xs 2) (sym (e ∙ append-nil (words_of s)))
same_values s t g e Crew = refl

taken_end : (s t : Seen) (g : Option Text) (rows : List Row) (p : Option (Text × List Text)) (trailing : Bool) → words_of t ≡ words_of s ++ [] → Stands s g rows p → Taken t g (standing s rows p idle trailing) []
unfolding walk_fault
taken_end s t g rows p trailing e stands = record {
  walks = refl;
  settles = stands.settles;
  found = λ q. finds_end s g rows p idle trailing stands q ∙ same_values s t g e q;
}

taken_past : (t : Seen) (g : Option Text) (w w' : Walk) (x : Text) (words : List Text) → turn_fault drilled [] w x ≡ [] → walked drilled.rules [] w x ≡ w' → Taken t g w' words → Taken t g w (x ∷ words)
unfolding walk_fault
taken_past t g w w' x words fault step taken =
    let W : Walk → Type 0 = λ z. walk_fault drilled [] z words ≡ [] in
    let S : Walk → Type 0 = λ z. settle_fault drilled.rules false (fold (walked drilled.rules []) z words).held ≡ [] in
    record {
      walks = ap (λ ks. or_else ks (walk_fault drilled [] (walked drilled.rules [] w x) words)) fault ∙ subst W (sym step) taken.walks;
      settles = subst S (sym step) taken.settles;
      found = λ q. ap (λ z. finds q z words) step ∙ taken.found q;
    }

-- ---- positional words

takes_trail : (words : List Text) (s t : Seen) (g : Option Text) (rows : List Row) (p : Option (Text × List Text)) → Stands s g rows p → words_of t ≡ words_of s ++ words → Taken t g (standing s rows p idle true) words
takes_trail [] s t g rows p stands all = taken_end s t g rows p true all stands
takes_trail (x ∷ words) s t g rows p stands all =
    elim (next_of s x) [
      | inl next ↦
          let more : words_of t ≡ words_of next.seen ++ words = all ∙ sym (append_assoc (words_of s) (x ∷ []) words) ∙ ap (λ xs. xs ++ words) (sym next.words) in
          taken_past t g (standing s rows p idle true) (standing next.seen (now rows p) (Some (name_of next.part, x ∷ [])) idle true) x words
          (next.trailing_fault rows p idle ∙ stands.settles) (next.trailing rows p)
          (takes_trail words next.seen t g (now rows p) (Some (name_of next.part, x ∷ [])) (stands_next s g rows p x next stands) more)
      | inr none ↦ absurd (none.crowded t words all)
    ]

takes_dashes : (words : List Text) (s t : Seen) (g : Option Text) (rows : List Row) (p : Option (Text × List Text)) → Stands s g rows p → words_of t ≡ words_of s ++ words → Taken t g (standing s rows p idle false) (codes "--" ∷ words)
takes_dashes words s t g rows p stands all =
    taken_past t g (standing s rows p idle false) (standing s rows p idle true) (codes "--") words
    (dashes_fault s rows p) (after_dashes s rows p (codes "--") refl) (takes_trail words s t g rows p stands all)

abbrev pub ArePlain : List Text → Type 0
ArePlain [] = Unit {0}
ArePlain (x ∷ xs) = IsPlain x × ArePlain xs

-- a positional word, and then the rest
takes_word : (x : Text) (positional words : List Text) (s t : Seen) (g h : Option Text) (rows : List Row) (p : Option (Text × List Text)) → IsPlain x → Stands s g rows p → words_of t ≡ words_of s ++ x ∷ positional
    → ((next : Next s x) → Stands next.seen g (now rows p) (Some (name_of next.part, x ∷ [])) → words_of t ≡ words_of next.seen ++ positional → Taken t h (standing next.seen (now rows p) (Some (name_of next.part, x ∷ [])) idle false) words)
    → Taken t h (standing s rows p idle false) (x ∷ words)
takes_word x positional words s t g h rows p plain stands all rest =
    elim (next_of s x) [
      | inl next ↦
          let more : words_of t ≡ words_of next.seen ++ positional = all ∙ sym (append_assoc (words_of s) (x ∷ []) positional) ∙ ap (λ xs. xs ++ positional) (sym next.words) in
          taken_past t h (standing s rows p idle false) (standing next.seen (now rows p) (Some (name_of next.part, x ∷ [])) idle false) x words
          (next.loose_fault rows p (loose_plain plain) ∙ stands.settles) (next.loose rows p (loose_plain plain))
          (rest next (stands_next s g rows p x next stands) more)
      | inr none ↦ absurd (none.crowded t positional all)
    ]

-- positional words end, or their first one stands there
none_left : (words : List Text) → ArePositional [] words → (words ≡ []) ⊎ (words ≡ codes "--" ∷ [])
none_left words (inl is) = inl is
none_left words (inr ([], behind, are, is)) = inr (is ∙ ap (λ xs. codes "--" ∷ xs) (sym are))
none_left words (inr (x ∷ before, behind, are, is)) = absurd (cc are)

one_left : (x : Text) (positional words : List Text) → ArePositional (x ∷ positional) words → (words ≡ codes "--" ∷ x ∷ positional) ⊎ ((rest : List Text) × (words ≡ x ∷ rest) × ArePositional positional rest)
one_left x positional words (inl is) = inr (positional, is, inl refl)
one_left x positional words (inr ([], behind, are, is)) = inl (is ∙ ap (λ xs. codes "--" ∷ xs) (sym are))
one_left x positional words (inr (y ∷ before, behind, are, is)) =
    let same : x ≡ y = cc are in
    let others : positional ≡ before ++ behind = cc are in
    inr (before ++ codes "--" ∷ behind, is ∙ ap (λ z. z ∷ (before ++ codes "--" ∷ behind)) (sym same), inr (before, behind, others, refl))

takes_behind : (positional words : List Text) (s t : Seen) (g : Option Text) (rows : List Row) (p : Option (Text × List Text)) → ArePlain positional → Stands s g rows p → words_of t ≡ words_of s ++ positional → ArePositional positional words
    → Taken t g (standing s rows p idle false) words
takes_behind [] words s t g rows p plain stands all are =
    let P : List Text → Type 0 = λ ws. Taken t g (standing s rows p idle false) ws in
    elim (none_left words are) [
      | inl is ↦ subst P (sym is) (taken_end s t g rows p false all stands)
      | inr is ↦ subst P (sym is) (takes_dashes [] s t g rows p stands all)
    ]
takes_behind (x ∷ positional) words s t g rows p plain stands all are =
    let P : List Text → Type 0 = λ ws. Taken t g (standing s rows p idle false) ws in
    elim (one_left x positional words are) [
      | inl is ↦ subst P (sym is) (takes_dashes (x ∷ positional) s t g rows p stands all)
      | inr rest ↦
          subst P (sym rest.1)
          (takes_word x positional rest.0 s t g g rows p plain.0 stands all
          (λ next then more. takes_behind positional rest.0 next.seen t g (now rows p) (Some (name_of next.part, x ∷ [])) plain.1 then more rest.2))
    ]

-- ---- the option among them

takes_option : (behind words : List Text) (s t : Seen) (v : Text) (rows : List Row) (p : Option (Text × List Text)) → ArePlain behind → IsPlain v → Stands s None rows p → words_of t ≡ words_of s ++ behind → GivesOption (codes "workers") v (ArePositional behind) words
    → Taken t (Some v) (standing s rows p idle false) words
takes_option behind words s t v rows p plain plain_value_word stands all (rest, are, inl is) =
    let P : List Text → Type 0 = λ ws. Taken t (Some v) (standing s rows p idle false) ws in
    subst P (sym is)
    (taken_past t (Some v) (standing s rows p idle false) (wants s (now rows p) false) (flag Workers) (v ∷ rest)
    (flag_fault s rows p stands.settles) (after_flag s rows p (flag Workers) refl)
    (taken_past t (Some v) (wants s (now rows p) false) (standing s (now rows p) (Some (codes "workers", v ∷ [])) idle false) v rest
    (plain_value_fault s (now rows p) v plain_value_word) (plain_value s (now rows p) v plain_value_word)
    (takes_behind behind rest s t (Some v) (now rows p) (Some (codes "workers", v ∷ [])) plain (stands_waiting s None Crew v s (Some v) rows p (gives_crew s v) stands) all are)))
takes_option behind words s t v rows p plain plain_value_word stands all (rest, are, inr is) =
    let P : List Text → Type 0 = λ ws. Taken t (Some v) (standing s rows p idle false) ws in
    subst P (sym is)
    (taken_past t (Some v) (standing s rows p idle false) (standing s (used (rule Crew) (v ∷ []) (now rows p)) None idle false) (flag_value Workers v) rest
    (value_fault s rows p v stands.settles (stands.holds.has Crew)) (after_value s rows p v (flag_value Workers v) refl)
    (takes_behind behind rest s t (Some v) (used (rule Crew) (v ∷ []) (now rows p)) None plain (stands_rows s None Crew v s (Some v) rows p (gives_crew s v) stands) all are))

takes_among : (before behind rest : List Text) (s t : Seen) (v : Text) (rows : List Row) (p : Option (Text × List Text)) → ArePlain (before ++ behind) → IsPlain v → Stands s None rows p → words_of t ≡ words_of s ++ (before ++ behind) → GivesOption (codes "workers") v (ArePositional behind) rest
    → Taken t (Some v) (standing s rows p idle false) (before ++ rest)
takes_among [] behind rest s t v rows p plain plain_word stands all gives = takes_option behind rest s t v rows p plain plain_word stands all gives
takes_among (x ∷ before) behind rest s t v rows p plain plain_word stands all gives =
    takes_word x (before ++ behind) (before ++ rest) s t None (Some v) rows p plain.0 stands all
    (λ next then more. takes_among before behind rest next.seen t v (now rows p) (Some (name_of next.part, x ∷ [])) plain.1 plain_word then more gives)

taken_all : (given : Option Text) (t : Seen) (words : List Text) → ArePlain (words_of t) → ((v : Text) → given ≡ Some v → IsPlain v) → GivesDrill given (words_of t) words → Taken t given first words
taken_all None t words plain plain_word gives = takes_behind (words_of t) words Nothing t None [] None plain stands_nothing refl gives
taken_all (Some v) t words plain plain_word (before, behind, rest, are, is, gives) =
    let P : List Text → Type 0 = λ ws. Taken t (Some v) first ws in
    subst P (sym is) (takes_among before behind rest Nothing t v [] None (subst ArePlain are plain) (plain_word v refl) stands_nothing are gives)

-- ---- at the end

or_all : (a : Bool) → (a || true) ≡ true
or_all true = refl
or_all false = refl

no_default : (q : Part) (rows : List Row) → default_fault rows (rule q) ≡ []
no_default q rows = rw (or_all (has_row (name_of q) rows)) refl

no_defaults : (rows : List Row) → defaults_fault rows drilled.rules ≡ []
unfolding defaults_fault
no_defaults rows =
    let a : List Row = with_default rows (rule Seed) in
    let b : List Row = with_default a (rule Sessions) in
    let c : List Row = with_default b (rule Rounds) in
    rw (no_default Seed rows, no_default Sessions a, no_default Rounds b, no_default Crew c) refl

not_entered : (stop : Option (Text × List Text)) → entered (built drill_app) stop ≡ None
not_entered None = refl
not_entered (Some p) = refl

nothing_below : (stop : Option (Text × List Text)) → entered_fault (built drill_app) stop ≡ []
nothing_below None = refl
nothing_below (Some p) = refl

pub level_taken : (t : Seen) (g : Option Text) (words : List Text) → Taken t g first words → drill_level words ≡ []
level_taken t g words taken =
    let end : Walk = fold (walked drilled.rules []) first words in
    rw (not_entered end.stopped, nothing_below end.stopped, taken.walks, taken.settles, no_defaults (settled drilled.rules end.held).rows) refl

pub drill_takes : (given : Option Text) (t : Seen) (words : List Text) → ArePlain (words_of t) → ((v : Text) → given ≡ Some v → IsPlain v) → GivesDrill given (words_of t) words
    → (drill_level words ≡ []) × ((q : Part) → finds q first words ≡ value_of t given q)
drill_takes given t words plain plain_word gives =
    let taken = taken_all given t words plain plain_word gives in
    (level_taken t given words taken, taken.found)
