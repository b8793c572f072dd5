-- What clap makes of one word, for a command line without options and for one with `--at`.
use Rattle.std.proofs.Common.{◌≡◌, ◌⊎◌, inl, inr, ℕ, Bool, true, false, List, [], ◌∷◌, ◌++◌, Option, Some, None, refl}
use Rattle.std.specs.Prelude.{codes, slice_get}
use Rattle.std.specs.Str.{bytes_eq, chars}
use Rattle.clap.specs.Lexer.{long_of, short_of}
use Rattle.clap.specs.Walk.{Row, Text, Waiting, Walk, idle, option, walk_from, walked, nothing_held, bundle_met}
use Rattle.clap.specs.Simple.{Shape, built}
use Rattle.clap.specs.Faults.{turn_fault, flags_fault}
use Rattle.clap.specs.Kinds.{Kinds, or_else}
use Rattle.clap.specs.declared.error.kind.ErrorKind.{ErrorKind}
use Rattle.command_words.specs.CommandLines.{plain_app, epoch_app}
use Rattle.command_words.proofs.WordForms.{Form, dashes, alone, with_value, unknown, bundle, plain}

-- ---- a list of faults that is not empty

abbrev pub Bad : Kinds → Type 0
Bad faults = faults ≡ [] → ⊥

pub bad-cons : (k : ErrorKind) (ks : Kinds) → Bad (k ∷ ks)
bad-cons k ks = λ e. cc e

pub bad-left : (a b : Kinds) → Bad a → Bad (or_else a b)
bad-left [] b h = absurd (h refl)
bad-left (k ∷ ks) b h = h

pub bad-right : (a b : Kinds) → Bad b → Bad (or_else a b)
bad-right [] b h = h
bad-right (k ∷ ks) b h = bad-cons k ks

-- ---- the command lines

abbrev pub bare : Shape
bare = (built plain_app).top

abbrev pub dated : Shape
dated = (built epoch_app).top

abbrev pub at : Text
at = codes "at"

-- between two words: what was found, what waits for values, whether a value is wanted, whether `--` was there
abbrev pub between : List Row → Option (Text × List Text) → Waiting → Bool → Walk
between rows pending waiting trailing = record {
  held = record { rows = rows; pending = pending; skip = 0 };
  waiting = waiting;
  position = 1;
  is_trailing = trailing;
  stopped = None;
}

begins : walk_from nothing_held ≡ between [] None idle false
begins = refl

-- ---- no options

pub bare_trailing : (rows : List Row) (p : Option (Text × List Text)) (w : Waiting) (x : Text) → Bad (turn_fault bare [] (between rows p w true) x)
bare_trailing rows p w x = bad-cons _ _

pub one_character : (text : Text) → (slice_get (chars text) 0 ≡ None) ⊎ ((c : ℕ) × (slice_get (chars text) 0 ≡ Some c))
one_character text = elim (slice_get (chars text) 0) as (λ o. (o ≡ None) ⊎ ((c : ℕ) × (o ≡ Some c))) [ None ↦ inl refl | Some c ↦ inr (c, refl) ]

-- each word but `--` is refused
pub bare_word : (x : Text) → Form x → (x ≡ 45 ∷ 45 ∷ []) ⊎ Bad (turn_fault bare [] (between [] None idle false) x)
unfolding flags_fault bundle_met
bare_word x (dashes e) = inl e
bare_word x (alone e) = inr (rw e (bad-cons _ _))
bare_word x (with_value v e) = inr (rw e (bad-cons _ _))
bare_word x (unknown n v apart long other) = inr (rw (apart, long) (bad-cons _ _))
bare_word x (bundle c cs apart long short) =
    elim (one_character (c ∷ cs)) [
      | inl none ↦ inr (rw (apart, long, short, none) (bad-cons _ _))
      | inr some ↦ inr (rw (apart, long, short, some.1) (bad-cons _ _))
    ]
bare_word x (plain apart long short) = inr (rw (apart, long, short) (bad-cons _ _))

-- ---- the option `--at`

pub dated_trailing : (rows : List Row) (p : Option (Text × List Text)) (w : Waiting) (x : Text) → Bad (turn_fault dated [] (between rows p w true) x)
dated_trailing rows p w x = bad-cons _ _

-- a word is `--`, gives the option in one of its ways, or is refused
abbrev pub Met : Text → Kinds → Type 0
Met x faults = (x ≡ 45 ∷ 45 ∷ []) ⊎ ((x ≡ codes "--at") ⊎ (((v : Text) × (x ≡ codes "--at=" ++ v)) ⊎ Bad faults))

-- where no value is wanted
pub dated_word : (rows : List Row) (p : Option (Text × List Text)) (x : Text) → Form x → Met x (turn_fault dated [] (between rows p idle false) x)
unfolding flags_fault bundle_met
dated_word rows p x (dashes e) = inl e
dated_word rows p x (alone e) = inr (inl e)
dated_word rows p x (with_value v e) = inr (inr (inl (v, e)))
dated_word rows p x (unknown n v apart long other) = inr (inr (inr (rw (apart, long, other) (bad-cons _ _))))
dated_word rows p x (bundle c cs apart long short) =
    elim (one_character (c ∷ cs)) [
      | inl none ↦ inr (inr (inr (rw (apart, long, short, none) (bad-cons _ _))))
      | inr some ↦ inr (inr (inr (rw (apart, long, short, some.1) (bad-cons _ _))))
    ]
dated_word rows p x (plain apart long short) = inr (inr (inr (rw (apart, long, short) (bad-cons _ _))))

-- where the option waits for its value
abbrev pub wants : List Row → Bool → Walk
wants rows trailing = between rows (Some (at, [])) (option at) trailing

abbrev pub has : List Row → Text → Bool → Walk
has rows v trailing = between rows (Some (at, v ∷ [])) idle trailing

pub value_word : (rows : List Row) (x : Text) → Form x
    → (x ≡ 45 ∷ 45 ∷ []) ⊎ (Bad (turn_fault dated [] (wants rows false) x) ⊎ (walked dated.rules [] (wants rows false) x ≡ has rows x false))
unfolding flags_fault bundle_met walked
value_word rows x (dashes e) = inl e
value_word rows x (alone e) = inr (inl (rw e (bad-cons _ _)))
value_word rows x (with_value v e) = inr (inl (rw e (bad-cons _ _)))
value_word rows x (unknown n v apart long other) = inr (inl (rw (apart, long, other) (bad-cons _ _)))
value_word rows x (bundle c cs apart long short) =
    elim (one_character (c ∷ cs)) [
      | inl none ↦ inr (inr (rw (apart, long, short, none) refl))
      | inr some ↦ inr (inl (rw (apart, long, short, some.1) (bad-cons _ _)))
    ]
value_word rows x (plain apart long short) = inr (inr (rw (apart, long, short) refl))

-- a word that is no flag is the value
pub plain_value : (rows : List Row) (x : Text) → bytes_eq x (45 ∷ 45 ∷ []) ≡ false → long_of x ≡ None → short_of x ≡ None
    → (turn_fault dated [] (wants rows false) x ≡ []) × (walked dated.rules [] (wants rows false) x ≡ has rows x false)
unfolding walked
plain_value rows x apart long short = (rw (apart, long, short) refl, rw (apart, long, short) refl)
