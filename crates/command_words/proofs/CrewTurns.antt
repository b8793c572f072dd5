-- What clap makes of one word behind `run`.
use Rattle.std.proofs.Common.{◌≡◌, ◌⊎◌, inl, inr, Bool, true, false, List, [], ◌∷◌, length, Option, Some, None, refl}
use Rattle.clap.specs.Walk.{Row, Rule, Text, Waiting, Walk, idle, option, walked, bundle_met, has_row, values_or_missing, reading_by}
use Rattle.clap.specs.Simple.{Shape, built}
use Rattle.clap.specs.Faults.{turn_fault, flags_fault, use_fault, action_fault}
use Rattle.clap.specs.Kinds.{Kinds, range_kinds}
use Rattle.clap.specs.declared.builder.action.ArgAction.TheVariants.{Set}
use Rattle.clap.specs.declared.builder.value_parser.ValueParser.TheVariants.{String}
use Rattle.clap.specs.declared.parser.matches.ValueSource.TheVariants.{CommandLine}
use Rattle.command_words.specs.CommandLines.{crew_app}
use Rattle.command_words.proofs.Turns.{Bad, bad-cons, bad-right, between, one_character}
use Rattle.command_words.proofs.CrewForms.{Name, Workers, Shards, name_of, flag, flag_value, Form, dashes, alone, with_value, unknown, bundle, plain}

abbrev pub crewed : Shape
crewed = (built crew_app).top

abbrev pub rule : Name → Rule
rule n = record {
  id = name_of n;
  long = Some (name_of n);
  aliases = [];
  short = None;
  short_aliases = [];
  index = None;
  action = Some Set;
  range = Some (record { start_inclusive = 1; end_inclusive = 1 });
  value_names = 0;
  defaults = [];
  missing = [];
  trailing_var_arg = false;
  parser = Some String;
  ignore_case = false;
  required = false;
  is_simple = true;
  is_free = true;
}

rules_are : crewed.rules ≡ rule Workers ∷ rule Shards ∷ []
rules_are = refl

-- what was found of an option, given this value
abbrev pub row : Name → Text → Row
row n v = record { id = name_of n; values = v ∷ []; count = None; source = Some CommandLine; reading = reading_by (rule n) }

-- behind `--` no word is taken
pub trailing : (rows : List Row) (p : Option (Text × List Text)) (w : Waiting) (x : Text) → Bad (turn_fault crewed [] (between rows p w true) x)
trailing rows p w x = bad-cons _ _

-- a word is `--`, gives an option in one of its ways, or is refused
abbrev pub Met : Text → Kinds → Type 0
Met x faults = (x ≡ 45 ∷ 45 ∷ []) ⊎ (((n : Name) × (x ≡ flag n)) ⊎ (((n : Name) × (v : Text) × (x ≡ flag_value n v)) ⊎ Bad faults))

-- where no value is wanted
pub crew_word : (rows : List Row) (p : Option (Text × List Text)) (x : Text) → Form x → Met x (turn_fault crewed [] (between rows p idle false) x)
unfolding flags_fault bundle_met
crew_word rows p x (dashes e) = inl e
crew_word rows p x (alone n e) = inr (inl (n, e))
crew_word rows p x (with_value n v e) = inr (inr (inl (n, v, e)))
crew_word rows p x (unknown n v apart long other too) = inr (inr (inr (rw (apart, long, other, too) (bad-cons _ _))))
crew_word rows p x (bundle c cs apart long short) =
    elim (one_character (c ∷ cs)) [
      | inl none ↦ inr (inr (inr (rw (apart, long, short, none) (bad-cons _ _))))
      | inr some ↦ inr (inr (inr (rw (apart, long, short, some.1) (bad-cons _ _))))
    ]
crew_word rows p x (plain apart long short) = inr (inr (inr (rw (apart, long, short) (bad-cons _ _))))

-- where an option waits for its value
abbrev pub wants : Name → List Row → Bool → Walk
wants n rows trailing = between rows (Some (name_of n, [])) (option (name_of n)) trailing

abbrev pub has : Name → List Row → Text → Bool → Walk
has n rows v trailing = between rows (Some (name_of n, v ∷ [])) idle trailing

abbrev pub TakesValue : Name → List Row → Text → Type 0
TakesValue n rows x = (x ≡ 45 ∷ 45 ∷ []) ⊎ (Bad (turn_fault crewed [] (wants n rows false) x) ⊎ (walked crewed.rules [] (wants n rows false) x ≡ has n rows x false))

pub value_word : (n : Name) (rows : List Row) (x : Text) → Form x → TakesValue n rows x
unfolding flags_fault bundle_met walked
value_word Workers rows x (dashes e) = inl e
value_word Workers rows x (alone Workers e) = inr (inl (rw e (bad-cons _ _)))
value_word Workers rows x (alone Shards e) = inr (inl (rw e (bad-cons _ _)))
value_word Workers rows x (with_value Workers v e) = inr (inl (rw e (bad-cons _ _)))
value_word Workers rows x (with_value Shards v e) = inr (inl (rw e (bad-cons _ _)))
value_word Workers rows x (unknown m v apart long other too) = inr (inl (rw (apart, long, other, too) (bad-cons _ _)))
value_word Workers rows x (bundle c cs apart long short) =
    elim (one_character (c ∷ cs)) [
      | inl none ↦ inr (inr (rw (apart, long, short, none) refl))
      | inr some ↦ inr (inl (rw (apart, long, short, some.1) (bad-cons _ _)))
    ]
value_word Workers rows x (plain apart long short) = inr (inr (rw (apart, long, short) refl))
value_word Shards rows x (dashes e) = inl e
value_word Shards rows x (alone Workers e) = inr (inl (rw e (bad-cons _ _)))
value_word Shards rows x (alone Shards e) = inr (inl (rw e (bad-cons _ _)))
value_word Shards rows x (with_value Workers v e) = inr (inl (rw e (bad-cons _ _)))
value_word Shards rows x (with_value Shards v e) = inr (inl (rw e (bad-cons _ _)))
value_word Shards rows x (unknown m v apart long other too) = inr (inl (rw (apart, long, other, too) (bad-cons _ _)))
value_word Shards rows x (bundle c cs apart long short) =
    elim (one_character (c ∷ cs)) [
      | inl none ↦ inr (inr (rw (apart, long, short, none) refl))
      | inr some ↦ inr (inl (rw (apart, long, short, some.1) (bad-cons _ _)))
    ]
value_word Shards rows x (plain apart long short) = inr (inr (rw (apart, long, short) refl))

-- what is used again is refused, whatever its values
pub again : (n : Name) (vs : List Text) (rows : List Row) → has_row (name_of n) rows ≡ true → Bad (use_fault false (rule n) vs rows)
again n vs rows there =
    bad-right (range_kinds 1 1 (length vs)) (action_fault Set false (rule n) (values_or_missing (rule n) vs) rows)
    (rw there (bad-cons _ _))
