-- What is found of the words behind `drill`: a row for the option and for each positional word.
use Rattle.std.proofs.Common.{◌≡◌, ◌∙◌, ◌||◌, ◌&&◌, inl, inr, ℕ, Bool, true, false, List, [], ◌∷◌, ◌++◌, Option, Some, None, refl, sym, ap, subst}
use Rattle.std.specs.Prelude.{codes, slice_get, is_some, if◌then◌else◌}
use Rattle.std.specs.Str.{bytes_eq}
use Rattle.std.proofs.lemmas.Bool.{cases_Bool}
use Rattle.std.proofs.lemmas.Slice.Eq.{bytes_eq-Decides}
use Rattle.clap.specs.Walk.{Row, Rule, Text, Held, has_row, first_of, at_row, more_values, used, settled_rows, with_default, finished, reading_by}
use Rattle.clap.specs.Simple.{Shape, built}
use Rattle.clap.specs.Faults.{settle_fault}
use Rattle.clap.specs.declared.builder.action.ArgAction.TheVariants.{Set}
use Rattle.clap.specs.declared.builder.value_parser.ValueParser.TheVariants.{String}
use Rattle.clap.specs.declared.parser.matches.ValueSource.TheVariants.{CommandLine}
use Rattle.command_words.specs.CommandLines.{drill_app}
use Rattle.command_words.proofs.Turns.{Bad, bad-cons}

abbrev pub drilled : Shape
drilled = (built drill_app).top

-- what words may give
pub data Part : Type 0 where
  Seed : Part
  Sessions : Part
  Rounds : Part
  Crew : Part

abbrev pub name_of : Part → Text
name_of Seed = codes "seed"
name_of Sessions = codes "sessions"
name_of Rounds = codes "rounds"
name_of Crew = codes "workers"

-- its position; the option has none, and a name with `--`
abbrev index_of : Part → Option ℕ
index_of Seed = Some 1
index_of Sessions = Some 2
index_of Rounds = Some 3
index_of Crew = None

abbrev long_name : Part → Option Text
long_name Crew = Some (codes "workers")
long_name _ = None

abbrev pub rule : Part → Rule
rule q = record {
  id = name_of q;
  long = long_name q;
  aliases = [];
  short = None;
  short_aliases = [];
  index = index_of q;
  action = Some Set;
  range = Some (record { start_inclusive = 1; end_inclusive = 1 });
  value_names = 0;
  defaults = [];
  missing = [];
  trailing_var_arg = false;
  parser = Some String;
  ignore_case = false;
  required = false;
  is_simple = true;
  is_free = true;
}

rules_are : drilled.rules ≡ rule Seed ∷ rule Sessions ∷ rule Rounds ∷ rule Crew ∷ []
rules_are = refl

abbrev pub row : Part → Text → Row
row q v = record { id = name_of q; values = v ∷ []; count = None; source = Some CommandLine; reading = reading_by (rule q) }

-- ---- one more row

neither : (a b : Bool) → (a || b) ≡ false → (a ≡ false) × (b ≡ false)
neither true b h = absurd (cc h)
neither false b h = (refl, h)

or_none : (a : Bool) → (a || false) ≡ a
or_none true = refl
or_none false = refl

pub and_none : (a : Bool) → (a && false) ≡ false
and_none true = refl
and_none false = refl

same_name : (name : Text) → bytes_eq name name ≡ true
same_name name = (bytes_eq-Decides name name).1 refl

left_out : (name : Text) (rows : List Row) → has_row name rows ≡ false → at_row name (λ _. []) [] rows ≡ rows
left_out name [] h = refl
left_out name (r ∷ rows) h =
    let both = neither (bytes_eq r.id name) (has_row name rows) h in
    rw both.0 (ap (λ rs. r ∷ rs) (left_out name rows both.1))

put_last : (name : Text) (change : Row → List Row) (more rows : List Row) → has_row name rows ≡ false → at_row name change more rows ≡ rows ++ more
put_last name change more [] h = refl
put_last name change more (r ∷ rows) h =
    let both = neither (bytes_eq r.id name) (has_row name rows) h in
    rw both.0 (ap (λ rs. r ∷ rs) (put_last name change more rows both.1))

-- a value of what has none yet
pub used_last : (q : Part) (v : Text) (rows : List Row) → has_row (name_of q) rows ≡ false → used (rule q) (v ∷ []) rows ≡ rows ++ row q v ∷ []
used_last q v rows none =
    rw (left_out (name_of q) rows none)
    (put_last (name_of q) (more_values CommandLine (v ∷ [])) (row q v ∷ []) rows none)

has_more : (q : Part) (v name : Text) (rows : List Row) → has_row name (rows ++ row q v ∷ []) ≡ (has_row name rows || bytes_eq (name_of q) name)
has_more q v name [] = or_none (bytes_eq (name_of q) name)
has_more q v name (r ∷ rows) =
    elim (cases_Bool (bytes_eq r.id name)) [
      | inl same ↦ rw same refl
      | inr other ↦ rw other (has_more q v name rows)
    ]

finds_other : (q : Part) (v name : Text) (rows : List Row) → bytes_eq (name_of q) name ≡ false → first_of name (rows ++ row q v ∷ []) ≡ first_of name rows
finds_other q v name [] apart = rw apart refl
finds_other q v name (r ∷ rows) apart =
    elim (cases_Bool (bytes_eq r.id name)) [
      | inl same ↦ rw same refl
      | inr other ↦ rw other (finds_other q v name rows apart)
    ]

finds_new : (q : Part) (v name : Text) (rows : List Row) → bytes_eq (name_of q) name ≡ true → has_row name rows ≡ false → first_of name (rows ++ row q v ∷ []) ≡ Some v
finds_new q v name [] same none = rw same refl
finds_new q v name (r ∷ rows) same none =
    let both = neither (bytes_eq r.id name) (has_row name rows) none in
    rw both.0 (finds_new q v name rows same both.1)

-- ---- what the words so far gave

-- the positional words so far
pub data Seen : Type 0 where
  Nothing : Seen
  One : Text → Seen
  Two : Text → Text → Seen
  Three : Text → Text → Text → Seen

abbrev pub words_of : Seen → List Text
words_of Nothing = []
words_of (One a) = a ∷ []
words_of (Two a b) = a ∷ b ∷ []
words_of (Three a b c) = a ∷ b ∷ c ∷ []

-- what they and the option, where it was given, gave
abbrev pub value_of : Seen → Option Text → Part → Option Text
value_of s g Seed = slice_get (words_of s) 0
value_of s g Sessions = slice_get (words_of s) 1
value_of s g Rounds = slice_get (words_of s) 2
value_of s g Crew = g

-- The rows hold that.
pub record Holds (s : Seen) (g : Option Text) (rows : List Row) : Type 0 where
  pub has : (q : Part) → has_row (name_of q) rows ≡ is_some (value_of s g q)
  pub finds : (q : Part) → first_of (name_of q) rows ≡ value_of s g q

pub holds_nothing : Holds Nothing None []
holds_nothing = record {
  has = elim [ Seed ↦ refl | Sessions ↦ refl | Rounds ↦ refl | Crew ↦ refl ];
  finds = elim [ Seed ↦ refl | Sessions ↦ refl | Rounds ↦ refl | Crew ↦ refl ];
}

-- One word more gives this part this value, which nothing did before.
pub record Gives (s : Seen) (g : Option Text) (q : Part) (v : Text) (t : Seen) (h : Option Text) : Type 0 where
  pub new : value_of s g q ≡ None
  pub is : (r : Part) → value_of t h r ≡ (if bytes_eq (name_of q) (name_of r) then Some v else value_of s g r)

pub gives_crew : (s : Seen) (v : Text) → Gives s None Crew v s (Some v)
gives_crew s v = record { new = refl; is = elim [ Seed ↦ refl | Sessions ↦ refl | Rounds ↦ refl | Crew ↦ refl ] }

pub gives_seed : (g : Option Text) (x : Text) → Gives Nothing g Seed x (One x) g
gives_seed g x = record { new = refl; is = elim [ Seed ↦ refl | Sessions ↦ refl | Rounds ↦ refl | Crew ↦ refl ] }

pub gives_sessions : (g : Option Text) (a x : Text) → Gives (One a) g Sessions x (Two a x) g
gives_sessions g a x = record { new = refl; is = elim [ Seed ↦ refl | Sessions ↦ refl | Rounds ↦ refl | Crew ↦ refl ] }

pub gives_rounds : (g : Option Text) (a b x : Text) → Gives (Two a b) g Rounds x (Three a b x) g
gives_rounds g a b x = record { new = refl; is = elim [ Seed ↦ refl | Sessions ↦ refl | Rounds ↦ refl | Crew ↦ refl ] }

no_row : (s : Seen) (g : Option Text) (q : Part) (v : Text) (t : Seen) (h : Option Text) (rows : List Row) → Gives s g q v t h → Holds s g rows → has_row (name_of q) rows ≡ false
no_row s g q v t h rows gives holds = holds.has q ∙ ap is_some gives.new

or_all : (a : Bool) → (a || true) ≡ true
or_all true = refl
or_all false = refl

value_new : (s : Seen) (g : Option Text) (q : Part) (v : Text) (t : Seen) (h : Option Text) → Gives s g q v t h → (r : Part) → bytes_eq (name_of q) (name_of r) ≡ true → value_of t h r ≡ Some v
value_new s g q v t h gives r same = gives.is r ∙ ap (λ b. if b then Some v else value_of s g r) same

value_other : (s : Seen) (g : Option Text) (q : Part) (v : Text) (t : Seen) (h : Option Text) → Gives s g q v t h → (r : Part) → bytes_eq (name_of q) (name_of r) ≡ false → value_of t h r ≡ value_of s g r
value_other s g q v t h gives r other = gives.is r ∙ ap (λ b. if b then Some v else value_of s g r) other

has_next : (s : Seen) (g : Option Text) (q : Part) (v : Text) (t : Seen) (h : Option Text) (rows : List Row) → Gives s g q v t h → Holds s g rows → (r : Part) → has_row (name_of r) (rows ++ row q v ∷ []) ≡ is_some (value_of t h r)
has_next s g q v t h rows gives holds r =
    elim (cases_Bool (bytes_eq (name_of q) (name_of r))) [
      | inl same ↦
          has_more q v (name_of r) rows ∙ ap (λ b. has_row (name_of r) rows || b) same ∙ or_all (has_row (name_of r) rows)
          ∙ sym (ap is_some (value_new s g q v t h gives r same))
      | inr other ↦
          has_more q v (name_of r) rows ∙ ap (λ b. has_row (name_of r) rows || b) other ∙ or_none (has_row (name_of r) rows)
          ∙ holds.has r ∙ sym (ap is_some (value_other s g q v t h gives r other))
    ]

finds_next : (s : Seen) (g : Option Text) (q : Part) (v : Text) (t : Seen) (h : Option Text) (rows : List Row) → Gives s g q v t h → Holds s g rows → (r : Part) → first_of (name_of r) (rows ++ row q v ∷ []) ≡ value_of t h r
finds_next s g q v t h rows gives holds r =
    elim (cases_Bool (bytes_eq (name_of q) (name_of r))) [
      | inl same ↦
          let one : name_of q ≡ name_of r = (bytes_eq-Decides (name_of q) (name_of r)).0 same in
          let none : has_row (name_of r) rows ≡ false = ap (λ name. has_row name rows) (sym one) ∙ no_row s g q v t h rows gives holds in
          finds_new q v (name_of r) rows same none ∙ sym (value_new s g q v t h gives r same)
      | inr other ↦ finds_other q v (name_of r) rows other ∙ holds.finds r ∙ sym (value_other s g q v t h gives r other)
    ]

holds_next : (s : Seen) (g : Option Text) (q : Part) (v : Text) (t : Seen) (h : Option Text) (rows : List Row) → Gives s g q v t h → Holds s g rows → Holds t h (used (rule q) (v ∷ []) rows)
holds_next s g q v t h rows gives holds =
    let P : List Row → Type 0 = Holds t h in
    subst P (sym (used_last q v rows (no_row s g q v t h rows gives holds))) (record {
      has = has_next s g q v t h rows gives holds;
      finds = finds_next s g q v t h rows gives holds;
    })

-- ---- with what still waits to be counted in

abbrev pub held : List Row → Option (Text × List Text) → Held
held rows p = record { rows = rows; pending = p; skip = 0 }

abbrev pub now : List Row → Option (Text × List Text) → List Row
now rows p = settled_rows drilled.rules p rows

-- The rows, and what waits, hold what the words so far gave.
pub record Stands (s : Seen) (g : Option Text) (rows : List Row) (p : Option (Text × List Text)) : Type 0 where
  pub settles : settle_fault drilled.rules false (held rows p) ≡ []
  pub holds : Holds s g (now rows p)

pub stands_nothing : Stands Nothing None [] None
stands_nothing = record { settles = refl; holds = holds_nothing }

settles_words : (q : Part) (v : Text) (rows : List Row) → has_row (name_of q) rows ≡ false → settle_fault drilled.rules false (held rows (Some (name_of q, v ∷ []))) ≡ []
settles_words Seed v rows none = rw none refl
settles_words Sessions v rows none = rw none refl
settles_words Rounds v rows none = rw none refl
settles_words Crew v rows none = rw none refl

now_words : (q : Part) (v : Text) (rows : List Row) → now rows (Some (name_of q, v ∷ [])) ≡ used (rule q) (v ∷ []) rows
now_words Seed v rows = refl
now_words Sessions v rows = refl
now_words Rounds v rows = refl
now_words Crew v rows = refl

-- a value that was counted in at once
pub stands_rows : (s : Seen) (g : Option Text) (q : Part) (v : Text) (t : Seen) (h : Option Text) (rows : List Row) (p : Option (Text × List Text)) → Gives s g q v t h → Stands s g rows p → Stands t h (used (rule q) (v ∷ []) (now rows p)) None
stands_rows s g q v t h rows p gives stands = record { settles = refl; holds = holds_next s g q v t h (now rows p) gives stands.holds }

-- and one that waits
pub stands_waiting : (s : Seen) (g : Option Text) (q : Part) (v : Text) (t : Seen) (h : Option Text) (rows : List Row) (p : Option (Text × List Text)) → Gives s g q v t h → Stands s g rows p → Stands t h (now rows p) (Some (name_of q, v ∷ []))
stands_waiting s g q v t h rows p gives stands =
    let P : List Row → Type 0 = Holds t h in
    record {
      settles = settles_words q v (now rows p) (no_row s g q v t h (now rows p) gives stands.holds);
      holds = subst P (sym (now_words q v (now rows p))) (holds_next s g q v t h (now rows p) gives stands.holds);
    }

-- What waits is refused when it is counted in.
abbrev pub Doomed : List Row → Option (Text × List Text) → Type 0
Doomed rows p = Bad (settle_fault drilled.rules false (held rows p))

pub doomed_again : (v : Text) (rows : List Row) → has_row (codes "workers") rows ≡ true → Doomed rows (Some (codes "workers", v ∷ []))
doomed_again v rows there = rw there (bad-cons _ _)

pub doomed_unvalued : (rows : List Row) → Doomed rows (Some (codes "workers", []))
doomed_unvalued rows = bad-cons _ _

-- ---- no argument has a default

undefaulted : (q : Part) (rows : List Row) → with_default rows (rule q) ≡ rows
undefaulted q rows =
    elim (cases_Bool (has_row (name_of q) rows)) [
      | inl there ↦ rw there refl
      | inr none ↦ rw none refl
    ]

pub finished_is : (rows : List Row) (p : Option (Text × List Text)) → finished drilled.rules (held rows p) ≡ now rows p
finished_is rows p =
    let a : List Row = with_default (now rows p) (rule Seed) in
    let b : List Row = with_default a (rule Sessions) in
    let c : List Row = with_default b (rule Rounds) in
    undefaulted Crew c ∙ undefaulted Rounds b ∙ undefaulted Sessions a ∙ undefaulted Seed (now rows p)
