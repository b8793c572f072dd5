-- What clap makes of one word behind `drill`.
use Rattle.std.proofs.Common.{◌≡◌, ◌⊎◌, inl, inr, ℕ, Bool, true, false, List, [], ◌∷◌, ◌++◌, drop, Option, Some, None, refl, ap}
use Rattle.std.specs.Prelude.{codes, slice_get}
use Rattle.std.specs.Str.{bytes_eq, chars}
use Rattle.clap.specs.Lexer.{long_of, short_of}
use Rattle.clap.specs.Walk.{Row, Text, Waiting, Walk, idle, option, walked, bundle_met, has_row, used, is_pending}
use Rattle.clap.specs.Faults.{turn_fault, flags_fault, settle_fault, use_fault}
use Rattle.command_words.proofs.Turns.{Bad, bad-cons, bad-left, one_character}
use Rattle.command_words.proofs.CrewForms.{Workers, Shards, flag, flag_value, Form, dashes, alone, with_value, unknown, bundle, plain}
use Rattle.command_words.proofs.CrewWalks.{IsPlain}
use Rattle.command_words.proofs.DrillRows.{drilled, Part, Seed, Sessions, Rounds, Crew, name_of, rule, and_none, Seen, Nothing, One, Two, Three, words_of, Gives, gives_seed, gives_sessions, gives_rounds, held, now, Doomed}

abbrev pub position_of : Seen → ℕ
position_of Nothing = 1
position_of (One a) = 2
position_of (Two a b) = 3
position_of (Three a b c) = 4

-- between two words: the positional words so far, what was found, what waits, whether a value is wanted, whether `--` was there
abbrev pub standing : Seen → List Row → Option (Text × List Text) → Waiting → Bool → Walk
standing s rows p waiting trailing = record {
  held = held rows p;
  waiting = waiting;
  position = position_of s;
  is_trailing = trailing;
  stopped = None;
}

-- the option waits for its value
abbrev pub wants : Seen → List Row → Bool → Walk
wants s rows trailing = standing s rows (Some (codes "workers", [])) (option (codes "workers")) trailing

-- a word that clap takes for no flag
pub data Loose (x : Text) : Type 0 where
  loose_plain : IsPlain x → Loose x
  loose_bundle : (c : ℕ) (cs : Text) → bytes_eq x (45 ∷ 45 ∷ []) ≡ false → long_of x ≡ None → short_of x ≡ Some (c ∷ cs) → slice_get (chars (c ∷ cs)) 0 ≡ None → Loose x

-- ---- a positional word

abbrev Turns : Seen → List Row → Option (Text × List Text) → Bool → Text → Type 0
Turns s rows p trailing x = turn_fault drilled [] (standing s rows p idle trailing) x ≡ settle_fault drilled.rules false (held rows p)

-- There is room for one more positional word, and it goes there.
pub record Next (s : Seen) (x : Text) : Type 0 where
  pub part : Part
  pub seen : Seen
  pub gives : (g : Option Text) → Gives s g part x seen g
  pub words : words_of seen ≡ words_of s ++ x ∷ []
  pub loose_fault : (rows : List Row) (p : Option (Text × List Text)) → Loose x → Turns s rows p false x
  pub loose : (rows : List Row) (p : Option (Text × List Text)) → Loose x → walked drilled.rules [] (standing s rows p idle false) x ≡ standing seen (now rows p) (Some (name_of part, x ∷ [])) idle false
  pub trailing_fault : (rows : List Row) (p : Option (Text × List Text)) (w : Waiting) → turn_fault drilled [] (standing s rows p w true) x ≡ settle_fault drilled.rules false (held rows p)
  pub trailing : (rows : List Row) (p : Option (Text × List Text)) → walked drilled.rules [] (standing s rows p idle true) x ≡ standing seen (now rows p) (Some (name_of part, x ∷ [])) idle true

-- There is no room, and one more is refused.
pub record Full (s : Seen) (x : Text) : Type 0 where
  pub crowded : (t : Seen) (rest : List Text) → words_of t ≡ words_of s ++ x ∷ rest → ⊥
  pub loose : (rows : List Row) (p : Option (Text × List Text)) → Loose x → Bad (turn_fault drilled [] (standing s rows p idle false) x)
  pub trailing : (rows : List Row) (p : Option (Text × List Text)) (w : Waiting) → Bad (turn_fault drilled [] (standing s rows p w true) x)

seed_fault : (x : Text) (rows : List Row) (p : Option (Text × List Text)) → Loose x → Turns Nothing rows p false x
unfolding flags_fault bundle_met
seed_fault x rows p (loose_plain (apart, long, short)) = rw (apart, long, short, and_none (is_pending (rule Seed) p)) refl
seed_fault x rows p (loose_bundle c cs apart long short none) = rw (apart, long, short, none, and_none (is_pending (rule Seed) p)) refl

seed_loose : (x : Text) (rows : List Row) (p : Option (Text × List Text)) → Loose x → walked drilled.rules [] (standing Nothing rows p idle false) x ≡ standing (One x) (now rows p) (Some (codes "seed", x ∷ [])) idle false
unfolding walked bundle_met
seed_loose x rows p (loose_plain (apart, long, short)) = rw (apart, long, short, and_none (is_pending (rule Seed) p)) refl
seed_loose x rows p (loose_bundle c cs apart long short none) = rw (apart, long, short, none, and_none (is_pending (rule Seed) p)) refl

seed_trailing : (x : Text) (rows : List Row) (p : Option (Text × List Text)) → walked drilled.rules [] (standing Nothing rows p idle true) x ≡ standing (One x) (now rows p) (Some (codes "seed", x ∷ [])) idle true
unfolding walked
seed_trailing x rows p = rw (and_none (is_pending (rule Seed) p)) refl

pub seed_next : (x : Text) → Next Nothing x
seed_next x = record {
  part = Seed;
  seen = One x;
  gives = λ g. gives_seed g x;
  words = refl;
  loose_fault = seed_fault x;
  loose = seed_loose x;
  trailing_fault = λ rows p w. rw (and_none (is_pending (rule Seed) p)) refl;
  trailing = seed_trailing x;
}

sessions_fault : (a x : Text) (rows : List Row) (p : Option (Text × List Text)) → Loose x → Turns (One a) rows p false x
unfolding flags_fault bundle_met
sessions_fault a x rows p (loose_plain (apart, long, short)) = rw (apart, long, short, and_none (is_pending (rule Sessions) p)) refl
sessions_fault a x rows p (loose_bundle c cs apart long short none) = rw (apart, long, short, none, and_none (is_pending (rule Sessions) p)) refl

sessions_loose : (a x : Text) (rows : List Row) (p : Option (Text × List Text)) → Loose x → walked drilled.rules [] (standing (One a) rows p idle false) x ≡ standing (Two a x) (now rows p) (Some (codes "sessions", x ∷ [])) idle false
unfolding walked bundle_met
sessions_loose a x rows p (loose_plain (apart, long, short)) = rw (apart, long, short, and_none (is_pending (rule Sessions) p)) refl
sessions_loose a x rows p (loose_bundle c cs apart long short none) = rw (apart, long, short, none, and_none (is_pending (rule Sessions) p)) refl

sessions_trailing : (a x : Text) (rows : List Row) (p : Option (Text × List Text)) → walked drilled.rules [] (standing (One a) rows p idle true) x ≡ standing (Two a x) (now rows p) (Some (codes "sessions", x ∷ [])) idle true
unfolding walked
sessions_trailing a x rows p = rw (and_none (is_pending (rule Sessions) p)) refl

pub sessions_next : (a x : Text) → Next (One a) x
sessions_next a x = record {
  part = Sessions;
  seen = Two a x;
  gives = λ g. gives_sessions g a x;
  words = refl;
  loose_fault = sessions_fault a x;
  loose = sessions_loose a x;
  trailing_fault = λ rows p w. rw (and_none (is_pending (rule Sessions) p)) refl;
  trailing = sessions_trailing a x;
}

rounds_fault : (a b x : Text) (rows : List Row) (p : Option (Text × List Text)) → Loose x → Turns (Two a b) rows p false x
unfolding flags_fault bundle_met
rounds_fault a b x rows p (loose_plain (apart, long, short)) = rw (apart, long, short, and_none (is_pending (rule Rounds) p)) refl
rounds_fault a b x rows p (loose_bundle c cs apart long short none) = rw (apart, long, short, none, and_none (is_pending (rule Rounds) p)) refl

rounds_loose : (a b x : Text) (rows : List Row) (p : Option (Text × List Text)) → Loose x → walked drilled.rules [] (standing (Two a b) rows p idle false) x ≡ standing (Three a b x) (now rows p) (Some (codes "rounds", x ∷ [])) idle false
unfolding walked bundle_met
rounds_loose a b x rows p (loose_plain (apart, long, short)) = rw (apart, long, short, and_none (is_pending (rule Rounds) p)) refl
rounds_loose a b x rows p (loose_bundle c cs apart long short none) = rw (apart, long, short, none, and_none (is_pending (rule Rounds) p)) refl

rounds_trailing : (a b x : Text) (rows : List Row) (p : Option (Text × List Text)) → walked drilled.rules [] (standing (Two a b) rows p idle true) x ≡ standing (Three a b x) (now rows p) (Some (codes "rounds", x ∷ [])) idle true
unfolding walked
rounds_trailing a b x rows p = rw (and_none (is_pending (rule Rounds) p)) refl

pub rounds_next : (a b x : Text) → Next (Two a b) x
rounds_next a b x = record {
  part = Rounds;
  seen = Three a b x;
  gives = λ g. gives_rounds g a b x;
  words = refl;
  loose_fault = rounds_fault a b x;
  loose = rounds_loose a b x;
  trailing_fault = λ rows p w. rw (and_none (is_pending (rule Rounds) p)) refl;
  trailing = rounds_trailing a b x;
}

four : (a b c x : Text) (rest : List Text) (t : Seen) → words_of t ≡ a ∷ b ∷ c ∷ x ∷ rest → ⊥
four a b c x rest Nothing e = cc e
four a b c x rest (One d) e = let more : drop 1 (d ∷ []) ≡ b ∷ c ∷ x ∷ rest = ap (drop 1) e in cc more
four a b c x rest (Two d f) e = let more : drop 2 (d ∷ f ∷ []) ≡ c ∷ x ∷ rest = ap (drop 2) e in cc more
four a b c x rest (Three d f h) e = let more : drop 3 (d ∷ f ∷ h ∷ []) ≡ x ∷ rest = ap (drop 3) e in cc more

full_loose : (a b c x : Text) (rows : List Row) (p : Option (Text × List Text)) → Loose x → Bad (turn_fault drilled [] (standing (Three a b c) rows p idle false) x)
unfolding flags_fault bundle_met
full_loose a b c x rows p (loose_plain (apart, long, short)) = rw (apart, long, short) (bad-cons _ _)
full_loose a b c x rows p (loose_bundle d cs apart long short none) = rw (apart, long, short, none) (bad-cons _ _)

pub full : (a b c x : Text) → Full (Three a b c) x
full a b c x = record {
  crowded = λ t rest. four a b c x rest t;
  loose = full_loose a b c x;
  trailing = λ rows p w. bad-cons _ _;
}

pub next_of : (s : Seen) (x : Text) → Next s x ⊎ Full s x
next_of Nothing x = inl (seed_next x)
next_of (One a) x = inl (sessions_next a x)
next_of (Two a b) x = inl (rounds_next a b x)
next_of (Three a b c) x = inr (full a b c x)

-- ---- where no value is wanted

pub data Met (s : Seen) (rows : List Row) (p : Option (Text × List Text)) (x : Text) : Type 0 where
  met_dashes : x ≡ 45 ∷ 45 ∷ [] → Met s rows p x
  met_flag : x ≡ flag Workers → Met s rows p x
  met_value : (v : Text) → x ≡ flag_value Workers v → Met s rows p x
  met_loose : Loose x → Met s rows p x
  met_refusal : Bad (turn_fault drilled [] (standing s rows p idle false) x) → Met s rows p x

pub met : (s : Seen) (rows : List Row) (p : Option (Text × List Text)) (x : Text) → Form x → Met s rows p x
unfolding flags_fault bundle_met
met s rows p x (dashes e) = met_dashes e
met s rows p x (alone Workers e) = met_flag e
met s rows p x (alone Shards e) = met_refusal (rw e (bad-cons _ _))
met s rows p x (with_value Workers v e) = met_value v e
met s rows p x (with_value Shards v e) = met_refusal (rw e (bad-cons _ _))
met s rows p x (unknown n v apart long other too) = met_refusal (rw (apart, long, other) (bad-cons _ _))
met s rows p x (bundle c cs apart long short) =
    elim (one_character (c ∷ cs)) [
      | inl none ↦ met_loose (loose_bundle c cs apart long short none)
      | inr some ↦ met_refusal (rw (apart, long, short, some.1) (bad-cons _ _))
    ]
met s rows p x (plain apart long short) = met_loose (loose_plain (apart, long, short))

pub dashes_fault : (s : Seen) (rows : List Row) (p : Option (Text × List Text)) → turn_fault drilled [] (standing s rows p idle false) (45 ∷ 45 ∷ []) ≡ []
dashes_fault s rows p = refl

pub after_dashes : (s : Seen) (rows : List Row) (p : Option (Text × List Text)) (x : Text) → x ≡ 45 ∷ 45 ∷ [] → walked drilled.rules [] (standing s rows p idle false) x ≡ standing s rows p idle true
unfolding walked
after_dashes s rows p x e = ap (λ z. walked drilled.rules [] (standing s rows p idle false) z) e

pub flag_fault : (s : Seen) (rows : List Row) (p : Option (Text × List Text)) → settle_fault drilled.rules false (held rows p) ≡ [] → turn_fault drilled [] (standing s rows p idle false) (flag Workers) ≡ []
flag_fault s rows p settles = rw settles refl

pub after_flag : (s : Seen) (rows : List Row) (p : Option (Text × List Text)) (x : Text) → x ≡ flag Workers → walked drilled.rules [] (standing s rows p idle false) x ≡ wants s (now rows p) false
unfolding walked
after_flag s rows p x e = ap (λ z. walked drilled.rules [] (standing s rows p idle false) z) e

pub value_fault : (s : Seen) (rows : List Row) (p : Option (Text × List Text)) (v : Text) → settle_fault drilled.rules false (held rows p) ≡ [] → has_row (codes "workers") (now rows p) ≡ false → turn_fault drilled [] (standing s rows p idle false) (flag_value Workers v) ≡ []
value_fault s rows p v settles none = rw (settles, none) refl

-- the option was given before
pub value_again : (s : Seen) (rows : List Row) (p : Option (Text × List Text)) (v x : Text) → x ≡ flag_value Workers v → settle_fault drilled.rules false (held rows p) ≡ [] → has_row (codes "workers") (now rows p) ≡ true → Bad (turn_fault drilled [] (standing s rows p idle false) x)
value_again s rows p v x e settles there = rw (e, settles, there) (bad-cons _ _)

pub after_value : (s : Seen) (rows : List Row) (p : Option (Text × List Text)) (v x : Text) → x ≡ flag_value Workers v → walked drilled.rules [] (standing s rows p idle false) x ≡ standing s (used (rule Crew) (v ∷ []) (now rows p)) None idle false
unfolding walked
after_value s rows p v x e = ap (λ z. walked drilled.rules [] (standing s rows p idle false) z) e

-- ---- where the option waits for its value

pub data Wanted (s : Seen) (rows : List Row) (x : Text) : Type 0 where
  wanted_dashes : x ≡ 45 ∷ 45 ∷ [] → Wanted s rows x
  wanted_value : walked drilled.rules [] (wants s rows false) x ≡ standing s rows (Some (codes "workers", x ∷ [])) idle false → Wanted s rows x
  wanted_refusal : Bad (turn_fault drilled [] (wants s rows false) x) → Wanted s rows x

pub wanted : (s : Seen) (rows : List Row) (x : Text) → Form x → Wanted s rows x
unfolding flags_fault bundle_met walked
wanted s rows x (dashes e) = wanted_dashes e
wanted s rows x (alone Workers e) = wanted_refusal (rw e (bad-cons _ _))
wanted s rows x (alone Shards e) = wanted_refusal (rw e (bad-cons _ _))
wanted s rows x (with_value Workers v e) = wanted_refusal (rw e (bad-cons _ _))
wanted s rows x (with_value Shards v e) = wanted_refusal (rw e (bad-cons _ _))
wanted s rows x (unknown n v apart long other too) = wanted_refusal (rw (apart, long, other) (bad-cons _ _))
wanted s rows x (bundle c cs apart long short) =
    elim (one_character (c ∷ cs)) [
      | inl none ↦ wanted_value (rw (apart, long, short, none) refl)
      | inr some ↦ wanted_refusal (rw (apart, long, short, some.1) (bad-cons _ _))
    ]
wanted s rows x (plain apart long short) = wanted_value (rw (apart, long, short) refl)

pub wanted_dashes_leave : (s : Seen) (rows : List Row) (x : Text) → x ≡ 45 ∷ 45 ∷ [] → walked drilled.rules [] (wants s rows false) x ≡ wants s rows true
unfolding walked
wanted_dashes_leave s rows x e = ap (λ z. walked drilled.rules [] (wants s rows false) z) e

pub plain_value_fault : (s : Seen) (rows : List Row) (x : Text) → IsPlain x → turn_fault drilled [] (wants s rows false) x ≡ []
plain_value_fault s rows x (apart, long, short) = rw (apart, long, short) refl

pub plain_value : (s : Seen) (rows : List Row) (x : Text) → IsPlain x → walked drilled.rules [] (wants s rows false) x ≡ standing s rows (Some (codes "workers", x ∷ [])) idle false
unfolding walked
plain_value s rows x (apart, long, short) = rw (apart, long, short) refl

-- ---- where what waits is refused

pub doomed_flag : (s : Seen) (rows : List Row) (p : Option (Text × List Text)) (x : Text) → x ≡ flag Workers → Doomed rows p → Bad (turn_fault drilled [] (standing s rows p idle false) x)
doomed_flag s rows p x e doomed = rw e (bad-left (settle_fault drilled.rules false (held rows p)) [] doomed)

pub doomed_value : (s : Seen) (rows : List Row) (p : Option (Text × List Text)) (v x : Text) → x ≡ flag_value Workers v → Doomed rows p → Bad (turn_fault drilled [] (standing s rows p idle false) x)
doomed_value s rows p v x e doomed =
    let fault = settle_fault drilled.rules false (held rows p) in
    let second = use_fault false (rule Crew) (v ∷ []) (now rows p) in
    rw e (bad-left _ [] (bad-left fault second doomed))

pub doomed_loose : (s : Seen) (rows : List Row) (p : Option (Text × List Text)) (x : Text) → Loose x → Doomed rows p → Bad (turn_fault drilled [] (standing s rows p idle false) x)
doomed_loose s rows p x loose doomed =
    elim (next_of s x) [
      | inl next ↦ rw (next.loose_fault rows p loose) doomed
      | inr none ↦ none.loose rows p loose
    ]

pub doomed_trailing : (s : Seen) (rows : List Row) (p : Option (Text × List Text)) (w : Waiting) (x : Text) → Doomed rows p → Bad (turn_fault drilled [] (standing s rows p w true) x)
doomed_trailing s rows p w x doomed =
    elim (next_of s x) [
      | inl next ↦ rw (next.trailing_fault rows p w) doomed
      | inr none ↦ none.trailing rows p w
    ]
