-- The bytes of a log are read in one way.
use Rattle.std.proofs.Common.{◌≡◌, ◌≢◌, ℕ, ◌+◌, true, List, [], ◌∷◌, ◌++◌, length, refl, sym, ap, ◌∙◌, subst, inl, inr, arith, append_assoc, length-append}
use Rattle.std.specs.Prelude.{IsTrue, flat_map}
use Rattle.std.proofs.lemmas.Bool.{and_parts}
use Rattle.std.proofs.lemmas.List.{append_cancel_left}
use Rattle.graph_model.specs.declared.record.Record.{Record}
use Rattle.graph_model.specs.Records.{Lawful}
use Rattle.group_codec.specs.Spelling.{u32_bytes, record_bytes, group_payload, group_bytes, is_group}
use Rattle.group_codec.specs.Log.{log_head, groups_bytes, are_groups, log_bytes, records_of, LogText, Recovers, NoHead, NoGroup, IsBadBehind, FirstBad}
use Rattle.group_codec.proofs.Numbers.{u32_one, u64_one}
use Rattle.group_codec.proofs.Fronts.{append_parts}
use Rattle.group_codec.proofs.Groups.{group-parts, group-ends}
use Rattle.group_codec.proofs.Grouping.{are_groups-push, are_groups-append, records_of-push}
use Rattle.group_codec.proofs.Lawfuls.{Lawful-front}
use Rattle.group_codec.proofs.Texts.{log_bytes-push}

pub one-spelling : (d e : ℕ) (g h : List Record) (r s : List ℕ) → IsTrue (is_group d g) → IsTrue (is_group e h) → group_bytes d g ++ r ≡ group_bytes e h ++ s → (d ≡ e) × (g ≡ h) × (r ≡ s)
one-spelling d e g h r s hg hh same =
    let pg = group-parts d g hg in
    let ph = group-parts e h hh in
    let a = u32_one (length (group_payload d g)) (length (group_payload e h)) (group_payload d g ++ r) (group_payload e h ++ s) pg.2 ph.2
    (sym (append_assoc (u32_bytes (length (group_payload d g))) (group_payload d g) r) ∙ same ∙ append_assoc (u32_bytes (length (group_payload e h))) (group_payload e h) s) in
    let b = append_parts (group_payload d g) (group_payload e h) r s a.0 a.1 in
    let c = u64_one d e (u32_bytes (length g) ++ flat_map record_bytes g) (u32_bytes (length h) ++ flat_map record_bytes h) pg.0 ph.0 b.0 in
    let ends = group-ends d g h r s hg (subst (λ n. is_group n h ≡ true) (sym c.0) hh) (same ∙ ap (λ n. group_bytes n h ++ s) (sym c.0)) in
    (c.0, ends.0, ends.1)

-- Two readings of the same bytes from one gate on: they are one, or one of them ends at an open gate where the
-- other has its next group.
data Meets (k : ℕ) (xs ys : List (List Record)) (a b : ℕ) (r s : List ℕ) : Type 0 where
  same : xs ≡ ys → a ≡ b → r ≡ s → Meets k xs ys a b r s
  first_ends : (g : List Record) (gs : List (List Record)) → ys ≡ xs ++ g ∷ gs → a ≡ 1 → r ≡ group_bytes (k + length xs + 1) g ++ (groups_bytes (k + length xs + 1) gs ++ b ∷ s) → Meets k xs ys a b r s
  second_ends : (g : List Record) (gs : List (List Record)) → xs ≡ ys ++ g ∷ gs → b ≡ 1 → s ≡ group_bytes (k + length ys + 1) g ++ (groups_bytes (k + length ys + 1) gs ++ a ∷ r) → Meets k xs ys a b r s

meet-more : (k : ℕ) (g : List Record) (xs ys : List (List Record)) (a b : ℕ) (r s : List ℕ) → Meets (k + 1) xs ys a b r s → Meets k (g ∷ xs) (g ∷ ys) a b r s
meet-more k g xs ys a b r s (same p q t) = same (ap (λ zs. g ∷ zs) p) q t
meet-more k g xs ys a b r s (first_ends h hs p q t) =
    first_ends h hs (ap (λ zs. g ∷ zs) p) q (t ∙ ap (λ n. group_bytes n h ++ (groups_bytes n hs ++ b ∷ s)) (omega arith))
meet-more k g xs ys a b r s (second_ends h hs p q t) =
    second_ends h hs (ap (λ zs. g ∷ zs) p) q (t ∙ ap (λ n. group_bytes n h ++ (groups_bytes n hs ++ a ∷ r)) (omega arith))

meet : (k : ℕ) (xs ys : List (List Record)) (a b : ℕ) (r s : List ℕ) → are_groups k xs ≡ true → are_groups k ys ≡ true → groups_bytes k xs ++ a ∷ r ≡ groups_bytes k ys ++ b ∷ s → Meets k xs ys a b r s
meet k [] [] a b r s hx hy e = let p : a ≡ b = (cc) in let q : r ≡ s = (cc) in same refl p q
meet k [] (y ∷ ys) a b r s hx hy e =
    let p : a ≡ 1 = (cc) in
    let q : r ≡ (group_bytes (k + 1) y ++ groups_bytes (k + 1) ys) ++ b ∷ s = (cc) in
    first_ends y ys refl p (q ∙ append_assoc (group_bytes (k + 1) y) (groups_bytes (k + 1) ys) (b ∷ s) ∙ ap (λ n. group_bytes n y ++ (groups_bytes n ys ++ b ∷ s)) (omega arith))
meet k (x ∷ xs) [] a b r s hx hy e =
    let p : b ≡ 1 = (cc) in
    let q : s ≡ (group_bytes (k + 1) x ++ groups_bytes (k + 1) xs) ++ a ∷ r = (cc) in
    second_ends x xs refl p (q ∙ append_assoc (group_bytes (k + 1) x) (groups_bytes (k + 1) xs) (a ∷ r) ∙ ap (λ n. group_bytes n x ++ (groups_bytes n xs ++ a ∷ r)) (omega arith))
meet k (x ∷ xs) (y ∷ ys) a b r s hx hy e =
    let px = and_parts (is_group (k + 1) x) (are_groups (k + 1) xs) hx in
    let py = and_parts (is_group (k + 1) y) (are_groups (k + 1) ys) hy in
    let tails : (group_bytes (k + 1) x ++ groups_bytes (k + 1) xs) ++ a ∷ r ≡ (group_bytes (k + 1) y ++ groups_bytes (k + 1) ys) ++ b ∷ s = (cc) in
    let ends = group-ends (k + 1) x y (groups_bytes (k + 1) xs ++ a ∷ r) (groups_bytes (k + 1) ys ++ b ∷ s) px.0 py.0
    (sym (append_assoc (group_bytes (k + 1) x) (groups_bytes (k + 1) xs) (a ∷ r)) ∙ tails ∙ append_assoc (group_bytes (k + 1) y) (groups_bytes (k + 1) ys) (b ∷ s)) in
    subst (λ g. Meets k (x ∷ xs) (g ∷ ys) a b r s) ends.0 (meet-more k x xs ys a b r s (meet (k + 1) xs ys a b r s px.1 py.1 ends.1))

meet-logs : (xs ys : List (List Record)) (a b : ℕ) (r s : List ℕ) → are_groups 0 xs ≡ true → are_groups 0 ys ≡ true → log_bytes xs ++ a ∷ r ≡ log_bytes ys ++ b ∷ s → Meets 0 xs ys a b r s
meet-logs xs ys a b r s hx hy e =
    meet 0 xs ys a b r s hx hy
    (append_cancel_left log_head (groups_bytes 0 xs ++ a ∷ r) (groups_bytes 0 ys ++ b ∷ s) (sym (append_assoc log_head (groups_bytes 0 xs) (a ∷ r)) ∙ e ∙ append_assoc log_head (groups_bytes 0 ys) (b ∷ s)))

pub one-text : (bytes : List ℕ) (groups others : List (List Record)) (gate other : ℕ) (rest more : List ℕ) → LogText bytes groups gate rest → LogText bytes others other more → (groups ≡ others) × (gate ≡ other) × (rest ≡ more)
one-text bytes groups others gate other rest more one two =
    go (meet-logs groups others gate other rest more one.spelled two.spelled (sym one.text ∙ two.text))
  where
    go : Meets 0 groups others gate other rest more → (groups ≡ others) × (gate ≡ other) × (rest ≡ more)
    go (same p q t) = (p, q, t)
    go (first_ends g gs p q t) = absurd (one.closed q)
    go (second_ends g gs p q t) = absurd (two.closed q)

pub one-list : (bytes : List ℕ) (records others : List Record) (durable other : ℕ) → Recovers bytes records durable → Recovers bytes others other → (records ≡ others) × (durable ≡ other)
one-list bytes records others durable other (gs, a, r, text, law, is, at_gate) (hs, b, s, text', law', is', at_gate') =
    let one = one-text bytes gs hs a b r s text text' in
    (is ∙ ap records_of one.0 ∙ sym is', at_gate ∙ ap (λ x. length (log_bytes x) + 1) one.0 ∙ sym at_gate')

-- where groups are followed by another one, they are not bad
not-bad : (front : List (List Record)) (g : List Record) (back : List (List Record)) (b : ℕ) (rest s : List ℕ) → are_groups 0 (front ++ g ∷ back) ≡ true → Lawful (records_of (front ++ g ∷ back)) →
    rest ≡ group_bytes (length front + 1) g ++ (groups_bytes (length front + 1) back ++ b ∷ s) → NoGroup front rest → ⊥
not-bad front g back b rest s ok law text bad =
    let split : front ++ g ∷ back ≡ (front ++ g ∷ []) ++ back = sym (append_assoc front (g ∷ []) back) in
    let here = Lawful-front (front ++ g ∷ []) back (ap (are_groups 0) (sym split) ∙ ok) (subst (λ x. Lawful (records_of x)) split law) in
    let parts = and_parts (are_groups 0 front) (are_groups (0 + length front) (g ∷ back)) (sym (are_groups-append 0 front (g ∷ back)) ∙ ok) in
    let one = and_parts (is_group (0 + length front + 1) g) (are_groups (0 + length front + 1) back) parts.1 in
    let spelled = subst (λ n. is_group (n + 1) g ≡ true) (omega arith) one.0 in
    go (groups_bytes (length front + 1) back) text spelled (subst Lawful (records_of-push front g) here)
  where
    go : (tail : List ℕ) → rest ≡ group_bytes (length front + 1) g ++ (tail ++ b ∷ s) → is_group (length front + 1) g ≡ true → Lawful (records_of front ++ g) → ⊥
    go [] t ok_here law_here = bad g b s t ok_here law_here
    go (x ∷ tail) t ok_here law_here = bad g x (tail ++ b ∷ s) t ok_here law_here

bad-log : (bytes : List ℕ) (groups : List (List Record)) (rest : List ℕ) → IsBadBehind bytes groups rest → NoHead bytes → ⊥
bad-log bytes groups rest bad none = go (groups_bytes 0 groups) (bad.text ∙ append_assoc log_head (groups_bytes 0 groups) (1 ∷ rest))
  where
    go : (tail : List ℕ) → bytes ≡ log_head ++ (tail ++ 1 ∷ rest) → ⊥
    go [] t = none 1 rest t
    go (x ∷ tail) t = none x (tail ++ 1 ∷ rest) t

text-log : (bytes : List ℕ) (groups : List (List Record)) (gate : ℕ) (rest : List ℕ) → LogText bytes groups gate rest → NoHead bytes → ⊥
text-log bytes groups gate rest text none = go (groups_bytes 0 groups) (text.text ∙ append_assoc log_head (groups_bytes 0 groups) (gate ∷ rest))
  where
    go : (tail : List ℕ) → bytes ≡ log_head ++ (tail ++ gate ∷ rest) → ⊥
    go [] t = none gate rest t
    go (x ∷ tail) t = none x (tail ++ gate ∷ rest) t

pub not-both : (bytes : List ℕ) (records : List Record) (durable place group : ℕ) → Recovers bytes records durable → FirstBad bytes place group → ⊥
not-both bytes records durable place group (gs, a, r, text, law, is, at_gate) (inl none) = text-log bytes gs a r text none.0
not-both bytes records durable place group (gs, a, r, text, law, is, at_gate) (inr (hs, s, bad, p, n)) =
    go (meet-logs gs hs a 1 r s text.spelled bad.spelled (sym text.text ∙ bad.text))
  where
    go : Meets 0 gs hs a 1 r s → ⊥
    go (same x y z) = text.closed y
    go (first_ends g back x y z) = text.closed y
    go (second_ends g back x y z) =
        not-bad hs g back a s r (ap (are_groups 0) (sym x) ∙ text.spelled) (subst Lawful (is ∙ ap records_of x) law)
        (z ∙ ap (λ m. group_bytes m g ++ (groups_bytes m back ++ a ∷ r)) (omega arith)) bad.bad

pub one-bad : (bytes : List ℕ) (place group other number : ℕ) → FirstBad bytes place group → FirstBad bytes other number → (place ≡ other) × (group ≡ number)
one-bad bytes place group other number (inl one) (inl two) = (one.1 ∙ sym two.1, one.2 ∙ sym two.2)
one-bad bytes place group other number (inl one) (inr (hs, s, bad, p, n)) = absurd (bad-log bytes hs s bad one.0)
one-bad bytes place group other number (inr (hs, s, bad, p, n)) (inl two) = absurd (bad-log bytes hs s bad two.0)
one-bad bytes place group other number (inr (gs, r, one, p, n)) (inr (hs, s, two, p', n')) =
    let all : gs ≡ hs = go (meet-logs gs hs 1 1 r s one.spelled two.spelled (sym one.text ∙ two.text)) in
    (p ∙ ap (λ x. length (log_bytes x) + 1) all ∙ sym p', n ∙ ap (λ x. length x + 1) all ∙ sym n')
  where
    go : Meets 0 gs hs 1 1 r s → gs ≡ hs
    go (same x y z) = x
    go (first_ends g back x y z) =
        absurd (not-bad gs g back 1 r s (ap (are_groups 0) (sym x) ∙ two.spelled) (subst (λ w. Lawful (records_of w)) x two.lawful)
        (z ∙ ap (λ m. group_bytes m g ++ (groups_bytes m back ++ 1 ∷ s)) (omega arith)) one.bad)
    go (second_ends g back x y z) =
        absurd (not-bad hs g back 1 s r (ap (are_groups 0) (sym x) ∙ one.spelled) (subst (λ w. Lawful (records_of w)) x one.lawful)
        (z ∙ ap (λ m. group_bytes m g ++ (groups_bytes m back ++ 1 ∷ r)) (omega arith)) two.bad)

pub written-read : (groups : List (List Record)) (g : List Record) (gate : ℕ) (rest : List ℕ) → IsTrue (are_groups 0 groups) → IsTrue (is_group (length groups + 1) g) → Lawful (records_of groups ++ g) → gate ≢ 1 →
    Recovers (log_bytes groups ++ 1 ∷ (group_bytes (length groups + 1) g ++ gate ∷ rest)) (records_of groups ++ g) (length (log_bytes groups) + 1 + length (group_bytes (length groups + 1) g) + 1)
written-read groups g gate rest ok one law closed =
    let push = log_bytes-push groups g in
    let text : log_bytes groups ++ 1 ∷ (group_bytes (length groups + 1) g ++ gate ∷ rest) ≡ log_bytes (groups ++ g ∷ []) ++ gate ∷ rest =
    sym (append_assoc (log_bytes groups) (1 ∷ group_bytes (length groups + 1) g) (gate ∷ rest)) ∙ ap (λ xs. xs ++ gate ∷ rest) (sym push) in (
      groups ++ g ∷ [],
      gate,
      rest,
      record { spelled = are_groups-push groups g ok one; closed = closed; text = text },
      law,
      sym (records_of-push groups g),
      omega (arith, ap length push, length-append (log_bytes groups) (1 ∷ group_bytes (length groups + 1) g)),
    )
