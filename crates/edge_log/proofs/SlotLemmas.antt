-- What a step of a walk over a vector of slots is for the entries that it stands for.
use Rattle.std.proofs.Common.{◌≡◌, ℕ, ◌+◌, ◌-◌, ◌<◌, ◌≤◌, List, [], ◌∷◌, ◌++◌, length, map, take, drop, get_or, set, zero, suc, add-one, refl, sym, subst, ap, ◌∙◌, arith, Some, true, false, ◌&&◌, ◌==◌, append_assoc}
use Rattle.std.specs.Prelude.{reverse, nat_lt, Bool, ◌||◌}
use Rattle.std.specs.List.{list_any}
use Rattle.std.proofs.lemmas.List.{length-append}
use Rattle.std.proofs.lemmas.Bool.Decides.{nat_tests}
use Rattle.std.proofs.lemmas.List.{reverse-append, map_push, length-map, length-reverse, length_push, take_more, take_all, drop_all, append-nil, map-append, take_rest, take-append-drop}
use Rattle.edge_log.proofs.PlaceLemmas.{oldest_none, oldest_more, length-oldest}
use Rattle.edge_log.proofs.EntryLemmas.{payloads-oldest}
use Rattle.graph_model.specs.declared.pairs.Pair.{Pair}
use Rattle.stamps.specs.Stamps.{Reader, Nobody, counts}
use Rattle.stamps.specs.declared.stamp.Stamp.TheVariants.{By}
use Rattle.edge_log.specs.declared.slot.Slot.{Slot}
use Rattle.edge_log.specs.Entries.{Entry, visible, pair_of, shown, payload_sum, converted, cleared, kept}
use Rattle.edge_log.specs.Places.{entry_at, newest_place, ended_at, oldest}
use Rattle.edge_log.specs.Slots.{entry_of, entries_of, converted_slot, cleared_slot}

-- a slot pushed is an entry in front
pub entries-push : (slots : List Slot) (s : Slot) → entries_of (slots ++ s ∷ []) ≡ entry_of s ∷ entries_of slots
entries-push slots s = ap reverse (map_push entry_of slots s) ∙ reverse-append (map entry_of slots) (entry_of s ∷ [])

-- the first slot is the last entry
pub entries-cons : (s : Slot) (slots : List Slot) → entries_of (s ∷ slots) ≡ entries_of slots ++ entry_of s ∷ []
entries-cons s slots = reverse-append (entry_of s ∷ []) (map entry_of slots)

pub length-entries : (slots : List Slot) → length (entries_of slots) ≡ length slots
length-entries slots = length-reverse (map entry_of slots) ∙ length-map slots entry_of

-- The oldest entry is at place 0, and each other is one place further.
entry_at-first : (xs : List Entry) (x : Entry) → entry_at (xs ++ x ∷ []) 0 ≡ Some x
entry_at-first [] x = refl
entry_at-first (y ∷ xs) x = grind (arith, nat_tests, length_push xs x, entry_at-first xs x)

entry_at-later : (xs : List Entry) (x : Entry) (n : ℕ) → entry_at (xs ++ x ∷ []) (n + 1) ≡ entry_at xs n
entry_at-later [] x n = grind (arith, nat_tests)
entry_at-later (y ∷ xs) x n = grind (arith, nat_tests, length_push xs x, entry_at-later xs x n)

-- the entry at a place is that of the slot there
pub entry_at-entries : (slots : List Slot) (n : ℕ) (d : Slot) → n < length slots → entry_at (entries_of slots) n ≡ Some (entry_of (get_or slots n d))
entry_at-entries [] n d within = absurd (omega arith)
entry_at-entries (s ∷ slots) zero d within = ap (λ xs. entry_at xs 0) (entries-cons s slots) ∙ entry_at-first (entries_of slots) (entry_of s)
entry_at-entries (s ∷ slots) (suc n) d within =
    let later : entry_at (entries_of slots ++ entry_of s ∷ []) (suc n) ≡ entry_at (entries_of slots) n = rw (← add-one n) (entry_at-later (entries_of slots) (entry_of s) n) in
    ap (λ xs. entry_at xs (suc n)) (entries-cons s slots) ∙ later ∙ entry_at-entries slots n d (omega arith)

ended_at-first : (xs : List Entry) (x : Entry) (t : ℕ) → ended_at (xs ++ x ∷ []) 0 t ≡ xs ++ record x { ended = By t } ∷ []
ended_at-first [] x t = refl
ended_at-first (y ∷ xs) x t = grind (arith, nat_tests, length_push xs x, ended_at-first xs x t)

ended_at-later : (xs : List Entry) (x : Entry) (n t : ℕ) → ended_at (xs ++ x ∷ []) (n + 1) t ≡ ended_at xs n t ++ x ∷ []
ended_at-later [] x n t = grind (arith, nat_tests)
ended_at-later (y ∷ xs) x n t = grind (arith, nat_tests, length_push xs x, ended_at-later xs x n t)

-- the slot at a place ended is its entry ended
pub entries-set : (slots : List Slot) (n t : ℕ) (d : Slot) → n < length slots → entries_of (set slots n (record (get_or slots n d) { ended = By t })) ≡ ended_at (entries_of slots) n t
entries-set [] n t d within = absurd (omega arith)
entries-set (s ∷ slots) zero t d within =
    entries-cons (record s { ended = By t }) slots ∙ sym (ended_at-first (entries_of slots) (entry_of s) t) ∙ ap (λ xs. ended_at xs 0 t) (sym (entries-cons s slots))
entries-set (s ∷ slots) (suc n) t d within =
    let later : ended_at (entries_of slots ++ entry_of s ∷ []) (suc n) t ≡ ended_at (entries_of slots) n t ++ entry_of s ∷ [] = rw (← add-one n) (ended_at-later (entries_of slots) (entry_of s) n t) in
    entries-cons s (set slots n (record (get_or slots n d) { ended = By t }))
    ∙ ap (λ xs. xs ++ entry_of s ∷ []) (entries-set slots n t d (omega arith))
    ∙ sym later ∙ ap (λ xs. ended_at xs (suc n) t) (sym (entries-cons s slots))

-- the oldest entries are those of the first slots
pub entries-take : (slots : List Slot) (n : ℕ) → n ≤ length slots → entries_of (take n slots) ≡ oldest n (entries_of slots)
entries-take slots zero within = sym (oldest_none (entries_of slots))
entries-take [] (suc n) within = absurd (omega arith)
entries-take (s ∷ rest) (suc n) within =
    let slots : List Slot = s ∷ rest in
    let here : n < length slots = omega arith in
    let more : entries_of (take (n + 1) slots) ≡ oldest (n + 1) (entries_of slots) =
    ap entries_of (take_more slots n s here) ∙ entries-push (take n slots) (get_or slots n s)
    ∙ ap (λ xs. entry_of (get_or slots n s) ∷ xs) (entries-take slots n (omega arith))
    ∙ sym (oldest_more (entries_of slots) n (entry_of (get_or slots n s)) (entry_at-entries slots n s here)) in
    subst (λ k. entries_of (take k (s ∷ rest)) ≡ oldest k (entries_of (s ∷ rest))) (add-one n) more

converted-append : (t e : ℕ) (xs ys : List Entry) → converted t e (xs ++ ys) ≡ converted t e xs ++ converted t e ys
converted-append t e [] ys = refl
converted-append t e (x ∷ xs) ys = grind (arith, converted-append t e xs ys)

cleared-append : (t : ℕ) (xs ys : List Entry) → cleared t (xs ++ ys) ≡ cleared t xs ++ cleared t ys
cleared-append t [] ys = refl
cleared-append t (x ∷ xs) ys = grind (arith, cleared-append t xs ys)

pub entries-converted : (t e : ℕ) (slots : List Slot) → entries_of (map (converted_slot t e) slots) ≡ converted t e (entries_of slots)
entries-converted t e [] = refl
entries-converted t e (s ∷ slots) =
    entries-cons (converted_slot t e s) (map (converted_slot t e) slots)
    ∙ ap (λ xs. xs ++ entry_of (converted_slot t e s) ∷ []) (entries-converted t e slots)
    ∙ sym (converted-append t e (entries_of slots) (entry_of s ∷ []))
    ∙ ap (converted t e) (sym (entries-cons s slots))

pub entries-cleared : (t : ℕ) (slots : List Slot) → entries_of (map (cleared_slot t) slots) ≡ cleared t (entries_of slots)
entries-cleared t [] = refl
entries-cleared t (s ∷ slots) =
    entries-cons (cleared_slot t s) (map (cleared_slot t) slots)
    ∙ ap (λ xs. xs ++ entry_of (cleared_slot t s) ∷ []) (entries-cleared t slots)
    ∙ sym (cleared-append t (entries_of slots) (entry_of s ∷ []))
    ∙ ap (cleared t) (sym (entries-cons s slots))

-- The slot s stands at place n.
pub record StandsAt (slots : List Slot) (n : ℕ) (s : Slot) : Type 0 where
  pub within : n < length slots
  pub is : s ≡ get_or slots n s

pub entry_at-slot : (slots : List Slot) (n : ℕ) (s : Slot) → StandsAt slots n s → entry_at (entries_of slots) n ≡ Some (entry_of s)
entry_at-slot slots n s stands = entry_at-entries slots n s stands.within ∙ ap (λ x. Some (entry_of x)) (sym stands.is)

oldest-slot : (slots : List Slot) (n : ℕ) (s : Slot) → StandsAt slots n s → oldest (n + 1) (entries_of slots) ≡ entry_of s ∷ oldest n (entries_of slots)
oldest-slot slots n s stands = oldest_more (entries_of slots) n (entry_of s) (entry_at-slot slots n s stands)

take-slot : (slots : List Slot) (n : ℕ) (s : Slot) → StandsAt slots n s → entries_of (take (n + 1) slots) ≡ entry_of s ∷ entries_of (take n slots)
take-slot slots n s stands =
    ap entries_of (take_more slots n s stands.within) ∙ entries-push (take n slots) (get_or slots n s) ∙ ap (λ x. entry_of x ∷ entries_of (take n slots)) (sym stands.is)

-- the newest entry of d below a place p is the one next to it, or is further down
pub newest_found : (slots : List Slot) (n p d e : ℕ) (who : Reader) (s : Slot) → p ≡ n + 1 → StandsAt slots n s → visible (entry_of s) e who ≡ true → s.d ≡ d → newest_place (oldest p (entries_of slots)) d e who ≡ Some n
newest_found slots n p d e who s next stands seen same =
    let long : length (oldest n (entries_of slots)) ≡ n = length-oldest (entries_of slots) n (rw (length-entries slots) (omega (arith, stands.within))) in
    ap (λ k. newest_place (oldest k (entries_of slots)) d e who) next ∙ ap (λ xs. newest_place xs d e who) (oldest-slot slots n s stands) ∙ grind (arith, nat_tests, seen, same, long)

pub newest_passed : (slots : List Slot) (n p d e : ℕ) (who : Reader) (s : Slot) → p ≡ n + 1 → StandsAt slots n s → (visible (entry_of s) e who && s.d == d) ≡ false → newest_place (oldest p (entries_of slots)) d e who ≡ newest_place (oldest n (entries_of slots)) d e who
newest_passed slots n p d e who s next stands other =
    ap (λ k. newest_place (oldest k (entries_of slots)) d e who) next ∙ ap (λ xs. newest_place xs d e who) (oldest-slot slots n s stands) ∙ grind (arith, other)

-- one more slot's payload
pub payloads_more : (slots : List Slot) (n : ℕ) (s : Slot) → StandsAt slots n s → payload_sum (entries_of (take (n + 1) slots)) ≡ payload_sum (entries_of (take n slots)) + length s.payload
payloads_more slots n s stands = ap payload_sum (take-slot slots n s stands) ∙ omega arith

pub payloads_some : (slots : List Slot) (n : ℕ) → n ≤ length slots → payload_sum (entries_of (take n slots)) ≤ payload_sum (entries_of slots)
payloads_some slots n within = rw (entries-take slots n within) (payloads-oldest n (entries_of slots))

-- one more slot is kept, or is past
pub kept_more : (h : ℕ) (slots : List Slot) (n : ℕ) (s : Slot) → StandsAt slots n s → counts s.ended h Nobody ≡ false → kept h (entries_of (take (n + 1) slots)) ≡ entry_of s ∷ kept h (entries_of (take n slots))
kept_more h slots n s stands later = ap (kept h) (take-slot slots n s stands) ∙ grind (arith, later)

pub kept_past : (h : ℕ) (slots : List Slot) (n : ℕ) (s : Slot) → StandsAt slots n s → counts s.ended h Nobody ≡ true → kept h (entries_of (take (n + 1) slots)) ≡ kept h (entries_of (take n slots))
kept_past h slots n s stands past = ap (kept h) (take-slot slots n s stands) ∙ grind (arith, past)

-- a walk that writes each slot has written all in the end
pub walked : (f : Slot → Slot) (slots done : List Slot) (i : ℕ) → length slots ≤ i → done ≡ map f (take i slots) ++ drop i slots → done ≡ map f slots
walked f slots done i all so_far =
    so_far ∙ ap (λ xs. map f xs ++ drop i slots) (take_all i slots all) ∙ ap (λ xs. map f slots ++ xs) (drop_all i slots all) ∙ append-nil (map f slots)

-- a scan that goes one place down has one pair more, or passes over an entry that is not visible
shown_first : (x : Entry) (xs : List Entry) (e : ℕ) (who : Reader) → visible x e who ≡ true → shown (x ∷ xs) e who ≡ pair_of x ∷ shown xs e who
shown_first x xs e who seen = grind (arith, seen)

shown_rest : (x : Entry) (xs : List Entry) (e : ℕ) (who : Reader) → visible x e who ≡ false → shown (x ∷ xs) e who ≡ shown xs e who
shown_rest x xs e who unseen = grind (arith, unseen)

pub seen_more : (slots : List Slot) (n p e : ℕ) (who : Reader) (s : Slot) (all pairs : List Pair) → p ≡ n + 1 → StandsAt slots n s → visible (entry_of s) e who ≡ true
    → all ≡ pairs ++ shown (oldest p (entries_of slots)) e who → all ≡ pairs ++ pair_of (entry_of s) ∷ [] ++ shown (oldest n (entries_of slots)) e who
seen_more slots n p e who s all pairs next stands seen so_far =
    so_far
    ∙ ap (λ k. pairs ++ shown (oldest k (entries_of slots)) e who) next
    ∙ ap (λ xs. pairs ++ shown xs e who) (oldest-slot slots n s stands)
    ∙ ap (λ xs. pairs ++ xs) (shown_first (entry_of s) (oldest n (entries_of slots)) e who seen)
    ∙ sym (append_assoc pairs (pair_of (entry_of s) ∷ []) (shown (oldest n (entries_of slots)) e who))

pub unseen_more : (slots : List Slot) (n p e : ℕ) (who : Reader) (s : Slot) (all pairs : List Pair) → p ≡ n + 1 → StandsAt slots n s → visible (entry_of s) e who ≡ false
    → all ≡ pairs ++ shown (oldest p (entries_of slots)) e who → all ≡ pairs ++ shown (oldest n (entries_of slots)) e who
unseen_more slots n p e who s all pairs next stands unseen so_far =
    so_far
    ∙ ap (λ k. pairs ++ shown (oldest k (entries_of slots)) e who) next
    ∙ ap (λ xs. pairs ++ shown xs e who) (oldest-slot slots n s stands)
    ∙ ap (λ xs. pairs ++ xs) (shown_rest (entry_of s) (oldest n (entries_of slots)) e who unseen)

-- the slot s at a place, ended, is its entry ended
pub entries-ended : (slots : List Slot) (n t : ℕ) (s : Slot) → StandsAt slots n s → entries_of (set slots n (record s { ended = By t })) ≡ ended_at (entries_of slots) n t
entries-ended slots n t s stands = ap (λ (x : Slot). entries_of (set slots n (record x { ended = By t }))) stands.is ∙ entries-set slots n t s stands.within

kept-append : (h : ℕ) (xs ys : List Entry) → kept h (xs ++ ys) ≡ kept h xs ++ kept h ys
kept-append h [] ys = refl
kept-append h (x ∷ xs) ys = grind (arith, kept-append h xs ys)

entries-append : (xs ys : List Slot) → entries_of (xs ++ ys) ≡ entries_of ys ++ entries_of xs
entries-append xs ys = ap reverse (map-append entry_of xs ys) ∙ reverse-append (map entry_of xs) (map entry_of ys)

-- copies of what is kept of the first n slots
pub kept_first : (h n : ℕ) (slots first : List Slot) → n ≤ length slots → entries_of first ≡ kept h (entries_of (take n slots)) ++ [] → entries_of first ≡ kept h (oldest n (entries_of slots))
kept_first h n slots first within copied = copied ∙ append-nil (kept h (entries_of (take n slots))) ∙ ap (kept h) (entries-take slots n within)

-- and those of the others behind them
pub kept_all : (h n : ℕ) (slots first all : List Slot) → entries_of first ≡ kept h (entries_of (take n slots)) ++ [] → entries_of all ≡ kept h (entries_of (take (length slots - n) (drop n slots))) ++ entries_of first → entries_of all ≡ kept h (entries_of slots)
kept_all h n slots first all copied further =
    further
    ∙ ap (λ xs. kept h (entries_of xs) ++ entries_of first) (take_rest slots n)
    ∙ ap (λ xs. kept h (entries_of (drop n slots)) ++ xs) (copied ∙ append-nil (kept h (entries_of (take n slots))))
    ∙ sym (kept-append h (entries_of (drop n slots)) (entries_of (take n slots)))
    ∙ ap (kept h) (sym (entries-append (take n slots) (drop n slots)) ∙ ap entries_of (take-append-drop n slots))

-- an edge is seen exactly where a slot is visible
shown-append : (xs ys : List Entry) (e : ℕ) (who : Reader) → shown (xs ++ ys) e who ≡ shown xs e who ++ shown ys e who
shown-append [] ys e who = refl
shown-append (x ∷ xs) ys e who = grind (arith, shown-append xs ys e who)

pub any_visible : (slots : List Slot) (e : ℕ) (who : Reader) → list_any (λ s. visible (entry_of s) e who) slots ≡ nat_lt 0 (length (shown (entries_of slots) e who))
any_visible [] e who = refl
any_visible (s ∷ slots) e who =
    let rest = any_visible slots e who in
    let split = ap (λ xs. length (shown xs e who)) (entries-cons s slots) ∙ ap length (shown-append (entries_of slots) (entry_of s ∷ []) e who) ∙ length-append (shown (entries_of slots) e who) (shown (entry_of s ∷ []) e who) in
    by_test (visible (entry_of s) e who) refl split rest
  where
    by_test : (b : Bool) → visible (entry_of s) e who ≡ b → length (shown (entries_of (s ∷ slots)) e who) ≡ length (shown (entries_of slots) e who) + length (shown (entry_of s ∷ []) e who)
        → list_any (λ x. visible (entry_of x) e who) slots ≡ nat_lt 0 (length (shown (entries_of slots) e who))
        → list_any (λ x. visible (entry_of x) e who) (s ∷ slots) ≡ nat_lt 0 (length (shown (entries_of (s ∷ slots)) e who))
    by_test b is split rest = grind (arith, nat_tests, is, split, rest)

-- a slot passes a test exactly where an entry does
any-append : (p : Entry → Bool) (xs ys : List Entry) → list_any p (xs ++ ys) ≡ (list_any p xs || list_any p ys)
any-append p [] ys = refl
any-append p (x ∷ xs) ys = grind (arith, any-append p xs ys)

pub any_entry : (p : Entry → Bool) (slots : List Slot) → list_any (λ s. p (entry_of s)) slots ≡ list_any p (entries_of slots)
any_entry p [] = refl
any_entry p (s ∷ slots) =
    let rest = any_entry p slots in
    let split = ap (list_any p) (entries-cons s slots) ∙ any-append p (entries_of slots) (entry_of s ∷ []) in
    by_tests (p (entry_of s)) refl (list_any p (entries_of slots)) refl split rest
  where
    by_tests : (b : Bool) → p (entry_of s) ≡ b → (c : Bool) → list_any p (entries_of slots) ≡ c → list_any p (entries_of (s ∷ slots)) ≡ (list_any p (entries_of slots) || list_any p (entry_of s ∷ []))
        → list_any (λ x. p (entry_of x)) slots ≡ list_any p (entries_of slots) → list_any (λ x. p (entry_of x)) (s ∷ slots) ≡ list_any p (entries_of (s ∷ slots))
    by_tests b is c are split rest = grind (arith, is, are, split, rest)

-- the payloads below a place are that of the entry next to it, and those further down
pub payloads-below : (slots : List Slot) (n p : ℕ) (s : Slot) → p ≡ n + 1 → StandsAt slots n s → payload_sum (oldest p (entries_of slots)) ≡ length s.payload + payload_sum (oldest n (entries_of slots))
payloads-below slots n p s next stands = ap (λ k. payload_sum (oldest k (entries_of slots))) next ∙ ap payload_sum (oldest-slot slots n s stands)
