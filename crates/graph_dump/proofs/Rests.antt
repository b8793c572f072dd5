-- What a walk over items with rising numbers has before it.
use Rattle.std.proofs.Common.{◌≡◌, ℕ, ◌+◌, true, false, cond, List, [], ◌∷◌, map, refl, sym, ap, ◌∙◌, arith}
use Rattle.std.specs.Prelude.{◌==◌, nat_lt, nat_le, filter, find, is_some, Option, Some, None}
use Rattle.std.specs.List.{list_all}
use Rattle.std.proofs.lemmas.Bool.{and_parts}
use Rattle.std.proofs.lemmas.Bool.Decides.{nat_tests}
use Rattle.graph_model.specs.Whole.{rise}
use Rattle.graph_model.specs.Walking.{first_from}

-- the items from a number on
abbrev pub from : {Y : Type 0} → (Y → ℕ) → ℕ → List Y → List Y
from number n ys = filter (λ y. nat_le n (number y)) ys

-- the items that are left where this number is next, or none is
abbrev pub left : {Y : Type 0} → (Y → ℕ) → Option ℕ → List Y → List Y
left number None ys = []
left number (Some n) ys = from number n ys

-- all are from 0 on
pub from-start : {Y : Type 0} (number : Y → ℕ) (ys : List Y) → from number 0 ys ≡ ys
from-start number [] = refl
from-start number (y ∷ ys) = let rest = from-start number ys in grind (arith, nat_tests)

-- items above a number are all from it on
from-above : {Y : Type 0} (number : Y → ℕ) (m n : ℕ) (ys : List Y) → list_all (nat_lt m) (map number ys) ≡ true → nat_le n (m + 1) ≡ true → from number n ys ≡ ys
from-above number m n [] all le = refl
from-above number m n (y ∷ ys) all le =
    let parts = and_parts (nat_lt m (number y)) (list_all (nat_lt m) (map number ys)) all in
    let rest = from-above number m n ys parts.1 le in grind (arith, nat_tests)

first-least : (n m : ℕ) (ns : List ℕ) → first_from n ns ≡ Some m → nat_le n m ≡ true
first-least n m [] at = (cc)
first-least n m (k ∷ ns) at =
    elim (nat_le n k) as (λ b. nat_le n k ≡ b → cond b (Some k) (first_from n ns) ≡ Some m → nat_le n m ≡ true) [
      | true ↦ λ e is. let same : k ≡ m = (cc) in ap (nat_le n) (sym same) ∙ e
      | false ↦ λ e is. first-least n m ns is
    ] refl at

-- the first number from n on leaves the items from n on
pub left-first : {Y : Type 0} (number : Y → ℕ) (n : ℕ) (ys : List Y) → rise (map number ys) ≡ true → left number (first_from n (map number ys)) ys ≡ from number n ys
left-first number n [] up = refl
left-first number n (y ∷ ys) up =
    let parts = and_parts (list_all (nat_lt (number y)) (map number ys)) (rise (map number ys)) up in
    let rest = left-first number n ys parts.1 in
    elim (nat_le n (number y)) as (λ b. nat_le n (number y) ≡ b →
    left number (cond b (Some (number y)) (first_from n (map number ys))) (y ∷ ys) ≡ cond b (y ∷ from number n ys) (from number n ys)) [
      | true ↦ λ e.
          let all = from-above number (number y) (number y) ys parts.0 (grind (arith, nat_tests)) in
          let these = from-above number (number y) n ys parts.0 (grind (arith, nat_tests)) in
          let here : nat_le (number y) (number y) ≡ true = grind (arith, nat_tests) in
          ap (λ b. cond b (y ∷ from number (number y) ys) (from number (number y) ys)) here ∙ ap (λ r. y ∷ r) (all ∙ sym these)
      | false ↦ λ e. later (first_from n (map number ys)) refl e ∙ rest
    ] refl
  where
    later : (o : Option ℕ) → first_from n (map number ys) ≡ o → nat_le n (number y) ≡ false → left number o (y ∷ ys) ≡ left number o ys
    later None at e = refl
    later (Some m) at e =
        let least = first-least n m (map number ys) at in
        let below : nat_le m (number y) ≡ false = grind (arith, nat_tests) in
        ap (λ b. cond b (y ∷ from number m ys) (from number m ys)) below

-- an item that is found has the number
pub find-number : {Y : Type 0} (number : Y → ℕ) (m : ℕ) (x : Y) (ys : List Y) → find (λ y. number y == m) ys ≡ Some x → (number x == m) ≡ true
find-number number m x [] at = (cc)
find-number number m x (y ∷ ys) at =
    elim (number y == m) as (λ b. (number y == m) ≡ b → cond b (Some y) (find (λ z. number z == m) ys) ≡ Some x → (number x == m) ≡ true) [
      | true ↦ λ e is. let same : y ≡ x = (cc) in ap (λ z. number z == m) (sym same) ∙ e
      | false ↦ λ e is. find-number number m x ys is
    ] refl at

find-above : {Y : Type 0} (number : Y → ℕ) (n m : ℕ) (x : Y) (ys : List Y) → list_all (nat_lt n) (map number ys) ≡ true → find (λ y. number y == m) ys ≡ Some x → nat_lt n m ≡ true
find-above number n m x [] all at = (cc)
find-above number n m x (y ∷ ys) all at =
    let parts = and_parts (nat_lt n (number y)) (list_all (nat_lt n) (map number ys)) all in
    elim (number y == m) as (λ b. (number y == m) ≡ b → cond b (Some y) (find (λ z. number z == m) ys) ≡ Some x → nat_lt n m ≡ true) [
      | true ↦ λ e is. let above = parts.0 in grind (arith, nat_tests)
      | false ↦ λ e is. find-above number n m x ys parts.1 is
    ] refl at

-- of the items from a number on that is there, the first is its item, and the others are above it
pub from-found : {Y : Type 0} (number : Y → ℕ) (m : ℕ) (x : Y) (ys : List Y) → rise (map number ys) ≡ true → find (λ y. number y == m) ys ≡ Some x → from number m ys ≡ x ∷ from number (m + 1) ys
from-found number m x [] up at = (cc)
from-found number m x (y ∷ ys) up at =
    let parts = and_parts (list_all (nat_lt (number y)) (map number ys)) (rise (map number ys)) up in
    elim (number y == m) as (λ b. (number y == m) ≡ b → cond b (Some y) (find (λ z. number z == m) ys) ≡ Some x → from number m (y ∷ ys) ≡ x ∷ from number (m + 1) (y ∷ ys)) [
      | true ↦ λ e is.
          let same : y ≡ x = (cc) in
          let all = from-above number (number y) m ys parts.0 (grind (arith, nat_tests)) in
          let rest = from-above number (number y) (m + 1) ys parts.0 (grind (arith, nat_tests)) in
          let here : nat_le m (number y) ≡ true = grind (arith, nat_tests) in
          let gone : nat_le (m + 1) (number y) ≡ false = grind (arith, nat_tests) in
          ap (λ b. cond b (y ∷ from number m ys) (from number m ys)) here ∙ ap (λ r. y ∷ r) (all ∙ sym rest) ∙ ap (λ z. z ∷ from number (m + 1) ys) same
          ∙ ap (λ b. x ∷ cond b (y ∷ from number (m + 1) ys) (from number (m + 1) ys)) (sym gone)
      | false ↦ λ e is.
          let above = find-above number (number y) m x ys parts.0 is in
          let gone : nat_le m (number y) ≡ false = grind (arith, nat_tests) in
          let gone_too : nat_le (m + 1) (number y) ≡ false = grind (arith, nat_tests) in
          ap (λ b. cond b (y ∷ from number m ys) (from number m ys)) gone ∙ from-found number m x ys parts.1 is
          ∙ ap (λ b. x ∷ cond b (y ∷ from number (m + 1) ys) (from number (m + 1) ys)) (sym gone_too)
    ] refl at

-- the next number is that of an item
pub first-found : {Y : Type 0} (number : Y → ℕ) (n m : ℕ) (ys : List Y) → first_from n (map number ys) ≡ Some m → is_some (find (λ y. number y == m) ys) ≡ true
first-found number n m [] at = (cc)
first-found number n m (y ∷ ys) at =
    elim (nat_le n (number y)) as (λ b. cond b (Some (number y)) (first_from n (map number ys)) ≡ Some m → is_some (find (λ z. number z == m) (y ∷ ys)) ≡ true) [
      | true ↦ λ is. let same : number y ≡ m = (cc) in let e : (number y == m) ≡ true = grind (arith, nat_tests) in ap (λ b. is_some (cond b (Some y) (find (λ z. number z == m) ys))) e
      | false ↦ λ is. let rest = first-found number n m ys is in
          elim (number y == m) as (λ b. is_some (cond b (Some y) (find (λ z. number z == m) ys)) ≡ true) [ true ↦ refl | false ↦ rest ]
    ] at
