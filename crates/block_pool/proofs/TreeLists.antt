-- The blocks of a tree, free and out, after one was taken or given back.
use Rattle.std.proofs.Common.{ℕ, zero, suc, ◌≡◌, ◌+◌, ◌-◌, ◌*◌, ◌^◌, ◌≤◌, Bool, true, false, ◌&&◌, ◌||◌, ◌==◌, if◌then◌else◌, List, [], ◌∷◌, ◌++◌, refl, sym, ap, subst, ◌∙◌, inl, inr, arith, append_assoc, append-nil}
use Rattle.std.specs.Prelude.{nat_lt, not}
use Rattle.std.specs.List.{list_all}
use Rattle.std.proofs.lemmas.Bool.{and_parts, eqb-true, cases_lt, lt-ltb, le-ltb}
use Rattle.std.proofs.lemmas.List.Folds.{list_all-append}
use Rattle.block_pool.specs.Blocks.{Area, len_of, upper_halves, HasOneMore}
use Rattle.block_pool.specs.Cuts.{IsCut}
use Rattle.block_pool.specs.Trees.{Tree, Free, Out, Split, free_of, out_of}
use Rattle.block_pool.specs.Cells.{has_free, first_unit, taken, carved, is_out_at, given, joined}

-- a block in a chunk
abbrev pub area : ℕ → ℕ → ℕ → Area
area c s o = record { chunk = c; start = s; order = o }

-- the blocks of a free block that was cut n times
pub out_of-carved : (n order c s o : ℕ) → o ≡ order + n → out_of c o s (carved n) ≡ area c s order ∷ []
out_of-carved zero order c s o e = ap (λ (k : ℕ). area c s k ∷ []) (omega arith)
out_of-carved (suc n) order c s zero e = absurd (omega arith)
out_of-carved (suc n) order c s (suc o) e = append-nil (out_of c o s (carved n)) ∙ out_of-carved n order c s o (omega arith)

pub free_of-carved : (n order c s o : ℕ) → o ≡ order + n → free_of c o s (carved n) ≡ upper_halves c s order n
free_of-carved zero order c s o e = refl
free_of-carved (suc n) order c s zero e = absurd (omega arith)
free_of-carved (suc n) order c s (suc o) e =
    let same : o ≡ order + n = omega arith in
    ap (λ (xs : List Area). xs ++ (area c (s + len_of o) o ∷ [])) (free_of-carved n order c s o same)
    ∙ ap (λ (k : ℕ). upper_halves c s order n ++ (area c (s + len_of k) k ∷ [])) same

-- one more in the front, or in the back
pub more_front : (b : Area) (old new ys : List Area) → HasOneMore b old new → HasOneMore b (old ++ ys) (new ++ ys)
more_front b old new ys h = record {
  before = h.before;
  after = h.after ++ ys;
  old_is = ap (λ (xs : List Area). xs ++ ys) h.old_is ∙ append_assoc h.before h.after ys;
  new_is = ap (λ (xs : List Area). xs ++ ys) h.new_is ∙ append_assoc h.before (b ∷ h.after) ys;
}

pub more_back : (b : Area) (old new xs : List Area) → HasOneMore b old new → HasOneMore b (xs ++ old) (xs ++ new)
more_back b old new xs h = record {
  before = xs ++ h.before;
  after = h.after;
  old_is = ap (λ (ys : List Area). xs ++ ys) h.old_is ∙ sym (append_assoc xs h.before h.after);
  new_is = ap (λ (ys : List Area). xs ++ ys) h.new_is ∙ sym (append_assoc xs h.before (b ∷ h.after));
}

half_on : (s o u : ℕ) → s + len_of o + 64 * u ≡ s + 64 * (2 ^ o + u)
half_on s o u = omega arith

-- what is out after taking: one block more
pub out_of-taken : (o j order c s : ℕ) (t : Tree) → order ≤ j → has_free o j t ≡ true →
    HasOneMore (area c (s + 64 * first_unit o j t) order) (out_of c o s t) (out_of c o s (taken o j order t))
out_of-taken o j order c s Free below has =
    let e : o ≡ j = eqb-true o j has in
    let is : out_of c o s (carved (o - order)) ≡ area c s order ∷ [] = out_of-carved (o - order) order c s o (omega arith) in
    record { before = []; after = []; old_is = refl; new_is = is ∙ ap (λ (k : ℕ). area c k order ∷ []) (omega arith) }
out_of-taken o j order c s Out below has = cc
out_of-taken zero j order c s (Split l u) below has = cc
out_of-taken (suc o) j order c s (Split l u) below has =
    elim (has_free o j l) as (λ t. has_free o j l ≡ t →
    HasOneMore (area c (s + 64 * (if t then first_unit o j l else 2 ^ o + first_unit o j u)) order) (out_of c (suc o) s (Split l u)) (out_of c (suc o) s (if t then Split (taken o j order l) u else Split l (taken o j order u)))) [
      | true ↦ λ e. more_front (area c (s + 64 * first_unit o j l) order) (out_of c o s l) (out_of c o s (taken o j order l)) (out_of c o (s + len_of o) u) (out_of-taken o j order c s l below e)
      | false ↦ λ e.
          let here : has_free o j u ≡ true = sym (ap (λ (t : Bool). t || has_free o j u) e) ∙ has in
          subst (λ (k : ℕ). HasOneMore (area c k order) (out_of c (suc o) s (Split l u)) (out_of c (suc o) s (Split l (taken o j order u)))) (half_on s o (first_unit o j u))
          (more_back (area c (s + len_of o + 64 * first_unit o j u) order) (out_of c o (s + len_of o) u) (out_of c o (s + len_of o) (taken o j order u)) (out_of c o s l) (out_of-taken o j order c (s + len_of o) u below here))
    ] refl

pub cut_front : (f : Area) (order : ℕ) (old new ys : List Area) → IsCut f order old new → IsCut f order (old ++ ys) (new ++ ys)
cut_front f order old new ys h = record {
  before = h.before;
  after = h.after ++ ys;
  old_is = ap (λ (xs : List Area). xs ++ ys) h.old_is ∙ append_assoc h.before (f ∷ h.after) ys;
  new_is = ap (λ (xs : List Area). xs ++ ys) h.new_is ∙ append_assoc h.before (upper_halves f.chunk f.start order (f.order - order) ++ h.after) ys
      ∙ ap (λ (xs : List Area). h.before ++ xs) (append_assoc (upper_halves f.chunk f.start order (f.order - order)) h.after ys);
  first = h.first;
}

pub cut_back : (f : Area) (order : ℕ) (old new xs : List Area) → list_all (λ g. not (g.order == f.order)) xs ≡ true → IsCut f order old new → IsCut f order (xs ++ old) (xs ++ new)
cut_back f order old new xs none h = record {
  before = xs ++ h.before;
  after = h.after;
  old_is = ap (λ (ys : List Area). xs ++ ys) h.old_is ∙ sym (append_assoc xs h.before (f ∷ h.after));
  new_is = ap (λ (ys : List Area). xs ++ ys) h.new_is ∙ sym (append_assoc xs h.before (upper_halves f.chunk f.start order (f.order - order) ++ h.after));
  first = list_all-append (λ g. not (g.order == f.order)) xs h.before ∙ ap (λ (t : Bool). t && list_all (λ g. not (g.order == f.order)) h.before) none ∙ h.first;
}

-- a part without a free block of order j lists none
pub none_of : (o j c s : ℕ) (t : Tree) → has_free o j t ≡ false → list_all (λ (g : Area). not (g.order == j)) (free_of c o s t) ≡ true
none_of o j c s Free none = ap (λ (t : Bool). not t && true) none
none_of o j c s Out none = refl
none_of zero j c s (Split l u) none = refl
none_of (suc o) j c s (Split l u) none =
    elim (has_free o j l) as (λ t. has_free o j l ≡ t → (t || has_free o j u) ≡ false → list_all (λ (g : Area). not (g.order == j)) (free_of c o s l ++ free_of c o (s + len_of o) u) ≡ true) [
      | true ↦ λ e h. cc
      | false ↦ λ e h.
          list_all-append (λ (g : Area). not (g.order == j)) (free_of c o s l) (free_of c o (s + len_of o) u)
          ∙ ap (λ (t : Bool). t && list_all (λ (g : Area). not (g.order == j)) (free_of c o (s + len_of o) u)) (none_of o j c s l e)
          ∙ none_of o j c (s + len_of o) u h
    ] refl none

pub free_of-taken : (o j order c s : ℕ) (t : Tree) → order ≤ j → has_free o j t ≡ true →
    IsCut (area c (s + 64 * first_unit o j t) j) order (free_of c o s t) (free_of c o s (taken o j order t))
free_of-taken o j order c s Free below has =
    let e : o ≡ j = eqb-true o j has in
    let at : s ≡ s + 64 * 0 = omega arith in
    let is : free_of c o s (carved (o - order)) ≡ upper_halves c s order (o - order) = free_of-carved (o - order) order c s o (omega arith) in
    record {
      before = [];
      after = [];
      old_is = ap (λ (k : ℕ). area c s k ∷ []) e ∙ ap (λ (k : ℕ). area c k j ∷ []) at;
      new_is = is ∙ ap (λ (k : ℕ). upper_halves c s order (k - order)) e ∙ ap (λ (k : ℕ). upper_halves c k order (j - order)) at ∙ sym (append-nil (upper_halves c (s + 64 * 0) order (j - order)));
      first = refl;
    }
free_of-taken o j order c s Out below has = cc
free_of-taken zero j order c s (Split l u) below has = cc
free_of-taken (suc o) j order c s (Split l u) below has =
    elim (has_free o j l) as (λ t. has_free o j l ≡ t →
    IsCut (area c (s + 64 * (if t then first_unit o j l else 2 ^ o + first_unit o j u)) j) order (free_of c (suc o) s (Split l u)) (free_of c (suc o) s (if t then Split (taken o j order l) u else Split l (taken o j order u)))) [
      | true ↦ λ e. cut_front (area c (s + 64 * first_unit o j l) j) order (free_of c o s l) (free_of c o s (taken o j order l)) (free_of c o (s + len_of o) u) (free_of-taken o j order c s l below e)
      | false ↦ λ e.
          let here : has_free o j u ≡ true = sym (ap (λ (t : Bool). t || has_free o j u) e) ∙ has in
          subst (λ (k : ℕ). IsCut (area c k j) order (free_of c (suc o) s (Split l u)) (free_of c (suc o) s (Split l (taken o j order u)))) (half_on s o (first_unit o j u))
          (cut_back (area c (s + len_of o + 64 * first_unit o j u) j) order (free_of c o (s + len_of o) u) (free_of c o (s + len_of o) (taken o j order u)) (free_of c o s l) (none_of o j c s l e) (free_of-taken o j order c (s + len_of o) u below here))
    ] refl

out_of-joined : (c o s : ℕ) (l u : Tree) → out_of c (suc o) s (joined l u) ≡ out_of c o s l ++ out_of c o (s + len_of o) u
out_of-joined c o s Free Free = refl
out_of-joined c o s Free Out = refl
out_of-joined c o s Free (Split a b) = refl
out_of-joined c o s Out u = refl
out_of-joined c o s (Split a b) u = refl

-- what is out after giving: one block less
pub out_of-given : (o order at c s : ℕ) (t : Tree) → is_out_at o order at t ≡ true →
    HasOneMore (area c (s + 64 * at) order) (out_of c o s (given o order at t)) (out_of c o s t)
out_of-given o order at c s Free out = cc
out_of-given o order at c s Out out =
    let parts = and_parts (o == order) (at == 0) out in
    let e : o ≡ order = eqb-true o order parts.0 in
    let z : at ≡ 0 = eqb-true at 0 parts.1 in
    record { before = []; after = []; old_is = refl; new_is = ap (λ (k : ℕ). area c s k ∷ []) e ∙ ap (λ (k : ℕ). area c k order ∷ []) (omega (arith, z)) }
out_of-given zero order at c s (Split l u) out = cc
out_of-given (suc o) order at c s (Split l u) out = elim (cases_lt at (2 ^ o)) [
  | inl below ↦
      let test : nat_lt at (2 ^ o) ≡ true = lt-ltb at (2 ^ o) below in
      let here : is_out_at o order at l ≡ true = sym (ap (λ (t : Bool). if t then is_out_at o order at l else is_out_at o order (at - 2 ^ o) u) test) ∙ out in
      let is : given (suc o) order at (Split l u) ≡ joined (given o order at l) u = ap (λ (t : Bool). if t then joined (given o order at l) u else joined l (given o order (at - 2 ^ o) u)) test in
      subst (λ (xs : List Area). HasOneMore (area c (s + 64 * at) order) xs (out_of c (suc o) s (Split l u))) (sym (ap (out_of c (suc o) s) is ∙ out_of-joined c o s (given o order at l) u))
      (more_front (area c (s + 64 * at) order) (out_of c o s (given o order at l)) (out_of c o s l) (out_of c o (s + len_of o) u) (out_of-given o order at c s l here))
  | inr above ↦
      let test : nat_lt at (2 ^ o) ≡ false = le-ltb at (2 ^ o) above in
      let here : is_out_at o order (at - 2 ^ o) u ≡ true = sym (ap (λ (t : Bool). if t then is_out_at o order at l else is_out_at o order (at - 2 ^ o) u) test) ∙ out in
      let is : given (suc o) order at (Split l u) ≡ joined l (given o order (at - 2 ^ o) u) = ap (λ (t : Bool). if t then joined (given o order at l) u else joined l (given o order (at - 2 ^ o) u)) test in
      let place : s + len_of o + 64 * (at - 2 ^ o) ≡ s + 64 * at = omega arith in
      subst (λ (xs : List Area). HasOneMore (area c (s + 64 * at) order) xs (out_of c (suc o) s (Split l u))) (sym (ap (out_of c (suc o) s) is ∙ out_of-joined c o s l (given o order (at - 2 ^ o) u)))
      (subst (λ (k : ℕ). HasOneMore (area c k order) (out_of c o s l ++ out_of c o (s + len_of o) (given o order (at - 2 ^ o) u)) (out_of c (suc o) s (Split l u))) place
      (more_back (area c (s + len_of o + 64 * (at - 2 ^ o)) order) (out_of c o (s + len_of o) (given o order (at - 2 ^ o) u)) (out_of c o (s + len_of o) u) (out_of c o s l) (out_of-given o order (at - 2 ^ o) c (s + len_of o) u here)))
]
