-- Entries in another block.
use Rattle.std.proofs.Common.{◌≡◌, ℕ, ◌+◌, ◌-◌, ◌*◌, ◌≤◌, Bool, true, false, IsTrue, List, [], ◌∷◌, ◌++◌, length, take, drop, map, refl, sym, ap, ◌∙◌, subst, arith, append-nil, length-drop}
use Rattle.std.specs.Prelude.{◌==◌, ◌||◌, nat_le, if◌then◌else◌}
use Rattle.std.specs.List.{list_any, AllByRecursion}
use Rattle.std.specs.Int.{IsPowerOfTwo}
use Rattle.std.proofs.lemmas.Bool.Decides.{nat_tests}
use Rattle.std.proofs.lemmas.List.{drop_all, length-take-le}
use Rattle.edge_log.specs.Entries.{Entry, payload_sum}
use Rattle.edge_log.specs.Places.{oldest}
use Rattle.tel_entry.specs.declared.header.Header.{Header}
use Rattle.edge_bloom.specs.Filters.{IsFilter}
use Rattle.block_layout.specs.Sizes.{props_start, bytes_at}
use Rattle.block_layout.specs.Blocks.{HoldsEntries, KnowsAll, IsBlock}
use Rattle.block_layout.specs.Writes.{overwritten}
use Rattle.block_layout.proofs.Windows.{length-overwritten, drop-written, window-before, window-written}
use Rattle.block_layout.proofs.Blocked.{block-free}
use Rattle.block_writing.proofs.Overwrites.{to_end}

pub oldest-none : (xs : List Entry) → oldest 0 xs ≡ []
oldest-none [] = refl
oldest-none (x ∷ xs) =
    let none : nat_le (length xs + 1) 0 ≡ false = grind (arith, nat_tests) in
    ap (λ (b : Bool). if b then x ∷ xs else oldest 0 xs) none ∙ oldest-none xs

pub filter-long : (a b : List ℕ) → length a ≡ length b → IsFilter b → IsFilter a
filter-long a b long f = record {
  power = subst IsPowerOfTwo (sym long) f.power;
  least = (let l = f.least in omega (arith, l, long));
  most = (let l = f.most in omega (arith, l, long));
}

-- the destinations of entries
abbrev pub destinations : List Entry → List ℕ
destinations xs = map (λ (x : Entry). x.d) xs

abbrev is_known : List ℕ → Entry → Type 0
is_known ds x = IsTrue (list_any (λ e. e == x.d) ds)

more-known : (d : ℕ) (ds : List ℕ) (xs : List Entry) → AllByRecursion (is_known ds) xs → AllByRecursion (is_known (d ∷ ds)) xs
more-known d ds [] all = tt
more-known d ds (x ∷ xs) all = (by_test (d == x.d) all.0, more-known d ds xs all.1)
  where
    by_test : (b : Bool) → IsTrue (list_any (λ e. e == x.d) ds) → IsTrue (b || list_any (λ e. e == x.d) ds)
    by_test true is = refl
    by_test false is = is

pub all-known : (xs : List Entry) → AllByRecursion (is_known (destinations xs)) xs
all-known [] = tt
all-known (x ∷ xs) =
    let own : (x.d == x.d) ≡ true = grind (arith, nat_tests) in
    (ap (λ (b : Bool). b || list_any (λ e. e == x.d) (destinations xs)) own, more-known x.d (destinations xs) xs (all-known xs))

-- the payloads and the rows of a block, written to another one without entries
abbrev pub with_copied : ℕ → ℕ → ℕ → ℕ → List ℕ → List ℕ → List ℕ
with_copied first second props rows from to =
    overwritten (length to - rows) (drop (length from - rows) from) (overwritten second (bytes_at first props from) to)

-- How much is copied, and that there is room for it.
pub record Copies (first second n props : ℕ) (xs : List Entry) (from to : List ℕ) : Type 0 where
  pub count : length xs ≡ n
  pub sum : payload_sum xs ≡ props
  pub held : first + props + 28 * n ≤ length from
  pub room : second + props + 28 * n ≤ length to

length-payloads : (first props : ℕ) (from : List ℕ) → first + props ≤ length from → length (bytes_at first props from) ≡ props
length-payloads first props from held = (let d = length-drop first from in length-take-le props (drop first from) (omega arith))

length-rows : (rows : ℕ) (from : List ℕ) → rows ≤ length from → length (drop (length from - rows) from) ≡ rows
length-rows rows from held = (let d = length-drop (length from - rows) from in omega arith)

held-copied : (first second n props : ℕ) (xs : List Entry) (from to : List ℕ) → HoldsEntries first xs from → Copies first second n props xs from to →
    HoldsEntries second xs (with_copied first second props (28 * n) from to)
held-copied first second n props xs from to held c =
    let count = c.count in
    let sum = c.sum in
    let held_in = c.held in
    let room = c.room in
    let p : List ℕ = bytes_at first props from in
    let r : List ℕ = drop (length from - 28 * n) from in
    let mid : List ℕ = overwritten second p to in
    let at : ℕ = length to - 28 * n in
    let plen : length p ≡ props = length-payloads first props from (omega arith) in
    let rlen : length r ≡ 28 * n = length-rows (28 * n) from (omega arith) in
    let mlen : length mid ≡ length to = length-overwritten second p to (omega (arith, plen)) in
    let within : at + length r ≤ length mid = omega (arith, rlen, mlen) in
    let olen : length (overwritten at r mid) ≡ length mid = length-overwritten at r mid within in
    let place : length (overwritten at r mid) - 28 * length xs ≡ at = omega (arith, olen, mlen, count) in
    let nothing : drop (at + length r) mid ≡ [] = drop_all (at + length r) mid (omega (arith, rlen, mlen)) in
    record {
      fit = held.fit;
      within = omega (arith, olen, mlen, count, sum);
      payloads = ap (λ (k : ℕ). bytes_at second k (overwritten at r mid)) sum
          ∙ window-before second props at r mid (omega arith) within
          ∙ window-written second props p to plen (omega (arith, plen))
          ∙ ap (λ (k : ℕ). bytes_at first k from) (sym sum) ∙ held.payloads;
      rows = ap (λ (k : ℕ). drop k (overwritten at r mid)) place ∙ drop-written at r mid within
          ∙ ap (λ (ys : List ℕ). r ++ ys) nothing ∙ append-nil r
          ∙ ap (λ (k : ℕ). drop (length from - 28 * k) from) (sym count) ∙ held.rows;
    }

pub block-copied : (order n props first : ℕ) (h : Header) (g : List ℕ) (xs : List Entry) (from to : List ℕ) → HoldsEntries first xs from → IsBlock order h g [] to →
    KnowsAll order g xs → Copies first (props_start order) n props xs from to → IsBlock order h g xs (with_copied first (props_start order) props (28 * n) from to)
block-copied order n props first h g xs from to held b known c =
    let held_in = c.held in
    let room = c.room in
    let second : ℕ = props_start order in
    let p : List ℕ = bytes_at first props from in
    let r : List ℕ = drop (length from - 28 * n) from in
    let mid : List ℕ = overwritten second p to in
    let at : ℕ = length to - 28 * n in
    let plen : length p ≡ props = length-payloads first props from (omega arith) in
    let rlen : length r ≡ 28 * n = length-rows (28 * n) from (omega arith) in
    let mlen : length mid ≡ length to = length-overwritten second p to (omega (arith, plen)) in
    let b1 : IsBlock order h g [] mid = block-free order h g [] second p to b (omega arith) (omega (arith, plen)) in
    let b2 : IsBlock order h g [] (overwritten at r mid) = block-free order h g [] at r mid b1 (omega arith) (omega (arith, rlen, mlen)) in
    record {
      small = b2.small;
      long = b2.long;
      fits = b2.fits;
      ordered = b2.ordered;
      flagged = b2.flagged;
      head = b2.head;
      bits = b2.bits;
      known = known;
      entries = held-copied first second n props xs from to held c;
    }

-- the two writes of a copy
pub copied-written : (first second start at props rows : ℕ) (from to mid new : List ℕ) → start ≡ first → at ≡ second →
    mid ≡ overwritten at (take (start + props - start) (drop start from)) to →
    new ≡ overwritten (length mid - rows) (take (length from - (length from - rows)) (drop (length from - rows) from)) mid → length mid ≡ length to →
    new ≡ with_copied first second props rows from to
copied-written first second start at props rows from to mid new begins there mid-is new-is long =
    let n : start + props - start ≡ props = omega arith in
    let part : take (start + props - start) (drop start from) ≡ bytes_at first props from =
    ap (λ (k : ℕ). take k (drop start from)) n ∙ ap (λ (k : ℕ). take props (drop k from)) begins in
    let first-is : mid ≡ overwritten second (bytes_at first props from) to =
    mid-is ∙ ap (λ (k : ℕ). overwritten k (take (start + props - start) (drop start from)) to) there ∙ ap (λ (p : List ℕ). overwritten second p to) part in
    new-is
    ∙ ap (λ (k : ℕ). overwritten (k - rows) (take (length from - (length from - rows)) (drop (length from - rows) from)) mid) long
    ∙ ap (λ (r : List ℕ). overwritten (length to - rows) r mid) (to_end (length from - rows) from)
    ∙ ap (λ (ys : List ℕ). overwritten (length to - rows) (drop (length from - rows) from) ys) first-is
