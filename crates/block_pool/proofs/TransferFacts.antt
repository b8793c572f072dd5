-- What work between two chunks leaves of them.
use Rattle.std.proofs.Common.{ℕ, ◌≡◌, ◌+◌, ◌-◌, ◌<◌, ◌≤◌, List, [], ◌++◌, length, take, drop, get_or, refl, sym, ap, subst, ◌∙◌, arith, length-drop, append-nil}
use Rattle.std.specs.Prelude.{slice_range, ◌≢◌, All}
use Rattle.std.proofs.Math.ListN.{set}
use Rattle.std.proofs.lemmas.List.{length-take, take-append-drop, get_or-drop, get_or-take, set-append_left, set-append_right, length-set, take_all, nil_from_length}
use Rattle.std.proofs.lemmas.List.Elements.{All-set}
use Rattle.block_pool.specs.Pools.{ChunkContent, IsChunk, chunk_at, with_part, with_bytes}
use Rattle.block_pool.specs.Transfers.{Makes}
use Rattle.block_pool.specs.KeptPool.{cells_of}
use Rattle.block_pool.proofs.PoolSteps.{at-any, length-with_part, cells-written}
use Rattle.block_pool.proofs.WriteFacts.{none}

-- the first of the last ones is set
pub set-back : (xs : List ChunkContent) (k : ℕ) (x : ChunkContent) → k < length xs → take k xs ++ set (drop k xs) 0 x ≡ set xs k x
set-back xs k x within =
    let long : length (take k xs) ≡ k = (let h = length-take k xs in omega (arith, h)) in
    let zero_of : k - k ≡ 0 = omega arith in
    ap (λ (i : ℕ). take k xs ++ set (drop k xs) i x) (sym zero_of)
    ∙ sym (set-append_right (take k xs) (drop k xs) k k x long (omega arith))
    ∙ ap (λ (ys : List ChunkContent). set ys k x) (take-append-drop k xs)

-- one of the first ones is set
pub set-front : (xs : List ChunkContent) (n k : ℕ) (x : ChunkContent) → k < n → n ≤ length xs → set (take n xs) k x ++ drop n xs ≡ set xs k x
set-front xs n k x below within =
    let long : length (take n xs) ≡ n = (let h = length-take n xs in omega (arith, h)) in
    sym (set-append_left (take n xs) (drop n xs) k x (omega (arith, long, below))) ∙ ap (λ (ys : List ChunkContent). set ys k x) (take-append-drop n xs)

-- the first of the last ones, and one of the first ones
pub at-back : (xs : List ChunkContent) (k : ℕ) (d : ChunkContent) → k < length xs → get_or (drop k xs) 0 d ≡ chunk_at xs k
at-back xs k d within =
    let e : k + 0 ≡ k = omega arith in
    get_or-drop k xs 0 d ∙ ap (λ (i : ℕ). get_or xs i d) e ∙ at-any xs k d none within

pub at-front : (xs : List ChunkContent) (n k : ℕ) (d : ChunkContent) → k < n → k < length xs → get_or (take n xs) k d ≡ chunk_at xs k
at-front xs n k d below within = get_or-take n xs k d below ∙ at-any xs k d none within

-- the bytes that the work made stand in the chunk
pub made : (does : List ℕ → Type 0) (xs : List ChunkContent) (k s n : ℕ) (part : List ℕ) (d : ChunkContent) (new : List ChunkContent) → does part → length part ≡ n → d ≡ chunk_at xs k →
    new ≡ set xs k (record { order = d.order; bytes = with_part d.bytes s part; tree = d.tree }) → Makes does n (with_bytes xs k s) new
made does xs k s n part d new done long is new_is = record {
  part = part;
  done = done;
  long = long;
  new_is = new_is ∙ ap (λ (x : ChunkContent). set xs k (record { order = x.order; bytes = with_part x.bytes s part; tree = x.tree })) is;
}

-- how long a range is
pub range-long : (bytes : List ℕ) (x y : ℕ) → x ≤ y → y ≤ length bytes → length (slice_range bytes x y) ≡ y - x
range-long bytes x y order within =
    let t = length-take (y - x) (drop x bytes) in
    let d = length-drop x bytes in
    omega (arith, t, d)

-- of two different numbers that is the less one which is not the greater
pub not_less : (m n : ℕ) → m ≢ n → n ≤ m → n < m
not_less m n apart above = grind (arith, apart, above)

-- What a pool keeps of its chunks where bytes of one were written.
pub record Stays (old new : List ChunkContent) : Type 0 where
  pub cells : cells_of new ≡ cells_of old
  pub long : length new ≡ length old
  pub whole : All IsChunk new

pub stays : (xs : List ChunkContent) (k s : ℕ) (part : List ℕ) (new : List ChunkContent) → k < length xs → All IsChunk xs → new ≡ with_bytes xs k s part → Stays xs new
stays xs k s part new within all is =
    let d : ChunkContent = chunk_at xs k in
    let x : ChunkContent = record d { bytes = with_part d.bytes s part } in
    let was : IsChunk d = all k none within in
    let whole : All IsChunk (set xs k x) = All-set IsChunk xs k x (record { within = was.within; long = length-with_part d.bytes s part ∙ was.long; cut = was.cut; joined = was.joined }) all in
    record {
      cells = ap cells_of is ∙ cells-written k xs none x within refl refl;
      long = ap length is ∙ length-set xs k x;
      whole = subst (λ (ys : List ChunkContent). All IsChunk ys) (sym is) whole;
    }

-- as many other chunks in the place of these
pub refilled : (n : ℕ) (xs old : List ChunkContent) → length xs ≡ n → length old ≡ n → take n (xs ++ drop (length xs) old) ≡ xs
refilled n xs old long was =
    let rest : drop (length xs) old ≡ [] = nil_from_length (drop (length xs) old) (let h = length-drop (length xs) old in omega (arith, h, long, was)) in
    ap (λ (ys : List ChunkContent). take n (xs ++ ys)) rest ∙ ap (take n) (append-nil xs) ∙ take_all n xs (omega (arith, long))
