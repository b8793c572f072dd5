-- What the calls of a disk do to its bytes, and what a crash may leave of them.
use Rattle.std.specs.Prelude.{◌≡◌, ℕ, ◌+◌, ◌<◌, ◌≤◌, min, List, ◌++◌, length, take, drop, slice_index, Option, Some, None, IfSome}
use Rattle.io_edges.specs.Faults.{one_more, NeverFalls}

-- these bytes from a place on, in place of what stands there
abbrev pub overwritten : List ℕ → ℕ → List ℕ → List ℕ
overwritten old place bytes = take place old ++ (bytes ++ drop (place + length bytes) old)

-- A write of n bytes from a place on that a crash cuts short: it may leave any bytes in the range that is
-- written and past the old end, and leaves all others as they were.
pub record Torn (place n : ℕ) (old new : List ℕ) : Type 0 where
  pub no_shorter : length old ≤ length new
  pub before : (k : ℕ) → k < length old → k < place → slice_index new k ≡ slice_index old k
  pub after : (k : ℕ) → k < length old → place + n ≤ k → slice_index new k ≡ slice_index old k

-- A cut to a length that a crash cuts short: it leaves the bytes up to that length as they were, and may
-- leave any bytes past them.
pub record CutShort (to : ℕ) (old new : List ℕ) : Type 0 where
  pub no_shorter : min to (length old) ≤ length new
  pub before : (k : ℕ) → k < length old → k < to → slice_index new k ≡ slice_index old k

-- Each image that may be left after a step is an image from before it, after that step.
abbrev pub Follows : (List ℕ → List ℕ → Type 0) → (List ℕ → Type 0) → (List ℕ → Type 0) → Type 0
Follows step before after = (c : List ℕ) → after c → (d : List ℕ) × before d × step d c

-- Nothing but these bytes may be left.
abbrev pub Only : List ℕ → (List ℕ → Type 0) → Type 0
Only bytes images = (c : List ℕ) → images c → c ≡ bytes

-- Nothing may be left after that could not be left before.
abbrev pub NoneNew : (List ℕ → Type 0) → (List ℕ → Type 0) → Type 0
NoneNew before after = (c : List ℕ) → after c → before c

-- A call that may change the disk is over: there is one moment more, and what a crash at an earlier moment
-- could leave is as it was.
pub record Passes (before after : ℕ) (images images' : ℕ → List ℕ → Type 0) : Type 0 where
  pub next : after ≡ one_more before
  pub later : before ≤ after
  pub no_more : (m : ℕ) → m < after → NoneNew (images m) (images' m)
  pub no_less : (m : ℕ) → m < after → NoneNew (images' m) (images m)

-- A call that changes nothing is over: the moment, and what a crash may leave, are as they were.
pub record Stays (before after : ℕ) (images images' : ℕ → List ℕ → Type 0) : Type 0 where
  pub same : after ≡ before
  pub no_more : (m : ℕ) → NoneNew (images m) (images' m)
  pub no_less : (m : ℕ) → NoneNew (images' m) (images m)

-- The bytes that are told went from the old to the new by a step; a disk that tells nothing goes on so.
abbrev pub ToldBy : (List ℕ → List ℕ → Type 0) → Option (List ℕ) → Option (List ℕ) → Type 0
ToldBy step None None = Unit {0}
ToldBy step (Some old) (Some new) = step old new
ToldBy step (Some old) None = ⊥
ToldBy step None (Some new) = ⊥

-- A disk that told its bytes tells them still, and one that told nothing tells nothing.
abbrev pub StillTells : Option (List ℕ) → Option (List ℕ) → Type 0
StillTells None None = Unit {0}
StillTells (Some old) (Some new) = Unit {0}
StillTells (Some old) None = ⊥
StillTells None (Some new) = ⊥

-- The disk went on, by any number of calls: it tells its bytes if it did, its moment did not fall, what a crash
-- at an earlier moment could leave is as it was, and its count of faults did not fall.
pub record GoesOn {D : Type 0} (told : D → Option (List ℕ)) (moment : D → ℕ) (images : D → ℕ → List ℕ → Type 0) (faults : D → ℕ) (old new : D) : Type 0 where
  pub tells : StillTells (told old) (told new)
  pub later : moment old ≤ moment new
  pub no_more : (m : ℕ) → m < moment old → NoneNew (images old m) (images new m)
  pub no_less : (m : ℕ) → m < moment old → NoneNew (images new m) (images old m)
  pub count : NeverFalls (faults old) (faults new)

-- What a crash at any moment from an earlier one to now may leave has P.
abbrev pub EachImage : {D : Type 0} → (D → ℕ) → (D → ℕ → List ℕ → Type 0) → D → ℕ → (ℕ → List ℕ → Type 0) → Type 0
EachImage moment images disk from P = (m : ℕ) (c : List ℕ) → from ≤ m → m ≤ moment disk → images disk m c → P m c

-- A read took n bytes from a place on into the front of the buffer, where the disk tells its bytes: at least
-- one where there are some and the buffer has room.
pub record ReadsAt (told : Option (List ℕ)) (place : ℕ) (buffer : List ℕ) (n : ℕ) : Type 0 where
  pub within : n ≤ length buffer
  pub bytes : IfSome told (λ b. take n buffer ≡ take n (drop place b))
  pub there : IfSome told (λ b. n ≤ length (drop place b))
  pub some : 0 < length buffer → IfSome told (λ b. place < length b → 0 < n)
