-- What the calls of a disk over memory did, step by step, and what a crash may leave after them.
use Rattle.std.specs.Prelude.{◌≡◌, ℕ, ◌+◌, List, [], ◌∷◌, length, take, replicate, Option, Some, None}
use Rattle.disk_model.specs.declared.event.Event.{Event}
use Rattle.disk_model.specs.declared.event.Event.TheVariants as events
use Rattle.disk_model.specs.Images.{overwritten, Torn, CutShort}

-- a write of these bytes from a place on, or another event
pub data Step : Type 0 where
  Wrote : (place : ℕ) (bytes : List ℕ) → Step
  Other : (event : Event) → Step

-- what a read gives after a step
abbrev pub read_after : List ℕ → Step → List ℕ
read_after bytes (Wrote place written) = overwritten bytes place written
read_after bytes (Other (events.WriteFailed place amount)) = bytes
read_after bytes (Other (events.Cut to)) = take to bytes
read_after bytes (Other (events.CutFailed to)) = bytes
read_after bytes (Other events.Sync) = bytes
read_after bytes (Other events.SyncFailed) = bytes

-- what a read gives after these steps
abbrev pub reads : List ℕ → List Step → List ℕ
reads bytes [] = bytes
reads bytes (step ∷ steps) = reads (read_after bytes step) steps

-- What a crash may leave after a step, from what it could leave before and what a read gave then: a write or
-- a cut is torn, and a sync that succeeds leaves what a read gives.
abbrev pub LeftAfter : (List ℕ → Type 0) → List ℕ → Step → List ℕ → Type 0
LeftAfter before bytes (Wrote place written) c = (d : List ℕ) × before d × Torn place (length written) d c
LeftAfter before bytes (Other (events.WriteFailed place amount)) c = (d : List ℕ) × before d × Torn place amount d c
LeftAfter before bytes (Other (events.Cut to)) c = (d : List ℕ) × before d × CutShort to d c
LeftAfter before bytes (Other (events.CutFailed to)) c = (d : List ℕ) × before d × CutShort to d c
LeftAfter before bytes (Other events.Sync) c = c ≡ bytes
LeftAfter before bytes (Other events.SyncFailed) c = before c

-- what a crash may leave after these steps
abbrev pub Left : (List ℕ → Type 0) → List ℕ → List Step → List ℕ → Type 0
Left before bytes [] c = before c
Left before bytes (step ∷ steps) c = Left (LeftAfter before bytes step) (read_after bytes step) steps c

-- what a crash may leave of a disk that was firm with these bytes, after these steps
abbrev pub Image : List ℕ → List Step → List ℕ → Type 0
Image first steps = Left (λ c. c ≡ first) first steps

-- how many bytes a step wrote
abbrev pub written_by : Step → ℕ
written_by (Wrote place bytes) = length bytes
written_by (Other event) = 0

-- how many bytes these steps wrote in all
abbrev pub written : List Step → ℕ
written [] = 0
written (step ∷ steps) = written_by step + written steps

-- an image with a range full of one byte, or, where there is none, as it was
abbrev pub filled : Option ℕ → List ℕ → ℕ → ℕ → List ℕ
filled (Some fill) image place amount = overwritten image place (replicate amount fill)
filled None image place amount = image

-- One image after a step, from one before it and what a read gave then: what is pending is filled with one
-- byte or left as it was, and a sync that succeeds leaves what a read gives.
abbrev pub image_after : Option ℕ → List ℕ → List ℕ → Step → List ℕ
image_after fill bytes image (Wrote place written) = filled fill image place (length written)
image_after fill bytes image (Other (events.WriteFailed place amount)) = filled fill image place amount
image_after fill bytes image (Other (events.Cut to)) = image
image_after fill bytes image (Other (events.CutFailed to)) = image
image_after fill bytes image (Other events.Sync) = bytes
image_after fill bytes image (Other events.SyncFailed) = image

-- one image after these steps
abbrev pub imaged : Option ℕ → List ℕ → List ℕ → List Step → List ℕ
imaged fill bytes image [] = image
imaged fill bytes image (step ∷ steps) = imaged fill (read_after bytes step) (image_after fill bytes image step) steps
