-- The law of a disk over memory: what a read gives is one of the images, and so is each image that is chosen.
use Rattle.std.specs.Prelude.{◌≡◌, ℕ, ◌+◌, ◌-◌, ◌++◌, List, [], ◌∷◌, length, take, drop, slice_index}
use Rattle.std.proofs.Common.{refl, sym, ap, subst, arith, ◌∙◌, Some, length-append, length-drop}
use Rattle.std.proofs.lemmas.List.{length-take, length-take-le, get_or_append_left, get_or-append_right, get_or-take, get_or-drop}
use Rattle.std.proofs.lemmas.Bool.Decides.{nat_tests}
use Rattle.disk_model.specs.declared.event.Event.TheVariants as events
use Rattle.disk_model.specs.Images.{overwritten, Torn, CutShort}
use Rattle.disk_model.specs.Steps.{Step, Wrote, Other, reads, read_after, Left, LeftAfter, Image}
use Rattle.disk_model.specs.Memory.{MemoryDisk, bytes_of, steps_to, ImageAt}

-- a torn write may leave all as it was
pub Torn-same : (place n : ℕ) (c : List ℕ) → Torn place n c c
Torn-same place n c = record { no_shorter = omega arith; before = λ k inside below. refl; after = λ k inside above. refl }

-- or all that was written
pub Torn-overwritten : (place : ℕ) (bytes c : List ℕ) → Torn place (length bytes) c (overwritten c place bytes)
Torn-overwritten place bytes c = record {
  no_shorter = omega (arith, length-append (take place c) (bytes ++ drop (place + length bytes) c), length-append bytes (drop (place + length bytes) c), length-take place c, length-drop (place + length bytes) c);
  before = λ k inside below. get_or_append_left (take place c) (bytes ++ drop (place + length bytes) c) 0 k (omega (arith, length-take place c)) ∙ get_or-take place c k 0 below;
  after = λ k inside above. let front : length (take place c) ≡ place = length-take-le place c (omega arith) in
      get_or-append_right (take place c) (bytes ++ drop (place + length bytes) c) place k 0 front (omega arith)
      ∙ get_or-append_right bytes (drop (place + length bytes) c) (length bytes) (k - place) 0 refl (omega arith)
      ∙ get_or-drop (place + length bytes) c (k - place - length bytes) 0
      ∙ (let same : place + length bytes + (k - place - length bytes) ≡ k = omega arith in ap (λ (j : ℕ). slice_index c j) same);
}

-- a cut may leave all as it was
pub CutShort-same : (to : ℕ) (c : List ℕ) → CutShort to c c
CutShort-same to c = record { no_shorter = omega arith; before = λ k inside below. refl }

-- or only the bytes up to its length
pub CutShort-take : (to : ℕ) (c : List ℕ) → CutShort to c (take to c)
CutShort-take to c = record { no_shorter = omega (arith, length-take to c); before = λ k inside below. get_or-take to c k 0 below }

-- what a read gives after a step is one of the images after it
pub LeftAfter-read : (before : List ℕ → Type 0) (bytes : List ℕ) (step : Step) → before bytes → LeftAfter before bytes step (read_after bytes step)
LeftAfter-read before bytes (Wrote place written) was = (bytes, was, Torn-overwritten place written bytes)
LeftAfter-read before bytes (Other (events.WriteFailed place amount)) was = (bytes, was, Torn-same place amount bytes)
LeftAfter-read before bytes (Other (events.Cut to)) was = (bytes, was, CutShort-take to bytes)
LeftAfter-read before bytes (Other (events.CutFailed to)) was = (bytes, was, CutShort-same to bytes)
LeftAfter-read before bytes (Other events.Sync) was = refl
LeftAfter-read before bytes (Other events.SyncFailed) was = was

-- what a read gives after these steps is one of the images after them
pub Left-reads : (before : List ℕ → Type 0) (bytes : List ℕ) (steps : List Step) → before bytes → Left before bytes steps (reads bytes steps)
Left-reads before bytes [] was = was
Left-reads before bytes (step ∷ steps) was =
    Left-reads (LeftAfter before bytes step) (read_after bytes step) steps (LeftAfter-read before bytes step was)

-- at the moment that stands now all steps were done
pub steps_to-now : (d : MemoryDisk) → steps_to d d.moment ≡ d.past.steps
steps_to-now d = grind (arith, nat_tests)

-- what a read gives is one of the images of the moment that stands now
pub memory_reads_back : (d : MemoryDisk) (b : List ℕ) → Some (bytes_of d) ≡ Some b → ImageAt d d.moment b
memory_reads_back d b told =
    let is : bytes_of d ≡ b = cc in
    subst (λ (steps : List Step). Image d.past.first steps b) (sym (steps_to-now d))
    (subst (λ (c : List ℕ). Image d.past.first d.past.steps c) is (Left-reads (λ c. c ≡ d.past.first) d.past.first d.past.steps refl))
