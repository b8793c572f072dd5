-- What a crash may leave of a disk over memory after one call more.
use Rattle.std.proofs.Common.{◌≡◌, ℕ, ◌<◌, ◌≤◌, List, [], ◌∷◌, ◌++◌, length, take, sym, ◌∙◌, ap, subst, inl, inr, arith, Result, Ok, Err}
use Rattle.std.specs.Prelude.{OnOk, OnErr}
use Rattle.std.proofs.lemmas.List.{take_all, take-append-le}
use Rattle.std.proofs.lemmas.Bool.{cases_lt}
use Rattle.std.proofs.lemmas.Bool.Decides.{nat_tests}
use Rattle.io_edges.specs.Faults.{one_more}
use Rattle.disk_model.specs.declared.calls.Kind.{Kind}
use Rattle.disk_model.specs.Images.{Follows, NoneNew, Passes}
use Rattle.disk_model.specs.Steps.{Step, reads, read_after, Left, LeftAfter, Image}
use Rattle.disk_model.specs.Past.{Past, stepped, recorded, IsPaced}
use Rattle.disk_model.specs.Memory.{MemoryDisk, bytes_of, steps_to, ImageAt, after_step, after_failed}
use Rattle.disk_model.specs.ReadsBack.{steps_to-now}
use Rattle.disk_model.proofs.Paces.{reads-push, recorded-place, recorded-full}

-- what may be left after one step more comes from what may be left before it
Left-push : (before : List ℕ → Type 0) (bytes : List ℕ) (steps : List Step) (step : Step) (c : List ℕ) → Left before bytes (steps ++ step ∷ []) c → LeftAfter (Left before bytes steps) (reads bytes steps) step c
Left-push before bytes [] step c left = left
Left-push before bytes (s ∷ steps) step c left = Left-push (LeftAfter before bytes s) (read_after bytes s) steps step c left

-- and all that comes from it may be left
Left-pushed : (before : List ℕ → Type 0) (bytes : List ℕ) (steps : List Step) (step : Step) (c : List ℕ) → LeftAfter (Left before bytes steps) (reads bytes steps) step c → Left before bytes (steps ++ step ∷ []) c
Left-pushed before bytes [] step c left = left
Left-pushed before bytes (s ∷ steps) step c left = Left-pushed (LeftAfter before bytes s) (read_after bytes s) steps step c left

-- the steps up to a moment of a disk that keeps pace with its past
steps_to-paced : (d : MemoryDisk) (m : ℕ) → IsPaced d.past d.moment → steps_to d m ≡ take m d.past.steps
steps_to-paced d m paced =
    elim (cases_lt m d.moment) [
      | inl earlier ↦ grind (arith, nat_tests)
      | inr now ↦ (let same : steps_to d m ≡ d.past.steps = grind (arith, nat_tests) in same) ∙ sym (take_all m d.past.steps (omega (arith, paced.steps)))
    ]

-- The disk after one call more, which did a step where there was a place for it.
pub record HasStepped (d d' : MemoryDisk) (step : Step) : Type 0 where
  pub past : d'.past ≡ recorded d.past step
  pub moment : d'.moment ≡ one_more d.moment

-- a call that answered did one step or another
pub stepped-either : {T E : Type 0} (r : Result T E) (d d' : MemoryDisk) (kind : Kind) (done failed : Step) (P : Type 0) → OnOk r (d' ≡ after_step d kind done) → OnErr r (d' ≡ after_failed d kind failed) → (HasStepped d d' done → P) → (HasStepped d d' failed → P) → P
stepped-either (Ok x) d d' kind done failed P is was first second = first (record { past = ap (λ (e : MemoryDisk). e.past) is; moment = ap (λ (e : MemoryDisk). e.moment) is })
stepped-either (Err x) d d' kind done failed P is was first second = second (record { past = ap (λ (e : MemoryDisk). e.past) was; moment = ap (λ (e : MemoryDisk). e.moment) was })

-- where it succeeded, the first
pub stepped-ok : {T E : Type 0} (r : Result T E) (d d' : MemoryDisk) (kind : Kind) (step : Step) (P : Type 0) → OnOk r (d' ≡ after_step d kind step) → OnOk r (length d.past.steps < d.past.places) → (HasStepped d d' step → length d.past.steps < d.past.places → P) → OnOk r P
stepped-ok (Ok x) d d' kind step P is place after_it = after_it (record { past = ap (λ (e : MemoryDisk). e.past) is; moment = ap (λ (e : MemoryDisk). e.moment) is }) place
stepped-ok (Err x) d d' kind step P is place after_it = tt

-- where it failed, the second
pub stepped-err : {T E : Type 0} (r : Result T E) (d d' : MemoryDisk) (kind : Kind) (step : Step) (P : Type 0) → OnErr r (d' ≡ after_failed d kind step) → (HasStepped d d' step → P) → OnErr r P
stepped-err (Ok x) d d' kind step P was after_it = tt
stepped-err (Err x) d d' kind step P was after_it = after_it (record { past = ap (λ (e : MemoryDisk). e.past) was; moment = ap (λ (e : MemoryDisk). e.moment) was })

module _ (d d' : MemoryDisk) (step : Step) (next : HasStepped d d' step) where
  -- what may be left now, where the step was recorded
  pub image-place : length d.past.steps < d.past.places → (c : List ℕ) → ImageAt d' d'.moment c → LeftAfter (ImageAt d d.moment) (bytes_of d) step c
  image-place place c left =
      let is : d'.past ≡ stepped d.past step = next.past ∙ recorded-place d.past step place in
      let now : Image d'.past.first d'.past.steps c = subst (λ (steps : List Step). Image d'.past.first steps c) (steps_to-now d') left in
      let after_it : Image d.past.first (d.past.steps ++ step ∷ []) c = subst (λ (p : Past). Image p.first p.steps c) is now in
      subst (λ (steps : List Step). LeftAfter (Image d.past.first steps) (bytes_of d) step c) (sym (steps_to-now d)) (Left-push (λ b. b ≡ d.past.first) d.past.first d.past.steps step c after_it)

  -- and all that comes from the step
  pub placed-image : length d.past.steps < d.past.places → (c : List ℕ) → LeftAfter (ImageAt d d.moment) (bytes_of d) step c → ImageAt d' d'.moment c
  placed-image place c left =
      let is : d'.past ≡ stepped d.past step = next.past ∙ recorded-place d.past step place in
      let after_it = Left-pushed (λ b. b ≡ d.past.first) d.past.first d.past.steps step c (subst (λ (steps : List Step). LeftAfter (Image d.past.first steps) (bytes_of d) step c) (steps_to-now d) left) in
      subst (λ (steps : List Step). Image d'.past.first steps c) (sym (steps_to-now d')) (subst (λ (p : Past). Image p.first p.steps c) (sym is) after_it)

  -- and where it was not recorded
  full : d.past.places ≤ length d.past.steps → d'.past ≡ d.past
  full no_place = next.past ∙ recorded-full d.past step no_place

  image-full : d.past.places ≤ length d.past.steps → (c : List ℕ) → ImageAt d' d'.moment c → ImageAt d d.moment c
  image-full no_place c left =
      let now : Image d'.past.first d'.past.steps c = subst (λ (steps : List Step). Image d'.past.first steps c) (steps_to-now d') left in
      subst (λ (steps : List Step). Image d.past.first steps c) (sym (steps_to-now d)) (subst (λ (p : Past). Image p.first p.steps c) (full no_place) now)

  full-image : d.past.places ≤ length d.past.steps → (c : List ℕ) → ImageAt d d.moment c → ImageAt d' d'.moment c
  full-image no_place c left =
      let after_it : Image d.past.first d.past.steps c = subst (λ (steps : List Step). Image d.past.first steps c) (steps_to-now d) left in
      subst (λ (steps : List Step). Image d'.past.first steps c) (sym (steps_to-now d')) (subst (λ (p : Past). Image p.first p.steps c) (sym (full no_place)) after_it)

  -- what may be left now follows from what could be left before, by a step that may leave all as it was
  pub Follows-stepped : (by : List ℕ → List ℕ → Type 0) → ((c : List ℕ) → LeftAfter (ImageAt d d.moment) (bytes_of d) step c → (e : List ℕ) × ImageAt d d.moment e × by e c) → ((c : List ℕ) → by c c) → Follows by (ImageAt d d.moment) (ImageAt d' d'.moment)
  Follows-stepped by does same c left =
      elim (cases_lt (length d.past.steps) d.past.places) [
        | inl place ↦ does c (image-place place c left)
        | inr no_place ↦ (c, image-full no_place c left, same c)
      ]

  -- a step that leaves what could be left leaves neither more nor less
  pub NoneNew-stepped : ((c : List ℕ) → LeftAfter (ImageAt d d.moment) (bytes_of d) step c → ImageAt d d.moment c) → NoneNew (ImageAt d d.moment) (ImageAt d' d'.moment)
  NoneNew-stepped does c left =
      elim (cases_lt (length d.past.steps) d.past.places) [
        | inl place ↦ does c (image-place place c left)
        | inr no_place ↦ image-full no_place c left
      ]

  pub stepped-NoneNew : ((c : List ℕ) → ImageAt d d.moment c → LeftAfter (ImageAt d d.moment) (bytes_of d) step c) → NoneNew (ImageAt d' d'.moment) (ImageAt d d.moment)
  stepped-NoneNew does c left =
      elim (cases_lt (length d.past.steps) d.past.places) [
        | inl place ↦ placed-image place c (does c left)
        | inr no_place ↦ full-image no_place c left
      ]

  -- the steps up to an earlier moment are as they were
  same_steps : (m : ℕ) → m < d'.moment → IsPaced d.past d.moment → steps_to d' m ≡ steps_to d m
  same_steps m earlier paced =
      let early : steps_to d' m ≡ take m d'.past.steps = grind (arith, nat_tests) in
      early ∙ elim (cases_lt (length d.past.steps) d.past.places) [
        | inl place ↦ ap (λ (p : Past). take m p.steps) (next.past ∙ recorded-place d.past step place) ∙ take-append-le m d.past.steps (step ∷ []) (omega (arith, next.moment, paced.moments place)) ∙ sym (steps_to-paced d m paced)
        | inr no_place ↦ ap (λ (p : Past). take m p.steps) (full no_place) ∙ sym (steps_to-paced d m paced)
      ]

  same_first : d'.past.first ≡ d.past.first
  same_first = elim (cases_lt (length d.past.steps) d.past.places) [
    | inl place ↦ ap (λ (p : Past). p.first) (next.past ∙ recorded-place d.past step place)
    | inr no_place ↦ ap (λ (p : Past). p.first) (full no_place)
  ]

  -- what could be left at an earlier moment is as it was
  pub Passes-stepped : IsPaced d.past d.moment → Passes d.moment d'.moment (ImageAt d) (ImageAt d')
  Passes-stepped paced = record {
    next = next.moment;
    later = omega (arith, next.moment, paced.fits);
    no_more = λ m earlier c left. subst (λ (first : List ℕ). Image first (steps_to d m) c) same_first (subst (λ (steps : List Step). Image d'.past.first steps c) (same_steps m earlier paced) left);
    no_less = λ m earlier c left. subst (λ (steps : List Step). Image d'.past.first steps c) (sym (same_steps m earlier paced)) (subst (λ (first : List ℕ). Image first (steps_to d m) c) (sym same_first) left);
  }

  -- what a read gives now, where the step was recorded
  pub bytes-place : length d.past.steps < d.past.places → bytes_of d' ≡ read_after (bytes_of d) step
  bytes-place place = ap (λ (p : Past). reads p.first p.steps) (next.past ∙ recorded-place d.past step place) ∙ reads-push d.past.first d.past.steps step

  -- and after a step that changes nothing
  pub bytes-same : read_after (bytes_of d) step ≡ bytes_of d → bytes_of d' ≡ bytes_of d
  bytes-same same =
      elim (cases_lt (length d.past.steps) d.past.places) [
        | inl place ↦ bytes-place place ∙ same
        | inr no_place ↦ ap (λ (p : Past). reads p.first p.steps) (full no_place)
      ]
