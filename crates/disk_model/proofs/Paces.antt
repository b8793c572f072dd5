-- A past with one step more: what a read gives then, and its pace.
use Rattle.std.proofs.Common.{◌≡◌, ℕ, ◌+◌, ◌<◌, ◌≤◌, List, [], ◌∷◌, ◌++◌, length, take, drop, refl, sym, ◌∙◌, ap, subst, inl, inr, arith, length-append}
use Rattle.std.proofs.lemmas.List.{length-take, length-drop}
use Rattle.std.proofs.lemmas.Bool.{cases_lt}
use Rattle.std.proofs.lemmas.Bool.Decides.{nat_tests}
use Rattle.io_edges.specs.Faults.{one_more}
use Rattle.disk_model.specs.declared.event.Event.{Event}
use Rattle.disk_model.specs.Images.{overwritten}
use Rattle.disk_model.specs.Steps.{Step, Wrote, Other, reads, read_after}
use Rattle.disk_model.specs.Past.{Past, stepped, recorded, IsNow, IsPaced}
use Rattle.disk_model.specs.Memory.{MemoryDisk, PassesRoom}

-- what a read gives after one step more
pub reads-push : (bytes : List ℕ) (steps : List Step) (step : Step) → reads bytes (steps ++ step ∷ []) ≡ read_after (reads bytes steps) step
reads-push bytes [] step = refl
reads-push bytes (s ∷ steps) step = reads-push (read_after bytes s) steps step

-- a past with a place left records the step
pub recorded-place : (past : Past) (step : Step) → length past.steps < past.places → recorded past step ≡ stepped past step
recorded-place past step place = grind (arith, nat_tests)

-- a full past records nothing
pub recorded-full : (past : Past) (step : Step) → past.places ≤ length past.steps → recorded past step ≡ past
recorded-full past step full = grind (arith, nat_tests)

-- the length of bytes that were written over
length-overwritten : (old new : List ℕ) (place most : ℕ) → place ≤ length old → length old ≤ most → place + length new ≤ most → length (overwritten old place new) ≤ most
length-overwritten old new place most joined old_fits new_fits =
    omega (arith, length-append (take place old) (new ++ drop (place + length new) old), length-append new (drop (place + length new) old), length-take place old, length-drop (place + length new) old)

-- a step that leaves these bytes
IsNow-step : (bytes bytes' : List ℕ) (past past' : Past) (step : Step) → IsNow bytes past → past' ≡ stepped past step → bytes' ≡ read_after bytes step → length bytes' ≤ past.room → IsNow bytes' past'
IsNow-step bytes bytes' past past' step now is is' room =
    subst (λ (p : Past). IsNow bytes' p) (sym is) (record {
      read = is' ∙ ap (λ (b : List ℕ). read_after b step) now.read ∙ sym (reads-push past.first past.steps step);
      has_room = room;
    })

pub IsNow-write : (bytes bytes' new : List ℕ) (past past' : Past) (place : ℕ) → IsNow bytes past → place ≤ length bytes → place + length new ≤ past.room → past' ≡ stepped past (Wrote place new) → bytes' ≡ overwritten bytes place new → IsNow bytes' past'
IsNow-write bytes bytes' new past past' place now joined room is is' =
    IsNow-step bytes bytes' past past' (Wrote place new) now is is'
    (subst (λ (b : List ℕ). length b ≤ past.room) (sym is') (length-overwritten bytes new place past.room joined now.has_room room))

pub IsNow-shorter : (bytes bytes' : List ℕ) (past past' : Past) (event : Event) → IsNow bytes past → past' ≡ stepped past (Other event) → bytes' ≡ read_after bytes (Other event) → length bytes' ≤ length bytes → IsNow bytes' past'
IsNow-shorter bytes bytes' past past' event now is is' shorter =
    IsNow-step bytes bytes' past past' (Other event) now is is' (omega (arith, now.has_room))

-- an event that changes nothing, whether it was recorded or not
pub IsNow-noted : (bytes : List ℕ) (past past' : Past) (event : Event) → IsNow bytes past → ((b : List ℕ) → read_after b (Other event) ≡ b) → past' ≡ recorded past (Other event) → IsNow bytes past'
IsNow-noted bytes past past' event now same is =
    elim (cases_lt (length past.steps) past.places) [
      | inl place ↦ IsNow-shorter bytes bytes past past' event now (is ∙ recorded-place past (Other event) place) (sym (same bytes)) (omega arith)
      | inr full ↦ subst (λ (p : Past). IsNow bytes p) (sym (is ∙ recorded-full past (Other event) full)) now
    ]

-- one step and one moment more
pub IsPaced-step : (past past' : Past) (moment moment' : ℕ) (step : Step) → IsPaced past moment → length past.steps < past.places → past' ≡ stepped past step → moment' ≡ one_more moment → IsPaced past' moment'
IsPaced-step past past' moment moment' step paced place is is' =
    subst (λ (p : Past). IsPaced p moment') (sym is) (record {
      steps = omega (arith, is', paced.moments place, paced.few, length-append past.steps (step ∷ []));
      moments = λ more. omega (arith, is', paced.moments place, paced.few, length-append past.steps (step ∷ []));
      few = paced.few;
      fits = omega (arith, is');
    })

-- one moment more, and a step where there was a place
pub IsPaced-noted : (past past' : Past) (moment moment' : ℕ) (step : Step) → IsPaced past moment → past' ≡ recorded past step → moment' ≡ one_more moment → IsPaced past' moment'
IsPaced-noted past past' moment moment' step paced is is' =
    elim (cases_lt (length past.steps) past.places) [
      | inl place ↦ IsPaced-step past past' moment moment' step paced place (is ∙ recorded-place past step place) is'
      | inr full ↦ subst (λ (p : Past). IsPaced p moment') (sym (is ∙ recorded-full past step full)) (record {
        steps = omega (arith, is', paced.steps, paced.fits);
        moments = λ more. absurd (omega arith);
        few = paced.few;
        fits = omega (arith, is');
      })
    ]

-- the room stays
pub recorded-room : (past : Past) (step : Step) → (recorded past step).room ≡ past.room
recorded-room past step =
    elim (cases_lt (length past.steps) past.places) [
      | inl place ↦ ap (λ (p : Past). p.room) (recorded-place past step place)
      | inr full ↦ ap (λ (p : Past). p.room) (recorded-full past step full)
    ]

-- a write that does not pass the room ends within it
pub fits-room : (d : MemoryDisk) (place n : ℕ) → ¬ PassesRoom d place n → place + n ≤ d.past.room
fits-room d place n fits =
    elim (cases_lt d.past.room (place + n)) [
      | inl more ↦ absurd (fits (inl more))
      | inr less ↦ less
    ]
