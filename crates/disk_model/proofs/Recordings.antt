-- Recorded calls, and the bytes that they wrote, with one call more.
use Rattle.std.proofs.Common.{◌≡◌, ℕ, zero, suc, min, ◌+◌, ◌<◌, ◌≤◌, List, [], ◌∷◌, ◌++◌, length, take, drop, refl, sym, ◌∙◌, ap, subst, arith, length-append, length-drop}
use Rattle.std.proofs.lemmas.List.{take-append-le, drop-append-le, map_push, take_all, take-map, take_min, drop_at, length-map}
use Rattle.disk_model.specs.declared.event.Event.{Event}
use Rattle.disk_model.specs.declared.event.Call.{Call}
use Rattle.disk_model.specs.declared.event.Call.TheVariants as calls
use Rattle.disk_model.specs.Steps.{Step, Wrote, Other, written, written_by}
use Rattle.disk_model.specs.Recording.{step_of, steps_of, IsIn, AllIn, IsRecording}

-- a call means the same step when more bytes are written behind
step_of-longer : (bytes more : List ℕ) (call : Call) → IsIn (length bytes) call → step_of (bytes ++ more) call ≡ step_of bytes call
step_of-longer bytes more (calls.Write place from amount) inside =
    let from_in : from ≤ length bytes = omega arith in
    let amount_in : amount ≤ length (drop from bytes) = omega (arith, length-drop from bytes) in
    ap (λ (l : List ℕ). Wrote place (take amount l)) (drop-append-le from bytes more from_in)
    ∙ ap (λ (l : List ℕ). Wrote place l) (take-append-le amount (drop from bytes) more amount_in)
step_of-longer bytes more (calls.Other event) inside = refl

-- and so do all calls
pub steps_of-longer : (bytes more : List ℕ) (recorded : List Call) → AllIn (length bytes) recorded → steps_of (bytes ++ more) recorded ≡ steps_of bytes recorded
steps_of-longer bytes more [] inside = refl
steps_of-longer bytes more (call ∷ recorded) inside =
    ap (λ (s : Step). s ∷ steps_of (bytes ++ more) recorded) (step_of-longer bytes more call inside.0)
    ∙ ap (λ (l : List Step). step_of bytes call ∷ l) (steps_of-longer bytes more recorded inside.1)

-- what stands among the first bytes stands among more of them
IsIn-more : (n m : ℕ) (call : Call) → n ≤ m → IsIn n call → IsIn m call
IsIn-more n m (calls.Write place from amount) more inside = omega arith
IsIn-more n m (calls.Other event) more inside = tt

-- all recorded calls and one more stand among the written bytes
pub AllIn-push : (n m : ℕ) (recorded : List Call) (call : Call) → n ≤ m → AllIn n recorded → IsIn m call → AllIn m (recorded ++ call ∷ [])
AllIn-push n m [] call more inside last = (last, tt)
AllIn-push n m (c ∷ recorded) call more inside last =
    (IsIn-more n m c more inside.0, AllIn-push n m recorded call more inside.1 last)

-- one step more writes what it writes
pub written-push : (steps : List Step) (step : Step) → written (steps ++ step ∷ []) ≡ written steps + written_by step
written-push [] step = omega arith
written-push (s ∷ steps) step = omega (arith, written-push steps step)

-- the steps with a write that was recorded behind all others
pub steps_of-write : (bytes new : List ℕ) (recorded : List Call) (place : ℕ) → AllIn (length bytes) recorded → steps_of (bytes ++ new) (recorded ++ calls.Write place (length bytes) (length new) ∷ []) ≡ steps_of bytes recorded ++ Wrote place new ∷ []
steps_of-write bytes new recorded place inside =
    map_push (step_of (bytes ++ new)) recorded (calls.Write place (length bytes) (length new))
    ∙ ap (λ (l : List Step). l ++ step_of (bytes ++ new) (calls.Write place (length bytes) (length new)) ∷ []) (steps_of-longer bytes new recorded inside)
    ∙ ap (λ (l : List ℕ). steps_of bytes recorded ++ Wrote place (take (length new) l) ∷ []) (drop_at bytes new (length bytes) refl)
    ∙ ap (λ (l : List ℕ). steps_of bytes recorded ++ Wrote place l ∷ []) (take_all (length new) new (omega arith))

-- the steps with another call behind all others
pub steps_of-other : (bytes : List ℕ) (recorded : List Call) (event : Event) → steps_of bytes (recorded ++ calls.Other event ∷ []) ≡ steps_of bytes recorded ++ Other event ∷ []
steps_of-other bytes recorded event = map_push (step_of bytes) recorded (calls.Other event)

-- as many steps as calls
pub length-steps_of : (bytes : List ℕ) (recorded : List Call) → length (steps_of bytes recorded) ≡ length recorded
length-steps_of bytes recorded = length-map recorded (step_of bytes)

-- a recording with another call behind
pub IsRecording-other : (bytes : List ℕ) (recorded recorded' : List Call) (event : Event) (places room : ℕ) → IsRecording bytes recorded places room → length (steps_of bytes recorded) < places → recorded' ≡ recorded ++ calls.Other event ∷ [] → IsRecording bytes recorded' places room
IsRecording-other bytes recorded recorded' event places room before place is =
    subst (λ (l : List Call). IsRecording bytes l places room) (sym is) (record {
      each = AllIn-push (length bytes) (length bytes) recorded (calls.Other event) (omega arith) before.each tt;
      all = before.all ∙ sym (ap written (steps_of-other bytes recorded event) ∙ written-push (steps_of bytes recorded) (Other event) ∙ (omega arith));
      has_room = before.has_room;
      has_places = omega (arith, length-append recorded (calls.Other event ∷ []), length-steps_of bytes recorded);
    })

-- a recording with a write behind
pub IsRecording-write : (bytes bytes' new : List ℕ) (recorded recorded' : List Call) (place from places room : ℕ) → IsRecording bytes recorded places room → from ≡ length bytes → length (steps_of bytes recorded) < places → written (steps_of bytes recorded) + length new ≤ room → bytes' ≡ bytes ++ new → recorded' ≡ recorded ++ calls.Write place from (length new) ∷ [] → IsRecording bytes' recorded' places room
IsRecording-write bytes bytes' new recorded recorded' place from places room before starts has_place has_room is is' =
    subst (λ (l : List ℕ). IsRecording l recorded' places room) (sym is)
    (subst (λ (l : List Call). IsRecording (bytes ++ new) l places room) (sym (is' ∙ ap (λ (f : ℕ). recorded ++ calls.Write place f (length new) ∷ []) starts)) (record {
      each = AllIn-push (length bytes) (length (bytes ++ new)) recorded (calls.Write place (length bytes) (length new)) (omega (arith, length-append bytes new)) before.each (omega (arith, length-append bytes new));
      all = length-append bytes new ∙ sym (ap written (steps_of-write bytes new recorded place before.each) ∙ written-push (steps_of bytes recorded) (Wrote place new) ∙ (omega (arith, before.all)));
      has_room = omega (arith, before.all, length-append bytes new);
      has_places = omega (arith, length-append recorded (calls.Write place (length bytes) (length new) ∷ []), length-steps_of bytes recorded);
    }))

-- its steps are those from before and the write
pub steps_of-written : (bytes bytes' new : List ℕ) (recorded recorded' : List Call) (place from : ℕ) → AllIn (length bytes) recorded → from ≡ length bytes → bytes' ≡ bytes ++ new → recorded' ≡ recorded ++ calls.Write place from (length new) ∷ [] → steps_of bytes' recorded' ≡ steps_of bytes recorded ++ Wrote place new ∷ []
steps_of-written bytes bytes' new recorded recorded' place from inside starts is is' =
    ap (λ (l : List ℕ). steps_of l recorded') is
    ∙ ap (λ (l : List Call). steps_of (bytes ++ new) l) (is' ∙ ap (λ (f : ℕ). recorded ++ calls.Write place f (length new) ∷ []) starts)
    ∙ steps_of-write bytes new recorded place inside

-- the first of these calls are in it too
pub AllIn-take : (n count : ℕ) (recorded : List Call) → AllIn n recorded → AllIn n (take count recorded)
AllIn-take n zero recorded inside = tt
AllIn-take n (suc count) [] inside = tt
AllIn-take n (suc count) (call ∷ recorded) inside = (inside.0, AllIn-take n count recorded inside.1)

-- the first steps are those of the first calls
pub steps_of-take : (bytes : List ℕ) (count : ℕ) (recorded : List Call) → steps_of bytes (take count recorded) ≡ take count (steps_of bytes recorded)
steps_of-take bytes count recorded = sym (take-map (step_of bytes) count recorded)

-- also where the count is at most that of all calls
pub steps_of-take-min : (bytes : List ℕ) (n count : ℕ) (recorded : List Call) → n ≡ min count (length recorded) → steps_of bytes (take n recorded) ≡ take count (steps_of bytes recorded)
steps_of-take-min bytes n count recorded is =
    ap (λ (k : ℕ). steps_of bytes (take k recorded)) is ∙ ap (steps_of bytes) (take_min count recorded) ∙ steps_of-take bytes count recorded
