-- Bytes put to a sink by several calls, some of them pending in between.
use Rattle.std.proofs.Common.{◌≡◌, ℕ, List, ◌++◌, take, drop, sym, ◌∙◌, ap, subst, arith, append_assoc}
use Rattle.std.proofs.lemmas.List.{append_cancel_left, take-append-drop}
use Rattle.std.specs.Prelude.{Option, Some, None}
use Rattle.std.specs.Io.KnownBytes.{append_known}
use Rattle.io_edges.specs.Writes.{Appended, AppendedPart}
use Rattle.io_edges.proofs.Appending.{append_known-append, Appended-AppendedPart}

-- what was put and then flushed was appended behind what was pending
pub Put-flush : (a b c : Option (List ℕ)) (p p' xs : List ℕ) → Appended (append_known a p) (append_known b p') xs → Appended b c p' → Appended a c (p ++ xs)
Put-flush a b c p p' xs put flushed = flushed ∙ put ∙ append_known-append a p xs

-- the same of lists: where some first bytes of those in line stand behind w, the others are pending
pending-rest : (w v p p' xs : List ℕ) (k : ℕ) → v ≡ w ++ take k (p ++ xs) → v ++ p' ≡ (w ++ p) ++ xs → p' ≡ drop k (p ++ xs)
pending-rest w v p p' xs k has put =
    append_cancel_left (take k (p ++ xs)) p' (drop k (p ++ xs))
    (append_cancel_left w (take k (p ++ xs) ++ p') (take k (p ++ xs) ++ drop k (p ++ xs))
    (sym (append_assoc w (take k (p ++ xs)) p')
    ∙ ap (λ l. l ++ p') (sym has)
    ∙ put
    ∙ append_assoc w p xs
    ∙ ap (λ l. w ++ l) (sym (take-append-drop k (p ++ xs)))))

-- where the sink has the first bytes of those in line, the others are pending
pending-drop : (w : List ℕ) (b : Option (List ℕ)) (p p' xs : List ℕ) (k : ℕ) → Appended (Some w) b (take k (p ++ xs)) → Appended (append_known (Some w) p) (append_known b p') xs → p' ≡ drop k (p ++ xs)
pending-drop w None p p' xs k appended put = cc
pending-drop w (Some v) p p' xs k appended put = pending-rest w v p p' xs k (cc) (cc)

-- a put and then a part of what follows are a part of both
pub Put-AppendedPart : (a b c : Option (List ℕ)) (p p' xs ys : List ℕ) → AppendedPart a b (p ++ xs) → Appended (append_known a p) (append_known b p') xs → AppendedPart b c (p' ++ ys) → AppendedPart a c (p ++ (xs ++ ys))
Put-AppendedPart None b c p p' xs ys part put more =
    record {
      count = 0;
      within = omega arith;
      appended = more.appended ∙ ap (λ v. append_known v (take more.count (p' ++ ys))) part.appended;
    }
Put-AppendedPart (Some w) b c p p' xs ys part put more =
    let pending : p' ≡ drop part.count (p ++ xs) = pending-drop w b p p' xs part.count part.appended put in
    let line : take part.count (p ++ xs) ++ (p' ++ ys) ≡ p ++ (xs ++ ys) =
    sym (append_assoc (take part.count (p ++ xs)) p' ys)
    ∙ ap (λ l. (take part.count (p ++ xs) ++ l) ++ ys) pending
    ∙ ap (λ l. l ++ ys) (take-append-drop part.count (p ++ xs))
    ∙ append_assoc p xs ys in
    subst (λ (l : List ℕ). AppendedPart (Some w) c l) line
    (Appended-AppendedPart (Some w) b c (take part.count (p ++ xs)) (p' ++ ys) part.appended more)
