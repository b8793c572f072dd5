-- The logs of a row under their labels.
use Rattle.std.proofs.Common.{◌≡◌, ℕ, zero, suc, ◌<◌, ◌≤◌, Bool, true, false, List, [], ◌∷◌, length, get_or, set, refl, ap, sym, subst, ◌∙◌, arith}
use Rattle.std.specs.Prelude.{◌==◌, nat_eq, Option, Some, None}
use Rattle.std.specs.List.{position, position_or_len}
use Rattle.std.proofs.lemmas.Bool.Decides.{nat_tests}
use Rattle.vertex_locks.specs.declared.answer.Look.TheVariants.{Taken, Held}
use Rattle.vertex_locks.specs.Rows.{answer_by_owner}
use Rattle.edge_log.specs.Contents.{LogContent, empty_content}
use Rattle.core_rows.specs.Rows.{LabelLog, log_at, with_log, each_log}
use Rattle.core_rows.proofs.LogLists.{log_at-with_log}
use Rattle.vertex_rows.specs.Owned.{AreOwned, IsOwned, IsAllPast}
use Rattle.vertex_rows.specs.RowIn.{labelled_in, OwnedBy}
use Rattle.vertex_rows.proofs.Contents.{owned_later, past_later, past_known}

-- the same change of each log, one of them in its place
each-with_log : (change : LogContent → LogContent) (l : ℕ) (log : LogContent) (logs : List LabelLog) → each_log change (with_log (record { label = l; log = log }) logs) ≡ with_log (record { label = l; log = change log }) (each_log change logs)
each-with_log change l log [] = refl
each-with_log change l log (y ∷ logs) = let rest = each-with_log change l log logs in grind (arith, nat_tests, rest)

-- Each log was changed.
pub labelled-each : {L R : Type 0} (content : L → R → LogContent) (change : LogContent → LogContent) (labels : List ℕ) (old new : List L) (before after : R) → length new ≡ length old →
    ((n : ℕ) (d : L) → n < length old → content (get_or new n d) after ≡ change (content (get_or old n d) before)) →
    labelled_in content labels new after ≡ each_log change (labelled_in content labels old before)
labelled-each content change [] old new before after same each = refl
labelled-each content change (l ∷ labels) [] [] before after same each = refl
labelled-each content change (l ∷ labels) [] (y ∷ new) before after same each = absurd (omega (arith, same))
labelled-each content change (l ∷ labels) (x ∷ old) [] before after same each = absurd (omega (arith, same))
labelled-each content change (l ∷ labels) (x ∷ old) (y ∷ new) before after same each =
    let rest = labelled-each content change labels old new before after (omega (arith, same)) (λ n d lt. each (suc n) d (omega (arith, lt))) in
    let here : content y after ≡ change (content x before) = each 0 x (omega arith) in
    ap (λ logs. with_log (record { label = l; log = content y after }) logs) rest
    ∙ ap (λ log. with_log (record { label = l; log = log }) (each_log change (labelled_in content labels old before))) here
    ∙ sym (each-with_log change l (content x before) (labelled_in content labels old before))

-- What is owned at an epoch is owned at a later one.
pub are_owned_later : {L R : Type 0} (content : L → R → LogContent) (t e f : ℕ) (touched : List ℕ) (logs : List L) (room : R) → e ≤ f → AreOwned content t e touched logs room → AreOwned content t f touched logs room
are_owned_later content t e f touched logs room le owned = record {
  within = owned.within;
  owned = λ n d lt. owned_later t e f (content (get_or logs n d) room) le (owned.owned n d lt);
  settled = λ n d lt not_in. past_later e f (content (get_or logs n d) room) le (owned.settled n d lt not_in);
}

-- the logs are the same where each is
pub labelled-same : {L R : Type 0} (content : L → R → LogContent) (labels : List ℕ) (old new : List L) (before after : R) → length new ≡ length old →
    ((n : ℕ) (d : L) → n < length old → content (get_or new n d) after ≡ content (get_or old n d) before) →
    labelled_in content labels new after ≡ labelled_in content labels old before
labelled-same content [] old new before after same each = refl
labelled-same content (l ∷ labels) [] [] before after same each = refl
labelled-same content (l ∷ labels) [] (y ∷ new) before after same each = absurd (omega (arith, same))
labelled-same content (l ∷ labels) (x ∷ old) [] before after same each = absurd (omega (arith, same))
labelled-same content (l ∷ labels) (x ∷ old) (y ∷ new) before after same each =
    let rest = labelled-same content labels old new before after (omega (arith, same)) (λ n d lt. each (suc n) d (omega (arith, lt))) in
    let here : content y after ≡ content x before = each 0 x (omega arith) in
    ap (λ logs. with_log (record { label = l; log = content y after }) logs) rest
    ∙ ap (λ log. with_log (record { label = l; log = log }) (labelled_in content labels old before)) here

-- two logs under labels that differ may be set in either order
pub with_log-swap : (l k : ℕ) (a b : LogContent) (logs : List LabelLog) → (l ≡ k → ⊥) → with_log (record { label = l; log = a }) (with_log (record { label = k; log = b }) logs) ≡ with_log (record { label = k; log = b }) (with_log (record { label = l; log = a }) logs)
with_log-swap l k a b [] differ = grind (arith, nat_tests, differ)
with_log-swap l k a b (y ∷ logs) differ = let rest = with_log-swap l k a b logs differ in grind (arith, nat_tests, differ, rest)

with_log-over : (l : ℕ) (a b : LogContent) (logs : List LabelLog) → with_log (record { label = l; log = a }) (with_log (record { label = l; log = b }) logs) ≡ with_log (record { label = l; log = a }) logs
with_log-over l a b [] = grind (arith, nat_tests)
with_log-over l a b (y ∷ logs) = let rest = with_log-over l a b logs in grind (arith, nat_tests, rest)

-- One log was changed where it stands, and the others are as they were.
pub labelled-set : {L R : Type 0} (content : L → R → LogContent) (l : ℕ) (labels : List ℕ) (logs : List L) (before after : R) (n : ℕ) (x : L) →
    position_or_len (nat_eq l) labels ≡ n → n < length labels → length labels ≡ length logs →
    ((m : ℕ) (d : L) → m < length logs → (m ≡ n → ⊥) → content (get_or logs m d) after ≡ content (get_or logs m d) before) →
    labelled_in content labels (set logs n x) after ≡ with_log (record { label = l; log = content x after }) (labelled_in content labels logs before)
labelled-set content l [] logs before after n x at lt same others = absurd (omega arith)
labelled-set content l (k ∷ labels) [] before after n x at lt same others = absurd (omega (arith, same))
labelled-set content l (k ∷ labels) (y ∷ logs) before after zero x at lt same others =
    let label : k ≡ l = grind (arith, nat_tests, at) in
    let rest = labelled-same content labels logs logs before after refl (λ m d within. others (suc m) d (omega (arith, within)) (λ e. absurd (omega (arith, e)))) in
    ap (λ ls. with_log (record { label = k; log = content x after }) ls) rest
    ∙ ap (λ j. with_log (record { label = j; log = content x after }) (labelled_in content labels logs before)) label
    ∙ sym (with_log-over l (content x after) (content y before) (labelled_in content labels logs before))
    ∙ ap (λ j. with_log (record { label = l; log = content x after }) (with_log (record { label = j; log = content y before }) (labelled_in content labels logs before))) (sym label)
labelled-set content l (k ∷ labels) (y ∷ logs) before after (suc n) x at lt same others =
    let other : l ≡ k → ⊥ = λ e. contradiction (grind (arith, nat_tests, at, e)) in
    let next : position_or_len (nat_eq l) labels ≡ n = grind (arith, nat_tests, at) in
    let rest = labelled-set content l labels logs before after n x next (omega (arith, lt)) (omega (arith, same)) (λ m d within differ. others (suc m) d (omega (arith, within)) (λ e. differ (omega (arith, e)))) in
    let here : content y after ≡ content y before = others 0 y (omega arith) (λ e. absurd (omega (arith, e))) in
    ap (λ ls. with_log (record { label = k; log = content y after }) ls) rest
    ∙ ap (λ log. with_log (record { label = k; log = log }) (with_log (record { label = l; log = content x after }) (labelled_in content labels logs before))) here
    ∙ sym (with_log-swap l k (content x after) (content y before) (labelled_in content labels logs before) other)
  where
    contradiction : true ≡ false → ⊥
    contradiction told = cc

-- the log of a label
pub log_at-labelled : {L R : Type 0} (content : L → R → LogContent) (l : ℕ) (labels : List ℕ) (logs : List L) (room : R) (n : ℕ) (d : L) →
    position_or_len (nat_eq l) labels ≡ n → n < length labels → length labels ≡ length logs → log_at (labelled_in content labels logs room) l ≡ content (get_or logs n d) room
log_at-labelled content l [] logs room n d at lt same = absurd (omega arith)
log_at-labelled content l (k ∷ labels) [] room n d at lt same = absurd (omega (arith, same))
log_at-labelled content l (k ∷ labels) (y ∷ logs) room zero d at lt same =
    log_at-with_log (record { label = k; log = content y room }) (labelled_in content labels logs room) l ∙ grind (arith, nat_tests, at)
log_at-labelled content l (k ∷ labels) (y ∷ logs) room (suc n) d at lt same =
    let next : position_or_len (nat_eq l) labels ≡ n = grind (arith, nat_tests, at) in
    let rest = log_at-labelled content l labels logs room n d next (omega (arith, lt)) (omega (arith, same)) in
    log_at-with_log (record { label = k; log = content y room }) (labelled_in content labels logs room) l ∙ grind (arith, nat_tests, at, rest)

-- a label without a log
pub log_at-no_label : {L R : Type 0} (content : L → R → LogContent) (l : ℕ) (labels : List ℕ) (logs : List L) (room : R) →
    position_or_len (nat_eq l) labels ≡ length labels → log_at (labelled_in content labels logs room) l ≡ empty_content
log_at-no_label content l [] logs room at = refl
log_at-no_label content l (k ∷ labels) [] room at = refl
log_at-no_label content l (k ∷ labels) (y ∷ logs) room at =
    let next : position_or_len (nat_eq l) labels ≡ length labels = grind (arith, nat_tests, at) in
    let rest = log_at-no_label content l labels logs room next in
    log_at-with_log (record { label = k; log = content y room }) (labelled_in content labels logs room) l ∙ grind (arith, nat_tests, at, rest)

-- the row that a transaction may change is its own, or free
pub owned_taken : {L R : Type 0} (content : L → R → LogContent) (owner : Option ℕ) (committed t read e : ℕ) (touched : List ℕ) (logs : List L) (room : R) →
    answer_by_owner owner committed t read ≡ Taken → OwnedBy content owner e touched logs room → AreOwned content t e touched logs room
owned_taken content None committed t read e touched logs room taken owned = record {
  within = λ n found. absurd (omega (arith, found.1, ap length owned.0));
  owned = λ n d lt. past_known t e (content (get_or logs n d) room) (owned.1 n d lt);
  settled = λ n d lt not_in. owned.1 n d lt;
}
owned_taken {L = L} {R = R} content (Some u) committed t read e touched logs room taken owned = by_test (u == t) refl
  where
    by_test : (b : Bool) → (u == t) ≡ b → AreOwned content t e touched logs room
    by_test true same = let is : u ≡ t = grind (arith, nat_tests, same) in subst (λ k. AreOwned content k e touched logs room) is owned
    by_test false differ = let held : Held u ≡ Taken = rw differ at taken in absurd (cc)

-- what is the same of each log
pub owned_by_same : {L R : Type 0} (content : L → R → LogContent) (owner : Option ℕ) (e : ℕ) (touched : List ℕ) (old new : List L) (before after : R) → length new ≡ length old →
    ((n : ℕ) (d : L) → n < length old → content (get_or new n d) after ≡ content (get_or old n d) before) →
    OwnedBy content owner e touched old before → OwnedBy content owner e touched new after
owned_by_same content None e touched old new before after count same owned =
    (owned.0, λ n d lt. subst (IsAllPast e) (sym (same n d (omega (arith, lt, count)))) (owned.1 n d (omega (arith, lt, count))))
owned_by_same content (Some t) e touched old new before after count same owned = record {
  within = λ n found. omega (arith, owned.within n found, count);
  owned = λ n d lt. subst (IsOwned t e) (sym (same n d (omega (arith, lt, count)))) (owned.owned n d (omega (arith, lt, count)));
  settled = λ n d lt not_in. subst (IsAllPast e) (sym (same n d (omega (arith, lt, count)))) (owned.settled n d (omega (arith, lt, count)) not_in);
}

-- the place of a label
pub place_of : (l n : ℕ) (labels : List ℕ) → position (nat_eq l) labels ≡ Some n → (position_or_len (nat_eq l) labels ≡ n) × (n < length labels)
place_of l n labels at = (grind (arith, nat_tests, at), grind (arith, nat_tests, at))

within_all : (l : ℕ) (labels : List ℕ) → position_or_len (nat_eq l) labels ≤ length labels
within_all l [] = omega arith
within_all l (k ∷ labels) = let rest = within_all l labels in grind (arith, nat_tests, rest)

pub no_place : (l : ℕ) (labels : List ℕ) → position (nat_eq l) labels ≡ None → position_or_len (nat_eq l) labels ≡ length labels
no_place l labels at =
    let past : length labels ≤ position_or_len (nat_eq l) labels = grind (arith, nat_tests, at) in
    omega (arith, past, within_all l labels)
