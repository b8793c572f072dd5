-- A fresh log beside those of a row: nothing else lies in its blocks.
use Rattle.std.proofs.Common.{◌≡◌, ℕ, suc, ◌<◌, ◌+◌, ◌++◌, true, false, List, [], ◌∷◌, length, get_or, refl, ap, sym, subst, ◌∙◌, arith, ◌⊎◌, inl, inr}
use Rattle.std.specs.Prelude.{Contains, nat_eq}
use Rattle.std.specs.List.{list_any, position_or_len}
use Rattle.std.proofs.lemmas.Bool.{cases_eq}
use Rattle.std.proofs.lemmas.Bool.Decides.{nat_tests}
use Rattle.std.proofs.lemmas.List.{get_or_append_left, length-append}
use Rattle.std.proofs.lemmas.List.Elements.{Contains-append_left, Contains-push_cases, Contains-push}
use Rattle.std.proofs.Math.Seq.{get_or-append_seam}
use Rattle.edge_log.specs.Rooms.{Block, AreApart, AreAmong, KeepsLogs, KeepsOlds}
use Rattle.edge_log.specs.Contents.{LogContent, empty_content, with_appended}
use Rattle.edge_log.proofs.BlockLemmas.{apart_sym, apart_among}
use Rattle.core_rows.specs.Rows.{with_log}
use Rattle.vertex_rows.specs.Blocks.{StaysApart, AreLogs, footprints_of}
use Rattle.vertex_rows.specs.Owned.{IsOwned, IsAllPast, AreOwned}
use Rattle.vertex_rows.specs.RowIn.{labelled_in}
use Rattle.vertex_rows.proofs.Contents.{past_known, owned-appended}
use Rattle.vertex_rows.proofs.Logs.{apart_part, apart_all}
use Rattle.vertex_rows.proofs.RowLogs.{with_log-swap}

-- what is done in fresh blocks leaves all that stood before
pub keeps_logs-fresh : {L R : Type 0} (stands : L → R → Type 0) (footprint : L → List Block) (content : L → R → LogContent) (spare : L → R → ℕ) (out new : List Block) (r0 r1 r2 : R) →
    KeepsLogs stands footprint content spare [] r0 r1 → AreApart out new → ((log : L) → stands log r0 → AreAmong (footprint log) out) →
    KeepsLogs stands footprint content spare new r1 r2 → KeepsLogs stands footprint content spare [] r0 r2
keeps_logs-fresh stands footprint content spare out new r0 r1 r2 before fresh lies then log standing apart =
    let one = before log standing apart in
    let two = then log one.0 (apart_sym (footprint log) new (apart_among (footprint log) out new (lies log standing) fresh)) in
    (two.0, two.1 ∙ one.1, two.2 ∙ one.2)

pub keeps_olds-fresh : {O R : Type 0} (stands : O → R → Type 0) (footprint : O → List Block) (content : O → R → LogContent) (out new : List Block) (r0 r1 r2 : R) →
    KeepsOlds stands footprint content [] r0 r1 → AreApart out new → ((old : O) → stands old r0 → AreAmong (footprint old) out) →
    KeepsOlds stands footprint content new r1 r2 → KeepsOlds stands footprint content [] r0 r2
keeps_olds-fresh stands footprint content out new r0 r1 r2 before fresh lies then old standing apart =
    let one = before old standing apart in
    let two = then old one.0 (apart_sym (footprint old) new (apart_among (footprint old) out new (lies old standing) fresh)) in
    (two.0, two.1 ∙ one.1)

-- The logs of a row stand where nothing that stood was changed, with the same content.
pub logs-kept : {L R : Type 0} (stands : L → R → Type 0) (footprint : L → List Block) (content : L → R → LogContent) (spare : L → R → ℕ) (limit : L → ℕ) {most : ℕ} (logs : List L) (room new : R) →
    AreLogs stands footprint limit most logs room → KeepsLogs stands footprint content spare [] room new → AreLogs stands footprint limit most logs new
logs-kept stands footprint content spare limit logs room new are keeps = record {
  stand = λ n d lt. (keeps (get_or logs n d) (are.stand n d lt) refl).0;
  apart = are.apart;
  limits = are.limits;
}

pub contents-kept : {L R : Type 0} (stands : L → R → Type 0) (footprint : L → List Block) (content : L → R → LogContent) (spare : L → R → ℕ) (limit : L → ℕ) {most : ℕ} (logs : List L) (room new : R) →
    AreLogs stands footprint limit most logs room → KeepsLogs stands footprint content spare [] room new → (n : ℕ) (d : L) → n < length logs → content (get_or logs n d) new ≡ content (get_or logs n d) room
contents-kept stands footprint content spare limit logs room new are keeps n d lt = (keeps (get_or logs n d) (are.stand n d lt) refl).1

-- which log stands where, with one more
pub one_longer : {L : Type 0} (logs : List L) (x : L) → length (logs ++ x ∷ []) ≡ length logs + 1
one_longer logs x = length-append logs (x ∷ [])

last_is : {L : Type 0} (logs : List L) (m : ℕ) (x d : L) → m ≡ length logs → get_or (logs ++ x ∷ []) m d ≡ x
last_is logs m x d same = ap (λ k. get_or (logs ++ x ∷ []) k d) same ∙ get_or-append_seam logs x [] d

others_are : {L : Type 0} (logs : List L) (m : ℕ) (x d : L) → m < length (logs ++ x ∷ []) → (m ≡ length logs → ⊥) → (m < length logs) × (get_or (logs ++ x ∷ []) m d ≡ get_or logs m d)
others_are logs m x d within differ =
    let lt : m < length logs = below m (length logs) (omega (arith, within, one_longer logs x)) differ in
    (lt, get_or_append_left logs (x ∷ []) d m lt)
  where
    below : (m n : ℕ) → m < n + 1 → (m ≡ n → ⊥) → m < n
    below m n lt differ = grind (arith, lt, differ)

-- The logs with a fresh one stand.
pub logs-more : {L R : Type 0} (stands : L → R → Type 0) (footprint : L → List Block) (content : L → R → LogContent) (spare : L → R → ℕ) (limit : L → ℕ) {most : ℕ} (out : List Block) (logs : List L) (room new : R) (x : L) →
    AreLogs stands footprint limit most logs room → KeepsLogs stands footprint content spare [] room new → stands x new → limit x ≡ most → AreApart out (footprint x) →
    ((log : L) → stands log room → AreAmong (footprint log) out) → AreLogs stands footprint limit most (logs ++ x ∷ []) new
logs-more {L = L} {R = R} stands footprint content spare limit {most = most} out logs room new x are keeps standing same_limit fresh lies = record {
  stand = λ m d within. stand_at m d within (cases_eq m (length logs));
  apart = λ m k d lt_m lt_k differ. apart_both m k d lt_m lt_k differ (cases_eq m (length logs)) (cases_eq k (length logs));
  limits = λ m d within. limit_at m d within (cases_eq m (length logs));
}
  where
    stand_at : (m : ℕ) (d : L) → m < length (logs ++ x ∷ []) → (m ≡ length logs) ⊎ (m ≡ length logs → ⊥) → stands (get_or (logs ++ x ∷ []) m d) new
    stand_at m d within (inl e) = subst (λ z. stands z new) (sym (last_is logs m x d e)) standing
    stand_at m d within (inr beside) =
        let other = others_are logs m x d within beside in
        subst (λ z. stands z new) (sym other.1) (keeps (get_or logs m d) (are.stand m d other.0) refl).0

    limit_at : (m : ℕ) (d : L) → m < length (logs ++ x ∷ []) → (m ≡ length logs) ⊎ (m ≡ length logs → ⊥) → limit (get_or (logs ++ x ∷ []) m d) ≡ most
    limit_at m d within (inl e) = ap limit (last_is logs m x d e) ∙ same_limit
    limit_at m d within (inr beside) = let other = others_are logs m x d within beside in ap limit other.1 ∙ are.limits m d other.0

    from_old : (k : ℕ) (d : L) → k < length logs → AreApart (footprint (get_or logs k d)) (footprint x)
    from_old k d within = apart_among (footprint (get_or logs k d)) out (footprint x) (lies (get_or logs k d) (are.stand k d within)) fresh

    apart_both : (m k : ℕ) (d : L) → m < length (logs ++ x ∷ []) → k < length (logs ++ x ∷ []) → (m ≡ k → ⊥) → (m ≡ length logs) ⊎ (m ≡ length logs → ⊥) → (k ≡ length logs) ⊎ (k ≡ length logs → ⊥) →
        AreApart (footprint (get_or (logs ++ x ∷ []) m d)) (footprint (get_or (logs ++ x ∷ []) k d))
    apart_both m k d lt_m lt_k differ (inl e) (inl f) = absurd (differ (e ∙ sym f))
    apart_both m k d lt_m lt_k differ (inl e) (inr beside) =
        let other = others_are logs k x d lt_k beside in
        subst (λ z. AreApart (footprint z) (footprint (get_or (logs ++ x ∷ []) k d))) (sym (last_is logs m x d e))
        (subst (λ z. AreApart (footprint x) (footprint z)) (sym other.1) (apart_sym (footprint (get_or logs k d)) (footprint x) (from_old k d other.0)))
    apart_both m k d lt_m lt_k differ (inr beside) (inl f) =
        let other = others_are logs m x d lt_m beside in
        subst (λ z. AreApart (footprint (get_or (logs ++ x ∷ []) m d)) (footprint z)) (sym (last_is logs k x d f))
        (subst (λ z. AreApart (footprint z) (footprint x)) (sym other.1) (from_old m d other.0))
    apart_both m k d lt_m lt_k differ (inr beside) (inr aside) =
        let one = others_are logs m x d lt_m beside in
        let two = others_are logs k x d lt_k aside in
        subst (λ z. AreApart (footprint z) (footprint (get_or (logs ++ x ∷ []) k d))) (sym one.1)
        (subst (λ z. AreApart (footprint (get_or logs m d)) (footprint z)) (sym two.1) (are.apart m k d one.0 two.0 differ))

-- and their blocks stay apart from all others
pub row_grows_apart : {L : Type 0} (footprint : L → List Block) (out : List Block) (logs : List L) (x : L) → AreApart out (footprint x) → StaysApart out (footprints_of footprint logs) (footprints_of footprint (logs ++ x ∷ []))
row_grows_apart {L = L} footprint out logs x fresh others among apart = apart_all footprint (logs ++ x ∷ []) others (λ m d within. each m d within (cases_eq m (length logs)))
  where
    each : (m : ℕ) (d : L) → m < length (logs ++ x ∷ []) → (m ≡ length logs) ⊎ (m ≡ length logs → ⊥) → AreApart (footprint (get_or (logs ++ x ∷ []) m d)) others
    each m d within (inl e) =
        subst (λ z. AreApart (footprint z) others) (sym (last_is logs m x d e)) (apart_sym others (footprint x) (apart_among others out (footprint x) among fresh))
    each m d within (inr beside) =
        let other = others_are logs m x d within beside in
        subst (λ z. AreApart (footprint z) others) (sym other.1) (apart_part footprint logs others m d other.0 apart)

-- A fresh log is owned, and touched.
pub owned-more : {L R : Type 0} (stands : L → R → Type 0) (footprint : L → List Block) (content : L → R → LogContent) (spare : L → R → ℕ) (limit : L → ℕ) {most : ℕ} (t e : ℕ) (touched : List ℕ) (logs : List L) (room new : R) (n : ℕ) (x : L) →
    AreLogs stands footprint limit most logs room → KeepsLogs stands footprint content spare [] room new → n ≡ length logs → AreOwned content t e touched logs room → IsOwned t e (content x new) →
    AreOwned content t e (touched ++ n ∷ []) (logs ++ x ∷ []) new
owned-more {L = L} {R = R} stands footprint content spare limit t e touched logs room new n x are keeps number owned here = record {
  within = λ m found. within_at m (Contains-push_cases touched n m found);
  owned = λ m d within. owned_at m d within (cases_eq m (length logs));
  settled = λ m d within not_in. settled_at m d within not_in (cases_eq m (length logs));
}
  where
    within_at : (m : ℕ) → Contains touched m ⊎ (n ≡ m) → m < length (logs ++ x ∷ [])
    within_at m (inl found) = omega (arith, owned.within m found, one_longer logs x)
    within_at m (inr same) = omega (arith, same, number, one_longer logs x)

    same_there : (m : ℕ) (d : L) → m < length logs → get_or (logs ++ x ∷ []) m d ≡ get_or logs m d → content (get_or logs m d) room ≡ content (get_or (logs ++ x ∷ []) m d) new
    same_there m d within is = sym (keeps (get_or logs m d) (are.stand m d within) refl).1 ∙ ap (λ z. content z new) (sym is)

    owned_at : (m : ℕ) (d : L) → m < length (logs ++ x ∷ []) → (m ≡ length logs) ⊎ (m ≡ length logs → ⊥) → IsOwned t e (content (get_or (logs ++ x ∷ []) m d) new)
    owned_at m d within (inl same) = subst (λ z. IsOwned t e (content z new)) (sym (last_is logs m x d same)) here
    owned_at m d within (inr beside) =
        let other = others_are logs m x d within beside in
        subst (IsOwned t e) (same_there m d other.0 other.1) (owned.owned m d other.0)

    settled_at : (m : ℕ) (d : L) → m < length (logs ++ x ∷ []) → (Contains (touched ++ n ∷ []) m → ⊥) → (m ≡ length logs) ⊎ (m ≡ length logs → ⊥) → IsAllPast e (content (get_or (logs ++ x ∷ []) m d) new)
    settled_at m d within not_in (inl same) = absurd (not_in (subst (Contains (touched ++ n ∷ [])) (number ∙ sym same) (Contains-push touched n)))
    settled_at m d within not_in (inr beside) =
        let other = others_are logs m x d within beside in
        subst (IsAllPast e) (same_there m d other.0 other.1) (owned.settled m d other.0 (λ found. not_in (Contains-append_left touched (n ∷ []) m found)))

-- its first entry is the owner's
pub owned-first : (t e d : ℕ) (p : List ℕ) → IsOwned t e (with_appended t d p empty_content)
owned-first t e d p = owned-appended t e d p empty_content (past_known t e empty_content (record { committed = refl; past = refl }))

-- The logs under their labels, with a label more.
pub labelled-more : {L R : Type 0} (content : L → R → LogContent) (l : ℕ) (labels : List ℕ) (logs : List L) (before after : R) (x : L) →
    position_or_len (nat_eq l) labels ≡ length labels → length labels ≡ length logs →
    ((m : ℕ) (d : L) → m < length logs → content (get_or logs m d) after ≡ content (get_or logs m d) before) →
    labelled_in content (labels ++ l ∷ []) (logs ++ x ∷ []) after ≡ with_log (record { label = l; log = content x after }) (labelled_in content labels logs before)
labelled-more content l [] [] before after x at same each = refl
labelled-more content l [] (y ∷ logs) before after x at same each = absurd (omega (arith, same))
labelled-more content l (k ∷ labels) [] before after x at same each = absurd (omega (arith, same))
labelled-more content l (k ∷ labels) (y ∷ logs) before after x at same each =
    let other : l ≡ k → ⊥ = λ e. contradiction (grind (arith, nat_tests, at, e)) in
    let next : position_or_len (nat_eq l) labels ≡ length labels = grind (arith, nat_tests, at) in
    let rest = labelled-more content l labels logs before after x next (omega (arith, same)) (λ m d within. each (suc m) d (omega (arith, within))) in
    let here : content y after ≡ content y before = each 0 y (omega arith) in
    ap (λ ls. with_log (record { label = k; log = content y after }) ls) rest
    ∙ ap (λ log. with_log (record { label = k; log = log }) (with_log (record { label = l; log = content x after }) (labelled_in content labels logs before))) here
    ∙ sym (with_log-swap l k (content x after) (content y before) (labelled_in content labels logs before) other)
  where
    contradiction : true ≡ false → ⊥
    contradiction told = cc

-- a label without a place is not among the labels
pub none_named : (l : ℕ) (labels : List ℕ) → position_or_len (nat_eq l) labels ≡ length labels → list_any (nat_eq l) labels ≡ false
none_named l [] at = refl
none_named l (k ∷ labels) at =
    let next : position_or_len (nat_eq l) labels ≡ length labels = grind (arith, nat_tests, at) in
    let rest = none_named l labels next in
    grind (arith, nat_tests, at, rest)
