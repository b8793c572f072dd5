-- The logs of a row, when one of them changes.
use Rattle.std.proofs.Common.{◌≡◌, ℕ, zero, suc, ◌<◌, ◌++◌, Bool, true, false, List, [], ◌∷◌, length, get_or, set, refl, ap, sym, subst, ◌∙◌, arith, ◌⊎◌, inl, inr}
use Rattle.std.specs.Prelude.{Contains}
use Rattle.std.specs.List.{list_all}
use Rattle.std.proofs.lemmas.Bool.{and_parts, and_from, cases_eq}
use Rattle.std.proofs.lemmas.Bool.Decides.{nat_tests}
use Rattle.std.proofs.lemmas.List.{get_or-set_other, get_or_default, length-set}
use Rattle.std.proofs.lemmas.Grind.{get_or-set_at}
use Rattle.std.proofs.lemmas.List.Folds.{list_all-append}
use Rattle.std.proofs.lemmas.List.Elements.{Contains-append_left, Contains-push_cases, Contains-push}
use Rattle.edge_log.specs.Rooms.{Block, are_apart, AreApart, AreAmong, KeepsLogs, KeepsOlds}
use Rattle.edge_log.specs.Contents.{LogContent}
use Rattle.edge_log.proofs.BlockLemmas.{apart_sym}
use Rattle.vertex_rows.specs.Blocks.{StaysApart, AreLogs, footprints_of}
use Rattle.vertex_rows.specs.Owned.{IsOwned, IsAllPast, AreOwned, ends_in, with_note}
use Rattle.vertex_rows.proofs.Contents.{past_known}

-- what is apart from all logs is apart from each
pub apart_part : {L : Type 0} (footprint : L → List Block) (logs : List L) (others : List Block) (n : ℕ) (d : L) → n < length logs → AreApart (footprints_of footprint logs) others → AreApart (footprint (get_or logs n d)) others
apart_part footprint [] others n d lt apart = absurd (omega arith)
apart_part footprint (x ∷ logs) others zero d lt apart = (parts footprint x logs others apart).0
  where
    parts : {L : Type 0} (footprint : L → List Block) (x : L) (logs : List L) (others : List Block) → AreApart (footprints_of footprint (x ∷ logs)) others → AreApart (footprint x) others × AreApart (footprints_of footprint logs) others
    parts footprint x logs others apart =
        and_parts (list_all (λ a. list_all (are_apart a) others) (footprint x)) (list_all (λ a. list_all (are_apart a) others) (footprints_of footprint logs))
        (sym (list_all-append (λ a. list_all (are_apart a) others) (footprint x) (footprints_of footprint logs)) ∙ apart)
apart_part footprint (x ∷ logs) others (suc n) d lt apart =
    let rest = and_parts (list_all (λ a. list_all (are_apart a) others) (footprint x)) (list_all (λ a. list_all (are_apart a) others) (footprints_of footprint logs))
    (sym (list_all-append (λ a. list_all (are_apart a) others) (footprint x) (footprints_of footprint logs)) ∙ apart) in
    apart_part footprint logs others n d (omega arith) rest.1

-- the blocks of all logs, where one of them keeps its own
pub footprints-set : {L : Type 0} (footprint : L → List Block) (logs : List L) (n : ℕ) (x y : L) → y ≡ get_or logs n y → footprint x ≡ footprint y → footprints_of footprint (set logs n x) ≡ footprints_of footprint logs
footprints-set footprint [] n x y at same = refl
footprints-set footprint (z ∷ logs) zero x y at same = ap (λ bs. bs ++ footprints_of footprint logs) (same ∙ ap footprint at)
footprints-set footprint (z ∷ logs) (suc n) x y at same = ap (λ bs. footprint z ++ bs) (footprints-set footprint logs n x y at same)

-- what is the same of the new log is the same at each place
pub same_at : {L X : Type 0} (f : L → X) (logs : List L) (n m : ℕ) (x y d : L) → n < length logs → y ≡ get_or logs n y → f x ≡ f y → f (get_or (set logs n x) m d) ≡ f (get_or logs m d)
same_at f [] n m x y d lt at same = absurd (omega arith)
same_at f (z ∷ logs) zero zero x y d lt at same = same ∙ ap f at
same_at f (z ∷ logs) zero (suc m) x y d lt at same = refl
same_at f (z ∷ logs) (suc n) zero x y d lt at same = refl
same_at f (z ∷ logs) (suc n) (suc m) x y d lt at same = same_at f logs n m x y d (omega arith) at same

-- the other logs of a row are apart from the one that changes
pub others_apart : {L R : Type 0} (stands : L → R → Type 0) (footprint : L → List Block) (limit : L → ℕ) {most : ℕ} (logs : List L) (room : R) (n m : ℕ) (y d : L) →
    AreLogs stands footprint limit most logs room → n < length logs → m < length logs → (m ≡ n → ⊥) → y ≡ get_or logs n y → AreApart (footprint y) (footprint (get_or logs m d))
others_apart stands footprint limit logs room n m y d are lt within other at =
    let reads : get_or logs n d ≡ y = get_or_default logs n d y lt ∙ sym at in
    subst (λ z. AreApart (footprint z) (footprint (get_or logs m d))) reads (are.apart n m d lt within (λ e. other (sym e)))

-- The logs still stand where one of them changes and keeps its blocks and its limit.
pub logs-set : {L R : Type 0} (stands : L → R → Type 0) (footprint : L → List Block) (content : L → R → LogContent) (spare : L → R → ℕ) (limit : L → ℕ) {most : ℕ} (logs : List L) (room new : R) (n : ℕ) (x y : L) →
    AreLogs stands footprint limit most logs room → n < length logs → y ≡ get_or logs n y → stands x new → limit x ≡ limit y → footprint x ≡ footprint y →
    KeepsLogs stands footprint content spare (footprint y) room new → AreLogs stands footprint limit most (set logs n x) new
logs-set {L = L} {R = R} stands footprint content spare limit logs room new n x y are lt at standing same_limit same_blocks keeps = record {
  stand = λ m d within. stand_at m d (omega (arith, within, length-set logs n x)) (cases_eq m n);
  apart = λ m k d lt_m lt_k other.
      subst (λ bs. AreApart bs (footprint (get_or (set logs n x) k d))) (sym (same_at footprint logs n m x y d lt at same_blocks))
      (subst (λ bs. AreApart (footprint (get_or logs m d)) bs) (sym (same_at footprint logs n k x y d lt at same_blocks))
      (are.apart m k d (omega (arith, lt_m, length-set logs n x)) (omega (arith, lt_k, length-set logs n x)) other));
  limits = λ m d within. same_at limit logs n m x y d lt at same_limit ∙ are.limits m d (omega (arith, within, length-set logs n x));
}
  where
    stand_at : (m : ℕ) (d : L) → m < length logs → (m ≡ n) ⊎ (m ≡ n → ⊥) → stands (get_or (set logs n x) m d) new
    stand_at m d within (inl e) = subst (λ z. stands z new) (sym (get_or-set_at logs n m x d e lt)) standing
    stand_at m d within (inr beside) =
        subst (λ z. stands z new) (sym (get_or-set_other logs n m x d beside))
        (keeps (get_or logs m d) (are.stand m d within) (others_apart stands footprint limit logs room n m y d are lt within beside at)).0

-- What a function of the content is at each place, where it is the same of the log that changes.
pub contents-set : {L R X : Type 0} (stands : L → R → Type 0) (footprint : L → List Block) (content : L → R → LogContent) (spare : L → R → ℕ) (limit : L → ℕ) {most : ℕ} (f : LogContent → X) (logs : List L) (room new : R) (n : ℕ) (x y : L) →
    AreLogs stands footprint limit most logs room → n < length logs → y ≡ get_or logs n y →
    KeepsLogs stands footprint content spare (footprint y) room new → f (content x new) ≡ f (content y room) →
    (m : ℕ) (d : L) → m < length logs → f (content (get_or (set logs n x) m d) new) ≡ f (content (get_or logs m d) room)
contents-set {L = L} {R = R} {X = X} stands footprint content spare limit f logs room new n x y are lt at keeps same m d within = by_place (cases_eq m n)
  where
    by_place : (m ≡ n) ⊎ (m ≡ n → ⊥) → f (content (get_or (set logs n x) m d) new) ≡ f (content (get_or logs m d) room)
    by_place (inl e) =
        let reads : get_or logs m d ≡ y = ap (λ k. get_or logs k d) e ∙ get_or_default logs n d y lt ∙ sym at in
        ap (λ z. f (content z new)) (get_or-set_at logs n m x d e lt) ∙ same ∙ ap (λ z. f (content z room)) (sym reads)
    by_place (inr beside) =
        ap (λ z. f (content z new)) (get_or-set_other logs n m x d beside)
        ∙ ap f (keeps (get_or logs m d) (are.stand m d within) (others_apart stands footprint limit logs room n m y d are lt within beside at)).1

-- Where the log that was touched last is all past, the logs are owned without it.
pub owned-set : {L R : Type 0} (stands : L → R → Type 0) (footprint : L → List Block) (content : L → R → LogContent) (spare : L → R → ℕ) (limit : L → ℕ) {most : ℕ} (t e : ℕ) (touched rest : List ℕ) (logs : List L) (room new : R) (n : ℕ) (x y : L) →
    AreLogs stands footprint limit most logs room → n < length logs → y ≡ get_or logs n y →
    KeepsLogs stands footprint content spare (footprint y) room new → touched ≡ rest ++ n ∷ [] → AreOwned content t e touched logs room → IsAllPast e (content x new) →
    AreOwned content t e rest (set logs n x) new
owned-set {L = L} {R = R} stands footprint content spare limit t e touched rest logs room new n x y are lt at keeps last owned past = record {
  within = λ m found. subst (λ k. m < k) (sym (length-set logs n x)) (owned.within m (subst (λ xs. Contains xs m) (sym last) (Contains-append_left rest (n ∷ []) m found)));
  owned = λ m d within. owned_at m d (omega (arith, within, length-set logs n x)) (cases_eq m n);
  settled = λ m d within not_in. settled_at m d (omega (arith, within, length-set logs n x)) not_in (cases_eq m n);
}
  where
    same_there : (m : ℕ) (d : L) → m < length logs → (m ≡ n → ⊥) → content (get_or logs m d) room ≡ content (get_or (set logs n x) m d) new
    same_there m d within beside =
        sym (keeps (get_or logs m d) (are.stand m d within) (others_apart stands footprint limit logs room n m y d are lt within beside at)).1
        ∙ ap (λ z. content z new) (sym (get_or-set_other logs n m x d beside))

    past_there : (m : ℕ) (d : L) → m ≡ n → IsAllPast e (content (get_or (set logs n x) m d) new)
    past_there m d same = subst (λ z. IsAllPast e (content z new)) (sym (get_or-set_at logs n m x d same lt)) past

    owned_at : (m : ℕ) (d : L) → m < length logs → (m ≡ n) ⊎ (m ≡ n → ⊥) → IsOwned t e (content (get_or (set logs n x) m d) new)
    owned_at m d within (inl same) = past_known t e (content (get_or (set logs n x) m d) new) (past_there m d same)
    owned_at m d within (inr beside) = subst (IsOwned t e) (same_there m d within beside) (owned.owned m d within)

    settled_at : (m : ℕ) (d : L) → m < length logs → (Contains rest m → ⊥) → (m ≡ n) ⊎ (m ≡ n → ⊥) → IsAllPast e (content (get_or (set logs n x) m d) new)
    settled_at m d within not_in (inl same) = past_there m d same
    settled_at m d within not_in (inr beside) =
        subst (IsAllPast e) (same_there m d within beside) (owned.settled m d within (λ found. not_there (Contains-push_cases rest n m (subst (λ xs. Contains xs m) last found))))
      where
        not_there : Contains rest m ⊎ (n ≡ m) → ⊥
        not_there (inl found) = not_in found
        not_there (inr same) = beside (sym same)

-- A change beside all logs of a row, and then one of one of its logs.
pub keeps-logs-then : {L R : Type 0} (stands : L → R → Type 0) (footprint : L → List Block) (content : L → R → LogContent) (spare : L → R → ℕ) (first logs : List L) (r0 r1 r2 : R) (n : ℕ) (y : L) →
    footprints_of footprint logs ≡ footprints_of footprint first → n < length logs → y ≡ get_or logs n y →
    KeepsLogs stands footprint content spare (footprints_of footprint first) r0 r1 → KeepsLogs stands footprint content spare (footprint y) r1 r2 →
    KeepsLogs stands footprint content spare (footprints_of footprint first) r0 r2
keeps-logs-then stands footprint content spare first logs r0 r1 r2 n y same lt at before then log standing apart =
    let one = before log standing apart in
    let beside : AreApart (footprint y) (footprint log) =
    subst (λ z. AreApart (footprint z) (footprint log)) (sym at) (apart_part footprint logs (footprint log) n y lt (subst (λ bs. AreApart bs (footprint log)) (sym same) apart)) in
    let two = then log one.0 beside in
    (two.0, two.1 ∙ one.1, two.2 ∙ one.2)

pub keeps-olds-then : {L O R : Type 0} (stands : O → R → Type 0) (old_footprint : O → List Block) (content : O → R → LogContent) (footprint : L → List Block) (first logs : List L) (r0 r1 r2 : R) (n : ℕ) (y : L) →
    footprints_of footprint logs ≡ footprints_of footprint first → n < length logs → y ≡ get_or logs n y →
    KeepsOlds stands old_footprint content (footprints_of footprint first) r0 r1 → KeepsOlds stands old_footprint content (footprint y) r1 r2 →
    KeepsOlds stands old_footprint content (footprints_of footprint first) r0 r2
keeps-olds-then stands old_footprint content footprint first logs r0 r1 r2 n y same lt at before then old standing apart =
    let one = before old standing apart in
    let beside : AreApart (footprint y) (old_footprint old) =
    subst (λ z. AreApart (footprint z) (old_footprint old)) (sym at) (apart_part footprint logs (old_footprint old) n y lt (subst (λ bs. AreApart bs (old_footprint old)) (sym same) apart)) in
    let two = then old one.0 beside in
    (two.0, two.1 ∙ one.1)

-- blocks that are apart from each log are apart from all
pub apart_all : {L : Type 0} (footprint : L → List Block) (logs : List L) (others : List Block) → ((n : ℕ) (d : L) → n < length logs → AreApart (footprint (get_or logs n d)) others) → AreApart (footprints_of footprint logs) others
apart_all footprint [] others each = refl
apart_all footprint (x ∷ logs) others each =
    let rest = apart_all footprint logs others (λ n d lt. each (suc n) d (omega (arith, lt))) in
    list_all-append (λ a. list_all (are_apart a) others) (footprint x) (footprints_of footprint logs)
    ∙ and_from (list_all (λ a. list_all (are_apart a) others) (footprint x)) (list_all (λ a. list_all (are_apart a) others) (footprints_of footprint logs)) (each 0 x (omega arith)) rest

-- The logs still stand where one of them moves to blocks that nothing else lies in.
pub logs-moved : {L R : Type 0} (stands : L → R → Type 0) (footprint : L → List Block) (content : L → R → LogContent) (spare : L → R → ℕ) (limit : L → ℕ) {most : ℕ} (out : List Block) (logs : List L) (room new : R) (n : ℕ) (x y : L) →
    AreLogs stands footprint limit most logs room → n < length logs → y ≡ get_or logs n y → stands x new → limit x ≡ limit y → StaysApart out (footprint y) (footprint x) →
    ((log : L) → stands log room → AreAmong (footprint log) out) →
    KeepsLogs stands footprint content spare (footprint y) room new → AreLogs stands footprint limit most (set logs n x) new
logs-moved {L = L} {R = R} stands footprint content spare limit out logs room new n x y are lt at standing same_limit stays lies keeps = record {
  stand = λ m d within. stand_at m d (omega (arith, within, length-set logs n x)) (cases_eq m n);
  apart = λ m k d lt_m lt_k differ. apart_at_both m k d (omega (arith, lt_m, length-set logs n x)) (omega (arith, lt_k, length-set logs n x)) differ (cases_eq m n) (cases_eq k n);
  limits = λ m d within. same_at limit logs n m x y d lt at same_limit ∙ are.limits m d (omega (arith, within, length-set logs n x));
}
  where
    stand_at : (m : ℕ) (d : L) → m < length logs → (m ≡ n) ⊎ (m ≡ n → ⊥) → stands (get_or (set logs n x) m d) new
    stand_at m d within (inl e) = subst (λ z. stands z new) (sym (get_or-set_at logs n m x d e lt)) standing
    stand_at m d within (inr beside) =
        subst (λ z. stands z new) (sym (get_or-set_other logs n m x d beside))
        (keeps (get_or logs m d) (are.stand m d within) (others_apart stands footprint limit logs room n m y d are lt within beside at)).0

    from_new : (k : ℕ) (d : L) → k < length logs → (k ≡ n → ⊥) → AreApart (footprint x) (footprint (get_or logs k d))
    from_new k d within beside = stays (footprint (get_or logs k d)) (lies (get_or logs k d) (are.stand k d within)) (others_apart stands footprint limit logs room n k y d are lt within beside at)

    apart_at_both : (m k : ℕ) (d : L) → m < length logs → k < length logs → (m ≡ k → ⊥) → (m ≡ n) ⊎ (m ≡ n → ⊥) → (k ≡ n) ⊎ (k ≡ n → ⊥) → AreApart (footprint (get_or (set logs n x) m d)) (footprint (get_or (set logs n x) k d))
    apart_at_both m k d lt_m lt_k differ (inl e) (inl f) = absurd (differ (e ∙ sym f))
    apart_at_both m k d lt_m lt_k differ (inl e) (inr beside) =
        subst (λ z. AreApart (footprint z) (footprint (get_or (set logs n x) k d))) (sym (get_or-set_at logs n m x d e lt))
        (subst (λ z. AreApart (footprint x) (footprint z)) (sym (get_or-set_other logs n k x d beside)) (from_new k d lt_k beside))
    apart_at_both m k d lt_m lt_k differ (inr beside) (inl f) =
        subst (λ z. AreApart (footprint (get_or (set logs n x) m d)) (footprint z)) (sym (get_or-set_at logs n k x d f lt))
        (subst (λ z. AreApart (footprint z) (footprint x)) (sym (get_or-set_other logs n m x d beside)) (apart_sym (footprint x) (footprint (get_or logs m d)) (from_new m d lt_m beside)))
    apart_at_both m k d lt_m lt_k differ (inr beside) (inr aside) =
        subst (λ z. AreApart (footprint z) (footprint (get_or (set logs n x) k d))) (sym (get_or-set_other logs n m x d beside))
        (subst (λ z. AreApart (footprint (get_or logs m d)) (footprint z)) (sym (get_or-set_other logs n k x d aside)) (are.apart m k d lt_m lt_k differ))

-- and the blocks of the row stay apart from all others
pub row_stays_apart : {L : Type 0} (footprint : L → List Block) (out : List Block) (logs : List L) (n : ℕ) (x y : L) → n < length logs → y ≡ get_or logs n y → StaysApart out (footprint y) (footprint x) →
    StaysApart out (footprints_of footprint logs) (footprints_of footprint (set logs n x))
row_stays_apart {L = L} footprint out logs n x y lt at stays others among apart = apart_all footprint (set logs n x) others (λ m d within. each m d (omega (arith, within, length-set logs n x)) (cases_eq m n))
  where
    each : (m : ℕ) (d : L) → m < length logs → (m ≡ n) ⊎ (m ≡ n → ⊥) → AreApart (footprint (get_or (set logs n x) m d)) others
    each m d within (inl e) =
        subst (λ z. AreApart (footprint z) others) (sym (get_or-set_at logs n m x d e lt))
        (stays others among (subst (λ z. AreApart (footprint z) others) (sym at) (apart_part footprint logs others n y lt apart)))
    each m d within (inr beside) =
        subst (λ z. AreApart (footprint z) others) (sym (get_or-set_other logs n m x d beside)) (apart_part footprint logs others m d within apart)

-- what is left beside one log is left beside all
pub keeps_logs-wide : {L R : Type 0} (stands : L → R → Type 0) (footprint : L → List Block) (content : L → R → LogContent) (spare : L → R → ℕ) (logs : List L) (room new : R) (n : ℕ) (y : L) → n < length logs → y ≡ get_or logs n y →
    KeepsLogs stands footprint content spare (footprint y) room new → KeepsLogs stands footprint content spare (footprints_of footprint logs) room new
keeps_logs-wide stands footprint content spare logs room new n y lt at keeps log standing apart =
    keeps log standing (subst (λ z. AreApart (footprint z) (footprint log)) (sym at) (apart_part footprint logs (footprint log) n y lt apart))

pub keeps_olds-wide : {L O R : Type 0} (stands : O → R → Type 0) (old_footprint : O → List Block) (content : O → R → LogContent) (footprint : L → List Block) (logs : List L) (room new : R) (n : ℕ) (y : L) → n < length logs → y ≡ get_or logs n y →
    KeepsOlds stands old_footprint content (footprint y) room new → KeepsOlds stands old_footprint content (footprints_of footprint logs) room new
keeps_olds-wide stands old_footprint content footprint logs room new n y lt at keeps old standing apart =
    keeps old standing (subst (λ z. AreApart (footprint z) (old_footprint old)) (sym at) (apart_part footprint logs (old_footprint old) n y lt apart))

-- the content of the other logs
pub others_same : {L R : Type 0} (stands : L → R → Type 0) (footprint : L → List Block) (content : L → R → LogContent) (spare : L → R → ℕ) (limit : L → ℕ) {most : ℕ} (logs : List L) (room new : R) (n : ℕ) (y : L) →
    AreLogs stands footprint limit most logs room → n < length logs → y ≡ get_or logs n y → KeepsLogs stands footprint content spare (footprint y) room new →
    (m : ℕ) (d : L) → m < length logs → (m ≡ n → ⊥) → content (get_or logs m d) new ≡ content (get_or logs m d) room
others_same stands footprint content spare limit logs room new n y are lt at keeps m d within beside =
    (keeps (get_or logs m d) (are.stand m d within) (others_apart stands footprint limit logs room n m y d are lt within beside at)).1

-- what is noted with one note more
ends_in-has : (n : ℕ) (touched : List ℕ) → ends_in n touched ≡ true → Contains touched n
ends_in-has n [] last = absurd (cc)
ends_in-has n (m ∷ []) last = (0, omega arith, grind (arith, nat_tests, last))
ends_in-has n (m ∷ k ∷ touched) last =
    let rest = ends_in-has n (k ∷ touched) last in
    (suc rest.0, omega (arith, rest.1), rest.2)

noted-has : (n : ℕ) (touched : List ℕ) → Contains (with_note n touched) n
noted-has n touched = by_test (ends_in n touched) refl
  where
    by_test : (b : Bool) → ends_in n touched ≡ b → Contains (with_note n touched) n
    by_test true last = rw last (ends_in-has n touched last)
    by_test false other = rw other (Contains-push touched n)

noted-keeps : (n : ℕ) (touched : List ℕ) (m : ℕ) → Contains touched m → Contains (with_note n touched) m
noted-keeps n touched m found = by_test (ends_in n touched) refl
  where
    by_test : (b : Bool) → ends_in n touched ≡ b → Contains (with_note n touched) m
    by_test true last = rw last found
    by_test false other = rw other (Contains-append_left touched (n ∷ []) m found)

noted-only : (n : ℕ) (touched : List ℕ) (m : ℕ) → Contains (with_note n touched) m → Contains touched m ⊎ (n ≡ m)
noted-only n touched m found = by_test (ends_in n touched) refl
  where
    by_test : (b : Bool) → ends_in n touched ≡ b → Contains touched m ⊎ (n ≡ m)
    by_test true last = inl (rw last at found)
    by_test false other = Contains-push_cases touched n m (rw other at found)

-- A log that the owner touches is owned, and touched.
pub owned-touched : {L R : Type 0} (stands : L → R → Type 0) (footprint : L → List Block) (content : L → R → LogContent) (spare : L → R → ℕ) (limit : L → ℕ) {most : ℕ} (t e : ℕ) (touched : List ℕ) (logs : List L) (room new : R) (n : ℕ) (x y : L) →
    AreLogs stands footprint limit most logs room → n < length logs → y ≡ get_or logs n y → KeepsLogs stands footprint content spare (footprint y) room new →
    AreOwned content t e touched logs room → IsOwned t e (content x new) → AreOwned content t e (with_note n touched) (set logs n x) new
owned-touched {L = L} {R = R} stands footprint content spare limit t e touched logs room new n x y are lt at keeps owned here = record {
  within = λ m found. subst (λ k. m < k) (sym (length-set logs n x)) (within_at m (noted-only n touched m found));
  owned = λ m d within. owned_at m d (omega (arith, within, length-set logs n x)) (cases_eq m n);
  settled = λ m d within not_in. settled_at m d (omega (arith, within, length-set logs n x)) not_in (cases_eq m n);
}
  where
    same_there : (m : ℕ) (d : L) → m < length logs → (m ≡ n → ⊥) → content (get_or logs m d) room ≡ content (get_or (set logs n x) m d) new
    same_there m d within beside =
        sym (others_same stands footprint content spare limit logs room new n y are lt at keeps m d within beside)
        ∙ ap (λ z. content z new) (sym (get_or-set_other logs n m x d beside))

    within_at : (m : ℕ) → Contains touched m ⊎ (n ≡ m) → m < length logs
    within_at m (inl found) = owned.within m found
    within_at m (inr same) = omega (arith, same, lt)

    owned_at : (m : ℕ) (d : L) → m < length logs → (m ≡ n) ⊎ (m ≡ n → ⊥) → IsOwned t e (content (get_or (set logs n x) m d) new)
    owned_at m d within (inl same) = subst (λ z. IsOwned t e (content z new)) (sym (get_or-set_at logs n m x d same lt)) here
    owned_at m d within (inr beside) = subst (IsOwned t e) (same_there m d within beside) (owned.owned m d within)

    settled_at : (m : ℕ) (d : L) → m < length logs → (Contains (with_note n touched) m → ⊥) → (m ≡ n) ⊎ (m ≡ n → ⊥) → IsAllPast e (content (get_or (set logs n x) m d) new)
    settled_at m d within not_in (inl same) = absurd (not_in (subst (Contains (with_note n touched)) (sym same) (noted-has n touched)))
    settled_at m d within not_in (inr beside) =
        subst (IsAllPast e) (same_there m d within beside) (owned.settled m d within (λ found. not_in (noted-keeps n touched m found)))
