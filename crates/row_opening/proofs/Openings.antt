-- The logs of a vertex, while they are opened one after another.
use Rattle.std.proofs.Common.{◌≡◌, ℕ, zero, suc, ◌+◌, ◌<◌, ◌++◌, true, List, [], ◌∷◌, length, take, get_or, refl, sym, ap, subst, ◌∙◌, arith, ◌⊎◌, inl, inr}
use Rattle.std.specs.Prelude.{nat_lt, nat_eq, Option, None, Some}
use Rattle.std.specs.Option.{option_map}
use Rattle.std.specs.List.{list_all, position}
use Rattle.std.proofs.lemmas.Bool.{and_parts, cases_eq}
use Rattle.std.proofs.lemmas.Bool.Decides.{nat_tests}
use Rattle.std.proofs.lemmas.List.{get_or_append_left, length-append}
use Rattle.std.proofs.lemmas.List.Sums.{AllPass-from_list_all}
use Rattle.std.proofs.Math.Seq.{get_or-append_seam}
use Rattle.graph_model.specs.Whole.{rise}
use Rattle.graph_model.specs.Vertex.{Vertex}
use Rattle.stamps.specs.declared.stamp.Stamp.TheVariants.{At}
use Rattle.vertex_versions.specs.declared.version.Version.{Version}
use Rattle.core_rows.specs.Rows.{LabelLog}
use Rattle.core_rows.specs.Openings.{opened_row, opened_logs, lists_in}
use Rattle.edge_log.specs.Rooms.{Block, AreApart, KeepsLogs, KeepsOlds}
use Rattle.edge_log.specs.Contents.{LogContent}
use Rattle.edge_log.proofs.BlockLemmas.{apart_sym}
use Rattle.vertex_rows.specs.Blocks.{AreLogs, footprints_of}
use Rattle.vertex_rows.specs.Owned.{IsAllPast}
use Rattle.row_opening.proofs.Trading.{footprints-more, apart-parts}

-- Where nothing that stood is changed, and then again.
pub keeps_logs-twice : {L R : Type 0} (stands : L → R → Type 0) (footprint : L → List Block) (content : L → R → LogContent) (spare : L → R → ℕ) (r0 r1 r2 : R) →
    KeepsLogs stands footprint content spare [] r0 r1 → KeepsLogs stands footprint content spare [] r1 r2 → KeepsLogs stands footprint content spare [] r0 r2
keeps_logs-twice stands footprint content spare r0 r1 r2 first then log standing apart =
    let one = first log standing apart in
    let two = then log one.0 apart in
    (two.0, two.1 ∙ one.1, two.2 ∙ one.2)

pub keeps_olds-twice : {O R : Type 0} (stands : O → R → Type 0) (footprint : O → List Block) (content : O → R → LogContent) (r0 r1 r2 : R) →
    KeepsOlds stands footprint content [] r0 r1 → KeepsOlds stands footprint content [] r1 r2 → KeepsOlds stands footprint content [] r0 r2
keeps_olds-twice stands footprint content r0 r1 r2 first then old standing apart =
    let one = first old standing apart in
    let two = then old one.0 apart in
    (two.0, two.1 ∙ one.1)

-- a label that is above all others has no place among them
no-place : (l : ℕ) (labels : List ℕ) → list_all (λ n. nat_lt n l) labels ≡ true → position (nat_eq l) labels ≡ None
no-place l [] below = grind arith
no-place l (k ∷ labels) below =
    let parts = and_parts (nat_lt k l) (list_all (λ n. nat_lt n l) labels) below in
    let rest = no-place l labels parts.1 in
    grind (arith, nat_tests, rest, parts.0)

below-next : (labels : List ℕ) (i d : ℕ) → rise labels ≡ true → i < length labels → list_all (λ n. nat_lt n (get_or labels i d)) (take i labels) ≡ true
below-next [] i d up lt = absurd (omega (arith, lt))
below-next (x ∷ labels) zero d up lt = refl
below-next (x ∷ labels) (suc i) d up lt =
    let parts = and_parts (list_all (nat_lt x) labels) (rise labels) up in
    let rest = below-next labels i d parts.1 (omega (arith, lt)) in
    let here = AllPass-from_list_all (nat_lt x) labels parts.0 i d (omega (arith, lt)) in
    grind (arith, rest, here)

pub next-unnamed : (labels : List ℕ) (i d : ℕ) → rise labels ≡ true → i < length labels → position (nat_eq (get_or labels i d)) (take i labels) ≡ None
next-unnamed labels i d up lt = no-place (get_or labels i d) (take i labels) (below-next labels i d up lt)

-- Of the logs with one more everything is past.
pub past-more : {L R : Type 0} (stands : L → R → Type 0) (footprint : L → List Block) (content : L → R → LogContent) (spare : L → R → ℕ) (limit : L → ℕ) {most : ℕ} (e : ℕ) (logs : List L) (room new : R) (x : L) →
    AreLogs stands footprint limit most logs room → KeepsLogs stands footprint content spare [] room new →
    ((n : ℕ) (d : L) → n < length logs → IsAllPast e (content (get_or logs n d) room)) → IsAllPast e (content x new) →
    (n : ℕ) (d : L) → n < length (logs ++ x ∷ []) → IsAllPast e (content (get_or (logs ++ x ∷ []) n d) new)
past-more {L = L} stands footprint content spare limit e logs room new x are keeps past here n d within = by_place (cases_eq n (length logs))
  where
    by_place : (n ≡ length logs) ⊎ (n ≡ length logs → ⊥) → IsAllPast e (content (get_or (logs ++ x ∷ []) n d) new)
    by_place (inl last) =
        let is : get_or (logs ++ x ∷ []) n d ≡ x = ap (λ k. get_or (logs ++ x ∷ []) k d) last ∙ get_or-append_seam logs x [] d in
        subst (λ z. IsAllPast e (content z new)) (sym is) here
    by_place (inr other) =
        let lt : n < length logs = below n (length logs) (omega (arith, within, length-append logs (x ∷ []))) other in
        let is : get_or (logs ++ x ∷ []) n d ≡ get_or logs n d = get_or_append_left logs (x ∷ []) d n lt in
        subst (λ z. IsAllPast e (content z new)) (sym is)
        (subst (IsAllPast e) (sym (keeps (get_or logs n d) (are.stand n d lt) refl).1) (past n d lt))
      where
        below : (m n : ℕ) → m < n + 1 → (m ≡ n → ⊥) → m < n
        below m n lt differ = grind (arith, lt, differ)

-- The logs but the last stand where that is given back.
pub logs-fewer : {L R : Type 0} (stands : L → R → Type 0) (footprint : L → List Block) (content : L → R → LogContent) (spare : L → R → ℕ) (limit : L → ℕ) {most : ℕ} (logs : List L) (x : L) (room new : R) →
    AreLogs stands footprint limit most (logs ++ x ∷ []) room → KeepsLogs stands footprint content spare (footprint x) room new → AreLogs stands footprint limit most logs new
logs-fewer {L = L} stands footprint content spare limit logs x room new are keeps = record {
  stand = λ n d lt. (keeps (get_or logs n d) (stood n d lt) (beside n d lt)).0;
  apart = λ m n d lt_m lt_n differ.
      subst (λ z. AreApart (footprint z) (footprint (get_or logs n d))) (is m d lt_m)
      (subst (λ z. AreApart (footprint (get_or (logs ++ x ∷ []) m d)) (footprint z)) (is n d lt_n)
      (are.apart m n d (longer m lt_m) (longer n lt_n) differ));
  limits = λ n d lt. ap limit (sym (is n d lt)) ∙ are.limits n d (longer n lt);
}
  where
    longer : (n : ℕ) → n < length logs → n < length (logs ++ x ∷ [])
    longer n lt = omega (arith, lt, length-append logs (x ∷ []))

    is : (n : ℕ) (d : L) → n < length logs → get_or (logs ++ x ∷ []) n d ≡ get_or logs n d
    is n d lt = get_or_append_left logs (x ∷ []) d n lt

    stood : (n : ℕ) (d : L) → n < length logs → stands (get_or logs n d) room
    stood n d lt = subst (λ z. stands z room) (is n d lt) (are.stand n d (longer n lt))

    last : (d : L) → get_or (logs ++ x ∷ []) (length logs) d ≡ x
    last d = get_or-append_seam logs x [] d

    beside : (n : ℕ) (d : L) → n < length logs → AreApart (footprint x) (footprint (get_or logs n d))
    beside n d lt =
        subst (λ z. AreApart (footprint z) (footprint (get_or logs n d))) (last d)
        (subst (λ z. AreApart (footprint (get_or (logs ++ x ∷ []) (length logs) d)) (footprint z)) (is n d lt)
        (are.apart (length logs) n d (omega (arith, length-append logs (x ∷ []))) (longer n lt) (λ e. omega (arith, e, lt))))

pub last-stands : {L R : Type 0} (stands : L → R → Type 0) (footprint : L → List Block) (limit : L → ℕ) {most : ℕ} (logs : List L) (x : L) (room : R) → AreLogs stands footprint limit most (logs ++ x ∷ []) room → stands x room
last-stands stands footprint limit logs x room are =
    subst (λ z. stands z room) (get_or-append_seam logs x [] x) (are.stand (length logs) x (omega (arith, length-append logs (x ∷ []))))

-- What is left beside all logs is left beside the last.
pub last-apart : {L : Type 0} (footprint : L → List Block) (logs : List L) (x : L) (others : List Block) → AreApart (footprints_of footprint (logs ++ x ∷ [])) others → AreApart (footprints_of footprint logs) others × AreApart (footprint x) others
last-apart footprint logs x others apart =
    apart-parts (footprints_of footprint logs) (footprint x) others (subst (λ bs. AreApart bs others) (footprints-more footprint logs x) apart)

-- no logs stand
pub are-none : {L R : Type 0} (stands : L → R → Type 0) (footprint : L → List Block) (limit : L → ℕ) {most : ℕ} (room : R) → AreLogs stands footprint limit most [] room
are-none stands footprint limit room = record {
  stand = λ n d lt. absurd (omega (arith, lt));
  apart = λ m n d lt_m lt_n differ. absurd (omega (arith, lt_m));
  limits = λ n d lt. absurd (omega (arith, lt));
}

pub none-apart : (out : List Block) → AreApart out []
none-apart out = apart_sym [] out refl

-- the parts of the row of a vertex that is there
pub row-of_parts : (e : ℕ) (o : Option Vertex) (p : List ℕ) (versions : List Version) (logs : List LabelLog) → option_map (λ x. x.payload) o ≡ Some p → versions ≡ record { created = At e; content = Some p } ∷ [] → logs ≡ opened_logs e (lists_in o) →
    record { owner = None; committed = e; versions = versions; logs = logs } ≡ opened_row e o
row-of_parts e None p versions logs there are opened = absurd (cc)
row-of_parts e (Some x) p versions logs there are opened = rw (are, opened, ← there)
