-- A part's buffer grows at its end, and its spans stay.
use Rattle.std.proofs.Common.{◌≡◌, ℕ, ◌+◌, ◌-◌, ◌<◌, ◌≤◌, Bool, true, false, List, [], ◌∷◌, ◌++◌, length, take, drop, set, refl, sym, ap, ◌∙◌, arith, length-append, length-drop}
use Rattle.std.specs.List.{All, AllByRecursion, slice_range}
use Rattle.std.proofs.lemmas.List.{take-append-le, drop-append-le, drop_at, take_all, map_push, length-map, length-take-le, drop-take, take_more_set, take-set}
use Rattle.std.proofs.lemmas.List.Elements.{All-push, recursion_from_All}
use Rattle.std.proofs.lemmas.List.Sums.{sum_by_push}
use Rattle.graph_model.specs.declared.pairs.Pair.{Pair}
use Rattle.edge_log.specs.declared.part.Span.{Span}
use Rattle.edge_log.specs.Parts.{payload_bytes, pairs_with}
use Rattle.edge_log.specs.Spans.{pair_in, pairs_in, IsSpanOf}

-- what stands between two places of the buffer stays
range-grown : (payloads more : List ℕ) (a b : ℕ) → a ≤ b → b ≤ length payloads → slice_range (payloads ++ more) a b ≡ slice_range payloads a b
range-grown payloads more a b rises within =
    let from : a ≤ length payloads = omega arith in
    let rest : b - a ≤ length (drop a payloads) = simp length-drop (omega arith) in
    ap (take (b - a)) (drop-append-le a payloads more from) ∙ take-append-le (b - a) (drop a payloads) more rest

-- what stands at the buffer's end
range_end : (payloads more : List ℕ) → slice_range (payloads ++ more) (length payloads) (length payloads + length more) ≡ more
range_end payloads more =
    let all : length more ≤ length payloads + length more - length payloads = omega arith in
    ap (take (length payloads + length more - length payloads)) (drop_at payloads more (length payloads) refl)
    ∙ take_all (length payloads + length more - length payloads) more all

pairs-grown : (payloads more : List ℕ) (spans : List Span) → AllByRecursion (IsSpanOf payloads) spans → pairs_in (payloads ++ more) spans ≡ pairs_in payloads spans
pairs-grown payloads more [] lie = refl
pairs-grown payloads more (span ∷ spans) lie =
    let same = range-grown payloads more span.start span.end lie.0.0 lie.0.1 in
    let rest = pairs-grown payloads more spans lie.1 in
    cc

-- one more span, at the buffer's end
pub pairs-pushed : (payloads more : List ℕ) (spans : List Span) (d : ℕ) → All (IsSpanOf payloads) spans
    → pairs_in (payloads ++ more) (spans ++ record { d = d; start = length payloads; end = length payloads + length more } ∷ []) ≡ pairs_in payloads spans ++ record { d = d; p = more } ∷ []
pairs-pushed payloads more spans d lie =
    let span : Span = record { d = d; start = length payloads; end = length payloads + length more } in
    let grown = pairs-grown payloads more spans (recursion_from_All _ _ lie) in
    let last = range_end payloads more in
    let pushed = map_push (pair_in (payloads ++ more)) spans span in
    cc

-- all spans lie in the grown buffer
pub spans-pushed : (payloads more : List ℕ) (spans : List Span) (d : ℕ) → All (IsSpanOf payloads) spans
    → All (IsSpanOf (payloads ++ more)) (spans ++ record { d = d; start = length payloads; end = length payloads + length more } ∷ [])
spans-pushed payloads more spans d lie =
    let n = length-append payloads more in
    All-push (IsSpanOf (payloads ++ more)) spans _ (λ k e h. ((lie k e h).0, omega (arith, n, (lie k e h).1))) (omega arith, omega (arith, n))

-- as many pairs as spans count
pub length-pairs : (payloads : List ℕ) (spans : List Span) (n : ℕ) → n ≤ length spans → length (pairs_in payloads (take n spans)) ≡ n
length-pairs payloads spans n within = length-map (take n spans) (pair_in payloads) ∙ length-take-le n spans within

-- the payload of the next edge of a range: the last n of its `left` bytes
range_next : (payloads : List ℕ) (left n : ℕ) → n ≤ left → left ≤ length payloads → slice_range payloads (left - n) left ≡ drop (length (take left payloads) - n) (take left payloads)
range_next payloads left n within inside =
    let size : left - (left - n) ≡ n = omega arith in
    let long : length (take left payloads) ≡ left = length-take-le left payloads inside in
    let whole : left - n + n ≡ left = omega arith in
    ap (λ k. take k (drop (left - n) payloads)) size
    ∙ sym (drop-take (left - n) n payloads)
    ∙ ap (λ k. drop (left - n) (take k payloads)) whole
    ∙ ap (λ k. drop (k - n) (take left payloads)) (sym long)

-- a look at the next edge of a range counts its span where it is shown
pub next-spans : (payloads : List ℕ) (spans : List Span) (count left n d k : ℕ) (shown : Bool) → (shown ≡ true → k ≡ 1) → (shown ≡ false → k ≡ 0) → count < length spans → n ≤ left → left ≤ length payloads
    → All (IsSpanOf payloads) (take count spans) → All (IsSpanOf payloads) (take (count + k) (set spans count (record { d = d; start = left - n; end = left })))
next-spans payloads spans count left n d k true one none inside within low lie =
    let span : Span = record { d = d; start = left - n; end = left } in
    rw (one refl, take_more_set spans count span inside) (All-push (IsSpanOf payloads) (take count spans) span lie (omega arith, low))
next-spans payloads spans count left n d k false one none inside within low lie =
    let stays : count + k ≡ count = omega (arith, none refl) in
    rw (stays, take-set spans count (record { d = d; start = left - n; end = left })) lie

pub next-pairs : (payloads : List ℕ) (spans : List Span) (count left n d k : ℕ) (shown : Bool) → (shown ≡ true → k ≡ 1) → (shown ≡ false → k ≡ 0) → count < length spans → n ≤ left → left ≤ length payloads
    → pairs_in payloads (take (count + k) (set spans count (record { d = d; start = left - n; end = left })))
    ≡ pairs_with shown d (drop (length (take left payloads) - n) (take left payloads)) (pairs_in payloads (take count spans))
next-pairs payloads spans count left n d k true one none inside within low =
    let span : Span = record { d = d; start = left - n; end = left } in
    rw (one refl, take_more_set spans count span inside)
    (map_push (pair_in payloads) (take count spans) span
    ∙ ap (λ (p : List ℕ). pairs_in payloads (take count spans) ++ record { d = d; p = p } ∷ []) (range_next payloads left n within low))
next-pairs payloads spans count left n d k false one none inside within low =
    let stays : count + k ≡ count = omega (arith, none refl) in
    rw (stays, take-set spans count (record { d = d; start = left - n; end = left })) refl

-- and the payloads still fit
pub next-counted : (payloads : List ℕ) (pairs : List Pair) (left n d : ℕ) (shown : Bool) → n ≤ left → left ≤ length payloads → payload_bytes pairs + left ≤ length payloads
    → payload_bytes (pairs_with shown d (drop (length (take left payloads) - n) (take left payloads)) pairs) + (left - n) ≤ length payloads
next-counted payloads pairs left n d true within low fit =
    let bytes = drop (length (take left payloads) - n) (take left payloads) in
    let long : length (take left payloads) ≡ left = length-take-le left payloads low in
    let size : length bytes ≡ length (take left payloads) - (length (take left payloads) - n) = length-drop (length (take left payloads) - n) (take left payloads) in
    let sum = sum_by_push (λ (x : Pair). length x.p) pairs (record { d = d; p = bytes }) in
    rw sum (omega (arith, size, long, fit))
next-counted payloads pairs left n d false within low fit = omega (arith, fit)
