-- The scripts of a drill are within the limits of a script, and each line is of one of its sessions.
use Rattle.std.proofs.Common.{◌≡◌, ℕ, zero, suc, ◌+◌, ◌-◌, ◌*◌, ◌%◌, ◌/◌, ◌^◌, ◌<◌, ◌≤◌, true, false, cond, List, [], ◌∷◌, ◌++◌, map, length, flat_map, refl, ap, arith}
use Rattle.std.specs.Prelude.{◌==◌, replicate, slice_index}
use Rattle.std.specs.List.{AllByRecursion, range_with_len}
use Rattle.std.specs.Int.{byte_at, bytes_high_first}
use Rattle.request_text.specs.declared.request.Request.{Request}
use Rattle.request_text.specs.declared.request.Request.TheVariants.{Begin, Vertex, Put, Del, Scan, Commit}
use Rattle.request_text.specs.declared.request.Line.{Line}
use Rattle.request_text.specs.Limits.{IsPayload, IsRequestWithin, IsWithinLimits, AreWithinLimits}
use Rattle.graph_drill.specs.Scripts.{asked_by, word_of, label_of, payload_of, in_every, requests_in, session_lines, round_lines, first_script, second_script}

-- ---- what holds of each line

all-append : {X : Type 0} (P : X → Type 0) (xs ys : List X) → AllByRecursion P xs → AllByRecursion P ys → AllByRecursion P (xs ++ ys)
all-append P [] ys first second = second
all-append P (x ∷ xs) ys first second = (first.0, all-append P xs ys first.1 second)

all-map : {X Y : Type 0} (P : Y → Type 0) (f : X → Y) (Q : X → Type 0) (xs : List X) → ((x : X) → Q x → P (f x)) → AllByRecursion Q xs → AllByRecursion P (map f xs)
all-map P f Q [] gives all = tt
all-map P f Q (x ∷ xs) gives all = (gives x all.0, all-map P f Q xs gives all.1)

all-replicate : {X : Type 0} (P : X → Type 0) (n : ℕ) (x : X) → P x → AllByRecursion P (replicate n x)
all-replicate P zero x holds = tt
all-replicate P (suc n) x holds = (holds, all-replicate P n x holds)

-- numbers in a range, each below its end, give lines that all pass
all-range : {X : Type 0} (P : X → Type 0) (f : ℕ → List X) (end a n : ℕ) → a + n ≤ end → ((k : ℕ) → k < end → AllByRecursion P (f k)) → AllByRecursion P (flat_map f (range_with_len a n))
all-range P f end a zero within gives = tt
all-range P f end a (suc n) within gives =
    all-append P (f a) (flat_map f (range_with_len (a + 1) n)) (gives a (omega arith)) (all-range P f end (a + 1) n (omega arith) gives)

-- ---- the limits

byte-low : (k n : ℕ) → byte_at k n < 256
byte-low zero n = omega arith
byte-low (suc k) n = omega arith

are-bytes : (k n i : ℕ) → slice_index (bytes_high_first k n) i < 256
are-bytes zero n i = omega arith
are-bytes (suc k) n zero = byte-low k n
are-bytes (suc k) n (suc i) = are-bytes k n i

is-payload : (word : ℕ) → IsPayload (payload_of word)
is-payload word = (omega arith, are-bytes 8 word)

is-label : (word : ℕ) → label_of word ≤ 65535
is-label word = omega arith

-- a request of every nth round holds what a request of any round does
all-in_every : (P : Request → Type 0) (n round : ℕ) (request : Request) → P request → AllByRecursion P (in_every n round request)
all-in_every P n round request holds =
    elim (round % n == 0) as (λ b. AllByRecursion P (cond b (request ∷ []) [])) [ true ↦ (holds, tt) | false ↦ tt ]

requests-within : (round v word other : ℕ) → v < 2 ^ 62 → round < 2 ^ 62 → AllByRecursion IsRequestWithin (requests_in round v word (label_of other))
requests-within round v word other vertex few = (
  tt,
  (
    (omega arith, is-label word, omega arith, is-payload word),
    all-append IsRequestWithin (in_every 5 round (Del v (label_of other) (round - 2))) (in_every 10 round (Scan v (label_of word)) ++ Commit ∷ [])
        (all-in_every IsRequestWithin 5 round (Del v (label_of other) (round - 2)) (omega arith, is-label other, omega arith))
        (all-append IsRequestWithin (in_every 10 round (Scan v (label_of word))) (Commit ∷ [])
        (all-in_every IsRequestWithin 10 round (Scan v (label_of word)) (omega arith, is-label word)) (tt, tt)),
  ),
)

-- requests that are within the limits are so as lines of a session
lines-within : (session : ℕ) (requests : List Request) → session ≤ 65535 → AllByRecursion IsRequestWithin requests → AreWithinLimits (map (asked_by session) requests)
lines-within session requests low all = all-map IsWithinLimits (asked_by session) IsRequestWithin requests (λ request holds. record { session = low; request = holds }) all

pub first-within : (sessions : ℕ) → AreWithinLimits (first_script sessions)
first-within sessions =
    lines-within 0 (Begin ∷ (replicate sessions (Vertex []) ++ Commit ∷ [])) (omega arith)
    (tt, all-append IsRequestWithin (replicate sessions (Vertex [])) (Commit ∷ []) (all-replicate IsRequestWithin sessions (Vertex []) (omega arith, λ i. omega arith)) (tt, tt))

pub second-within : (seed next_vertex sessions rounds : ℕ) → next_vertex + sessions ≤ 2 ^ 62 → sessions ≤ 65536 → rounds < 2 ^ 32 → AreWithinLimits (second_script seed next_vertex sessions rounds)
second-within seed next_vertex sessions rounds vertices few rounds_few =
    all-range IsWithinLimits (round_lines seed next_vertex sessions) (rounds + 1) 1 rounds (omega arith) (λ round early.
    all-range IsWithinLimits (session_lines seed next_vertex round) sessions 0 sessions (omega arith) (λ session low.
    lines-within session (requests_in round (next_vertex + session) (word_of seed session round) (label_of (word_of seed session (round - 2)))) (omega arith)
    (requests-within round (next_vertex + session) (word_of seed session round) (word_of seed session (round - 2)) (omega arith) (omega arith))))

pub second-below : (seed next_vertex sessions rounds : ℕ) → AllByRecursion (λ (line : Line). line.session < sessions) (second_script seed next_vertex sessions rounds)
second-below seed next_vertex sessions rounds =
    let IsBelow : Line → Type 0 = λ line. line.session < sessions in
    all-range IsBelow (round_lines seed next_vertex sessions) (rounds + 1) 1 rounds (omega arith) (λ round early.
    all-range IsBelow (session_lines seed next_vertex round) sessions 0 sessions (omega arith) (λ session low.
    every session (requests_in round (next_vertex + session) (word_of seed session round) (label_of (word_of seed session (round - 2)))) low))
  where
    every : (session : ℕ) (requests : List Request) → session < sessions → AllByRecursion (λ (line : Line). line.session < sessions) (map (asked_by session) requests)
    every session [] low = tt
    every session (request ∷ requests) low = (low, every session requests low)
