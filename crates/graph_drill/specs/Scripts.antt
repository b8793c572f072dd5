-- The two scripts of a drill: the first makes a vertex for each session, the second has each session change its own in rounds.
use Rattle.std.specs.Prelude.{ℕ, suc, zero, ◌+◌, ◌-◌, ◌*◌, ◌%◌, ◌^◌, ◌==◌, if◌then◌else◌, List, [], ◌∷◌, ◌++◌, map, replicate, flat_map}
use Rattle.std.specs.Int.{w64, to_be_bytes}
use Rattle.std.specs.List.{range_with_len}
use Rattle.rand_core.specs.Stream.{Stream, next_u64}
use Rattle.rand_core.specs.Steps.{stream_of}
use Rattle.rand_xoshiro.specs.SplitMix64.{splitmix_steps}
use Rattle.request_text.specs.declared.request.Request.{Request}
use Rattle.request_text.specs.declared.request.Request.TheVariants.{Begin, Vertex, Put, Del, Scan, Commit}
use Rattle.request_text.specs.declared.request.Line.{Line}

-- a line of a session
abbrev pub asked_by : ℕ → Request → Line
asked_by session request = record { session = session; request = request }

-- the first script: session 0 makes so many vertices without payload in one transaction
abbrev pub first_script : ℕ → List Line
first_script sessions = map (asked_by 0) (Begin ∷ (replicate sessions (Vertex []) ++ Commit ∷ []))

-- ---- the words that a session draws

-- the generator of a session: SplitMix64 from the seed plus the number of the session
abbrev pub generator_of : ℕ → ℕ → Stream
generator_of seed session = stream_of splitmix_steps ((seed + session) % 2 ^ 64)

-- what a generator still gives when so many words were drawn
abbrev pub after_words : ℕ → Stream → Stream
after_words zero generator = generator
after_words (suc n) generator = (next_u64 (after_words n generator)).1

-- the word that a session draws in a round, which is one in each round from 1 on
abbrev pub word_of : ℕ → ℕ → ℕ → ℕ
word_of seed session round = (next_u64 (after_words (round - 1) (generator_of seed session))).0

-- the label that a word gives, from 1 to 4
abbrev pub label_of : ℕ → ℕ
label_of word = 1 + word % 4

-- the payload that a word gives: its eight bytes, the high one first
abbrev pub payload_of : ℕ → List ℕ
payload_of word = to_be_bytes w64 word

-- ---- the second script

-- a request of every nth round
abbrev pub in_every : ℕ → ℕ → Request → List Request
in_every n round request = if round % n == 0 then request ∷ [] else []

-- what is asked in a round of a vertex: an edge to the number of the round is put, in every fifth round the edge of
-- the round two before, whose label is given, is taken out, and in every tenth the list of the new edge is read
abbrev pub requests_in : ℕ → ℕ → ℕ → ℕ → List Request
requests_in round v word label_before =
    Begin ∷ Put v (label_of word) round (payload_of word)
    ∷ (in_every 5 round (Del v label_before (round - 2))
    ++ (in_every 10 round (Scan v (label_of word)) ++ Commit ∷ []))

-- the lines of a session in a round, on the vertex that the first script made for it
abbrev pub session_lines : ℕ → ℕ → ℕ → ℕ → List Line
session_lines seed next_vertex round session =
    map (asked_by session) (requests_in round (next_vertex + session) (word_of seed session round) (label_of (word_of seed session (round - 2))))

-- the lines of a round, session by session
abbrev pub round_lines : ℕ → ℕ → ℕ → ℕ → List Line
round_lines seed next_vertex sessions round = flat_map (session_lines seed next_vertex round) (range_with_len 0 sessions)

-- the second script, round by round
abbrev pub second_script : ℕ → ℕ → ℕ → ℕ → List Line
second_script seed next_vertex sessions rounds = flat_map (round_lines seed next_vertex sessions) (range_with_len 1 rounds)
