-- The lines of a run with their replies, and which of them are before a line.
use Rattle.std.specs.Prelude.{ℕ, ◌+◌, ◌%◌, Bool, false, ◌&&◌, ◌||◌, ◌==◌, nat_lt, List, [], ◌∷◌, ◌++◌, map, filter}
use Rattle.request_text.specs.declared.request.Request.{Request}
use Rattle.request_text.specs.declared.reply.Reply.{Reply}
use Rattle.request_text.specs.declared.request.Line.{Line}

-- A script with the number of workers that run it. `run` has one phase, `drill` two.
pub record Phase : Type 0 where
  pub script : List Line
  pub workers : ℕ

-- one script for one worker
abbrev pub alone : List Line → List Phase
alone lines = record { script = lines; workers = 1 } ∷ []

-- a line, and where it runs
pub record Asked : Type 0 where
  pub phase : ℕ
  pub worker : ℕ
  pub session : ℕ
  pub request : Request

-- a line with its reply
pub record Replied : Type 0 where
  pub phase : ℕ
  pub worker : ℕ
  pub session : ℕ
  pub request : Request
  pub reply : Reply

-- worker w of n runs the lines whose session has session mod n = w
abbrev pub asked_in : ℕ → ℕ → Line → Asked
asked_in phase workers line = record { phase = phase; worker = line.session % workers; session = line.session; request = line.request }

-- the lines of all phases, the first of which has this number
abbrev pub asked_from : ℕ → List Phase → List Asked
asked_from n [] = []
asked_from n (phase ∷ phases) = map (asked_in n phase.workers) phase.script ++ asked_from (n + 1) phases

abbrev pub answered : Asked → Reply → Replied
answered a r = record { phase = a.phase; worker = a.worker; session = a.session; request = a.request; reply = r }

-- the history of lines with their replies, newest first, on top of an older one
abbrev pub history_onto : List Replied → List Asked → List Reply → List Replied
history_onto past [] replies = past
history_onto past (a ∷ asked) [] = past
history_onto past (a ∷ asked) (r ∷ replies) = history_onto (answered a r ∷ past) asked replies

-- all lines with their replies, newest first
abbrev pub history : List Phase → List Reply → List Replied
history phases replies = history_onto [] (asked_from 0 phases) replies

-- two lines of one worker in one phase
abbrev pub same_worker : Replied → Replied → Bool
same_worker a b = a.phase == b.phase && a.worker == b.worker

-- Whether b, which stands above a, is before it: its phase is earlier, or one worker does both.
abbrev pub is_before : Replied → Replied → Bool
is_before b a = nat_lt b.phase a.phase || same_worker b a

-- of the lines above a, those that are before it, newest first
abbrev pub before : Replied → List Replied → List Replied
before a above = filter (λ b. is_before b a) above

-- each line, with the lines above it
abbrev pub EachLine : (Replied → List Replied → Type 0) → List Replied → Type 0
EachLine P [] = Unit {0}
EachLine P (a ∷ above) = P a above × EachLine P above

-- some line, with the lines above it
abbrev pub any_line : (Replied → List Replied → Bool) → List Replied → Bool
any_line p [] = false
any_line p (a ∷ above) = p a above || any_line p above
