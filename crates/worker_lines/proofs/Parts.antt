-- A worker goes over the parts of a script.
use Rattle.std.proofs.Common.{◌≡◌, ℕ, suc, ◌+◌, ◌≤◌, List, [], ◌∷◌, ◌++◌, length, sym, ◌∙◌, subst, arith, Option}
use Rattle.atomic_table.specs.declared.shared.Seat.{Seat}
use Rattle.request_text.specs.declared.reply.Reply.{Reply}
use Rattle.request_text.specs.declared.request.Line.{Line}
use Rattle.request_text.specs.Limits.{AreWithinLimits}
use Rattle.store_log.specs.LogChanges.{IsBaseOf}
use Rattle.turn_board.specs.Board.{known}
use Rattle.turn_board.specs.Views.{View}
use Rattle.turn_board.specs.declared.board.TurnBoard.{TurnBoard}
use Rattle.store_turns.specs.declared.session.Session.{Session}
use Rattle.worker_sessions.specs.Sessions.{indices, EachIs}
use Rattle.worker_lines.specs.Lines.{is_of, lines_of, AreOwners, IsSeated, RanIf, AreAtLine}
use Rattle.worker_lines.specs.Going.{SoFar}
use Rattle.worker_lines.proofs.Running.{IsAhead, one-ahead, found-ran, owed-still, one-more}

-- ---- one part of the script

pub each-front : {A : Type 0} (F : A → Type 0) (xs ys : List A) → EachIs F (xs ++ ys) → EachIs F xs
each-front F [] ys are = tt
each-front F (x ∷ xs) ys are = (are.0, each-front F xs ys are.1)

pub within-front : (xs ys : List Line) → AreWithinLimits (xs ++ ys) → AreWithinLimits xs
within-front [] ys are = tt
within-front (x ∷ xs) ys are = (are.0, within-front xs ys are.1)

pub owners-front : (n : ℕ) (owners : List ℕ) (place : ℕ) (xs ys : List Line) → AreOwners n owners place (xs ++ ys) → AreOwners n owners place xs
owners-front n owners place [] ys are = tt
owners-front n owners place (x ∷ xs) ys are = (are.0, owners-front n owners (suc place) xs ys are.1)

-- the lines behind a part are ahead, once it is done
pub part-ahead : (n : ℕ) (owners : List ℕ) (end place : ℕ) (part rest : List Line) → IsAhead n owners end place (part ++ rest) → IsAhead n owners end (place + length part) rest
part-ahead n owners end place [] rest was = record { left = let had = was.left in omega (arith, had); owned = subst (λ (k : ℕ). AreOwners n owners k rest) (let none : place ≡ place + 0 = omega arith in none) was.owned }
part-ahead n owners end place (line ∷ part) rest was =
    subst (λ (k : ℕ). IsAhead n owners end k rest) (let next : (place + 1) + length part ≡ place + length (line ∷ part) = omega arith in next)
    (part-ahead n owners end (place + 1) part rest (one-ahead n owners end place line (part ++ rest) was))

-- ---- the lines of one part

-- Of these lines, which stand up to the end, some are left from this place on; and what the worker had run before them it has run with those before the rest.
pub record InPart {H : Type 0} (board : TurnBoard H) (shards w n : ℕ) (owners : List ℕ) (end : ℕ) (p q : Seat (Option H) View) (ks : List ℕ) (ss zs : List Session) (lines left : List Line) (place : ℕ) (rs rs' : List Reply) (cap : ℕ) : Type 0 where
  pub at_line : AreAtLine board shards q ks zs
  pub found : IsBaseOf (known q).base (known q).found.records
  pub seated : EachIs (λ line. IsSeated w n ks line) left
  pub within : AreWithinLimits left
  pub ahead : IsAhead n owners end place left
  pub room : length rs' + length (lines_of w n left) ≤ cap
  pub goes_on : (v : View) (js : List ℕ) (script rest : List Line) → SoFar board shards w n v p js ss script (lines ++ rest) rs → SoFar board shards w n v q js zs script (left ++ rest) rs'

module _ {H : Type 0} (board : TurnBoard H) (shards w n : ℕ) (owners : List ℕ) (end : ℕ) (p : Seat (Option H) View) (ks : List ℕ) (ss : List Session) (lines : List Line) (rs : List Reply) (cap : ℕ) where
  pub line-done : (q q' : Seat (Option H) View) (zs zs' : List Session) (line : Line) (left : List Line) (place : ℕ) (rs' rs'' : List Reply) → InPart board shards w n owners end p q ks ss zs lines (line ∷ left) place rs rs' cap → AreAtLine board shards q' ks zs'
      → RanIf (is_of w n line) line (known q) (known q') rs' rs'' → InPart board shards w n owners end p q' ks ss zs' lines left (place + 1) rs rs'' cap
  line-done q q' zs zs' line left place rs' rs'' was are ran = record {
    at_line = are;
    found = found-ran (is_of w n line) line (known q) (known q') rs' rs'' ran was.found;
    seated = was.seated.1;
    within = was.within.1;
    ahead = one-ahead n owners end place line left was.ahead;
    room = let owed = owed-still w n line left (known q) (known q') rs' rs'' ran in let had = was.room in omega (arith, owed, had);
    goes_on = λ v js script rest so.
        let then = was.goes_on v js script rest so in
        one-more board shards w n v js script q q' zs zs' line (left ++ rest) rs' rs'' then (subst (λ (is : List ℕ). AreAtLine board shards q' is zs') (sym was.at_line.same ∙ then.at_line.same) are) ran;
  }

-- ---- part after part

-- The parts before the rest are done, which begins at this place, and there is room for all replies.
pub record AtPart {H : Type 0} (board : TurnBoard H) (shards w n : ℕ) (owners : List ℕ) (v : View) (q : Seat (Option H) View) (ks : List ℕ) (ss : List Session) (script : List Line) (place : ℕ) (rest : List Line) (rs : List Reply) (cap : ℕ) : Type 0 where
  pub so_far : SoFar board shards w n v q ks ss script rest rs
  pub ahead : IsAhead n owners (length script) place rest
  pub room : length (lines_of w n script) ≤ cap

-- What the run of a part asks of its lines.
pub record MayRun {H : Type 0} (board : TurnBoard H) (shards w n : ℕ) (owners : List ℕ) (q : Seat (Option H) View) (ss : List Session) (place : ℕ) (part : List Line) (rs : List Reply) (cap : ℕ) : Type 0 where
  pub seated : EachIs (λ line. IsSeated w n (indices ss) line) part
  pub within : AreWithinLimits part
  pub owned : AreOwners n owners place part

module _ {H : Type 0} (board : TurnBoard H) (shards w n : ℕ) (owners : List ℕ) (v : View) (ks : List ℕ) (script : List Line) where
  pub may-run : (q : Seat (Option H) View) (ss : List Session) (place : ℕ) (part rest : List Line) (rs : List Reply) (cap : ℕ) → AtPart board shards w n owners v q ks ss script place (part ++ rest) rs cap → MayRun board shards w n owners q ss place part rs cap
  may-run q ss place part rest rs cap was = record {
    seated = subst (λ (js : List ℕ). EachIs (λ line. IsSeated w n js line) part) (sym was.so_far.at_line.same) (each-front (λ line. IsSeated w n ks line) part rest was.so_far.seated);
    within = within-front part rest was.so_far.within;
    owned = owners-front n owners place part rest was.ahead.owned;
  }

  pub part-done : (q q' : Seat (Option H) View) (ss ss' : List Session) (place : ℕ) (part rest : List Line) (rs rs' : List Reply) (cap cap' : ℕ) → AtPart board shards w n owners v q ks ss script place (part ++ rest) rs cap
      → (SoFar board shards w n v q ks ss script (part ++ rest) rs → SoFar board shards w n v q' ks ss' script rest rs') → cap' ≡ cap → AtPart board shards w n owners v q' ks ss' script (place + length part) rest rs' cap'
  part-done q q' ss ss' place part rest rs rs' cap cap' was goes same = record {
    so_far = goes was.so_far;
    ahead = part-ahead n owners (length script) place part rest was.ahead;
    room = let had = was.room in omega (arith, had, same);
  }
