-- A worker goes over the script, and runs its lines.
use Rattle.std.proofs.Common.{◌≡◌, ◌≢◌, ℕ, zero, suc, ◌+◌, ◌/◌, ◌<◌, ◌≤◌, Bool, true, false, cond, List, [], ◌∷◌, ◌++◌, length, length-append, map, slice_get, slice_index_or, slice_set, refl, sym, ap, ◌∙◌, subst, arith, Option, Some, append-nil, append_assoc}
use Rattle.std.specs.Prelude.{◌==◌}
use Rattle.std.proofs.lemmas.Bool.{eqb-false}
use Rattle.atomic_table.specs.declared.shared.Seat.{Seat}
use Rattle.graph_legal.specs.Lines.{Replied, asked_in, answered, history_onto}
use Rattle.request_text.specs.declared.reply.Reply.{Reply}
use Rattle.request_text.specs.declared.request.Line.{Line}
use Rattle.request_text.specs.declared.request.Request.{Request}
use Rattle.request_text.specs.Limits.{AreWithinLimits}
use Rattle.core_calls.specs.Events.{Told}
use Rattle.core_states.specs.Numbers.{has_number}
use Rattle.core_states.specs.Parts.{actor_of}
use Rattle.graph_workers.specs.Passes.{EndIs}
use Rattle.store_log.specs.LogChanges.{IsBaseOf}
use Rattle.turn_board.specs.Board.{known}
use Rattle.turn_board.specs.Views.{Start, View}
use Rattle.turn_board.specs.declared.board.TurnBoard.{TurnBoard}
use Rattle.store_turns.specs.declared.session.Session.{Session}
use Rattle.store_board.specs.Standing.{Stands, Goes}
use Rattle.store_lines.specs.Lines.{IsAtLine, RequestRan}
use Rattle.worker_runs.specs.Notes.{session, LineDid, LinesDid}
use Rattle.worker_sessions.specs.Notes.{actors_in}
use Rattle.worker_sessions.specs.Sessions.{indices, AreApart, EachIs, Noting}
use Rattle.worker_sessions.proofs.Working.{stepped}
use Rattle.worker_sessions.proofs.Serving.{all-fit, fit-at, indices-set, noting-both, or-false}
use Rattle.worker_lines.specs.Lines.{is_of, lines_of, AreOwners, replied_of, IsSeated, RanIf, AreAtLine, HaveRun}
use Rattle.worker_lines.specs.Going.{SoFar}

-- ---- one session among others

pub seat-at : (i : ℕ) (ss : List Session) (d : Session) (k : ℕ) → slice_get (indices ss) i ≡ Some k → (i < length ss) × ((slice_index_or ss i d).index ≡ k)
seat-at i [] d k is = absurd (let bad : ⊥ = (cc) in bad)
seat-at zero (s ∷ ss) d k is = (omega arith, (cc))
seat-at (suc i) (s ∷ ss) d k is = let rest = seat-at i ss d k is in let low = rest.0 in (omega (arith, low), rest.1)

pub seat-low : (i : ℕ) (ss : List Session) (k : ℕ) → slice_get (indices ss) i ≡ Some k → i < length ss
seat-low i [] k is = absurd (let bad : ⊥ = (cc) in bad)
seat-low zero (s ∷ ss) k is = omega arith
seat-low (suc i) (s ∷ ss) k is = let low = seat-low i ss k is in omega (arith, low)

pub each-at : (F : Session → Type 0) (i : ℕ) (ss : List Session) (d : Session) → i < length ss → EachIs F ss → F (slice_index_or ss i d)
each-at F i [] d low are = absurd (omega (arith, low))
each-at F zero (s ∷ ss) d low are = are.0
each-at F (suc i) (s ∷ ss) d low are = each-at F i ss d (omega (arith, low)) are.1

each-set : (F : Session → Type 0) (i : ℕ) (ss : List Session) (s' : Session) → i < length ss → EachIs F ss → F s' → EachIs F (slice_set ss i s')
each-set F i [] s' low are new = absurd (omega (arith, low))
each-set F zero (s ∷ ss) s' low are new = (new, are.1)
each-set F (suc i) (s ∷ ss) s' low are new = (are.0, each-set F i ss s' (omega (arith, low)) are.1 new)

module _ {H : Type 0} (board : TurnBoard H) (shards : ℕ) where
  -- a session of those stands for its actor
  pub stands-at : (p : Seat (Option H) View) (ks : List ℕ) (ss : List Session) (i : ℕ) (d : Session) → AreAtLine board shards p ks ss → i < length ss → Stands board shards p (slice_index_or ss i d)
  stands-at p ks ss i d are low = (are.stands, fit-at i ss d (known p) low are.fit)

  -- and they are ready, after a line of one of them
  pub still-at-line : (p q : Seat (Option H) View) (ks : List ℕ) (ss : List Session) (i : ℕ) (d s' : Session) (ts : List Told) → AreAtLine board shards p ks ss → AreApart ks → i < length ss → Goes board shards ts p q (slice_index_or ss i d) s' → IsAtLine s'
      → AreAtLine board shards q ks (slice_set ss i s')
  still-at-line p q ks ss i d s' ts are apart low goes ready = record {
    stands = goes.stands.0;
    fit = all-fit i ss d s' ts (known p) (known q) low (subst AreApart (sym are.same) apart) are.fit goes.grew goes.stands.1;
    same = indices-set i ss d s' low goes.index ∙ are.same;
    ready = each-set IsAtLine i ss s' low are.ready ready;
  }

  -- what is noted of a line
  line-did : (q : Request) (r : Reply) (p p' : Seat (Option H) View) (s s' : Session) → RequestRan board shards q r p p' s s' → Noting (λ n old notes new. LineDid n old s.index q r notes new) (known p) (known p')
  line-did q r p p' s s' ran =
      let a = stepped s.index ran.events (known p) (known p') ran.goes.grew in
      record {
        notes = a.notes;
        did = record {
          events = ran.events;
          kind = ran.kind;
          makes = ran.makes;
          did = a.did;
          ends = subst (λ (m : List ℕ). EndIs r (actor_of (known p').base (known p').actors (session m s.index))) (sym a.number) ran.ends;
        };
        are = a.are;
        events = a.events;
        start_is = a.start_is;
        number = a.number;
        joined = a.joined;
        made = a.made;
      }

  pub own-ran : (line : Line) (r : Reply) (p q : Seat (Option H) View) (ss : List Session) (i : ℕ) (d s' : Session) (rs rs' : List Reply) → slice_get (indices ss) i ≡ Some line.session → RequestRan board shards line.request r p q (slice_index_or ss i d) s' → rs' ≡ rs ++ r ∷ []
      → RanIf true line (known p) (known q) rs rs'
  own-ran line r p q ss i d s' rs rs' seat ran is =
      let s = slice_index_or ss i d in
      let at : s.index ≡ line.session = (seat-at i ss d line.session seat).1 in (
        r,
        is,
        subst (λ (k : ℕ). Noting (λ n old notes new. LineDid n old k line.request r notes new) (known p) (known q)) at (line-did line.request r p q s s' ran),
        λ k ne. (stepped s.index ran.events (known p) (known q) ran.goes.grew).did.others k (λ e. ne (e ∙ at)),
      )

-- ---- the places of the lines

-- These lines are left, from this place on up to the end, and who has each of them is noted.
pub record IsAhead (n : ℕ) (owners : List ℕ) (end place : ℕ) (rest : List Line) : Type 0 where
  pub left : place + length rest ≡ end
  pub owned : AreOwners n owners place rest

pub all-ahead : (n : ℕ) (owners : List ℕ) (place : ℕ) (lines : List Line) → AreOwners n owners place lines → IsAhead n owners (place + length lines) place lines
all-ahead n owners place lines owned = record { left = refl; owned = owned }

pub script-ahead : (n : ℕ) (owners : List ℕ) (script : List Line) → AreOwners n owners 0 script → IsAhead n owners (length script) 0 script
script-ahead n owners script owned = record { left = omega arith; owned = owned }

pub one-ahead : (n : ℕ) (owners : List ℕ) (end place : ℕ) (line : Line) (rest : List Line) → IsAhead n owners end place (line ∷ rest) → IsAhead n owners end (place + 1) rest
one-ahead n owners end place line rest was = record {
  left = let had = was.left in omega (arith, had);
  owned = subst (λ (k : ℕ). AreOwners n owners k rest) (next place) was.owned.1;
}
  where
    next : (k : ℕ) → suc k ≡ k + 1
    next k = omega arith

-- ---- the lines of the script

own-line : (w n : ℕ) (line : Line) (rest : List Line) → is_of w n line ≡ true → lines_of w n (line ∷ rest) ≡ line ∷ lines_of w n rest
own-line w n line rest own = ap (λ (b : Bool). cond b (line ∷ lines_of w n rest) (lines_of w n rest)) own

other-line : (w n : ℕ) (line : Line) (rest : List Line) → is_of w n line ≡ false → lines_of w n (line ∷ rest) ≡ lines_of w n rest
other-line w n line rest other = ap (λ (b : Bool). cond b (line ∷ lines_of w n rest) (lines_of w n rest)) other

-- a reply more has room, where the line is the worker's
pub room-at : (w n : ℕ) (line : Line) (rest : List Line) (m k cap : ℕ) → m + length (lines_of w n (line ∷ rest)) ≡ k → k ≤ cap → is_of w n line ≡ true → m < cap
room-at w n line rest m k cap left room own = let one = ap length (own-line w n line rest own) in omega (arith, left, room, one)

none-noted : (v : View) → Noting (λ m old notes new. LinesDid m old [] notes new) v v
none-noted v = record { notes = []; did = (refl, λ k. refl); are = tt; events = sym (append-nil v.events); start_is = refl; number = refl; joined = refl; made = refl }

is-none : (rs : List Reply) (m : ℕ) → rs ≡ [] → length rs + m ≡ m
is-none rs m none = let e = ap length none in omega (arith, e)

-- the number of a session that stands at a place is one of theirs
in-numbers : (i : ℕ) (ks : List ℕ) (j k : ℕ) → slice_get ks i ≡ Some j → has_number k ks ≡ false → k ≢ j
in-numbers i [] j k at away e = absurd (let bad : ⊥ = (cc) in bad)
in-numbers zero (x ∷ ks) j k at away e = let same : x ≡ j = (cc) in eqb-false x k (or-false (x == k) (has_number k ks) away).0 (same ∙ sym e)
in-numbers (suc i) (x ∷ ks) j k at away e = in-numbers i ks j k at (or-false (x == k) (has_number k ks) away).1 e

-- ---- one line more

-- what was found stays known
pub found-ran : (mine : Bool) (line : Line) (v w : View) (rs rs' : List Reply) → RanIf mine line v w rs rs' → IsBaseOf v.base v.found.records → IsBaseOf w.base w.found.records
found-ran true line v w rs rs' ran found = subst (λ (s : Start). IsBaseOf s.base s.found.records) (sym ran.2.start_is) found
found-ran false line v w rs rs' ran found = subst (λ (u : View). IsBaseOf u.base u.found.records) (sym ran.1) found

-- a reply is there or is owed to each line of the worker's
pub owed-still : (w n : ℕ) (line : Line) (rest : List Line) (v v' : View) (rs rs' : List Reply) → RanIf (is_of w n line) line v v' rs rs' → length rs' + length (lines_of w n rest) ≡ length rs + length (lines_of w n (line ∷ rest))
owed-still w n line rest v v' rs rs' ran = by_case (is_of w n line) refl ran
  where
    by_case : (b : Bool) → is_of w n line ≡ b → RanIf b line v v' rs rs' → length rs' + length (lines_of w n rest) ≡ length rs + length (lines_of w n (line ∷ rest))
    by_case true own r = let long = ap length (own-line w n line rest own) in let grown = ap length r.1 ∙ length-append rs (r.0 ∷ []) in omega (arith, long, grown)
    by_case false other r = let long = ap length (other-line w n line rest other) in let same = ap length r.0 in omega (arith, long, same)

module _ {H : Type 0} (board : TurnBoard H) (shards w n : ℕ) (v : View) (ks : List ℕ) (script : List Line) where
  pub none-run : (q : Seat (Option H) View) (ss : List Session) (rs : List Reply) → known q ≡ v → AreAtLine board shards q ks ss → EachIs (λ line. IsSeated w n ks line) script → AreWithinLimits script → rs ≡ [] → SoFar board shards w n v q ks ss script script rs
  none-run q ss rs is are seated within none = record {
    at_line = are;
    seated = seated;
    within = within;
    left = is-none rs (length (lines_of w n script)) none;
    done = [];
    ahead = λ more. ap (λ (xs : List Reply). replied_of w n script (xs ++ more)) (sym none);
    noting = subst (λ (u : View). Noting (λ m old notes new. LinesDid m old [] notes new) v u) (sym is) (none-noted v);
    others = λ k away. ap (λ (u : View). actors_in u k) is;
  }

  pub one-more : (q q' : Seat (Option H) View) (ss zs : List Session) (line : Line) (rest : List Line) (rs rs' : List Reply) → SoFar board shards w n v q ks ss script (line ∷ rest) rs → AreAtLine board shards q' ks zs
      → RanIf (is_of w n line) line (known q) (known q') rs rs' → SoFar board shards w n v q' ks zs script rest rs'
  one-more q q' ss zs line rest rs rs' was are ran = by_case (is_of w n line) refl ran
    where
      by_case : (b : Bool) → is_of w n line ≡ b → RanIf b line (known q) (known q') rs rs' → SoFar board shards w n v q' ks zs script rest rs'
      by_case true own r =
          let mine : lines_of w n (line ∷ rest) ≡ line ∷ lines_of w n rest = own-line w n line rest own in
          record {
            at_line = are;
            seated = was.seated.1;
            within = was.within.1;
            left = let had = was.left in let long = ap length mine in let grown = ap length r.1 ∙ length-append rs (r.0 ∷ []) in omega (arith, had, long, grown);
            done = answered (asked_in 0 n line) r.0 ∷ was.done;
            ahead = λ more. ap (λ (ls : List Line). history_onto was.done (map (asked_in 0 n) ls) (r.0 ∷ more)) (sym mine) ∙ was.ahead (r.0 ∷ more)
                ∙ ap (λ (xs : List Reply). replied_of w n script xs) (sym (append_assoc rs (r.0 ∷ []) more) ∙ ap (λ (xs : List Reply). xs ++ more) (sym r.1));
            noting = noting-both (λ m old notes new. LinesDid m old was.done notes new) (λ m old notes new. LineDid m old line.session line.request r.0 notes new) (λ m old notes new. LinesDid m old (answered (asked_in 0 n line) r.0 ∷ was.done) notes new)
                v (known q) (known q') was.noting r.2 (λ did. (actors_in (known q), was.noting.notes, r.2.notes, refl, was.noting.did, did));
            others = λ k away. r.3 k (in-numbers (line.session / n) ks line.session k (was.seated.0 own) away) ∙ was.others k away;
          }
      by_case false other r =
          let none : lines_of w n (line ∷ rest) ≡ lines_of w n rest = other-line w n line rest other in
          record {
            at_line = are;
            seated = was.seated.1;
            within = was.within.1;
            left = let had = was.left in let long = ap length none in let same = ap length r.0 in omega (arith, had, long, same);
            done = was.done;
            ahead = λ more. ap (λ (ls : List Line). history_onto was.done (map (asked_in 0 n) ls) more) (sym none) ∙ was.ahead more ∙ ap (λ (xs : List Reply). replied_of w n script (xs ++ more)) (sym r.0);
            noting = subst (λ (u : View). Noting (λ m old notes new. LinesDid m old was.done notes new) v u) (sym r.1) was.noting;
            others = λ k away. ap (λ (u : View). actors_in u k) r.1 ∙ was.others k away;
          }

  pub all-run : (q : Seat (Option H) View) (ss : List Session) (rest : List Line) (rs : List Reply) → rest ≡ [] → SoFar board shards w n v q ks ss script rest rs → HaveRun w n script rs ks v (known q)
  all-run q ss rest rs none was =
      let done : was.done ≡ replied_of w n script rs = ap (λ (ls : List Line). history_onto was.done (map (asked_in 0 n) (lines_of w n ls)) []) (sym none) ∙ was.ahead [] ∙ ap (λ (xs : List Reply). replied_of w n script xs) (append-nil rs) in
      record {
        len = let left = was.left in let end = ap (λ (ls : List Line). length (lines_of w n ls)) none in omega (arith, left, end);
        noting = subst (λ (xs : List Replied). Noting (λ m old notes new. LinesDid m old xs notes new) v (known q)) done was.noting;
        others = was.others;
      }
