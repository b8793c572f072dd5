-- One worker runs.
use Rattle.std.proofs.Common.{◌≡◌, ℕ, false, List, [], ◌∷◌, ◌++◌, refl, sym, ap, ◌∙◌, subst, append_assoc, Option, Some, None}
use Rattle.atomic_table.specs.declared.shared.Seat.{Seat}
use Rattle.graph_legal.specs.Lines.{Replied}
use Rattle.request_text.specs.declared.request.Line.{Line}
use Rattle.core_states.specs.declared.actor.Actor.{Actor}
use Rattle.core_states.specs.declared.clock.Clock.{Clock}
use Rattle.core_states.specs.LogParts.{LogPart}
use Rattle.core_states.specs.Numbers.{has_number}
use Rattle.core_states.specs.Transactions.{is_loser}
use Rattle.core_states.specs.declared.transaction.Stage.{Stage}
use Rattle.turn_board.specs.Views.{Noted, Start, View, fresh_view}
use Rattle.turn_board.specs.declared.board.TurnBoard.{TurnBoard}
use Rattle.store_turns.specs.declared.session.Session.{Session}
use Rattle.store_turns.specs.declared.session.Work.{Work}
use Rattle.store_turns.specs.Fits.{Fits, IsWorkOf}
use Rattle.store_lines.specs.Lines.{IsAtLine}
use Rattle.worker_runs.specs.Notes.{AllClosed, LinesDid}
use Rattle.worker_sessions.specs.Notes.{actors_in, AreOf}
use Rattle.worker_sessions.specs.Sessions.{AllFit, EachIs, IsIdle, IsUnused, MayClose, Noting, HaveOpened, HaveClosed}
use Rattle.worker_sessions.proofs.Working.{of-both}
use Rattle.worker_sessions.proofs.Serving.{opened-others}
use Rattle.store_workers.specs.Crews.{HasWorked, HasRun}
use Rattle.store_workers.specs.declared.worker.Worker.{Worker}

not-both : {t : Work} → None ≡ Some t → ⊥
not-both e = let bad : ⊥ = (cc) in bad

pub idle-ready : (ss : List Session) → EachIs IsIdle ss → EachIs IsAtLine ss
idle-ready [] are = tt
idle-ready (s ∷ ss) are = ((are.0.0, λ t some. absurd (not-both (sym are.0.1 ∙ some))), idle-ready ss are.1)

-- what works may be given up
pub ready-closes : (ss : List Session) → EachIs IsAtLine ss → EachIs MayClose ss
ready-closes [] are = tt
ready-closes (s ∷ ss) are = ((are.0.0, λ t some. ap (λ (z : Stage). is_loser z) (are.0.1 t some).stage), ready-closes ss are.1)

-- sessions that have done nothing fit to a pass that has done nothing
pub all-fresh : (start : Start) (p : List ℕ) (seen : List Clock) (seen_logs : List LogPart) (ss : List Session) → EachIs IsUnused ss → AllFit ss (fresh_view start p seen seen_logs)
all-fresh start p seen seen_logs [] are = tt
all-fresh start p seen seen_logs (s ∷ ss) are = (fits-fresh s are.0, all-fresh start p seen seen_logs ss are.1)
  where
    fits-fresh : (s : Session) → IsUnused s → Fits s (fresh_view start p seen seen_logs)
    fits-fresh s new = record { row = sym new.0; work = subst (λ (w : Option Work). IsWorkOf w None) (sym new.1) tt; finished = sym new.2; leads = (refl, refl) }

-- the pass after its sessions were opened, its lines were run, and its sessions were closed
pub has-worked : (start : Start) (p : List ℕ) (seen : List Clock) (seen_logs : List LogPart) (ks : List ℕ) (lines : List Replied) (v w x : View) → HaveOpened ks (fresh_view start p seen seen_logs) v → Noting (λ m old notes new. LinesDid m old lines notes new) v w → ((k : ℕ) → has_number k ks ≡ false → actors_in w k ≡ actors_in v k) → HaveClosed ks w x
    → HasWorked start p lines x
has-worked start p seen seen_logs ks lines v w x a b others c =
    let number : w.number ≡ p = b.number ∙ a.number in
    let events : x.events ≡ a.notes ++ (b.notes ++ c.notes) = c.events ∙ ap (λ (xs : List Noted). xs ++ c.notes) (b.events ∙ ap (λ (xs : List Noted). xs ++ b.notes) a.events) ∙ append_assoc a.notes b.notes c.notes in
    record {
      start_is = c.start_is ∙ b.start_is ∙ a.start_is;
      number = c.number ∙ number;
      joined = c.joined ∙ b.joined ∙ a.joined;
      made = c.made ∙ b.made ∙ a.made;
      are = subst (AreOf p) (sym events) (of-both p a.notes (b.notes ++ c.notes) a.are (of-both p b.notes c.notes (subst (λ (q : List ℕ). AreOf q b.notes) a.number b.are) (subst (λ (q : List ℕ). AreOf q c.notes) number c.are)));
      did = record {
        opened = ks;
        at_first = actors_in v;
        opening = a.notes;
        opens = a.did;
        at_end = actors_in w;
        serving = b.notes;
        serves = subst (λ (q : List ℕ). LinesDid q (actors_in v) lines b.notes (actors_in w)) a.number b.did;
        closed = ks;
        left = actors_in x;
        closing = c.notes;
        closes = subst (λ (q : List ℕ). AllClosed q ks (actors_in w) c.notes (actors_in x)) number c.did;
        others = λ k away. ap (λ (y : Actor). y.txn) (others k away ∙ opened-others p ks (actors_in (fresh_view start p seen seen_logs)) a.notes (actors_in v) a.did k away);
        are = events;
      };
    }

-- what a call did to a worker is what it did to the one that stands there
pub ran-at : {H : Type 0} (board : TurnBoard H) (shards n : ℕ) (script : List Line) (k : ℕ) (x y a b : Worker (Seat (Option H) View)) → a ≡ x → b ≡ y → HasRun board shards n script k a b → HasRun board shards n script k x y
ran-at {H} board shards n script k x y a b e f ran = subst (λ (z : Worker (Seat (Option H) View) × Worker (Seat (Option H) View)). HasRun board shards n script k z.0 z.1) (λ j. (e j, f j)) ran
