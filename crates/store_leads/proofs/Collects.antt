-- The collect of a group as the core's event.
use Rattle.std.proofs.Common.{◌≡◌, ℕ, ◌<◌, List, [], ◌∷◌, length, take, refl, sym, ap, ◌∙◌, subst, arith, false, Option, None, Some}
use Rattle.atomic_table.specs.declared.shared.Seat.{Seat}
use Rattle.group_commit.specs.Encoded.{Encoded}
use Rattle.group_commit.specs.Members.{records_at}
use Rattle.core_calls.specs.Events.{Told, told}
use Rattle.core_states.specs.declared.event.Act.TheVariants as act
use Rattle.core_states.specs.Parts.{Part, OfClock, actor_of}
use Rattle.turn_board.specs.Board.{Knows, known, turns, slots_of, Knowing, Ready, SameSeat}
use Rattle.turn_board.specs.Turns.{Told as IsTold, IsNewest}
use Rattle.turn_board.specs.Views.{Held, View, taking}
use Rattle.turn_board.specs.Works.{giving}
use Rattle.turn_board.specs.declared.board.TurnBoard.{TurnBoard}
use Rattle.store_turns.specs.Fits.{name_in}
use Rattle.store_turns.specs.Grows.{Went}
use Rattle.store_board.specs.Standing.{Holds}
use Rattle.store_board.proofs.Standing.{still_holds}
use Rattle.store_leads.specs.Endings.{dones}
use Rattle.store_leads.proofs.Doing.{Does, does_group, gives_went, gives_actor}
use Rattle.std.proofs.lemmas.Bool.{ne_eqb}
use Rattle.std.proofs.lemmas.List.{length-map}
use Rattle.graph_model.specs.Records.{group_most}
use Rattle.graph_model.specs.declared.record.Record.{Record}
use Rattle.core_states.specs.declared.actor.Actor.{Actor}
use Rattle.core_states.specs.declared.clock.Clock.{Clock}
use Rattle.core_states.specs.declared.event.CoreAnswer.TheVariants as answers
use Rattle.core_states.specs.LogEvents.{collects}
use Rattle.core_states.specs.LogParts.{LogPart}
use Rattle.core_states.specs.Names.{Name}
use Rattle.epoch_clock.specs.ClockCalls.{collected_clock}
use Rattle.store_log.specs.LogChanges.{in_hands}
use Rattle.store_leads.specs.Leads.{log_held, actor_in, collecting, Leads}

pub collects_so : (n : Name) (log : LogPart) (k : Clock) (a : Actor) → log.holder ≡ None → 0 < length k.queue
    → collects n log k a ≡ Some (record { answer = answers.Collected (length (take group_most k.queue)); log = in_hands n log; clock = collected_clock k; actor = collecting (take group_most k.queue) a })
collects_so n log k a free some = rw (free, ne_eqb (length k.queue) 0 (λ e. omega (arith, e, some))) refl

-- some are collected where some wait
pub some_collected : (group : List Encoded) (queue : List Record) → 0 < length queue → records_at 0 group ≡ take group_most queue → 0 < length group
some_collected (m ∷ group) queue some is = omega arith
some_collected [] [] some is = absurd (omega (arith, some))
some_collected [] (r ∷ queue) some is = absurd (let bad : ⊥ = (cc) in bad)

-- as what it leaves of the pass, which has taken the clock's turn
pub collect_does : (shards index : ℕ) (v : View) (log : LogPart) (k : Clock) (group : List Encoded) (members : ℕ) → v.held ≡ log_held shards log → log.holder ≡ None → 0 < length k.queue → records_at 0 group ≡ take group_most k.queue → members ≡ length group
    → Does shards (taking shards (OfClock k) v) (name_in v index) (told act.Collect (answers.Collected members) ∷ []) (collected_clock k) (log_held shards (in_hands (name_in v index) log)) (collecting (records_at 0 group) (actor_in v index))
collect_does shards index v log k group members front free some is many =
    subst (λ rs. Does shards mid n (told act.Collect (answers.Collected members) ∷ []) (collected_clock k) (log_held shards (in_hands n log)) (collecting rs (actor_in v index))) (sym is)
    (does_group shards n mid (told act.Collect (answers.Collected members)) k log (actor_in v index) _ refl (λ i. record { turn = shards; part = OfClock k } ∷ front i) refl refl (collects_so n log k (actor_in v index) free some) (λ i. answers.Collected (as_many i)))
  where
    n : Name
    n = name_in v index

    mid : View
    mid = taking shards (OfClock k) v

    as_many : length (take group_most k.queue) ≡ members
    as_many = sym (ap (λ (rs : List Record). length rs) is) ∙ length-map group _ ∙ sym many

-- events are of the same actor before the clock's turn is taken and after it
pub gives_same : {H : Type 0} (index : ℕ) (v took : View) (part : Part) (turn : ℕ) (ts : List Told) (q : Seat (Option H) View) → took ≡ taking turn part v → Knowing q (giving (dones (name_in took index) ts) took) → Knowing q (giving (dones (name_in v index) ts) took)
gives_same index v took part turn ts q taken knowing = subst (λ (w : View). Knowing q (giving (dones (name_in w index) ts) took)) taken knowing

-- What a pass knows that took the clock's turn beside the log's, did events, and gave it back.
module _ {H : Type 0} (board : TurnBoard H) (shards index : ℕ) (ts : List Told) (p took q : Seat (Option H) View) (k0 k : Clock) (hs gs : List Held) (a : Actor) (holds : Holds board shards hs p) (taken : known took ≡ taking shards (OfClock k0) (known p)) (kept : SameSeat p took)
    (does : Does shards (taking shards (OfClock k0) (known p)) (name_in (known p) index) ts k gs a) (knowing : Knowing q (giving (dones (name_in (known p) index) ts) (known took))) (told_now : IsTold (turns q) (known q)) (newest : IsNewest (OfClock k) (known took)) (same : SameSeat took q) where
  given : known q ≡ giving (dones (name_in (known p) index) ts) (known took)
  given = ap (λ m. m.0) knowing

  ready : Ready q
  ready = subst (λ (m : Knows H). (m.0.spent ≡ false) × (m.1 ≡ slots_of m.0.held)) (sym knowing) (ap (λ (v : View). v.spent) taken ∙ holds.ready.0, refl)

  went : Went (name_in (known p) index) ts gs (known p) (known q)
  went = gives_went shards (name_in (known p) index) (known p) (known took) (known q) k0 k ts gs a taken does given newest

  pub leads_of : Leads board shards index ts gs p q
  leads_of = record {
    holds = still_holds board shards p q hs gs (name_in (known p) index) ts holds went ready (same.0 ∙ kept.0, same.1 ∙ kept.1);
    went = went;
    seat = (same.0 ∙ kept.0, same.1 ∙ kept.1);
    told = told_now;
  }

  pub actor_of_leads : actor_in (known q) index ≡ a
  actor_of_leads = (λ i. actor_of (known q).base (known q).actors (record { pass = (went.same i).number; index = index })) ∙ gives_actor shards (name_in (known p) index) (known p) (known took) (known q) k0 k ts gs a taken does given
