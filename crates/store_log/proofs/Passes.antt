-- What an actor of a pass has collected may be appended.
use Rattle.std.proofs.Common.{◌≡◌, ℕ, ◌+◌, ◌<◌, ◌≤◌, true, false, List, length, sym, ap, ◌∙◌, subst, arith}
use Rattle.graph_model.specs.Records.{number_end}
use Rattle.group_commit.specs.Encoded.{Encoded}
use Rattle.group_commit.specs.Members.{records_at}
use Rattle.core_states.specs.declared.actor.Actor.{Actor}
use Rattle.core_states.specs.Laters.{opened_records}
use Rattle.core_states.specs.LogParts.{LogPart, Found, is_held_by}
use Rattle.core_states.specs.Names.{Name}
use Rattle.core_states.specs.Numbers.{numbered}
use Rattle.core_states.specs.Parts.{Part, OfShard, OfClock, OfLog, actor_of, state_of_parts}
use Rattle.core_states.specs.States.{State}
use Rattle.turn_board.specs.Turns.{turn_part, Told}
use Rattle.turn_board.specs.Views.{View, EachHeld}
use Rattle.turn_board.proofs.Steps.{part_log}
use Rattle.store_log.specs.LogChanges.{in_hands, MayWrite, IsBaseOf, CanAppend, HasCollected}
use Rattle.store_log.proofs.Leaders.{own-hands, may-write, members-fit, epoch-within, numbered-members}

abbrev log_in : Part → LogPart → LogPart
log_in (OfLog log) other = log
log_in (OfClock k) other = other
log_in (OfShard rows) other = other

-- the log part of the state is the one that the pass holds
log-held : (shards : ℕ) (v : View) (n : Name) (log : LogPart) (members : List Encoded) (told : Told (shards + 2) v) → HasCollected shards v n log members → told.parts.log ≡ in_hands n log
log-held shards v n log members told has =
    let at = subst (λ hs. EachHeld (λ k p. turn_part told.parts k ≡ p) hs) has.held told.held in
    let many : length told.parts.shards < shards + 1 = omega (arith, told.turns_are) in
    ap (λ p. log_in p told.parts.log) (sym (part_log told.parts (shards + 1) many) ∙ at.0)

pub can-append : (shards : ℕ) (v : View) (n : Name) (log : LogPart) (members : List Encoded) → Told (shards + 2) v → IsBaseOf v.base v.found.records → HasCollected shards v n log members → CanAppend log members
can-append shards v n log members told of has =
    let s : State = state_of_parts v.base told.parts in
    let good = told.reached.may.good in
    let same : s.log ≡ in_hands n log = log-held shards v n log members told has in
    let actor : s.actor n ≡ actor_of v.base v.actors n = (told.own n has.own).0 in
    let held : is_held_by n s.log.holder ≡ true = ap (λ (g : LogPart). is_held_by n g.holder) same ∙ own-hands n in
    let unwritten : (s.actor n).written ≡ false = ap (λ (a : Actor). a.written) actor ∙ has.unwritten in
    let group : (s.actor n).group ≡ records_at has.group.0 members = ap (λ (a : Actor). a.group) actor ∙ has.group.1 in
    let base : IsBaseOf v.base (opened_records s.log.disk) = subst (λ (f : Found). IsBaseOf v.base f.records) (sym told.opened.1) of in
    let fit = members-fit v.base told.parts.limits s n has.group.0 members told.reached.allowed told.reached.kept held group in
    let lawful : MayWrite s.log (numbered (s.log.durable + 1) (s.actor n).group) = may-write v.base told.parts.limits s n good told.reached.allowed told.reached.kept base held unwritten in
    let named : MayWrite s.log (records_at (s.log.durable + 1) members)
    = subst (MayWrite s.log) (ap (numbered (s.log.durable + 1)) group ∙ numbered-members (s.log.durable + 1) has.group.0 members) lawful in
    record {
      some = fit.0;
      within = fit.1;
      epoch = subst (λ (g : LogPart). g.durable ≤ number_end) same (epoch-within v.base told.parts.limits s good told.reached.kept);
      lawful = subst (λ (g : LogPart). MayWrite g (records_at (g.durable + 1) members)) same named;
    }
