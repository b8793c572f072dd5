-- What a call on a shard has told is what the core's event answers.
use Rattle.std.proofs.Common.{◌≡◌, ℕ, Bool, true, List, Option, Some, None, refl, ap, sym, ◌∙◌, subst}
use Rattle.std.specs.Prelude.{Result, Ok, Err}
use Rattle.graph_model.specs.declared.change.Change.{Change}
use Rattle.graph_model.specs.declared.change.Change.TheVariants.{New}
use Rattle.graph_model.specs.declared.query.Query.{Query}
use Rattle.graph_model.specs.declared.query.Answer.{Answer}
use Rattle.graph_model.specs.declared.no_memory.NoMemory.{NoMemory}
use Rattle.graph_model.specs.Places.{changes_about}
use Rattle.graph_model.specs.Records.{list_most}
use Rattle.vertex_locks.specs.declared.answer.Look.{Look}
use Rattle.core_rows.specs.Rows.{Row}
use Rattle.core_states.specs.declared.event.Act.{Act}
use Rattle.core_states.specs.declared.event.Act.TheVariants as act
use Rattle.core_states.specs.declared.event.CoreAnswer.{CoreAnswer}
use Rattle.core_states.specs.declared.event.CoreAnswer.TheVariants as answer
use Rattle.core_states.specs.declared.transaction.Transaction.{Transaction}
use Rattle.core_states.specs.RowEvents.{Limits, has_change}
use Rattle.core_states.specs.Numbers.{has_number}
use Rattle.core_states.specs.Openings.{run_limits}
use Rattle.core_states.specs.Transactions.{holds, is_loser, changing, settling, with_txn, won_epoch}
use Rattle.shard_state.specs.declared.who.Who.{Who}
use Rattle.shard_state.specs.Shards.{limits_with}
use Rattle.shard_state.specs.Says.{Speaks, Changes, Makes, Looks, Reads, Applies, Undoes, after_change, says_look}
use Rattle.part_scripts.specs.Rows.{Did, Told}

-- the limits of a shard whose logs have as many bytes as those of a run
pub limits_are : (most : ℕ) → most ≡ list_most → limits_with most ≡ run_limits
limits_are most is = ap limits_with is

pub did_change : (most : Limits) (who : Who) (x : Transaction) (action : Act) (c : Change) (row next : Row) (says : Option CoreAnswer) (r : Result (Option CoreAnswer) NoMemory) →
    most ≡ run_limits → Speaks run_limits who x → Changes most who action c row says next → Told r says → Did action x row r next
did_change most who x action c row next says (Ok None) limits speaks is told = absurd told
did_change most who x action c row next says (Ok (Some a)) limits speaks is told = λ b at.
    let here : Changes run_limits who action c row (Some a) next =
    subst (λ (o : Option CoreAnswer). Changes run_limits who action c row o next) told (subst (λ (m : Limits). Changes m who action c row says next) limits is) in
    (with_txn b (Some (after_change a x c)), here x b speaks at)
did_change most who x action c row next says (Err e) limits speaks is told =
    subst (λ (o : Option CoreAnswer). Changes run_limits who action c row o next) told (subst (λ (m : Limits). Changes m who action c row says next) limits is)

pub did_make : (most : Limits) (who : Who) (x : Transaction) (v : ℕ) (p : List ℕ) (row next : Row) → most ≡ run_limits → Speaks run_limits who x → has_number v x.drawn ≡ true →
    Makes most who v p row next → Did (act.New v p) x row (Ok (Some answer.Done)) next
did_make most who x v p row next limits speaks drew is = λ b at.
    let here : Makes run_limits who v p row next = subst (λ (m : Limits). Makes m who v p row next) limits is in
    (with_txn b (Some (changing x (New v p))), here x b speaks at drew)

pub did_look : (most : Limits) (who : Who) (x : Transaction) (v : ℕ) (row : Row) (look : Look) → most ≡ run_limits → Speaks run_limits who x → Looks most who v row look →
    Did (act.Look v) x row (Ok (Some (says_look look))) row
did_look most who x v row look limits speaks is = λ b at.
    let here : Looks run_limits who v row look = subst (λ (m : Limits). Looks m who v row look) limits is in
    (record b { txn = Some x; looked = Some (record { v = v; look = look }) }, here x b speaks at)

pub did_read : (most : Limits) (who : Who) (x : Transaction) (q : Query) (row next : Row) (shown : Answer) → most ≡ run_limits → Speaks run_limits who x → next ≡ row → Reads most who q row shown →
    Did (act.Read q) x row (Ok (Some (answer.Shown shown))) next
did_read most who x q row next shown limits speaks same is = λ b at.
    let here : Reads run_limits who q row shown = subst (λ (m : Limits). Reads m who q row shown) limits is in
    (with_txn b (Some x), here x b speaks at ∙ ap (λ (r : Row). Some (record { answer = answer.Shown shown; row = r; actor = with_txn b (Some x) })) (sym same))

pub did_apply : (most : Limits) (x : Transaction) (v e : ℕ) (changed : Bool) (row next : Row) → most ≡ run_limits → won_epoch x.stage ≡ Some e → holds x v ≡ true → changed ≡ has_change (changes_about v x.own) →
    Applies most v x.tid e changed row next → Did (act.Apply v) x row (Ok (Some answer.Done)) next
did_apply most x v e changed row next limits won holding told is = λ b at.
    let here : Applies run_limits v x.tid e changed row next = subst (λ (m : Limits). Applies m v x.tid e changed row next) limits is in
    (with_txn b (Some (settling x v)), here x b at refl won holding told)

pub did_undo : (most : Limits) (x : Transaction) (v : ℕ) (row next : Row) → most ≡ run_limits → is_loser x.stage ≡ true → holds x v ≡ true →
    Undoes most v x.tid row next → Did (act.Undo v) x row (Ok (Some answer.Done)) next
did_undo most x v row next limits loser holding is = λ b at.
    let here : Undoes run_limits v x.tid row next = subst (λ (m : Limits). Undoes m v x.tid row next) limits is in
    (record b { txn = Some (settling x v) }, here x b at refl loser holding)
