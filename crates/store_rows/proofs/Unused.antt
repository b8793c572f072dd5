-- A vertex whose number was drawn and not used.
use Rattle.std.proofs.Common.{◌≡◌, ℕ, Bool, true, false, refl, sym, ◌∙◌, Some, None}
use Rattle.std.specs.Prelude.{not, if◌then◌else◌}
use Rattle.graph_model.specs.declared.change.Change.{Change}
use Rattle.graph_model.specs.declared.change.Change.TheVariants.{New, Set, Drop, Put, Del}
use Rattle.graph_model.specs.Records.{has_destination}
use Rattle.tel_block.specs.Places.{content_of}
use Rattle.core_rows.specs.Rows.{fresh_row}
use Rattle.core_states.specs.declared.actor.Actor.{Actor}
use Rattle.core_states.specs.declared.event.CoreAnswer.TheVariants as answer
use Rattle.core_states.specs.declared.transaction.Transaction.{Transaction}
use Rattle.core_states.specs.ClockEvents.{for_txn}
use Rattle.core_states.specs.RowEvents.{Limits, RowMove, changes, puts}
use Rattle.core_states.specs.States.{row_event}
use Rattle.core_states.specs.Transactions.{is_working, with_txn}
use Rattle.shard_state.specs.Shards.{IsOf, row_at}
use Rattle.shard_state.specs.RowLists.{rows_listed}
use Rattle.shard_state.proofs.Listing.{own-listed}
use Rattle.store_turns.specs.declared.session.Session.{Session}
use Rattle.store_turns.specs.declared.session.Work.{Work}
use Rattle.store_turns.specs.Rows.{KnownRows}
use Rattle.store_turns.proofs.Sessions.{txn_of}
use Rattle.store_rows.specs.declared.shard_home.ShardHome.TheInside.{Inside}
use Rattle.store_rows.specs.ShardsKept.{IsKept, place_in}
use Rattle.store_rows.specs.Alters.{change_act, says_made, AltersVertex}
use Rattle.store_rows.proofs.Altering.{not_made, nothing}

-- the row of such a vertex is that of one which was never there
pub known_fresh : (a : Inside) (kept : IsKept a) (s : Session) (t : Work) (v : ℕ) → IsOf v a.shard → KnownRows (place_in a) (rows_listed content_of a.shard) s → s.work ≡ Some t → t.drawn ≡ Some v → row_at content_of a.shard v ≡ fresh_row
known_fresh a kept s t v own known is drew =
    let f = txn_of s.work t (known.state.actor known.name).txn known.fits.work is in
    let unused = known.kept.0.1.drawn known.name f.0 f.1 v (f.2.drawn v drew) in
    sym (known.rows_are v own ∙ own-listed content_of a.base.value a.shard v kept.is.among kept.loaded own) ∙ unused.fresh

-- no change of such a vertex is made but the one that makes it
module _ (most : Limits) (x : Transaction) (c : Change) (a : Actor) (m : RowMove) (made : says_made m.answer ≡ true) where
  changes_none : changes most x c fresh_row a ≡ Some m → ⊥
  changes_none e = by_working (is_working x) e
    where
      by_working : (w : Bool) → (if not w then None else Some (record { answer = answer.NoVertex; row = fresh_row; actor = with_txn a (Some x) })) ≡ Some m → ⊥
      by_working true e = not_made _ m e refl made
      by_working false e = nothing m e

  puts_none : puts most x c fresh_row a ≡ Some m → ⊥
  puts_none e = by_end (has_destination c) e
    where
      by_end : (b : Bool) → (if b then changes most x c fresh_row a else None) ≡ Some m → ⊥
      by_end true e = changes_none e
      by_end false e = nothing m e

pub no_change_there : (most : Limits) (x : Transaction) (c : Change) (a : Actor) (m : RowMove) → AltersVertex c → a.txn ≡ Some x → says_made m.answer ≡ true → row_event most (change_act c) fresh_row a ≡ Some m → ⊥
no_change_there most x (New v p) a m there at made e = absurd there
no_change_there most x (Set v p) a m there at made e = changes_none most x (Set v p) a m made ((λ i. for_txn (λ z. changes most z (Set v p) fresh_row a) (sym at i)) ∙ e)
no_change_there most x (Drop v) a m there at made e = changes_none most x (Drop v) a m made ((λ i. for_txn (λ z. changes most z (Drop v) fresh_row a) (sym at i)) ∙ e)
no_change_there most x (Put v l d p) a m there at made e = puts_none most x (Put v l d p) a m made ((λ i. for_txn (λ z. puts most z (Put v l d p) fresh_row a) (sym at i)) ∙ e)
no_change_there most x (Del v l d) a m there at made e = changes_none most x (Del v l d) a m made ((λ i. for_txn (λ z. changes most z (Del v l d) fresh_row a) (sym at i)) ∙ e)
