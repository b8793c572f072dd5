use Rattle.std.proofs.Common.{◌≡◌, ℕ, ◌<◌, Option, refl, sym, ap, subst, ◌∙◌}
use Rattle.std.specs.Prelude.{IfSome}
use Rattle.stamps.specs.Stamps.{Txn}
use Rattle.edge_log.specs.Places.{newest_place, oldest}
use Rattle.place_index.specs.Slots.{slot_of}
use Rattle.place_index.specs.Chains.{last_in, place_up_to, slots_of, places_of}
use Rattle.block_layout.proofs.AtPlaces.{row-fits, held-oldest}
use Rattle.block_index.specs.Noted.{destinations}
use Rattle.block_index.proofs.FindLemmas.{up_to-some, up_to-none, none-found, stands, found, passed_other, passed_unseen, still-there}
use Rattle.block_index.proofs.finds.find.Goals as goal
use Rattle.block_index.proofs.finds.find.Goals.{else-entry-d-via-then-entry-d+else-visible, else-entry-d-via-else-entry-d}

pub loop-next-init : goal.loop-next-init
loop-next-init c = record {
  there = c.newest-next.ensures.there c.requires.chains;
  goes_on = λ start xs held is. record { ys = xs; held = held; older = is.older; next_is = c.newest-next.ensures.newest (destinations xs) is; same = refl };
}

pub returns-then-visible : goal.returns-then-visible
returns-then-visible c = λ start xs held is.
    let index = c.args.index.now in
    let place : ℕ = c.in-Some.place in
    let g = c.loop-next.invariant.goes_on start xs held is in
    let last = up_to-some (last_in (slots_of index) (slot_of (slots_of index) c.args.d) (destinations g.ys)) place (sym g.next_is ∙ c.in-Some.is) in
    let s = stands (slots_of index) c.args.d index.older.items place c.args.read (Txn c.args.tid) g.ys g.older last in
    let raw = c.entry_at-entry.ensures start g.ys s.x g.held s.at in
    let has = row-fits start place g.ys s.x c.args.block.now g.held s.at in
    sym (found (slots_of index) c.args.d index.older.items place c.args.read (Txn c.args.tid) g.ys c.entry_at-entry.result s has raw c.if-entry-d.true (sym c.visible.ensures ∙ c.if-visible.true)) ∙ g.same

pub loop-next-preserved : goal.loop-next-preserved
loop-next-preserved c =
    let index = c.args.index.now in
    let place : ℕ = c.in-Some.place in
    let P : Option ℕ → Type 0 = λ next. IfSome next (λ p. p < places_of index) in
    let within : place < places_of index = subst P c.in-Some.is c.loop-next.invariant.there in
    record {
      there = still-there c.older-next.result place (places_of index) within (c.older-next.ensures.below c.requires.chains);
      goes_on = λ start xs held is.
          let g = c.loop-next.invariant.goes_on start xs held is in
          let last = up_to-some (last_in (slots_of index) (slot_of (slots_of index) c.args.d) (destinations g.ys)) place (sym g.next_is ∙ c.in-Some.is) in
          let s = stands (slots_of index) c.args.d index.older.items place c.args.read (Txn c.args.tid) g.ys g.older last in
          let raw = c.entry_at-entry.ensures start g.ys s.x g.held s.at in
          let has = row-fits start place g.ys s.x c.args.block.now g.held s.at in
          let passed : newest_place (oldest place g.ys) c.args.d c.args.read (Txn c.args.tid) ≡ newest_place g.ys c.args.d c.args.read (Txn c.args.tid) =
          elim c.else-entry-d.branch [
            | else-entry-d-via-then-entry-d+else-visible w ↦
                passed_unseen (slots_of index) c.args.d index.older.items place c.args.read (Txn c.args.tid) g.ys c.entry_at-entry.result s has raw (sym w.visible.ensures ∙ w.if-visible.false)
            | else-entry-d-via-else-entry-d w ↦
                passed_other (slots_of index) c.args.d index.older.items place c.args.read (Txn c.args.tid) g.ys c.entry_at-entry.result s raw w.if-entry-d.false
          ] in
          record {
            ys = oldest place g.ys;
            held = held-oldest start place g.ys c.args.block.now g.held;
            older = s.rest;
            next_is = c.older-next.ensures.older ∙ ap place_up_to s.next;
            same = passed ∙ g.same;
          };
    }

pub returns : goal.returns
returns c = λ start xs held is.
    let index = c.args.index.now in
    let g = c.loop-next.invariant.goes_on start xs held is in
    let none = up_to-none (last_in (slots_of index) (slot_of (slots_of index) c.args.d) (destinations g.ys)) (sym g.next_is ∙ c.in_default.is) in
    sym (none-found (slots_of index) c.args.d c.args.read (Txn c.args.tid) g.ys none) ∙ g.same
