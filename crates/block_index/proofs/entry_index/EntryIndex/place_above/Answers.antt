use Rattle.std.proofs.Common.{◌≡◌, ℕ, ◌+◌, ◌<◌, List, length, Option, sym, ap, subst, arith}
use Rattle.std.specs.Global.{Box}
use Rattle.std.specs.Prelude.{IfSome}
use Rattle.edge_log.specs.Entries.{Entry, payload_sum}
use Rattle.edge_log.specs.Places.{oldest}
use Rattle.edge_log.proofs.EntryLemmas.{payloads-oldest}
use Rattle.block_layout.specs.Blocks.{HoldsEntries}
use Rattle.block_index.specs.declared.notes.Notes.{Notes}
use Rattle.block_index.specs.Noted.{AreNoted}
use Rattle.block_index.specs.Indexed.{Indexes}
use Rattle.block_index.proofs.PlaceFacts.{at-place}
use Rattle.block_index.proofs.PropsLemmas.{sum-above}
use Rattle.block_index.proofs.entry_index.EntryIndex.place_above.Goals as goal
use Rattle.block_index.proofs.entry_index.EntryIndex.place_above.Goals.{After-entry_at}

-- what is told is how many bytes the payloads of the entries up to this one have
told : (c : After-entry_at) (start : ℕ) (xs : List Entry) → HoldsEntries start xs c.args.block.now → length xs ≡ c.args.count → Indexes c.args.self.now xs →
    payload_sum (oldest (c.args.place + 1) xs) ≡ c.props_below.result + c.entry_at.result.len
told c start xs held long is =
    let P : Option (Box Notes) → Type 0 = λ o. IfSome o (λ notes. AreNoted notes.value xs) in
    let noted : AreNoted c.deref.result.now xs = subst (λ (n : Notes). AreNoted n xs) (sym c.deref.ensures) (subst P c.in-Some.is is) in
    let there : c.args.place < length xs = omega (arith, long, c.requires.there) in
    let at = at-place xs c.args.place there in
    let len = ap (λ r. r.len) (c.entry_at.ensures start xs at.0 held at.1) in
    let sum = sum-above c.deref.result.now.props.items c.args.place xs at.0 noted.props at.1 in
    let below = c.props_below.ensures in
    omega (arith, len, sum, below)

pub overflow_add-result-in-Some : goal.overflow_add-result-in-Some
overflow_add-result-in-Some c =
    let holds = c.requires.holds in
    let sum = told (goal.at.overflow_add-result-in-Some c).After-entry_at holds.0 holds.1 holds.2.0 holds.2.1 holds.2.3 in
    let most = payloads-oldest (c.args.place + 1) holds.1 in
    let few = holds.2.2 in
    record { fits = omega (arith, sum, most, few) }

pub returns-in-Some-clause-place : goal.returns-in-Some-clause-place
returns-in-Some-clause-place c = λ start xs held long is. record {
  within = omega (arith, long, c.requires.there);
  props = sym (told (goal.at.returns-in-Some-clause-place c).After-entry_at start xs held long is);
}
