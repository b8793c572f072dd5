use Rattle.std.proofs.Common.{◌≡◌, ℕ, List, sym, ap, subst, ◌∙◌}
use Rattle.std.specs.Prelude.{Option, IfSome, IsSomeAnd, IsTrue, is_some}
use Rattle.stamps.specs.Stamps.{Txn}
use Rattle.edge_log.specs.Entries.{Entry, visible}
use Rattle.edge_log.specs.Places.{entry_at, newest_place}
use Rattle.edge_log.proofs.PlaceLemmas.{newest_place-found, newest_place-shown}
use Rattle.block_pool.specs.Pools.{bytes_of}
use Rattle.tel_block.specs.Logs.{IsLog, content_in}
use Rattle.tel_block.proofs.form.TelBlockEdgeLog.find.Goals as goal
use Rattle.tel_block.proofs.form.TelBlockEdgeLog.find.Goals.{After-find_in}

pub bytes-requires : goal.bytes-requires
bytes-requires c = c.requires.lies.out

pub find_in-requires : goal.find_in-requires
find_in-requires c = subst (λ (bytes : List ℕ). IsLog c.args.self.now bytes) (sym c.bytes.ensures.bytes) c.requires.is_log

place : (c : After-find_in) → c.find_in.result ≡ newest_place (content_in c.args.self.now (bytes_of c.args.room.now c.args.self.now.block)).entries c.args.d c.args.read (Txn c.args.tid)
place c = c.find_in.ensures ∙ ap (λ (bytes : List ℕ). newest_place (content_in c.args.self.now bytes).entries c.args.d c.args.read (Txn c.args.tid)) c.bytes.ensures.bytes

pub returns-clause-place : goal.returns-clause-place
returns-clause-place c = place (goal.at.returns-clause-place c).After-find_in

pub returns-clause-found : goal.returns-clause-found
returns-clause-found c =
    let xs : List Entry = (content_in c.args.self.now (bytes_of c.args.room.now c.args.self.now.block)).entries in
    let P : Option ℕ → Type 0 = λ found. IfSome found (λ n. IsSomeAnd (entry_at xs n) (λ x. IsTrue (visible x c.args.read (Txn c.args.tid)) × (x.d ≡ c.args.d))) in
    subst P (sym (place (goal.at.returns-clause-found c).After-find_in)) (newest_place-found xs c.args.d c.args.read (Txn c.args.tid))

pub returns-clause-shown : goal.returns-clause-shown
returns-clause-shown c =
    let xs : List Entry = (content_in c.args.self.now (bytes_of c.args.room.now c.args.self.now.block)).entries in
    ap is_some (place (goal.at.returns-clause-shown c).After-find_in) ∙ newest_place-shown xs c.args.d c.args.read (Txn c.args.tid)
