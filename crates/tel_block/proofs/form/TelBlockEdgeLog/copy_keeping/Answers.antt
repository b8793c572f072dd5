use Rattle.std.proofs.Common.{ℕ, ◌-◌, List, [], sym, ap, subst, ◌∙◌, arith}
use Rattle.edge_log.specs.Entries.{kept}
use Rattle.edge_log.specs.Places.{oldest}
use Rattle.edge_log.specs.Contents.{with_kept}
use Rattle.block_layout.specs.Sizes.{block_len, props_start}
use Rattle.block_pool.specs.Pools.{with_bytes, bytes_of}
use Rattle.block_index.specs.Indexed.{IsFresh}
use Rattle.tel_block.specs.Logs.{entries_of, content_in, IsFillOf, IsLog}
use Rattle.block_layout.specs.Blocks.{HoldsEntries}
use Rattle.tel_block.proofs.LogFacts.{count}
use Rattle.tel_block.proofs.RoomFacts.{keeps-all-logs, keeps-all-olds}
use Rattle.tel_block.proofs.FormFacts.{Placed, placed, taken-order, Readable, readable, kept-all, kept-used}
use Rattle.tel_block.proofs.form.TelBlockEdgeLog.copy_keeping.Goals as goal
use Rattle.tel_block.proofs.form.TelBlockEdgeLog.copy_keeping.Goals.{After-kept_fill-committed, After-kept_in}

pub bytes-requires : goal.bytes-requires
bytes-requires c = c.requires.lies.out

pub kept_fill-fill-requires : goal.kept_fill-fill-requires
kept_fill-fill-requires c =
    let log = c.args.self.now in
    let same = c.deref.ensures.value ∙ c.in_ok-from.ensures ∙ c.bytes.ensures.bytes in
    let r = subst (λ (bytes : List ℕ). Readable log.fill.entries bytes) (sym same) (readable log log.fill.entries (bytes_of c.args.room.now log.block) c.requires.is_log (omega arith)) in
    record { rows = r.rows; holds = r.holds }

pub kept_fill-committed-requires : goal.kept_fill-committed-requires
kept_fill-committed-requires c =
    let log = c.args.self.now in
    let same = c.deref-2.ensures.value ∙ c.in_ok-from.ensures ∙ c.bytes.ensures.bytes in
    let r = subst (λ (bytes : List ℕ). Readable log.committed.entries bytes) (sym same) (readable log log.committed.entries (bytes_of c.args.room.now log.block) c.requires.is_log c.requires.is_log.filled.within) in
    record { rows = r.rows; holds = r.holds }

-- how much is kept of all entries, and of the committed ones
fill_is : (c : After-kept_fill-committed) → IsFillOf c.kept_fill-fill.result (kept c.args.horizon (entries_of c.args.self.now.block.order c.args.self.now.fill (bytes_of c.args.room.now c.args.self.now.block)))
fill_is c =
    let log = c.args.self.now in
    let bytes : List ℕ = bytes_of c.args.room.now log.block in
    let same = c.deref.ensures.value ∙ c.in_ok-from.ensures ∙ c.bytes.ensures.bytes in
    let is = c.requires.is_log in
    let n = count log.block.order log.fill bytes in
    kept-all log c.args.horizon c.kept_fill-fill.result bytes
    (c.kept_fill-fill.ensures (props_start log.block.order) (entries_of log.block.order log.fill bytes)
    (subst (λ (b : List ℕ). HoldsEntries (props_start log.block.order) (entries_of log.block.order log.fill bytes) b) (sym same) is.filled.block.entries) (omega (arith, n)))

committed_is : (c : After-kept_fill-committed) →
    IsFillOf c.kept_fill-committed.result (kept c.args.horizon (oldest c.args.self.now.committed.entries (entries_of c.args.self.now.block.order c.args.self.now.fill (bytes_of c.args.room.now c.args.self.now.block))))
committed_is c =
    let log = c.args.self.now in
    let bytes : List ℕ = bytes_of c.args.room.now log.block in
    let same = c.deref-2.ensures.value ∙ c.in_ok-from.ensures ∙ c.bytes.ensures.bytes in
    let is = c.requires.is_log in
    let n = count log.block.order log.fill bytes in
    let w = is.filled.within in
    c.kept_fill-committed.ensures (props_start log.block.order) (entries_of log.block.order log.fill bytes)
    (subst (λ (b : List ℕ). HoldsEntries (props_start log.block.order) (entries_of log.block.order log.fill bytes) b) (sym same) is.filled.block.entries) (omega (arith, n, w))

pub order_for-smallest-requires : goal.order_for-smallest-requires
order_for-smallest-requires c =
    let log = c.args.self.now in
    let used = kept-used log c.args.horizon c.kept_fill-fill.result (bytes_of c.args.room.now log.block) c.requires.is_log (fill_is (goal.at.order_for-smallest-requires c).After-kept_fill-committed) in
    record { least = omega arith; fits = omega (arith, used) }

pub bytes_mut-to-requires : goal.bytes_mut-to-requires
bytes_mut-to-requires c = c.in_ok-block.ensures.out

pub kept_in-requires : goal.kept_in-requires
kept_in-requires c =
    let at = (goal.at.kept_in-requires c).After-kept_fill-committed in
    let log = c.args.self.now in
    let bytes : List ℕ = bytes_of c.args.room.now log.block in
    let same = c.deref-3.ensures.value ∙ c.in_ok-from.ensures ∙ c.bytes.ensures.bytes in
    let order = taken-order c.order_for-smallest.result c.args.room.now c.in_ok-block.block c.take.new.self c.in_ok-block.ensures.taken in
    let room = ap (λ (k : ℕ). block_len k - props_start k) order in
    record {
      is_log = subst (λ (b : List ℕ). IsLog log b) (sym same) c.requires.is_log;
      order = omega (arith, order, c.order_for-smallest.ensures.within);
      long = c.bytes_mut-to.ensures.long;
      noted = c.new.ensures.items;
      index = subst (λ (o : ℕ). IsFresh o c.in_ok-index.index) (sym order) c.in_ok-index.ensures.fresh;
      fill = subst (λ (b : List ℕ). IsFillOf c.kept_fill-fill.result (kept c.args.horizon (entries_of log.block.order log.fill b))) (sym same) (fill_is at);
      committed = subst (λ (b : List ℕ). IsFillOf c.kept_fill-committed.result (kept c.args.horizon (oldest log.committed.entries (entries_of log.block.order log.fill b)))) (sym same) (committed_is at);
      room = omega (arith, room, c.order_for-smallest.ensures.large);
    }

-- the copy lies in the block that was taken
lies : (c : After-kept_in) → Placed c.args.room.now (with_bytes c.take.new.self c.in_ok-block.block.chunk c.in_ok-block.block.start c.kept_in.new.to) c.kept_in.result c.kept_in.new.to
lies c =
    placed c.order_for-smallest.result c.args.room.now c.in_ok-block.block c.take.new.self c.kept_in.result c.kept_in.new.to c.in_ok-block.ensures.taken c.in_ok-block.ensures.whole
    (c.kept_in.auto.to ∙ c.bytes_mut-to.ensures.long) c.kept_in.ensures.block c.kept_in.ensures.is_log

pub returns-clause-stands : goal.returns-clause-stands
returns-clause-stands c = (lies (goal.at.returns-clause-stands c).After-kept_in).stands

pub returns-clause-kept : goal.returns-clause-kept
returns-clause-kept c =
    let same = c.deref-3.ensures.value ∙ c.in_ok-from.ensures ∙ c.bytes.ensures.bytes in
    (lies (goal.at.returns-clause-kept c).After-kept_in).content ∙ c.kept_in.ensures.kept ∙ ap (λ (b : List ℕ). with_kept c.args.horizon (content_in c.args.self.now b)) same

pub returns-clause-blocks : goal.returns-clause-blocks
returns-clause-blocks c = (lies (goal.at.returns-clause-blocks c).After-kept_in).taken

pub returns-clause-keeps_logs : goal.returns-clause-keeps_logs
returns-clause-keeps_logs c = keeps-all-logs [] c.args.room.now _ (lies (goal.at.returns-clause-keeps_logs c).After-kept_in).keeps

pub returns-clause-keeps_olds : goal.returns-clause-keeps_olds
returns-clause-keeps_olds c = keeps-all-olds [] c.args.room.now _ (lies (goal.at.returns-clause-keeps_olds c).After-kept_in).keeps
