use Rattle.std.proofs.Common.{◌≡◌, ℕ, ◌+◌, List, ◌∷◌, subst, sym, ap, ◌∙◌, arith}
use Rattle.edge_bloom.specs.Filters.{HasBitsOf}
use Rattle.tel_entry.specs.declared.entry.Entry.{Entry as RawEntry}
use Rattle.tel_entry.specs.Layouts.{entry_bytes}
use Rattle.block_layout.specs.Sizes.{props_start}
use Rattle.block_layout.specs.Blocks.{KnowsAll, IsBlock}
use Rattle.block_layout.specs.Reads.{row_start}
use Rattle.block_layout.specs.Writes.{overwritten}
use Rattle.block_layout.proofs.Blocked.{knows-added}
use Rattle.block_writing.specs.Filters.{filter_in}
use Rattle.block_writing.proofs.Added.{with_written, filter_in-appended, block-put}
use Rattle.block_writing.proofs.append.put_entry.Goals as goal
use Rattle.block_writing.proofs.append.put_entry.Goals.{After-write_row}

-- what was written, behind the filter
written : (c : After-write_row) →
    c.write_row.new.block ≡ with_written (props_start c.args.order + c.args.fill.props) c.args.fill.entries c.args.entry.now c.args.p.now c.add_destination.new.block
written c =
    let e = c.args.entry.now in
    let first : List ℕ = c.add_destination.new.block in
    c.write_row.ensures
    ∙ ap (λ (ys : List ℕ). overwritten (row_start c.args.fill.entries ys) (entry_bytes e) ys)
    (c.put.ensures ∙ ap (λ (k : ℕ). overwritten (k + c.args.fill.props) c.args.p.now first) c.props_start.ensures)

same_filter : (c : After-write_row) → filter_in c.args.order c.write_row.new.block ≡ filter_in c.args.order c.add_destination.new.block
same_filter c =
    let order : ℕ = c.args.order in
    let long = c.add_destination.auto.block in
    let room = c.requires.room in
    ap (filter_in order) (written c)
    ∙ filter_in-appended order (props_start order + c.args.fill.props) c.args.fill.entries c.args.entry.now c.args.p.now c.add_destination.new.block (omega arith) (omega (arith, long, room))

pub returns-clause-added : goal.returns-clause-added
returns-clause-added c' = λ has ds bits.
    let c = (goal.at.returns-clause-added c').After-write_row in
    let P : List ℕ → Type 0 = λ f. HasBitsOf f (c.args.entry.now.d ∷ ds) in
    subst P (sym (same_filter c)) (c.add_destination.ensures.added has ds bits)

pub returns-clause-appended : goal.returns-clause-appended
returns-clause-appended c' = λ h f xs x b count sum fits row payload.
    let c = (goal.at.returns-clause-appended c').After-write_row in
    let order : ℕ = c.args.order in
    let first : List ℕ = c.add_destination.new.block in
    let long = c.add_destination.auto.block in
    let room = c.requires.room in
    let new : List ℕ = filter_in order first in
    let d : c.args.entry.now.d ≡ x.d = ap (λ (e : RawEntry). e.d) (sym row) in
    let known : KnowsAll order new (x ∷ xs) = λ has.
    knows-added order f new x xs
    (λ ds bits.
    let P : List ℕ → Type 0 = λ g. HasBitsOf g ds in
    let Q : ℕ → Type 0 = λ k. HasBitsOf new (k ∷ ds) in
    subst Q d (c.add_destination.ensures.added has ds (subst P (sym b.bits) bits)))
    b.known has in
    let P : List ℕ → Type 0 = λ ys. IsBlock order h new (x ∷ xs) ys in
    let Q : List ℕ → Type 0 = λ g. IsBlock order h g (x ∷ xs) c.write_row.new.block in
    subst Q (sym (same_filter c))
    (subst P (sym (written c))
    (block-put order h new xs x c.args.entry.now c.args.fill.entries c.args.fill.props c.args.p.now first (c.add_destination.ensures.keeps h f xs b) known fits row payload count sum (omega (arith, long, room))))
