use Rattle.std.proofs.Common.{◌≡◌, ℕ, Bool, true, List, [], ◌∷◌, length, refl, subst, ap, arith}
use Rattle.std.specs.Prelude.{◌==◌, if◌then◌else◌}
use Rattle.std.proofs.lemmas.Bool.Decides.{nat_tests}
use Rattle.stamps.specs.declared.stamp.Stamp.TheVariants.{Never, At, By}
use Rattle.edge_log.specs.Entries.{Entry, fresh_entry, converted}
use Rattle.tel_entry.specs.declared.header.Header.{Header}
use Rattle.block_layout.specs.Blocks.{IsBlock}
use Rattle.block_writing.specs.Filters.{filter_in}
use Rattle.block_writing.specs.Headers.{fresh_header, committed_header}
use Rattle.block_rows.proofs.writings.moved.Goals as goal
use Rattle.block_rows.proofs.writings.moved.Goals.{After-copy_block}

-- the edge after its commit
committed_edge : ℕ → List ℕ → ℕ → Entry
committed_edge d p e = record { d = d; p = p; created = At e; ended = Never }

is_committed : (t e d : ℕ) (p : List ℕ) → converted t e (fresh_entry d p t ∷ []) ≡ committed_edge d p e ∷ []
unfolding committed_edge
is_committed t e d p =
    let own : (t == t) ≡ true = grind (arith, nat_tests) in
    ap (λ (b : Bool). (let x : Entry = record { d = d; p = p; created = if b then At e else By t; ended = Never } in x ∷ [])) own

header : (c : After-copy_block) → Header
header c = committed_header c.args.epoch 1 (length c.args.p.now) (fresh_header 1 5 1 0)

before : (c : After-copy_block) →
    IsBlock 1 (header c) (filter_in 1 c.append_entry.new.block) (committed_edge c.args.d c.args.p.now c.args.epoch ∷ []) c.convert.new.block
unfolding header
before c =
    let t : ℕ = c.args.tid in
    let p : List ℕ = c.args.p.now in
    let appended = c.append_entry.ensures.appended (fresh_header 1 5 1 0) (filter_in 1 c.begin_block.new.block) [] c.begin_block.ensures.begun refl refl in
    let P : List Entry → Type 0 = λ ys. IsBlock 1 (committed_header c.args.epoch 1 (length p) (fresh_header 1 5 1 0)) (filter_in 1 c.append_entry.new.block) ys c.convert.new.block in
    subst P (is_committed t c.args.epoch c.args.d p)
    (c.convert.ensures 1 (fresh_header 1 5 1 0) (filter_in 1 c.append_entry.new.block) (fresh_entry c.args.d p t ∷ []) appended refl ((λ own. refl), tt))

pub returns-clause-moved : goal.returns-clause-moved
unfolding header committed_edge
returns-clause-moved c' =
    let c = (goal.at.returns-clause-moved c').After-copy_block in
    let x : Entry = committed_edge c.args.d c.args.p.now c.args.epoch in
    c.copy_block.ensures.copied (header c) (filter_in 1 c.append_entry.new.block) (x ∷ []) (before c) refl (omega arith)

pub returns-clause-filter : goal.returns-clause-filter
unfolding header committed_edge
returns-clause-filter c' =
    let c = (goal.at.returns-clause-filter c').After-copy_block in
    let x : Entry = committed_edge c.args.d c.args.p.now c.args.epoch in
    c.copy_block.ensures.filter (header c) (filter_in 1 c.append_entry.new.block) (x ∷ []) (before c) refl (omega arith) refl
