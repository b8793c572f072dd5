use Rattle.std.proofs.Common.{ℕ, ◌-◌, List, ◌++◌, drop, refl, ap, ◌∙◌, arith, length-take, length-drop}
use Rattle.tel_entry.specs.Layouts.{header_bytes}
use Rattle.block_layout.proofs.Blocked.{start_small}
use borrow.Rule.Slice.PartMut.{put_mid}
use Rattle.block_writing.proofs.Begun.{Begins, begins-block, begins-none}
use Rattle.block_writing.proofs.begin.begin_with.Goals as goal
use Rattle.block_writing.proofs.begin.begin_with.Goals.{After-write_header}

begins : (c : After-write_header) → Begins c.args.header.now.order c.args.header.now c.args.block.now c.clear.new.filter c.write_header.new.buf
begins c =
    let order : ℕ = c.args.header.now.order in
    let block : List ℕ = c.args.block.now in
    let at : ℕ = c.props_start-start.result in
    let small = start_small order in
    let few = length-take (at - 36) (drop 36 block) in
    let rest = length-drop 36 block in
    let room = c.requires.long in
    record {
      small = c.requires.small;
      long = c.requires.long;
      ordered = refl;
      flagged = c.requires.flags;
      none = c.clear.ensures.none;
      len = omega (arith, c.clear.auto.filter);
      is = c.write_header.ensures ∙ ap (λ (n : ℕ). header_bytes c.args.header.now ++ drop 36 (put_mid 36 (n - 36) block c.clear.new.filter)) c.props_start-start.ensures;
    }

pub returns-clause-begun : goal.returns-clause-begun
returns-clause-begun c = λ fits.
    let d = (goal.at.returns-clause-begun c).After-write_header in
    begins-block d.args.header.now.order d.args.header.now d.args.block.now d.clear.new.filter d.write_header.new.buf (begins d) fits

pub returns-clause-none : goal.returns-clause-none
returns-clause-none c =
    let d = (goal.at.returns-clause-none c).After-write_header in
    begins-none d.args.header.now.order d.args.header.now d.args.block.now d.clear.new.filter d.write_header.new.buf (begins d)
