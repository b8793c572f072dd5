use Rattle.std.proofs.Common.{ℕ, List, [], sym, ap, subst, ◌∙◌, arith}
use Rattle.block_layout.specs.Sizes.{block_len}
use Rattle.block_layout.specs.Blocks.{IsBlock}
use Rattle.block_writing.specs.Filters.{filter_in}
use Rattle.block_writing.specs.Headers.{fresh_header}
use Rattle.edge_log.specs.Contents.{empty_content}
use Rattle.tel_block.proofs.Steps.{Shows, begun}
use Rattle.tel_block.proofs.log.TelBlock.begun.Goals as goal
use Rattle.tel_block.proofs.log.TelBlock.begun.Goals.{After-begin_block}

pub overflow_cast-order : goal.overflow_cast-order
overflow_cast-order c = record { fits = omega (arith, c.order.ensures, c.requires.small) }

pub begin_block-requires : goal.begin_block-requires
begin_block-requires c = record {
  small = omega (arith, c.order.ensures, c.requires.small);
  long = c.requires.long ∙ ap block_len (sym c.order.ensures);
}

shown : (c : After-begin_block) → Shows (record {
  block = c.args.block;
  fill = record { entries = 0; props = 0 };
  committed = record { entries = 0; props = 0 };
  epoch = 0;
  latest = 0;
  most = c.args.most;
  noted = c.args.noted;
  settled = 0;
  index = c.args.index;
}) empty_content c.begin_block.new.block
shown c =
    let f : List ℕ = filter_in c.order.result c.begin_block.new.block in
    let P : ℕ → Type 0 = λ k. IsBlock k (fresh_header c.args.v c.args.l k 0) f [] c.begin_block.new.block in
    begun (record {
      block = c.args.block;
      fill = record { entries = 0; props = 0 };
      committed = record { entries = 0; props = 0 };
      epoch = 0;
      latest = 0;
      most = c.args.most;
      noted = c.args.noted;
      settled = 0;
      index = c.args.index;
    }) c.args.v c.args.l 0 f c.begin_block.new.block c.requires.index c.requires.noted c.requires.most (subst P c.order.ensures c.begin_block.ensures.begun)

pub returns-clause-is_log : goal.returns-clause-is_log
returns-clause-is_log c = (shown (goal.at.returns-clause-is_log c).After-begin_block).is

pub returns-clause-empty : goal.returns-clause-empty
returns-clause-empty c = (shown (goal.at.returns-clause-empty c).After-begin_block).content
