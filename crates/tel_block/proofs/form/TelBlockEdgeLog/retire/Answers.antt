use Rattle.std.proofs.Common.{ap, sym, subst, ◌∙◌, [], ◌∷◌}
use Rattle.block_pool.specs.Blocks.{Area}
use Rattle.block_pool.specs.Pools.{bytes_of}
use Rattle.tel_block.specs.Logs.{IsOld, old_content_in}
use Rattle.tel_block.specs.Places.{block_of, LiesIn}
use Rattle.tel_block.proofs.form.TelBlockEdgeLog.retire.Goals as goal

pub returns-clause-stands : goal.returns-clause-stands
returns-clause-stands c = λ room stands. record {
  lies = subst (λ (b : Area). LiesIn b room) (sym c.retired.ensures.block) stands.lies;
  is_old = subst (λ (b : Area). IsOld c.retired.result (bytes_of room b)) (sym c.retired.ensures.block) (c.retired.ensures.stands (bytes_of room c.args.self.block) stands.is_log);
}

pub returns-clause-content : goal.returns-clause-content
returns-clause-content c = λ room stands.
    ap (λ (b : Area). old_content_in c.retired.result (bytes_of room b)) c.retired.ensures.block ∙ c.retired.ensures.content (bytes_of room c.args.self.block)

pub returns-clause-blocks : goal.returns-clause-blocks
returns-clause-blocks c = ap (λ (b : Area). block_of b ∷ []) c.retired.ensures.block
