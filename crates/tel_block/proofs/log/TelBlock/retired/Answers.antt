use Rattle.tel_block.proofs.log.TelBlock.retired.Goals as goal

pub returns-clause-stands : goal.returns-clause-stands
returns-clause-stands c = λ bytes is. (c.args.self.committed, is.filled)
