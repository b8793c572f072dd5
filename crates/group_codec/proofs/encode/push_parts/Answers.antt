use Rattle.std.proofs.Common.{arith}
use Rattle.group_codec.proofs.Fronts.{payload-fits}
use Rattle.group_codec.proofs.encode.push_parts.Goals as goal

pub returns-in_err-extend_from_slice-clause-payload : goal.returns-in_err-extend_from_slice-clause-payload
returns-in_err-extend_from_slice-clause-payload c = payload-fits c.args.bytes.now (λ i. omega (arith, c.type_inv.bytes i)) c.requires

pub returns-in_err-extend_from_slice-2-clause-payload : goal.returns-in_err-extend_from_slice-2-clause-payload
returns-in_err-extend_from_slice-2-clause-payload c = payload-fits c.args.bytes.now (λ i. omega (arith, c.type_inv.bytes i)) c.requires

pub returns-clause-payload : goal.returns-clause-payload
returns-clause-payload c = payload-fits c.args.bytes.now (λ i. omega (arith, c.type_inv.bytes i)) c.requires
