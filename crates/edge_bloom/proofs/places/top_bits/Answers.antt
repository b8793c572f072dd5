use Rattle.edge_bloom.proofs.PlaceLemmas.{few_zeros, top_bits-shift, top_bits-within}
use Rattle.edge_bloom.proofs.places.top_bits.Goals as goal

pub overflow_sub-result : goal.overflow_sub-result
overflow_sub-result c = few_zeros c.args.len c.requires.power c.requires.most

pub returns-clause-place : goal.returns-clause-place
returns-clause-place c = top_bits-shift c.args.len c.args.x c.requires.power c.requires.most

pub returns-clause-within : goal.returns-clause-within
returns-clause-within c = top_bits-within c.args.len c.args.x c.requires.power c.requires.most c.ranges.x.fits
