use Rattle.std.proofs.Common.{◌≡◌, ap, subst, drop, length, Err, arith}
use Rattle.group_codec.specs.declared.refusal.GroupRefusal.TheVariants.{Bad}
use Rattle.group_codec.specs.Spelling.{change_bytes, has_fields}
use Rattle.group_codec.specs.Reading.{NoneBegins, vertex_bytes, is_vertex}
use Rattle.group_codec.proofs.Fronts.{to_end, at-tag, new-none, set-none, drop-none, del-none}
use Rattle.group_codec.proofs.read.change_at.Goals as goal

pub returns-in-Err-clause-bad : goal.returns-in-Err-clause-bad
returns-in-Err-clause-bad c = λ bad.
    at-tag (NoneBegins has_fields change_bytes) c.args.bytes.now 1 c.in-len1-up.len_at_least c.in-1.is (new-none (drop 1 c.args.bytes.now) (let same : c.in-Err.refusal ≡ Bad = (cc) in subst (NoneBegins is_vertex vertex_bytes) (to_end 1 c.args.bytes.now) (c.in-Err.ensures.bad (ap Err same))))

pub returns-in-Err-vertex_at-clause-bad : goal.returns-in-Err-vertex_at-clause-bad
returns-in-Err-vertex_at-clause-bad c = λ bad.
    at-tag (NoneBegins has_fields change_bytes) c.args.bytes.now 2 c.in-len1-up.len_at_least c.in-2.is (set-none (drop 1 c.args.bytes.now) (let same : c.in-Err-vertex_at.refusal ≡ Bad = (cc) in subst (NoneBegins is_vertex vertex_bytes) (to_end 1 c.args.bytes.now) (c.in-Err-vertex_at.ensures.bad (ap Err same))))

pub returns-in-None-clause-bad : goal.returns-in-None-clause-bad
returns-in-None-clause-bad c = λ _.
    at-tag (NoneBegins has_fields change_bytes) c.args.bytes.now 3 c.in-len1-up.len_at_least c.in-3.is (drop-none (drop 1 c.args.bytes.now) (omega (arith, c.in-None.ensures.short, ap length (to_end 1 c.args.bytes.now))))

pub returns-in-None-edge_at-clause-bad : goal.returns-in-None-edge_at-clause-bad
returns-in-None-edge_at-clause-bad c = λ _.
    at-tag (NoneBegins has_fields change_bytes) c.args.bytes.now 5 c.in-len1-up.len_at_least c.in-5.is (del-none (drop 1 c.args.bytes.now) (omega (arith, c.in-None-edge_at.ensures.short, ap length (to_end 1 c.args.bytes.now))))
