use Rattle.std.proofs.Common.{◌≡◌, ◌+◌, ◌++◌, [], ◌∷◌, length, arith, ap, ◌∙◌, length-append}
use Rattle.group_codec.specs.Spelling.{group_bytes}
use Rattle.group_commit.specs.Members.{records_at}
use Rattle.graph_wal.specs.Pieces.{members_bytes}
use Rattle.graph_wal.proofs.Members.{group-and-gate}
use Rattle.graph_wal.proofs.Writes.{Wrote-bytes, OnOk-map, IfOk-map}
use Rattle.graph_wal.proofs.pieces.write_group.Goals as goal

pub returns-then-len-clause-end : goal.returns-then-len-clause-end
returns-then-len-clause-end g c =
    let group = group_bytes c.args.epoch (records_at c.args.epoch c.args.g.now) in
    let bytes : c.as_slice.result.now ≡ group ++ 0 ∷ [] =
    c.as_slice.ensures.value ∙ c.gathered.ensures ∙ group-and-gate c.args.epoch c.payload_len-len.result c.len.result c.args.g.now c.front-front.result c.front-front.ensures c.payload_len-len.ensures.spelled c.payload_len-len.ensures.len c.len.ensures.len in
    IfOk-map c.put.result (λ n. n ≡ c.args.start + length c.as_slice.result.now) (λ n. n ≡ c.args.start + length group + 1) c.put.ensures.end
    (λ n is. omega (arith, is, ap length bytes, length-append group (0 ∷ [])))

pub returns-then-len-clause-wrote : goal.returns-then-len-clause-wrote
returns-then-len-clause-wrote g c =
    let bytes = c.as_slice.ensures.value ∙ c.gathered.ensures ∙ group-and-gate c.args.epoch c.payload_len-len.result c.len.result c.args.g.now c.front-front.result c.front-front.ensures c.payload_len-len.ensures.spelled c.payload_len-len.ensures.len c.len.ensures.len in
    OnOk-map c.put.result _ _ c.put.ensures.wrote (Wrote-bytes _ _ c.args.start _ _ bytes)

pub returns-else-len-clause-end : goal.returns-else-len-clause-end
returns-else-len-clause-end g c =
    let pieces = c.front-front.result ++ (members_bytes c.args.g.now ++ 0 ∷ []) in
    let group = group_bytes c.args.epoch (records_at c.args.epoch c.args.g.now) in
    let bytes : pieces ≡ group ++ 0 ∷ [] =
    group-and-gate c.args.epoch c.payload_len-len.result c.len.result c.args.g.now c.front-front.result c.front-front.ensures c.payload_len-len.ensures.spelled c.payload_len-len.ensures.len c.len.ensures.len in
    IfOk-map c.write_pieces.result (λ n. n ≡ c.args.start + length pieces) (λ n. n ≡ c.args.start + length group + 1) c.write_pieces.ensures.end
    (λ n is. omega (arith, is, ap length bytes, length-append group (0 ∷ [])))

pub returns-else-len-clause-wrote : goal.returns-else-len-clause-wrote
returns-else-len-clause-wrote g c =
    let bytes = group-and-gate c.args.epoch c.payload_len-len.result c.len.result c.args.g.now c.front-front.result c.front-front.ensures c.payload_len-len.ensures.spelled c.payload_len-len.ensures.len c.len.ensures.len in
    OnOk-map c.write_pieces.result _ _ c.write_pieces.ensures.wrote (Wrote-bytes _ _ c.args.start _ _ bytes)
