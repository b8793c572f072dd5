use Rattle.std.proofs.Common.{◌++◌, Ok}
use Rattle.std.specs.Prelude.{codes}
use Rattle.request_text.proofs.Putting.{PutSoFar-start, PutSoFar-step, PutSoFar-last, PutSoFar-fault, of_put}
use Rattle.graph_dump.specs.Lines.{newline}
use Rattle.graph_drill.specs.Summary.{count_words, summary_line}
use Rattle.graph_drill.proofs.summary.put_summary.Goals as goal

pub returns-in_err-put_count : goal.returns-in_err-put_count
returns-in_err-put_count g c =
    let text = summary_line c.args.vertices c.args.edges c.args.sum c.args.commits in
    let p0 = count_words (codes "drill vertices") c.args.vertices in
    let p1 = count_words (codes " edges") c.args.edges in
    let p2 = count_words (codes " sum") c.args.sum in
    let p3 = count_words (codes " commits") c.args.commits in
    let r3 = newline in
    let r2 = p3 ++ r3 in
    let r1 = p2 ++ r2 in
    let r0 = p1 ++ r1 in
    PutSoFar-fault _ _ _ text p0 r0 _ _ c.from_residual.ensures.0 (PutSoFar-start _ text) c.in_err-put_count.ensures

pub returns-in_err-put_count-2 : goal.returns-in_err-put_count-2
returns-in_err-put_count-2 g c =
    let text = summary_line c.args.vertices c.args.edges c.args.sum c.args.commits in
    let p0 = count_words (codes "drill vertices") c.args.vertices in
    let p1 = count_words (codes " edges") c.args.edges in
    let p2 = count_words (codes " sum") c.args.sum in
    let p3 = count_words (codes " commits") c.args.commits in
    let r3 = newline in
    let r2 = p3 ++ r3 in
    let r1 = p2 ++ r2 in
    let r0 = p1 ++ r1 in
    let s0 = PutSoFar-step _ _ _ text p0 r0 _ (PutSoFar-start _ text) c.in_ok-put_count.ensures in
    PutSoFar-fault _ _ _ text p1 r1 _ _ c.from_residual-in_err-put_count-2.ensures.0 s0 c.in_err-put_count-2.ensures

pub returns-in_err-put_count-3 : goal.returns-in_err-put_count-3
returns-in_err-put_count-3 g c =
    let text = summary_line c.args.vertices c.args.edges c.args.sum c.args.commits in
    let p0 = count_words (codes "drill vertices") c.args.vertices in
    let p1 = count_words (codes " edges") c.args.edges in
    let p2 = count_words (codes " sum") c.args.sum in
    let p3 = count_words (codes " commits") c.args.commits in
    let r3 = newline in
    let r2 = p3 ++ r3 in
    let r1 = p2 ++ r2 in
    let r0 = p1 ++ r1 in
    let s0 = PutSoFar-step _ _ _ text p0 r0 _ (PutSoFar-start _ text) c.in_ok-put_count.ensures in
    let s1 = PutSoFar-step _ _ _ text p1 r1 _ s0 c.in_ok-put_count-2.ensures in
    PutSoFar-fault _ _ _ text p2 r2 _ _ c.from_residual-in_err-put_count-3.ensures.0 s1 c.in_err-put_count-3.ensures

pub returns-in_err-put_count-4 : goal.returns-in_err-put_count-4
returns-in_err-put_count-4 g c =
    let text = summary_line c.args.vertices c.args.edges c.args.sum c.args.commits in
    let p0 = count_words (codes "drill vertices") c.args.vertices in
    let p1 = count_words (codes " edges") c.args.edges in
    let p2 = count_words (codes " sum") c.args.sum in
    let p3 = count_words (codes " commits") c.args.commits in
    let r3 = newline in
    let r2 = p3 ++ r3 in
    let r1 = p2 ++ r2 in
    let r0 = p1 ++ r1 in
    let s0 = PutSoFar-step _ _ _ text p0 r0 _ (PutSoFar-start _ text) c.in_ok-put_count.ensures in
    let s1 = PutSoFar-step _ _ _ text p1 r1 _ s0 c.in_ok-put_count-2.ensures in
    let s2 = PutSoFar-step _ _ _ text p2 r2 _ s1 c.in_ok-put_count-3.ensures in
    PutSoFar-fault _ _ _ text p3 r3 _ _ c.from_residual-in_err-put_count-4.ensures.0 s2 c.in_err-put_count-4.ensures

pub returns : goal.returns
returns g c =
    let text = summary_line c.args.vertices c.args.edges c.args.sum c.args.commits in
    let p0 = count_words (codes "drill vertices") c.args.vertices in
    let p1 = count_words (codes " edges") c.args.edges in
    let p2 = count_words (codes " sum") c.args.sum in
    let p3 = count_words (codes " commits") c.args.commits in
    let r3 = newline in
    let r2 = p3 ++ r3 in
    let r1 = p2 ++ r2 in
    let r0 = p1 ++ r1 in
    let s0 = PutSoFar-step _ _ _ text p0 r0 _ (PutSoFar-start _ text) c.in_ok-put_count.ensures in
    let s1 = PutSoFar-step _ _ _ text p1 r1 _ s0 c.in_ok-put_count-2.ensures in
    let s2 = PutSoFar-step _ _ _ text p2 r2 _ s1 c.in_ok-put_count-3.ensures in
    let s3 = PutSoFar-step _ _ _ text p3 r3 _ s2 c.in_ok-put_count-4.ensures in
    PutSoFar-last _ _ _ text newline _ s3 (of_put _ _ c.put.result newline c.put.ensures)
