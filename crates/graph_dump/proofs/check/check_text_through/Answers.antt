use Rattle.std.proofs.Common.{◌-◌, ◌++◌, ◌∷◌, [], length, sym, ap}
use Rattle.std.specs.Prelude.{codes}
use Rattle.graph_dump.specs.Lines.{line}
use Rattle.graph_dump.specs.CheckText.{epoch_words, records_words, durable_words, text_of_log}
use Rattle.request_text.proofs.Putting.{PutSoFar-start, PutSoFar-step, PutSoFar-last, PutSoFar-fault, PutSoFar-rest}
use Rattle.graph_dump.proofs.check.check_text_through.Goals as goal

pub returns : goal.returns
returns g c =
    let log = c.args.r.now in
    let rest = line (codes " rest") ((log.length - log.durable) ∷ []) in
    let end = durable_words log.durable ++ rest in
    let counted = ap (λ n. records_words n ++ end) (sym c.len.ensures) in
    let epoch = PutSoFar-step _ _ _ _ (epoch_words log.base.epoch) (records_words (length log.records) ++ end) _ (PutSoFar-start _ _) c.in_ok-put_named.ensures in
    let records = PutSoFar-step _ _ _ _ (records_words c.len.result) end _ (PutSoFar-rest _ _ _ _ _ counted epoch) c.in_ok-put_named-2.ensures in
    let durable = PutSoFar-step _ _ _ _ (durable_words log.durable) rest _ records c.in_ok-put_named-3.ensures in
    let puts = PutSoFar-last _ _ _ (text_of_log log) rest _ durable c.put_line.ensures in
    record { printed = puts.put; write_fault = puts.write_fault; part = puts.part; emptied = puts.emptied; count = puts.count }

pub returns-in_err-put_named-clause-part : goal.returns-in_err-put_named-clause-part
returns-in_err-put_named-clause-part g c =
    let log = c.args.r.now in
    let end = durable_words log.durable ++ line (codes " rest") ((log.length - log.durable) ∷ []) in
    let puts = PutSoFar-fault _ _ _ (text_of_log log) (epoch_words log.base.epoch) (records_words (length log.records) ++ end) _ _ c.from_residual.ensures.0 (PutSoFar-start _ _) c.in_err-put_named.ensures in
    puts.part

pub returns-in_err-put_named-2-clause-part : goal.returns-in_err-put_named-2-clause-part
returns-in_err-put_named-2-clause-part g c =
    let log = c.args.r.now in
    let end = durable_words log.durable ++ line (codes " rest") ((log.length - log.durable) ∷ []) in
    let counted = ap (λ n. records_words n ++ end) (sym c.len.ensures) in
    let epoch = PutSoFar-step _ _ _ _ (epoch_words log.base.epoch) (records_words (length log.records) ++ end) _ (PutSoFar-start _ (text_of_log log)) c.in_ok-put_named.ensures in
    let puts = PutSoFar-fault _ _ _ _ (records_words c.len.result) end _ _ c.from_residual-in_err-put_named-2.ensures.0 (PutSoFar-rest _ _ _ _ _ counted epoch) c.in_err-put_named-2.ensures in
    puts.part

pub returns-in_err-put_named-3-clause-part : goal.returns-in_err-put_named-3-clause-part
returns-in_err-put_named-3-clause-part g c =
    let log = c.args.r.now in
    let rest = line (codes " rest") ((log.length - log.durable) ∷ []) in
    let end = durable_words log.durable ++ rest in
    let counted = ap (λ n. records_words n ++ end) (sym c.len.ensures) in
    let epoch = PutSoFar-step _ _ _ _ (epoch_words log.base.epoch) (records_words (length log.records) ++ end) _ (PutSoFar-start _ (text_of_log log)) c.in_ok-put_named.ensures in
    let records = PutSoFar-step _ _ _ _ (records_words c.len.result) end _ (PutSoFar-rest _ _ _ _ _ counted epoch) c.in_ok-put_named-2.ensures in
    let puts = PutSoFar-fault _ _ _ _ (durable_words log.durable) rest _ _ c.from_residual-in_err-put_named-3.ensures.0 records c.in_err-put_named-3.ensures in
    puts.part
