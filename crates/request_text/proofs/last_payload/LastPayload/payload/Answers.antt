use Rattle.std.proofs.Common.{sym, ap, ◌∙◌, Some}
use Rattle.std.proofs.lemmas.Bool.Decides.{Decides-eqb}
use Rattle.std.proofs.lemmas.Slice.Eq.{slice_eq-Decides}
use Rattle.request_text.specs.Words.{payload_of}
use Rattle.request_text.proofs.last_payload.LastPayload.payload.Goals as goal

pub returns-then-eq : goal.returns-then-eq
returns-then-eq c =
    let same = (slice_eq-Decides Decides-eqb c.in-Some.spelled.now c.args.word.now c.eq.result c.eq.ensures).0 c.if-eq.true in
    ap payload_of (sym same) ∙ c.args.self.now.spelled _ c.in-Some.is ∙ ap Some (sym c.in_ok-copy.ensures)
