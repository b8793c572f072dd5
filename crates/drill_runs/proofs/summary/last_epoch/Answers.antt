use Rattle.std.proofs.Common.{◌≡◌, ℕ, zero, suc, ◌+◌, ◌-◌, List, [], ◌∷◌, length, sym, arith}
use Rattle.std.specs.Prelude.{slice_get, Some}
use Rattle.std.proofs.lemmas.Option.{slice_get_within}
use Rattle.graph_model.specs.declared.record.Record.{Record}
use Rattle.graph_model.specs.Records.{last_epoch}
use Rattle.drill_runs.proofs.summary.last_epoch.Goals as goal

-- the last record has the last epoch
last_epoch-at : (e i : ℕ) (rs : List Record) (r : Record) → i + 1 ≡ length rs → slice_get rs i ≡ Some r → r.epoch ≡ last_epoch e rs
last_epoch-at e i [] r long at = absurd (omega arith)
last_epoch-at e zero (x ∷ []) r long at = (cc)
last_epoch-at e zero (x ∷ y ∷ rs) r long at = absurd (omega arith)
last_epoch-at e (suc i) (x ∷ rs) r long at = last_epoch-at x.epoch i rs r (omega arith) at

pub returns-in-Some : goal.returns-in-Some
returns-in-Some c =
    let rs = c.args.records.now in
    let at = sym c.in-Some.ensures.value in
    let within = slice_get_within rs (length rs - 1) c.in-Some.record.now at in
    last_epoch-at c.args.epoch (length rs - 1) rs c.in-Some.record.now (omega (arith, within)) at
