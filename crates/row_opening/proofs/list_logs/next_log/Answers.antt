use Rattle.std.proofs.Common.{◌≡◌, ◌++◌, ◌∷◌, [], Bool, subst}
use Rattle.std.specs.Prelude.{if◌then◌else◌, Result, Ok, Err, OnOk}
use Rattle.vertex_rows.proofs.Fresh.{none_named}
use Rattle.vertex_rows.proofs.RowLogs.{no_place}
use Rattle.row_opening.proofs.list_logs.next_log.Goals as goal

-- what holds already holds whatever a call answers
whenever : {A E P : Type 0} (r : Result A E) → P → OnOk r P
whenever (Ok x) p = p
whenever (Err e) p = tt

pub returns-clause-named : goal.returns-clause-named
returns-clause-named g c =
    let index = c.args.index.now in
    whenever c.log_of_list.result
    (subst (λ (b : Bool). c.row_or_new.new.self ≡ (if b then index else index ++ c.args.l ∷ []))
    (none_named c.args.l index (no_place c.args.l index c.requires.unnamed)) c.in_ok-row_or_new.ensures.labels)
