use Rattle.std.proofs.Common.{◌≡◌, ◌∙◌, Bor, ap, sym, refl}
use Rattle.std.specs.Prelude.{Option, Some, None}
use Rattle.std.specs.Option.{is_some, option_copied}
use Rattle.stamps.specs.Stamps.{Txn}
use Rattle.core_rows.proofs.Shown.{is_there-payload}
use Rattle.vertex_rows.proofs.vertex_row.VertexRow.is_there.Goals as goal

is_some-copied : {A : Type 0} (o : Option (Bor A)) → is_some o ≡ is_some (option_copied o)
is_some-copied None = refl
is_some-copied (Some x) = refl

pub returns : goal.returns
returns g c room =
    c.is_some.ensures ∙ is_some-copied c.newest_at.result ∙ ap is_some c.newest_at.ensures
    ∙ sym (is_there-payload c.args.self.now.versions c.args.read (Txn c.args.tid))
