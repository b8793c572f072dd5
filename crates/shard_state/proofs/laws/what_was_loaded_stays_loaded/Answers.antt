use Rattle.std.proofs.Common.{◌≡◌, ◌∙◌, ℕ, ◌/◌, ◌%◌, sym, ap, subst}
use Rattle.std.specs.Prelude.{IsSome}
use Rattle.number_map.specs.KeptAt.{kept_at}
use Rattle.shard_state.proofs.laws.what_was_loaded_stays_loaded.Goals as goal

pub returns : goal.returns
returns g c graph old new same loaded v own some =
    let was : v % old.shards ≡ old.number = ap (λ (k : ℕ). v % k) (sym same.shards) ∙ own ∙ same.number in
    subst (λ (k : ℕ). IsSome (kept_at new.rows (v / k))) (sym same.shards) (same.kept (v / old.shards) (loaded v was some))
