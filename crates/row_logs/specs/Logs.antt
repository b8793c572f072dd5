-- What a contract sees of the logs of a row.
use Rattle.std.specs.Prelude.{ℕ, List, Bool, refl, slice_set}
use Rattle.std.specs.Coded.{Coded, code_by, coded×, coded_bool, coded_list}

-- the logs in order, and whether one more gets in without memory
pub record Logs (L : Type 0) : Type 0 where
  pub items : List L
  pub has_room : Bool

-- logs are stored as the pair of the fields
abbrev pub logs_code : {L : Type 0} → Coded L → Coded (Logs L)
logs_code {L} code =
    code_by (List L × Bool) (coded× (coded_list code) coded_bool) (λ v. (v.items, v.has_room))
    (λ p. record { items = p.0; has_room = p.1 }) (λ _. refl)

-- the logs, one of them in another's place
abbrev pub with_log : {L : Type 0} → Logs L → ℕ → L → Logs L
with_log logs n x = record logs { items = slice_set logs.items n x }
