-- What a log holds of the transaction that owns its row, and of all that ended.
use Rattle.std.specs.Prelude.{◌≡◌, ℕ, ◌≤◌, ◌<◌, Bool, true, false, ◌&&◌, ◌==◌, nat_le, if◌then◌else◌, IsTrue, IsSomeAnd, List, [], ◌∷◌, ◌++◌, length, get_or, Contains, Some}
use Rattle.std.specs.List.{list_all}
use Rattle.stamps.specs.declared.stamp.Stamp.{Stamp}
use Rattle.stamps.specs.declared.stamp.Stamp.TheVariants.{Never, At, By}
use Rattle.stamps.specs.Stamps.{Txn, is_by}
use Rattle.edge_log.specs.Places.{entry_at, newest_place, oldest}
use Rattle.edge_log.specs.Contents.{LogContent, HasTailOf}

-- every edge that a transaction sees at its snapshot was not ended by anybody
abbrev pub EndsNever : ℕ → ℕ → LogContent → Type 0
EndsNever read t content =
    (d place : ℕ) → newest_place content.entries d read (Txn t) ≡ Some place → IsSomeAnd (entry_at content.entries place) (λ entry. entry.ended ≡ Never)

-- the stamp is no epoch above this one, and is private to no other transaction
abbrev pub is_known : ℕ → ℕ → Stamp → Bool
is_known t e Never = true
is_known t e (At s) = nat_le s e
is_known t e (By u) = is_by t (By u)

-- the stamp is no epoch above this one, and is private to nobody
abbrev pub is_past_stamp : ℕ → Stamp → Bool
is_past_stamp e Never = true
is_past_stamp e (At s) = nat_le s e
is_past_stamp e (By u) = false

-- Everything private in a log is one transaction's, and nothing in it is of a later epoch.
pub record IsOwned (t e : ℕ) (content : LogContent) : Type 0 where
  pub committed : content.committed ≤ length content.entries
  pub tail : HasTailOf t content
  pub base : IsTrue (list_all (λ x. is_past_stamp e x.created) (oldest content.committed content.entries))
  pub known : IsTrue (list_all (λ x. is_known t e x.created && is_known t e x.ended) content.entries)

-- Nothing in a log is private, and nothing in it is of a later epoch.
pub record IsAllPast (e : ℕ) (content : LogContent) : Type 0 where
  pub committed : content.committed ≡ length content.entries
  pub past : IsTrue (list_all (λ x. is_past_stamp e x.created && is_past_stamp e x.ended) content.entries)

-- whether the last of these numbers is n
abbrev pub ends_in : ℕ → List ℕ → Bool
ends_in n [] = false
ends_in n (m ∷ []) = m == n
ends_in n (m ∷ k ∷ touched) = ends_in n (k ∷ touched)

-- the notes with that of one log more, unless it was noted last
abbrev pub with_note : ℕ → List ℕ → List ℕ
with_note n touched = if ends_in n touched then touched else touched ++ n ∷ []

-- Each log but those that were touched is settled, and the touched ones are owned.
pub record AreOwned {L R : Type 0} (content : L → R → LogContent) (t e : ℕ) (touched : List ℕ) (logs : List L) (room : R) : Type 0 where
  pub within : (n : ℕ) → Contains touched n → n < length logs
  pub owned : (n : ℕ) (d : L) → n < length logs → IsOwned t e (content (get_or logs n d) room)
  pub settled : (n : ℕ) (d : L) → n < length logs → (Contains touched n → ⊥) → IsAllPast e (content (get_or logs n d) room)
