-- The changes of the records up to an epoch, record by record, and the graph of a snapshot.
use Rattle.std.proofs.Common.{◌≡◌, ℕ, ◌+◌, ◌<◌, ◌≤◌, suc, cond, ◌&&◌, List, [], ◌∷◌, ◌++◌, length, get_or, drop, refl, sym, ap, ◌∙◌, add-one, drop-cons, arith}
use Rattle.std.specs.Prelude.{nat_le, filter, flat_map}
use Rattle.std.proofs.lemmas.Bool.{le-leb, lt-leb}
use Rattle.std.proofs.lemmas.Bool.Decides.{nat_tests}
use Rattle.graph_model.specs.declared.record.Record.{Record}
use Rattle.graph_model.specs.Vertex.{Vertex}
use Rattle.graph_model.specs.Graph.{after, all_fit, fits_at, changes_until, at}
use Rattle.graph_model.specs.Places.{records_until}
use Rattle.graph_model.proofs.Vertices.{after-append, each_step-append}

-- a list from a place on begins with the item that stands there
pub drop-item : {X : Type 0} (xs : List X) (i : ℕ) (x : X) → i < length xs → x ≡ get_or xs i x → drop i xs ≡ x ∷ drop (i + 1) xs
drop-item xs i x within is = rw add-one (drop-cons xs i x within ∙ ap (λ y. y ∷ drop (suc i) xs) (sym is))

-- a record of a later epoch has no part in the snapshot
pub changes_until-later : (e : ℕ) (r : Record) (records : List Record) → e < r.epoch → changes_until e (r ∷ records) ≡ changes_until e records
changes_until-later e r records later = ap (λ b. flat_map (λ (x : Record). x.changes) (cond b (r ∷ filter (λ x. nat_le x.epoch e) records) (filter (λ x. nat_le x.epoch e) records))) (lt-leb r.epoch e later)

-- one of an epoch at most e has its changes first
pub changes_until-first : (e : ℕ) (r : Record) (records : List Record) → r.epoch ≤ e → changes_until e (r ∷ records) ≡ r.changes ++ changes_until e records
changes_until-first e r records within = ap (λ b. flat_map (λ (x : Record). x.changes) (cond b (r ∷ filter (λ x. nat_le x.epoch e) records) (filter (λ x. nat_le x.epoch e) records))) (le-leb r.epoch e within)

pub after-first : (e : ℕ) (r : Record) (records : List Record) (g : List Vertex) → r.epoch ≤ e → after (changes_until e (r ∷ records)) g ≡ after (changes_until e records) (after r.changes g)
after-first e r records g within = ap (λ changes. after changes g) (changes_until-first e r records within) ∙ after-append r.changes (changes_until e records) g

pub all_fit-first : (e : ℕ) (r : Record) (records : List Record) (g : List Vertex) → r.epoch ≤ e →
    all_fit (changes_until e (r ∷ records)) g ≡ (all_fit r.changes g && all_fit (changes_until e records) (after r.changes g))
all_fit-first e r records g within = ap (λ changes. all_fit changes g) (changes_until-first e r records within) ∙ each_step-append fits_at r.changes (changes_until e records) g

-- the graph at an epoch is that of the records up to it
pub at-prefix : (g : List Vertex) (records : List Record) (e : ℕ) → at g records e ≡ at g (records_until e records) e
at-prefix g records e = ap (λ rs. after (flat_map (λ (r : Record). r.changes) rs) g) (sym (again records))
  where
    again : (rs : List Record) → filter (λ r. nat_le r.epoch e) (filter (λ r. nat_le r.epoch e) rs) ≡ filter (λ r. nat_le r.epoch e) rs
    again [] = refl
    again (r ∷ rs) = let rest = again rs in grind (arith, nat_tests)

-- records of later epochs behind the others do not change it
pub at-append : (g : List Vertex) (records later : List Record) (e : ℕ) → records_until e later ≡ [] → at g (records ++ later) e ≡ at g records e
at-append g records later e none = ap (λ rs. after (flat_map (λ (r : Record). r.changes) rs) g) (both records)
  where
    both : (rs : List Record) → filter (λ r. nat_le r.epoch e) (rs ++ later) ≡ filter (λ r. nat_le r.epoch e) rs
    both [] = none
    both (r ∷ rs) = let rest = both rs in grind (arith, nat_tests)
