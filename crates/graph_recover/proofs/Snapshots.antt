-- The graph at an epoch of records and those behind them.
use Rattle.std.proofs.Common.{◌≡◌, ℕ, true, cond, List, [], ◌∷◌, ◌++◌, refl, ap, ◌∙◌}
use Rattle.std.specs.Prelude.{nat_lt, nat_le, filter, flat_map}
use Rattle.std.specs.List.{list_all}
use Rattle.std.proofs.lemmas.Bool.{and_parts, ltb-true, lt-leb}
use Rattle.std.proofs.lemmas.List.Elements.{filter-append}
use Rattle.std.proofs.lemmas.List.Concat.{flat_map-append}
use Rattle.graph_model.specs.declared.record.Record.{Record}
use Rattle.graph_model.specs.Vertex.{Vertex}
use Rattle.graph_model.specs.Graph.{after, at, changes_until}
use Rattle.graph_model.specs.Records.{all_changes}
use Rattle.graph_model.proofs.Vertices.{after-append}
use Rattle.group_codec.specs.Judging.{none_later}

-- records up to an epoch that none of them passes are all of them
until-all : (e : ℕ) (rs : List Record) → none_later e rs ≡ true → filter (λ r. nat_le r.epoch e) rs ≡ rs
until-all e [] h = refl
until-all e (r ∷ rs) h =
    let parts = and_parts (nat_le r.epoch e) (none_later e rs) h in
    ap (λ b. cond b (r ∷ filter (λ s. nat_le s.epoch e) rs) (filter (λ s. nat_le s.epoch e) rs)) parts.0 ∙ ap (λ xs. r ∷ xs) (until-all e rs parts.1)

-- up to an epoch that all of them pass there are none
pub until-none : (e : ℕ) (rs : List Record) → list_all (λ r. nat_lt e r.epoch) rs ≡ true → filter (λ r. nat_le r.epoch e) rs ≡ []
until-none e [] h = refl
until-none e (r ∷ rs) h =
    let parts = and_parts (nat_lt e r.epoch) (list_all (λ s. nat_lt e s.epoch) rs) h in
    ap (λ b. cond b (r ∷ filter (λ s. nat_le s.epoch e) rs) (filter (λ s. nat_le s.epoch e) rs)) (lt-leb r.epoch e (ltb-true e r.epoch parts.0)) ∙ until-none e rs parts.1

-- at the last epoch stands the graph of all records
pub at-all : (e : ℕ) (rs : List Record) → none_later e rs ≡ true → at [] rs e ≡ after (all_changes rs) []
at-all e rs h = let none : List Vertex = [] in ap (λ xs. after (flat_map (λ (r : Record). r.changes) xs) none) (until-all e rs h)

-- where all records of the first list are within an epoch, the snapshot is that of the second over the graph of the first
pub at-behind : (e : ℕ) (rs more : List Record) → none_later e rs ≡ true → at [] (rs ++ more) e ≡ at (after (all_changes rs) []) more e
at-behind e rs more h =
    let none : List Vertex = [] in
    ap (λ xs. after (flat_map (λ (r : Record). r.changes) xs) none) (filter-append (λ r. nat_le r.epoch e) rs more ∙ ap (λ xs. xs ++ filter (λ r. nat_le r.epoch e) more) (until-all e rs h))
    ∙ ap (λ cs. after cs none) (flat_map-append (λ (r : Record). r.changes) rs (filter (λ r. nat_le r.epoch e) more))
    ∙ after-append (all_changes rs) (changes_until e more) none
