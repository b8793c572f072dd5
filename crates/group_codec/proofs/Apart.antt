-- Which records overlap, told by the newest epoch at each vertex.
use Rattle.std.proofs.Common.{◌≡◌, ℕ, ◌<◌, ◌≤◌, Bool, true, false, not, cond, ◌&&◌, ◌||◌, List, [], ◌∷◌, ◌++◌, refl, sym, ap, ◌∙◌, inl, inr, arith}
use Rattle.std.specs.Prelude.{◌==◌, nat_lt, nat_le, Option}
use Rattle.std.specs.List.{list_any, list_all}
use Rattle.std.proofs.lemmas.Bool.{and_parts, and_from, leb-true, ltb-false, le-ltb, cases_Bool, lt-leb}
use Rattle.std.proofs.lemmas.Bool.Decides.{nat_tests}
use Rattle.std.proofs.lemmas.List.Folds.{list_all-append, list_any-append}
use Rattle.graph_model.specs.declared.record.Record.{Record}
use Rattle.graph_model.specs.Change.{vertex_of}
use Rattle.graph_model.specs.Records.{changes_vertex, overlap, share_vertex, keep_apart, apart}
use Rattle.group_codec.specs.Judging.{newest_of, none_later, is_apart}
use Rattle.group_codec.proofs.Lists.{all_same, all_same_where, any_same, any_any, all_none}

-- one record more
pub apart-push : (rs : List Record) (r : Record) → apart (rs ++ r ∷ []) ≡ (apart rs && list_all (λ s. keep_apart s r) rs)
apart-push [] r = refl
apart-push (s ∷ rs) r =
    ap (λ b. b && apart (rs ++ r ∷ [])) (list_all-append (keep_apart s) rs (r ∷ [])) ∙ ap (λ b. (list_all (keep_apart s) rs && (keep_apart s r && true)) && b) (apart-push rs r)
    ∙ join (list_all (keep_apart s) rs) (keep_apart s r) (apart rs) (list_all (λ x. keep_apart x r) rs)
  where
    join : (a b c d : Bool) → ((a && (b && true)) && (c && d)) ≡ ((a && c) && (b && d))
    join a b c d = grind (arith, nat_tests)

-- an earlier record overlaps where it is newer than the snapshot
overlaps : (s r : Record) → nat_le s.epoch r.epoch ≡ true → r.read < r.epoch → (overlap s r || overlap r s) ≡ nat_lt r.read s.epoch
overlaps s r le lt =
    let at = leb-true s.epoch r.epoch le in
    elim (cases_Bool (nat_lt r.read s.epoch)) [
      | inl newer ↦
          let whole : overlap r s ≡ true = and_from (nat_lt r.read s.epoch) (nat_le s.epoch r.epoch) newer le in
          second (overlap s r) (overlap r s) (nat_lt r.read s.epoch) whole newer
      | inr older ↦
          let low = ltb-false r.read s.epoch older in
          let back : nat_le r.epoch s.epoch ≡ false = lt-leb r.epoch s.epoch (omega (arith, low, lt)) in
          neither (nat_lt s.read r.epoch) (nat_le r.epoch s.epoch) (nat_lt r.read s.epoch) (nat_le s.epoch r.epoch) back older
    ]
  where
    second : (a b c : Bool) → b ≡ true → c ≡ true → (a || b) ≡ c
    second a b c p q = grind (arith, nat_tests)

    neither : (a b c d : Bool) → b ≡ false → c ≡ false → ((a && b) || (c && d)) ≡ c
    neither a b c d p q = grind (arith, nat_tests)

-- two records share a vertex where one changes a vertex of the other's changes
shares : (s r : Record) → share_vertex s r ≡ list_any (λ d. changes_vertex (vertex_of d) s) r.changes
shares s r =
    any_any (λ c d. vertex_of d == vertex_of c) s.changes r.changes
    ∙ any_same (λ d. list_any (λ c. vertex_of d == vertex_of c) s.changes) (λ d. changes_vertex (vertex_of d) s) r.changes
    (λ d. any_same (λ c. vertex_of d == vertex_of c) (λ c. vertex_of c == vertex_of d) s.changes (λ c. turned (vertex_of d) (vertex_of c)))
  where
    turned : (a b : ℕ) → (a == b) ≡ (b == a)
    turned a b = grind (arith, nat_tests)

-- what the newest epochs of vertices tell of the records
abbrev pub Tells : (ℕ → Option ℕ) → List Record → Type 0
Tells noted rs = (v e : ℕ) → list_any (λ s. changes_vertex v s && nat_lt e s.epoch) rs ≡ nat_lt e (newest_of noted v)

-- a record keeps apart from all earlier ones exactly where no newer one than its snapshot changed its vertices
pub apart-told : (noted : ℕ → Option ℕ) (rs : List Record) (r : Record) → Tells noted rs → none_later r.epoch rs ≡ true → r.read < r.epoch →
    list_all (λ s. keep_apart s r) rs ≡ is_apart noted r
apart-told noted rs r tells none lt =
    all_same_where (λ s. nat_le s.epoch r.epoch) (λ s. keep_apart s r) (λ s. not (nat_lt r.read s.epoch && list_any (λ d. changes_vertex (vertex_of d) s) r.changes)) rs none
    (λ s le. ap (λ b. not (b && share_vertex s r)) (overlaps s r le lt) ∙ ap (λ b. not (nat_lt r.read s.epoch && b)) (shares s r))
    ∙ all_none (λ s. nat_lt r.read s.epoch) (λ d s. changes_vertex (vertex_of d) s) rs r.changes
    ∙ all_same (λ d. not (list_any (λ s. changes_vertex (vertex_of d) s && nat_lt r.read s.epoch) rs)) (λ d. nat_le (newest_of noted (vertex_of d)) r.read) r.changes
    (λ d. ap not (tells (vertex_of d) r.read) ∙ turned r.read (newest_of noted (vertex_of d)))
  where
    turned : (a b : ℕ) → not (nat_lt a b) ≡ nat_le b a
    turned a b = grind (arith, nat_tests)

-- no record is newer than the newest epoch
none-newer : (v e : ℕ) (rs : List Record) → none_later e rs ≡ true → list_any (λ s. changes_vertex v s && nat_lt e s.epoch) rs ≡ false
none-newer v e [] none = refl
none-newer v e (s ∷ rs) none =
    let parts = and_parts (nat_le s.epoch e) (none_later e rs) none in
    let old : nat_lt e s.epoch ≡ false = le-ltb e s.epoch (leb-true s.epoch e parts.0) in
    go (changes_vertex v s) (nat_lt e s.epoch) (list_any (λ x. changes_vertex v x && nat_lt e x.epoch) rs) old (none-newer v e rs parts.1)
  where
    go : (a b c : Bool) → b ≡ false → c ≡ false → ((a && b) || c) ≡ false
    go a b c p q = grind (arith, nat_tests)

-- one record more
pub Tells-push : (old new : ℕ → Option ℕ) (rs : List Record) (r : Record) → Tells old rs → none_later r.epoch rs ≡ true →
    ((v : ℕ) → newest_of new v ≡ cond (changes_vertex v r) r.epoch (newest_of old v)) → Tells new (rs ++ r ∷ [])
Tells-push old new rs r tells none noted v e =
    let within : newest_of old v ≤ r.epoch = ltb-false r.epoch (newest_of old v) (sym (tells v r.epoch) ∙ none-newer v r.epoch rs none) in
    list_any-append (λ s. changes_vertex v s && nat_lt e s.epoch) rs (r ∷ []) ∙ ap (λ b. b || ((changes_vertex v r && nat_lt e r.epoch) || false)) (tells v e)
    ∙ go (changes_vertex v r) (newest_of old v) within ∙ ap (nat_lt e) (sym (noted v))
  where
    go : (a : Bool) (n : ℕ) → n ≤ r.epoch → (nat_lt e n || ((a && nat_lt e r.epoch) || false)) ≡ nat_lt e (cond a r.epoch n)
    go true n le = grind (arith, nat_tests)
    go false n le = grind (arith, nat_tests)
