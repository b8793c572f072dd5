-- A shard of which one row changes.
use Rattle.std.proofs.Common.{◌≡◌, ℕ, ◌+◌, ◌*◌, ◌/◌, ◌%◌, ◌<◌, List, [], Option, Some, None, refl, ap, sym, subst, ◌∙◌, arith, ◌⊎◌, inl, inr}
use Rattle.std.specs.Prelude.{◌≢◌}
use Rattle.std.specs.Borrow.{MutBor}
use Rattle.std.specs.Option.{IsSome, option_copied_mut}
use Rattle.std.proofs.lemmas.Bool.{cases_eq}
use Rattle.std.proofs.lemmas.Bool.Decides.{nat_tests}
use Rattle.edge_log.specs.Rooms.{Block, AreApart, AreAmong, KeepsLogs}
use Rattle.edge_log.specs.Contents.{LogContent}
use Rattle.edge_log.proofs.BlockLemmas.{apart_sym, apart_among}
use Rattle.number_map.specs.declared.number_map.NumberMap.{NumberMap}
use Rattle.number_map.specs.KeptAt.{kept_at, IsWith}
use Rattle.vertex_rows.specs.declared.vertex_row.VertexRow.{VertexRow}
use Rattle.vertex_rows.specs.RowIn.{row_over, row_blocks, IsRowIn}
use Rattle.vertex_rows.proofs.Elsewhere.{row_stays, row_lies_out}
use Rattle.shard_state.specs.declared.shard.Shard.{Shard}
use Rattle.shard_state.specs.Shards.{row_kept, row_in, row_at, IsOf, StandIn, IsShard, SameShard, ChangesAlone, KeepsRows}

-- what is kept at a place where a value was put, and at any other
pub with_here : {T : Type 0} (rows new : NumberMap T) (n : ℕ) (value : Option T) → IsWith n value rows new → kept_at new n ≡ value
with_here rows new n value with = with n ∙ grind (arith, nat_tests)

pub with_there : {T : Type 0} (rows new : NumberMap T) (n m : ℕ) (value : Option T) → IsWith n value rows new → (m ≡ n → ⊥) → kept_at new m ≡ kept_at rows m
with_there rows new n m value with other = with m ∙ grind (arith, nat_tests, other)

-- the row that a map lent is the one that it keeps there
pub lent_here : {T : Type 0} (rows : NumberMap T) (n at : ℕ) (lent : Option (MutBor T)) (row : MutBor T) → at ≡ n → option_copied_mut lent ≡ kept_at rows at → lent ≡ Some row → kept_at rows n ≡ Some row.now
lent_here rows n at lent row place copied given = ap (kept_at rows) (sym place) ∙ sym copied ∙ ap option_copied_mut given

-- and the map once it was changed
pub lent_with : {T : Type 0} (rows new : NumberMap T) (n at : ℕ) (row changed : T) → at ≡ n → kept_at rows n ≡ Some row → (IsSome (kept_at rows at) → IsWith at (Some changed) rows new) → IsWith n (Some changed) rows new
lent_with rows new n at row changed place kept lends =
    let here : IsSome (kept_at rows n) = subst (λ o. IsSome o) (sym kept) refl in
    let there : IsSome (kept_at rows at) = subst (λ k. IsSome (kept_at rows k)) (sym place) here in
    subst (λ k. IsWith k (Some changed) rows new) place (lends there)

-- two vertices of a shard at one place are one
pub place_tells : (v w shards number : ℕ) → v % shards ≡ number → w % shards ≡ number → number < shards → (w ≡ v → ⊥) → w / shards ≡ v / shards → ⊥
place_tells v w shards number own of among other same = other (is_it w shards number of among ∙ ap (λ k. shards * k + number) same ∙ sym (is_it v shards number own among))
  where
    is_it : (x shards number : ℕ) → x % shards ≡ number → number < shards → x ≡ shards * (x / shards) + number
    is_it x shards number of among = omega (arith, of, among)

-- where no row is kept, all stand
pub none_stand : {L R : Type 0} (stands : L → R → Type 0) (footprint : L → List Block) (content : L → R → LogContent) (limit : L → ℕ) (most : ℕ) (rows : NumberMap (VertexRow L)) (room : R) →
    ((n : ℕ) → kept_at rows n ≡ None) → StandIn stands footprint content limit most rows room
none_stand {L = L} stands footprint content limit most rows room none = record {
  stand = λ n row kept. absurd (is_none (kept_at rows n) row (none n) kept);
  limits = λ n row kept. absurd (is_none (kept_at rows n) row (none n) kept);
  apart = λ m n a b kept other differ. absurd (is_none (kept_at rows m) a (none m) kept);
}
  where
    is_none : (o : Option (VertexRow L)) (row : VertexRow L) → o ≡ None → o ≡ Some row → ⊥
    is_none None row none some = cc
    is_none (Some x) row none some = cc

-- The row of one place changes alone: all rows stand in the room.
pub stand_after : {L R : Type 0} (stands : L → R → Type 0) (footprint : L → List Block) (content : L → R → LogContent) (spare : L → R → ℕ) (limit : L → ℕ) (out : List Block) (most : ℕ) (rows new : NumberMap (VertexRow L)) (room after : R) (n : ℕ) (row changed : VertexRow L) →
    ((log : L) → stands log room → AreAmong (footprint log) out) →
    kept_at rows n ≡ Some row → IsWith n (Some changed) rows new → ChangesAlone stands footprint content spare limit out row changed room after →
    StandIn stands footprint content limit most rows room → StandIn stands footprint content limit most new after
stand_after {L = L} {R = R} stands footprint content spare limit out most rows new room after n row changed lies here with change are = record {
  stand = λ m x kept. stand_at m x kept (cases_eq m n);
  limits = λ m x kept. limit_at m x kept (cases_eq m n);
  apart = λ m k a b kept_a kept_b differ. apart_at_both m k a b kept_a kept_b differ (cases_eq m n) (cases_eq k n);
}
  where
    is_the_changed : (m : ℕ) (x : VertexRow L) → kept_at new m ≡ Some x → m ≡ n → changed ≡ x
    is_the_changed m x kept same = let e : Some changed ≡ Some x = sym (with_here rows new n (Some changed) with) ∙ ap (kept_at new) (sym same) ∙ kept in cc

    was_there : (m : ℕ) (x : VertexRow L) → kept_at new m ≡ Some x → (m ≡ n → ⊥) → kept_at rows m ≡ Some x
    was_there m x kept other = sym (with_there rows new n m (Some changed) with other) ∙ kept

    beside : (m : ℕ) (x : VertexRow L) → kept_at new m ≡ Some x → (m ≡ n → ⊥) → AreApart (row_blocks footprint row) (row_blocks footprint x)
    beside m x kept other = are.apart n m row x here (was_there m x kept other) (λ e. other (sym e))

    stand_at : (m : ℕ) (x : VertexRow L) → kept_at new m ≡ Some x → (m ≡ n) ⊎ (m ≡ n → ⊥) → IsRowIn stands footprint content limit x after
    stand_at m x kept (inl same) = subst (λ z. IsRowIn stands footprint content limit z after) (is_the_changed m x kept same) change.there
    stand_at m x kept (inr other) =
        (row_stays stands footprint content spare limit (row_blocks footprint row) x room after change.keeps (beside m x kept other) (are.stand m x (was_there m x kept other))).0

    limit_at : (m : ℕ) (x : VertexRow L) → kept_at new m ≡ Some x → (m ≡ n) ⊎ (m ≡ n → ⊥) → x.log_most ≡ most
    limit_at m x kept (inl same) = sym (ap (λ z. z.log_most) (is_the_changed m x kept same)) ∙ change.most ∙ are.limits n row here
    limit_at m x kept (inr other) = are.limits m x (was_there m x kept other)

    from_changed : (m : ℕ) (x : VertexRow L) → kept_at new m ≡ Some x → (m ≡ n → ⊥) → AreApart (row_blocks footprint changed) (row_blocks footprint x)
    from_changed m x kept other =
        change.apart (row_blocks footprint x) (row_lies_out stands footprint content limit out x room lies (are.stand m x (was_there m x kept other))) (beside m x kept other)

    apart_at_both : (m k : ℕ) (a b : VertexRow L) → kept_at new m ≡ Some a → kept_at new k ≡ Some b → m ≢ k → (m ≡ n) ⊎ (m ≡ n → ⊥) → (k ≡ n) ⊎ (k ≡ n → ⊥) → AreApart (row_blocks footprint a) (row_blocks footprint b)
    apart_at_both m k a b kept_a kept_b differ (inl e) (inl f) = absurd (differ (e ∙ sym f))
    apart_at_both m k a b kept_a kept_b differ (inl e) (inr other) =
        subst (λ z. AreApart (row_blocks footprint z) (row_blocks footprint b)) (is_the_changed m a kept_a e) (from_changed k b kept_b other)
    apart_at_both m k a b kept_a kept_b differ (inr other) (inl f) =
        apart_sym (row_blocks footprint b) (row_blocks footprint a) (subst (λ z. AreApart (row_blocks footprint z) (row_blocks footprint a)) (is_the_changed k b kept_b f) (from_changed m a kept_a other))
    apart_at_both m k a b kept_a kept_b differ (inr other) (inr aside) = are.apart m k a b (was_there m a kept_a other) (was_there k b kept_b aside) differ

-- the row at the place
pub row_here : {L R : Type 0} (content : L → R → LogContent) (rows new : NumberMap (VertexRow L)) (after : R) (n : ℕ) (changed : VertexRow L) → IsWith n (Some changed) rows new → row_in content new after n ≡ row_over content changed after
row_here content rows new after n changed with = ap (λ x. row_kept content x after) (with_here rows new n (Some changed) with)

-- the rows at the other places
pub row_there : {L R : Type 0} (stands : L → R → Type 0) (footprint : L → List Block) (content : L → R → LogContent) (spare : L → R → ℕ) (limit : L → ℕ) (out : List Block) (most : ℕ) (rows new : NumberMap (VertexRow L)) (room after : R) (n : ℕ) (row changed : VertexRow L) →
    kept_at rows n ≡ Some row → IsWith n (Some changed) rows new → ChangesAlone stands footprint content spare limit out row changed room after →
    StandIn stands footprint content limit most rows room → (m : ℕ) → (m ≡ n → ⊥) → row_in content new after m ≡ row_in content rows room m
row_there {L = L} {R = R} stands footprint content spare limit out most rows new room after n row changed here with change are m other =
    ap (λ x. row_kept content x after) (with_there rows new n m (Some changed) with other) ∙ stays (kept_at rows m) refl
  where
    stays : (kept : Option (VertexRow L)) → kept_at rows m ≡ kept → row_kept content kept after ≡ row_kept content kept room
    stays None is = refl
    stays (Some x) is =
        (row_stays stands footprint content spare limit (row_blocks footprint row) x room after change.keeps (are.apart n m row x here is (λ e. other (sym e))) (are.stand m x is)).1

-- the row that is kept at a vertex's place is the vertex's
pub row_before : {L R : Type 0} (content : L → R → LogContent) (shard : Shard L R) (v : ℕ) (row : VertexRow L) → kept_at shard.rows (v / shard.shards) ≡ Some row → row_at content shard v ≡ row_over content row shard.room
row_before content shard v row here = ap (λ x. row_kept content x shard.room) here

-- What is kept stays kept where a value is put, and where nothing changes.
pub kept_with : {T : Type 0} (rows new : NumberMap T) (n : ℕ) (value : T) → IsWith n (Some value) rows new → (m : ℕ) → IsSome (kept_at rows m) → IsSome (kept_at new m)
kept_with {T = T} rows new n value with m some = by_place (cases_eq m n)
  where
    by_place : (m ≡ n) ⊎ (m ≡ n → ⊥) → IsSome (kept_at new m)
    by_place (inl here) = subst (λ (o : Option T). IsSome o) (sym (ap (kept_at new) here ∙ with_here rows new n (Some value) with)) refl
    by_place (inr there) = subst (λ (o : Option T). IsSome o) (sym (with_there rows new n m (Some value) with there)) some

pub kept_still : {T : Type 0} (rows new : NumberMap T) → ((m : ℕ) → kept_at new m ≡ kept_at rows m) → (m : ℕ) → IsSome (kept_at rows m) → IsSome (kept_at new m)
kept_still {T = T} rows new same m some = subst (λ (o : Option T). IsSome o) (sym (same m)) some

-- What a shard is once the row of a vertex has changed alone.
pub record IsChanged {L R : Type 0} (stands : L → R → Type 0) (footprint : L → List Block) (content : L → R → LogContent) (limit : L → ℕ) (shard next : Shard L R) (v : ℕ) (changed : VertexRow L) : Type 0 where
  pub shard_is : IsShard stands footprint content limit next
  pub same : SameShard shard next
  pub others : KeepsRows content v shard next
  pub now : row_at content next v ≡ row_over content changed next.room

pub is_changed : {L R : Type 0} (stands : L → R → Type 0) (footprint : L → List Block) (content : L → R → LogContent) (spare : L → R → ℕ) (limit : L → ℕ) (out : List Block) (shard : Shard L R) (new : NumberMap (VertexRow L)) (after : R) (v : ℕ) (row changed : VertexRow L) →
    ((log : L) → stands log shard.room → AreAmong (footprint log) out) → IsShard stands footprint content limit shard → IsOf v shard →
    kept_at shard.rows (v / shard.shards) ≡ Some row → IsWith (v / shard.shards) (Some changed) shard.rows new → ChangesAlone stands footprint content spare limit out row changed shard.room after →
    IsChanged stands footprint content limit shard (record shard { rows = new; room = after }) v changed
is_changed stands footprint content spare limit out shard new after v row changed lies is own here with change = record {
  shard_is = record {
    among = is.among;
    most = is.most;
    rows = stand_after stands footprint content spare limit out shard.log_most shard.rows new shard.room after (v / shard.shards) row changed lies here with change is.rows;
    part = is.part;
  };
  same = record { number = refl; shards = refl; most = refl; kept = kept_with shard.rows new (v / shard.shards) changed with };
  others = λ w of other.
      row_there stands footprint content spare limit out shard.log_most shard.rows new shard.room after (v / shard.shards) row changed here with change is.rows (w / shard.shards)
      (place_tells v w shard.shards shard.number own of is.among other);
  now = row_here content shard.rows new after (v / shard.shards) changed with;
}

-- The shard, where nothing that is kept changes.
pub shard_same : {L R : Type 0} (stands : L → R → Type 0) (footprint : L → List Block) (content : L → R → LogContent) (limit : L → ℕ) (shard : Shard L R) (new : NumberMap (VertexRow L)) →
    ((m : ℕ) → kept_at new m ≡ kept_at shard.rows m) → IsShard stands footprint content limit shard → IsShard stands footprint content limit (record shard { rows = new })
shard_same stands footprint content limit shard new same is = record {
  among = is.among;
  most = is.most;
  rows = record {
    stand = λ m x kept. is.rows.stand m x (sym (same m) ∙ kept);
    limits = λ m x kept. is.rows.limits m x (sym (same m) ∙ kept);
    apart = λ m k a b kept_a kept_b differ. is.rows.apart m k a b (sym (same m) ∙ kept_a) (sym (same k) ∙ kept_b) differ;
  };
  part = is.part;
}

pub same_kept : {L R : Type 0} (shard : Shard L R) (new : NumberMap (VertexRow L)) → ((m : ℕ) → kept_at new m ≡ kept_at shard.rows m) → SameShard shard (record shard { rows = new })
same_kept shard new same = record { number = refl; shards = refl; most = refl; kept = kept_still shard.rows new same }

pub rows_same : {L R : Type 0} (content : L → R → LogContent) (shard : Shard L R) (new : NumberMap (VertexRow L)) → ((m : ℕ) → kept_at new m ≡ kept_at shard.rows m) → (w : ℕ) → row_at content (record shard { rows = new }) w ≡ row_at content shard w
rows_same content shard new same w = ap (λ x. row_kept content x shard.room) (same (w / shard.shards))

-- A row that keeps its blocks changes alone.
pub alone_in_place : {L R : Type 0} (stands : L → R → Type 0) (footprint : L → List Block) (content : L → R → LogContent) (spare : L → R → ℕ) (limit : L → ℕ) (out : List Block) (row changed : VertexRow L) (room after : R) →
    IsRowIn stands footprint content limit changed after → changed.log_most ≡ row.log_most → row_blocks footprint changed ≡ row_blocks footprint row → KeepsLogs stands footprint content spare (row_blocks footprint row) room after →
    ChangesAlone stands footprint content spare limit out row changed room after
alone_in_place stands footprint content spare limit out row changed room after there most blocks keeps = record {
  there = there;
  most = most;
  apart = λ others among apart. subst (λ bs. AreApart bs others) (sym blocks) apart;
  keeps = keeps;
}

-- A row without blocks is put at a vertex's place, at which none was.
pub is_new : {L R : Type 0} (stands : L → R → Type 0) (footprint : L → List Block) (content : L → R → LogContent) (limit : L → ℕ) (shard : Shard L R) (kept new : NumberMap (VertexRow L)) (v at : ℕ) (row : VertexRow L) →
    IsShard stands footprint content limit shard → IsOf v shard → at ≡ v / shard.shards → ((m : ℕ) → kept_at kept m ≡ kept_at shard.rows m) → IsWith at (Some row) kept new →
    IsRowIn stands footprint content limit row shard.room → row.log_most ≡ shard.log_most → row_blocks footprint row ≡ [] →
    IsChanged stands footprint content limit shard (record shard { rows = new }) v row
is_new {L = L} {R = R} stands footprint content limit shard kept new v at row is own place same put stands_row most blocks = record {
  shard_is = record {
    among = is.among;
    most = is.most;
    rows = record {
      stand = λ m x is_x. stand_at m x is_x (cases_eq m at);
      limits = λ m x is_x. limit_at m x is_x (cases_eq m at);
      apart = λ m k a b is_a is_b differ. apart_at m k a b is_a is_b differ (cases_eq m at) (cases_eq k at);
    };
    part = is.part;
  };
  same = record { number = refl; shards = refl; most = refl; kept = λ m some. kept_with kept new at row put m (kept_still shard.rows kept same m some) };
  others = λ w of other. ap (λ x. row_kept content x shard.room) (there (w / shard.shards) (λ e. place_tells v w shard.shards shard.number own of is.among other (e ∙ place)));
  now = ap (λ x. row_kept content x shard.room) (ap (kept_at new) (sym place) ∙ with_here kept new at (Some row) put);
}
  where
    there : (m : ℕ) → (m ≡ at → ⊥) → kept_at new m ≡ kept_at shard.rows m
    there m other = with_there kept new at m (Some row) put other ∙ same m

    is_the_row : (m : ℕ) (x : VertexRow L) → kept_at new m ≡ Some x → m ≡ at → row ≡ x
    is_the_row m x is_x here = let e : Some row ≡ Some x = sym (with_here kept new at (Some row) put) ∙ ap (kept_at new) (sym here) ∙ is_x in cc

    was : (m : ℕ) (x : VertexRow L) → kept_at new m ≡ Some x → (m ≡ at → ⊥) → kept_at shard.rows m ≡ Some x
    was m x is_x other = sym (there m other) ∙ is_x

    stand_at : (m : ℕ) (x : VertexRow L) → kept_at new m ≡ Some x → (m ≡ at) ⊎ (m ≡ at → ⊥) → IsRowIn stands footprint content limit x shard.room
    stand_at m x is_x (inl here) = subst (λ z. IsRowIn stands footprint content limit z shard.room) (is_the_row m x is_x here) stands_row
    stand_at m x is_x (inr other) = is.rows.stand m x (was m x is_x other)

    limit_at : (m : ℕ) (x : VertexRow L) → kept_at new m ≡ Some x → (m ≡ at) ⊎ (m ≡ at → ⊥) → x.log_most ≡ shard.log_most
    limit_at m x is_x (inl here) = sym (ap (λ z. z.log_most) (is_the_row m x is_x here)) ∙ most
    limit_at m x is_x (inr other) = is.rows.limits m x (was m x is_x other)

    no_blocks : (m : ℕ) (x : VertexRow L) → kept_at new m ≡ Some x → m ≡ at → row_blocks footprint x ≡ []
    no_blocks m x is_x here = sym (ap (row_blocks footprint) (is_the_row m x is_x here)) ∙ blocks

    none_apart : (xs ys : List Block) → xs ≡ [] → AreApart xs ys
    none_apart xs ys none_there = subst (λ bs. AreApart bs ys) (sym none_there) refl

    apart_at : (m k : ℕ) (a b : VertexRow L) → kept_at new m ≡ Some a → kept_at new k ≡ Some b → m ≢ k → (m ≡ at) ⊎ (m ≡ at → ⊥) → (k ≡ at) ⊎ (k ≡ at → ⊥) → AreApart (row_blocks footprint a) (row_blocks footprint b)
    apart_at m k a b is_a is_b differ (inl here) on_k = none_apart (row_blocks footprint a) (row_blocks footprint b) (no_blocks m a is_a here)
    apart_at m k a b is_a is_b differ (inr other) (inl here) = apart_sym (row_blocks footprint b) (row_blocks footprint a) (none_apart (row_blocks footprint b) (row_blocks footprint a) (no_blocks k b is_b here))
    apart_at m k a b is_a is_b differ (inr other) (inr aside) = is.rows.apart m k a b (was m a is_a other) (was k b is_b aside) differ

-- A row is put at a vertex's place, at which none was, in blocks that are new to the room.
pub is_added : {L R : Type 0} (stands : L → R → Type 0) (footprint : L → List Block) (content : L → R → LogContent) (spare : L → R → ℕ) (limit : L → ℕ) (out : List Block) (shard : Shard L R) (new : NumberMap (VertexRow L)) (after : R) (v at : ℕ) (row : VertexRow L) →
    ((log : L) → stands log shard.room → AreAmong (footprint log) out) → IsShard stands footprint content limit shard → IsOf v shard → at ≡ v / shard.shards →
    kept_at shard.rows at ≡ None → IsWith at (Some row) shard.rows new → IsRowIn stands footprint content limit row after → row.log_most ≡ shard.log_most →
    AreApart out (row_blocks footprint row) → KeepsLogs stands footprint content spare [] shard.room after →
    IsChanged stands footprint content limit shard (record shard { rows = new; room = after }) v row
is_added {L = L} {R = R} stands footprint content spare limit out shard new after v at row lies is own place absent put stands_row most apart keeps = record {
  shard_is = record {
    among = is.among;
    most = is.most;
    rows = record {
      stand = λ m x is_x. stand_at m x is_x (cases_eq m at);
      limits = λ m x is_x. limit_at m x is_x (cases_eq m at);
      apart = λ m k a b is_a is_b differ. apart_at m k a b is_a is_b differ (cases_eq m at) (cases_eq k at);
    };
    part = is.part;
  };
  same = record { number = refl; shards = refl; most = refl; kept = kept_with shard.rows new at row put };
  others = λ w of other. ap (λ x. row_kept content x after) (with_there shard.rows new at (w / shard.shards) (Some row) put (λ e. place_tells v w shard.shards shard.number own of is.among other (e ∙ place))) ∙ stays (w / shard.shards) (kept_at shard.rows (w / shard.shards)) refl;
  now = ap (λ x. row_kept content x after) (ap (kept_at new) (sym place) ∙ with_here shard.rows new at (Some row) put);
}
  where
    is_the_row : (m : ℕ) (x : VertexRow L) → kept_at new m ≡ Some x → m ≡ at → row ≡ x
    is_the_row m x is_x here = let e : Some row ≡ Some x = sym (with_here shard.rows new at (Some row) put) ∙ ap (kept_at new) (sym here) ∙ is_x in cc

    was : (m : ℕ) (x : VertexRow L) → kept_at new m ≡ Some x → (m ≡ at → ⊥) → kept_at shard.rows m ≡ Some x
    was m x is_x other = sym (with_there shard.rows new at m (Some row) put other) ∙ is_x

    moved : (m : ℕ) (x : VertexRow L) → kept_at shard.rows m ≡ Some x → IsRowIn stands footprint content limit x after × (row_over content x after ≡ row_over content x shard.room)
    moved m x was_x = row_stays stands footprint content spare limit [] x shard.room after keeps refl (is.rows.stand m x was_x)

    stays : (m : ℕ) (kept : Option (VertexRow L)) → kept_at shard.rows m ≡ kept → row_kept content kept after ≡ row_kept content kept shard.room
    stays m None was_none = refl
    stays m (Some x) was_x = (moved m x was_x).1

    stand_at : (m : ℕ) (x : VertexRow L) → kept_at new m ≡ Some x → (m ≡ at) ⊎ (m ≡ at → ⊥) → IsRowIn stands footprint content limit x after
    stand_at m x is_x (inl here) = subst (λ z. IsRowIn stands footprint content limit z after) (is_the_row m x is_x here) stands_row
    stand_at m x is_x (inr other) = (moved m x (was m x is_x other)).0

    limit_at : (m : ℕ) (x : VertexRow L) → kept_at new m ≡ Some x → (m ≡ at) ⊎ (m ≡ at → ⊥) → x.log_most ≡ shard.log_most
    limit_at m x is_x (inl here) = sym (ap (λ z. z.log_most) (is_the_row m x is_x here)) ∙ most
    limit_at m x is_x (inr other) = is.rows.limits m x (was m x is_x other)

    beside : (m : ℕ) (x : VertexRow L) → kept_at new m ≡ Some x → (m ≡ at → ⊥) → AreApart (row_blocks footprint x) (row_blocks footprint row)
    beside m x is_x other = apart_among (row_blocks footprint x) out (row_blocks footprint row) (row_lies_out stands footprint content limit out x shard.room lies (is.rows.stand m x (was m x is_x other))) apart

    apart_at : (m k : ℕ) (a b : VertexRow L) → kept_at new m ≡ Some a → kept_at new k ≡ Some b → m ≢ k → (m ≡ at) ⊎ (m ≡ at → ⊥) → (k ≡ at) ⊎ (k ≡ at → ⊥) → AreApart (row_blocks footprint a) (row_blocks footprint b)
    apart_at m k a b is_a is_b differ (inl e) (inl f) = absurd (differ (e ∙ sym f))
    apart_at m k a b is_a is_b differ (inl e) (inr other) =
        subst (λ z. AreApart (row_blocks footprint z) (row_blocks footprint b)) (is_the_row m a is_a e) (apart_sym (row_blocks footprint b) (row_blocks footprint row) (beside k b is_b other))
    apart_at m k a b is_a is_b differ (inr other) (inl f) =
        subst (λ z. AreApart (row_blocks footprint a) (row_blocks footprint z)) (is_the_row k b is_b f) (beside m a is_a other)
    apart_at m k a b is_a is_b differ (inr other) (inr aside) = is.rows.apart m k a b (was m a is_a other) (was k b is_b aside) differ
