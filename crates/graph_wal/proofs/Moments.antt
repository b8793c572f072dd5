-- What a crash at any moment may have left, over several calls of a disk.
use Rattle.std.proofs.Common.{◌≡◌, ℕ, ◌<◌, ◌≤◌, List, length, take, refl, sym, ◌∙◌, subst, inl, inr, arith}
use Rattle.std.specs.Prelude.{slice_index}
use Rattle.std.proofs.lemmas.List.{ext_get_or, get_or-take, length-take-le}
use Rattle.std.proofs.lemmas.Bool.{cases_lt}
use Rattle.disk_model.specs.Images.{Torn, CutShort, Follows, Passes, NoneNew}
use Rattle.graph_wal.specs.Since.{Since, SameFront, KeepsFront}

module _ {D : Type 0} (moment : D → ℕ) (images : D → ℕ → List ℕ → Type 0) where
  -- no call
  pub Since-start : (old : D) (P : List ℕ → Type 0) → ((c : List ℕ) → images old (moment old) c → P c) → Since moment images old old P
  Since-start old P here = record {
    later = omega arith;
    each = λ m c since until left. let now : m ≡ moment old = omega arith in here c (subst (λ (k : ℕ). images old k c) now left);
    before = λ m c earlier left. left;
  }

  -- one call
  pub Since-call : (old new : D) (P : List ℕ → Type 0) → Passes (moment old) (moment new) (images old) (images new) → ((c : List ℕ) → images old (moment old) c → P c) → ((c : List ℕ) → images new (moment new) c → P c) → Since moment images old new P
  Since-call old new P passes start end = record {
    later = passes.later;
    each = λ m c since until left. elim (cases_lt m (moment new)) [
      | inl earlier ↦ let now : m ≡ moment old = omega (arith, passes.next, passes.later) in start c (subst (λ (k : ℕ). images old k c) now (passes.no_more m earlier c left))
      | inr late ↦ let now : m ≡ moment new = omega arith in end c (subst (λ (k : ℕ). images new k c) now left)
    ];
    before = λ m c earlier left. passes.no_more m (omega (arith, passes.next, passes.later)) c left;
  }

  -- one run and then another
  pub Since-join : (old mid new : D) (P : List ℕ → Type 0) → Since moment images old mid P → Since moment images mid new P → Since moment images old new P
  Since-join old mid new P first second = record {
    later = omega (arith, first.later, second.later);
    each = λ m c since until left. elim (cases_lt m (moment mid)) [
      | inl earlier ↦ first.each m c since (omega arith) (second.before m c earlier left)
      | inr late ↦ second.each m c late until left
    ];
    before = λ m c earlier left. first.before m c earlier (second.before m c (omega (arith, first.later)) left);
  }

  pub Since-weaken : (old new : D) (P Q : List ℕ → Type 0) → Since moment images old new P → ((c : List ℕ) → P c → Q c) → Since moment images old new Q
  Since-weaken old new P Q since more = record {
    later = since.later;
    each = λ m c from until left. more c (since.each m c from until left);
    before = since.before;
  }

  -- what may be left now
  pub Since-now : (old new : D) (P : List ℕ → Type 0) → Since moment images old new P → (c : List ℕ) → images new (moment new) c → P c
  Since-now old new P since c left = since.each (moment new) c since.later (omega arith) left

  -- a call whose images follow by a step that may leave all as it was
  pub Since-step : (old new : D) (by : List ℕ → List ℕ → Type 0) → ((c : List ℕ) → by c c) → Follows by (images old (moment old)) (images new (moment new)) → Passes (moment old) (moment new) (images old) (images new) → Since moment images old new (λ c. (d : List ℕ) × images old (moment old) d × by d c)
  Since-step old new by same follows passes =
      Since-call old new (λ c. (d : List ℕ) × images old (moment old) d × by d c) passes (λ c left. (c, left, same c)) (λ c left. follows c left)

  -- and then a sync
  pub Since-sync : (old mid new : D) (P : List ℕ → Type 0) → Since moment images old mid P → Passes (moment mid) (moment new) (images mid) (images new) → NoneNew (images mid (moment mid)) (images new (moment new)) → Since moment images old new P
  Since-sync old mid new P first passes within =
      Since-join old mid new P first (Since-call mid new P passes (λ c left. Since-now old mid P first c left) (λ c left. Since-now old mid P first c (within c left)))

-- the same bytes have the same front
pub SameFront-same : (n : ℕ) (c : List ℕ) → SameFront n c c
SameFront-same n c = record { long = λ l. l; front = λ l. refl }

pub SameFront-join : (n : ℕ) (b c d : List ℕ) → SameFront n b c → SameFront n c d → SameFront n b d
SameFront-join n b c d first second = record {
  long = λ l. second.long (first.long l);
  front = λ l. second.front (first.long l) ∙ first.front l;
}

-- bytes that are the same place by place have the same front
pub same_take : (n : ℕ) (b c : List ℕ) → n ≤ length b → n ≤ length c → ((k : ℕ) → k < n → slice_index c k ≡ slice_index b k) → take n c ≡ take n b
same_take n b c in_b in_c same =
    let lb : length (take n b) ≡ n = length-take-le n b in_b in
    let lc : length (take n c) ≡ n = length-take-le n c in_c in
    ext_get_or 0 (take n c) (take n b) (lc ∙ sym lb) (λ k inside. let below : k < n = omega arith in get_or-take n c k 0 below ∙ same k below ∙ sym (get_or-take n b k 0 below))

-- a torn write keeps what stands before it
pub SameFront-torn : (place k n : ℕ) (b c : List ℕ) → n ≤ place → Torn place k b c → SameFront n b c
SameFront-torn place k n b c before torn = record {
  long = λ l. omega (arith, torn.no_shorter);
  front = λ l. same_take n b c l (omega (arith, torn.no_shorter)) (λ j below. torn.before j (omega arith) (omega arith));
}

-- and so does a cut behind it
pub SameFront-cut : (to n : ℕ) (b c : List ℕ) → n ≤ to → CutShort to b c → SameFront n b c
SameFront-cut to n b c before cut = record {
  long = λ l. omega (arith, cut.no_shorter);
  front = λ l. same_take n b c l (omega (arith, cut.no_shorter)) (λ j below. cut.before j (omega arith) (omega arith));
}

module _ {D : Type 0} (moment : D → ℕ) (images : D → ℕ → List ℕ → Type 0) where
  pub KeepsFront-start : (old : D) (n : ℕ) → KeepsFront moment images old old n
  KeepsFront-start old n = Since-start moment images old (λ c. (d : List ℕ) × images old (moment old) d × SameFront n d c) (λ c left. (c, left, SameFront-same n c))

  -- a write behind the front keeps it
  pub KeepsFront-write : (old new : D) (place k n : ℕ) → n ≤ place → Follows (Torn place k) (images old (moment old)) (images new (moment new)) → Passes (moment old) (moment new) (images old) (images new) → KeepsFront moment images old new n
  KeepsFront-write old new place k n before follows passes =
      Since-call moment images old new (λ c. (d : List ℕ) × images old (moment old) d × SameFront n d c) passes
      (λ c left. (c, left, SameFront-same n c))
      (λ c left. let from = follows c left in (from.0, from.1, SameFront-torn place k n from.0 c before from.2))

  -- two runs that keep it
  pub KeepsFront-join : (old mid new : D) (n : ℕ) → KeepsFront moment images old mid n → KeepsFront moment images mid new n → KeepsFront moment images old new n
  KeepsFront-join old mid new n first second =
      let P : List ℕ → Type 0 = λ c. (d : List ℕ) × images old (moment old) d × SameFront n d c in
      Since-join moment images old mid new P first
      (Since-weaken moment images mid new (λ c. (d : List ℕ) × images mid (moment mid) d × SameFront n d c) P second
      (λ c is. let from = Since-now moment images old mid P first is.0 is.1 in (from.0, from.1, SameFront-join n from.0 is.0 c from.2 is.2)))
