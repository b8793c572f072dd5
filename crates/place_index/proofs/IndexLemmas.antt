-- What an index keeps after a place more or less.
use Rattle.std.proofs.Common.{◌≡◌, ◌≢◌, ◌⊎◌, inl, inr, ℕ, ◌+◌, ◌<◌, ◌≤◌, List, [], ◌∷◌, ◌++◌, length, get_or, sym, ap, subst, ◌∙◌, arith, length-append}
use Rattle.std.proofs.Math.ListN.{get_or-append}
use Rattle.std.proofs.Math.Seq.{get_or-append_seam}
use Rattle.std.proofs.lemmas.Bool.{cases_eq}
use Rattle.std.proofs.lemmas.List.{length-set, get_or-set_other}
use Rattle.std.proofs.lemmas.Grind.{get_or-set_at}
use Rattle.std.specs.Prelude.{slice_set}
use Rattle.std.proofs.lemmas.Bool.Decides.{nat_tests}
use Rattle.place_index.specs.Slots.{slot_of}
use Rattle.place_index.specs.declared.place_index.PlaceIndex.{PlaceIndex}
use Rattle.place_index.specs.Chains.{last_in, AreOlder, slots_of, IsIndexOf, GoesDown}

-- it tells no more than there are
pub last_in-within : (slots s : ℕ) (ds : List ℕ) → last_in slots s ds ≤ length ds
last_in-within slots s [] = omega arith
last_in-within slots s (d ∷ ds) = let rest = last_in-within slots s ds in grind (arith, nat_tests, rest)

-- only the numbers of the places that there are count
pub older-same : (slots : ℕ) (older more : List ℕ) (ds : List ℕ) → ((k : ℕ) → k < length ds → get_or more k 0 ≡ get_or older k 0) → AreOlder slots older ds → AreOlder slots more ds
older-same slots older more [] same are = tt
older-same slots older more (d ∷ ds) same are =
    (same (length ds) (omega arith) ∙ are.0, older-same slots older more ds (λ k below. same k (omega (arith, below))) are.1)

-- after a place more
pub pushed : (index new : PlaceIndex) (d slot : ℕ) (ds : List ℕ) → IsIndexOf index ds → slot ≡ slot_of (slots_of index) d → slot < slots_of index →
    new.newest.items ≡ slice_set index.newest.items slot (length index.older.items + 1) → new.older.items ≡ index.older.items ++ (get_or index.newest.items slot 0 ∷ []) → IsIndexOf new (d ∷ ds)
pushed index new d slot ds is at within newest older =
    let count = is.count in
    let old : List ℕ = index.newest.items in
    let long : slots_of new ≡ slots_of index = ap length newest ∙ length-set old slot (length index.older.items + 1) in
    let P : ℕ → Type 0 = λ n. AreOlder n new.older.items (d ∷ ds) in
    let Q : ℕ → Type 0 = λ n. (s : ℕ) → s < slots_of index → get_or new.newest.items s 0 ≡ last_in n s (d ∷ ds) in
    let tells : (s : ℕ) → s < slots_of index → get_or new.newest.items s 0 ≡ last_in (slots_of index) s (d ∷ ds) =
    λ s below. ap (λ (xs : List ℕ). get_or xs s 0) newest ∙ told s below (cases_eq s slot) in
    let here : get_or new.older.items (length ds) 0 ≡ last_in (slots_of index) (slot_of (slots_of index) d) ds =
    ap (λ (xs : List ℕ). get_or xs (length ds) 0) older
    ∙ ap (λ (n : ℕ). get_or (index.older.items ++ (get_or old slot 0 ∷ [])) n 0) (sym count)
    ∙ get_or-append_seam index.older.items (get_or old slot 0) [] 0
    ∙ is.newest slot within ∙ ap (λ (n : ℕ). last_in (slots_of index) n ds) at in
    let kept : (k : ℕ) → k < length ds → get_or new.older.items k 0 ≡ get_or index.older.items k 0 =
    λ k below. ap (λ (xs : List ℕ). get_or xs k 0) older ∙ get_or-append index.older.items (get_or old slot 0 ∷ []) 0 k (omega (arith, below, count)) in
    record {
      has_slots = (let some = is.has_slots.0 in let most = is.has_slots.1 in (omega (arith, long, some), omega (arith, long, most)));
      count = (let more = ap length older ∙ length-append index.older.items (get_or old slot 0 ∷ []) in omega (arith, more, count));
      newest = λ s below. subst Q (sym long) tells s (omega (arith, below, long));
      older = subst P (sym long) (here, older-same (slots_of index) index.older.items new.older.items ds kept is.older);
    }
  where
    told : (s : ℕ) → s < slots_of index → (s ≡ slot) ⊎ (s ≢ slot) → get_or (slice_set index.newest.items slot (length index.older.items + 1)) s 0 ≡ last_in (slots_of index) s (d ∷ ds)
    told s below (inl same) =
        get_or-set_at index.newest.items slot s (length index.older.items + 1) 0 same within
        ∙ (let count = is.count in let same_slot : slot_of (slots_of index) d ≡ s = sym at ∙ sym same in grind (arith, nat_tests, count, same_slot))
    told s below (inr other) =
        get_or-set_other index.newest.items slot s (length index.older.items + 1) 0 other
        ∙ is.newest s below
        ∙ (let other_slot : slot_of (slots_of index) d ≢ s = λ e. other (sym e ∙ sym at) in grind (arith, nat_tests, other_slot))

-- after the newest place was taken away
pub popped : (index new : PlaceIndex) (d slot older : ℕ) (rest : List ℕ) (ds : List ℕ) → IsIndexOf index (d ∷ ds) → slot ≡ slot_of (slots_of index) d → slot < slots_of index →
    new.newest.items ≡ slice_set index.newest.items slot older → index.older.items ≡ rest ++ (older ∷ []) → new.older.items ≡ rest → IsIndexOf new ds
popped index new d slot older rest ds is at within newest split left =
    let long : slots_of new ≡ slots_of index = ap length newest ∙ length-set index.newest.items slot older in
    let count : length rest ≡ length ds = (let c = is.count in let l = ap length split ∙ length-append rest (older ∷ []) in omega (arith, c, l)) in
    let was : older ≡ last_in (slots_of index) slot ds =
    sym (get_or-append_seam rest older [] 0) ∙ ap (λ (n : ℕ). get_or (rest ++ (older ∷ [])) n 0) count
    ∙ ap (λ (xs : List ℕ). get_or xs (length ds) 0) (sym split) ∙ is.older.0 ∙ ap (λ (n : ℕ). last_in (slots_of index) n ds) (sym at) in
    let P : ℕ → Type 0 = λ n. AreOlder n new.older.items ds in
    let Q : ℕ → Type 0 = λ n. (s : ℕ) → s < slots_of index → get_or new.newest.items s 0 ≡ last_in n s ds in
    let tells : (s : ℕ) → s < slots_of index → get_or new.newest.items s 0 ≡ last_in (slots_of index) s ds =
    λ s below. ap (λ (xs : List ℕ). get_or xs s 0) newest ∙ told was s below (cases_eq s slot) in
    let kept : (k : ℕ) → k < length ds → get_or new.older.items k 0 ≡ get_or index.older.items k 0 =
    λ k below. ap (λ (xs : List ℕ). get_or xs k 0) left ∙ sym (get_or-append rest (older ∷ []) 0 k (omega (arith, below, count))) ∙ ap (λ (xs : List ℕ). get_or xs k 0) (sym split) in
    record {
      has_slots = (let some = is.has_slots.0 in let most = is.has_slots.1 in (omega (arith, long, some), omega (arith, long, most)));
      count = ap length left ∙ count;
      newest = λ s below. subst Q (sym long) tells s (omega (arith, below, long));
      older = subst P (sym long) (older-same (slots_of index) index.older.items new.older.items ds kept is.older.1);
    }
  where
    told : older ≡ last_in (slots_of index) slot ds → (s : ℕ) → s < slots_of index → (s ≡ slot) ⊎ (s ≢ slot) → get_or (slice_set index.newest.items slot older) s 0 ≡ last_in (slots_of index) s ds
    told was s below (inl same) = get_or-set_at index.newest.items slot s older 0 same within ∙ was ∙ ap (λ (n : ℕ). last_in (slots_of index) n ds) (sym same)
    told was s below (inr other) =
        get_or-set_other index.newest.items slot s older 0 other
        ∙ is.newest s below
        ∙ (let other_slot : slot_of (slots_of index) d ≢ s = λ e. other (sym e ∙ sym at) in grind (arith, nat_tests, other_slot))

-- each number tells of older places than its own
older-below : (slots : ℕ) (older : List ℕ) (ds : List ℕ) (n : ℕ) → AreOlder slots older ds → n < length ds → get_or older n 0 ≤ n
older-below slots older [] n are below = absurd (omega (arith, below))
older-below slots older (d ∷ ds) n are below = by_place (λ before. older-below slots older ds n are.1 before) (cases_eq n (length ds))
  where
    by_place : (n < length ds → get_or older n 0 ≤ n) → (n ≡ length ds) ⊎ (n ≢ length ds) → get_or older n 0 ≤ n
    by_place rest (inl last) =
        let here = ap (λ (k : ℕ). get_or older k 0) last ∙ are.0 in
        let within = last_in-within slots (slot_of slots d) ds in
        omega (arith, here, within, last)
    by_place rest (inr before) = rest (omega (arith, below, before))

-- the chains of an index go down
pub goes-down : (index : PlaceIndex) (ds : List ℕ) → IsIndexOf index ds → GoesDown index
goes-down index ds is = record {
  newest = λ s below. (let n = is.newest s below in let w = last_in-within (slots_of index) s ds in let c = is.count in omega (arith, n, w, c));
  older = λ n below. older-below (slots_of index) index.older.items ds n is.older (let c = is.count in omega (arith, below, c));
}
