-- What a chain finds, entry by entry.
use Rattle.std.proofs.Common.{◌≡◌, ◌≢◌, ℕ, ◌+◌, ◌<◌, Bool, true, false, List, [], ◌∷◌, length, get_or, refl, sym, ap, ◌∙◌, subst, arith, Option, Some, None}
use Rattle.std.specs.Prelude.{◌==◌, ◌&&◌, if◌then◌else◌, IfSome}
use Rattle.std.proofs.lemmas.Bool.{eqb-true}
use Rattle.std.proofs.lemmas.Bool.Decides.{nat_tests}
use Rattle.std.proofs.lemmas.List.{length-map}
use Rattle.stamps.specs.Stamps.{Reader}
use Rattle.edge_log.specs.Entries.{Entry, visible}
use Rattle.edge_log.specs.Places.{entry_at, newest_place, oldest}
use Rattle.edge_log.proofs.PlaceLemmas.{entry_at-within, oldest_all}
use Rattle.tel_entry.specs.declared.entry.Entry.{Entry as RawEntry}
use Rattle.tel_entry.specs.RawStamps.{raw_visible}
use Rattle.block_layout.specs.Rows.{raw_entry, HasRow}
use Rattle.block_reading.proofs.NewestLemmas.{visible-raw}
use Rattle.place_index.specs.Slots.{slot_of}
use Rattle.place_index.specs.declared.place_index.PlaceIndex.{PlaceIndex}
use Rattle.place_index.specs.Chains.{last_in, place_up_to, slots_of, AreOlder}
use Rattle.block_layout.specs.Blocks.{HoldsEntries}
use Rattle.block_index.specs.Noted.{destinations}

-- how many places a chain can still come to
abbrev pub left_from : Option ℕ → ℕ
left_from None = 0
left_from (Some p) = p + 1

-- The chain goes on at the newest of these entries, and what is looked for is among them.
pub record GoesOn (start : ℕ) (block : List ℕ) (index : PlaceIndex) (next : Option ℕ) (d e : ℕ) (who : Reader) (xs : List Entry) : Type 0 where
  pub ys : List Entry
  pub held : HoldsEntries start ys block
  pub older : AreOlder (slots_of index) index.older.items (destinations ys)
  pub next_is : next ≡ place_up_to (last_in (slots_of index) (slot_of (slots_of index) d) (destinations ys))
  pub same : newest_place ys d e who ≡ newest_place xs d e who

pub up_to-some : (n p : ℕ) → place_up_to n ≡ Some p → n ≡ p + 1
up_to-some n p is = grind (arith, nat_tests, is)

pub up_to-none : (n : ℕ) → place_up_to n ≡ None → n ≡ 0
up_to-none n is = grind (arith, nat_tests, is)

-- What stands at the place to which a chain came, and where it goes on.
pub record Stands (slots d : ℕ) (older : List ℕ) (p e : ℕ) (who : Reader) (ys : List Entry) : Type 0 where
  pub x : Entry
  pub at : entry_at ys p ≡ Some x
  pub choice : newest_place ys d e who ≡ (if visible x e who && x.d == d then Some p else newest_place (oldest p ys) d e who)
  pub next : get_or older p 0 ≡ last_in slots (slot_of slots d) (destinations (oldest p ys))
  pub rest : AreOlder slots older (destinations (oldest p ys))

other_slot : (slots c d : ℕ) → (slot_of slots c == slot_of slots d) ≡ false → c ≢ d
other_slot slots c d is same = let e : slot_of slots c ≡ slot_of slots d = ap (slot_of slots) same in grind (arith, nat_tests, is, e)

-- no destination of the slot, and so no entry
pub none-found : (slots d e : ℕ) (who : Reader) (ys : List Entry) → last_in slots (slot_of slots d) (destinations ys) ≡ 0 → newest_place ys d e who ≡ None
none-found slots d e who [] none = refl
none-found slots d e who (y ∷ ys) none = by_test (slot_of slots y.d == slot_of slots d) refl none (none-found slots d e who ys)
  where
    by_test : (b : Bool) → (slot_of slots y.d == slot_of slots d) ≡ b → (if b then length (destinations ys) + 1 else last_in slots (slot_of slots d) (destinations ys)) ≡ 0
        → (last_in slots (slot_of slots d) (destinations ys) ≡ 0 → newest_place ys d e who ≡ None) → newest_place (y ∷ ys) d e who ≡ None
    by_test true is none rest = absurd (omega (arith, none))
    by_test false is none rest =
        let other : y.d ≢ d = other_slot slots y.d d is in
        let gone = rest none in
        grind (arith, nat_tests, other, gone)

oldest-last : (y : Entry) (ys : List Entry) (p : ℕ) → p ≡ length ys → oldest p (y ∷ ys) ≡ ys
oldest-last y ys p last = let all = oldest_all ys p (omega (arith, last)) in grind (arith, nat_tests, last, all)

oldest-before : (y : Entry) (ys : List Entry) (p : ℕ) → p < length ys → oldest p (y ∷ ys) ≡ oldest p ys
oldest-before y ys p before = grind (arith, nat_tests, before)

entry_at-last : (y : Entry) (ys : List Entry) (p : ℕ) → p ≡ length ys → entry_at (y ∷ ys) p ≡ Some y
entry_at-last y ys p last = grind (arith, nat_tests, last)

entry_at-before : (y : Entry) (ys : List Entry) (p : ℕ) → p < length ys → entry_at (y ∷ ys) p ≡ entry_at ys p
entry_at-before y ys p before = grind (arith, nat_tests, before)

newest-last : (y : Entry) (ys : List Entry) (d e p : ℕ) (who : Reader) → p ≡ length ys →
    newest_place (y ∷ ys) d e who ≡ (if visible y e who && y.d == d then Some p else newest_place ys d e who)
newest-last y ys d e p who last = ap (λ (n : ℕ). if visible y e who && y.d == d then Some n else newest_place ys d e who) (sym last)

newest-other : (y : Entry) (ys : List Entry) (d e : ℕ) (who : Reader) → y.d ≢ d → newest_place (y ∷ ys) d e who ≡ newest_place ys d e who
newest-other y ys d e who other = grind (arith, nat_tests, other)

pub stands : (slots d : ℕ) (older : List ℕ) (p e : ℕ) (who : Reader) (ys : List Entry) → AreOlder slots older (destinations ys) → last_in slots (slot_of slots d) (destinations ys) ≡ p + 1 → Stands slots d older p e who ys
stands slots d older p e who [] are last = absurd (omega (arith, last))
stands slots d older p e who (y ∷ ys) are last = by_test (slot_of slots y.d == slot_of slots d) refl last (stands slots d older p e who ys are.1)
  where
    by_test : (b : Bool) → (slot_of slots y.d == slot_of slots d) ≡ b → (if b then length (destinations ys) + 1 else last_in slots (slot_of slots d) (destinations ys)) ≡ p + 1
        → (last_in slots (slot_of slots d) (destinations ys) ≡ p + 1 → Stands slots d older p e who ys) → Stands slots d older p e who (y ∷ ys)
    by_test true is last rest =
        let long = length-map ys (λ (x : Entry). x.d) in
        let here : p ≡ length ys = omega (arith, last, long) in
        let cut : oldest p (y ∷ ys) ≡ ys = oldest-last y ys p here in
        let slot : slot_of slots y.d ≡ slot_of slots d = eqb-true (slot_of slots y.d) (slot_of slots d) is in
        record {
          x = y;
          at = entry_at-last y ys p here;
          choice = newest-last y ys d e p who here ∙ ap (λ (zs : List Entry). if visible y e who && y.d == d then Some p else newest_place zs d e who) (sym cut);
          next = ap (λ (n : ℕ). get_or older n 0) (here ∙ sym long) ∙ are.0 ∙ ap (λ (s : ℕ). last_in slots s (destinations ys)) slot ∙ ap (λ (zs : List Entry). last_in slots (slot_of slots d) (destinations zs)) (sym cut);
          rest = subst (λ (zs : List Entry). AreOlder slots older (destinations zs)) (sym cut) are.1;
        }
    by_test false is last rest =
        let more = rest last in
        let before : p < length ys = entry_at-within ys p more.x more.at in
        let cut : oldest p (y ∷ ys) ≡ oldest p ys = oldest-before y ys p before in
        let other : y.d ≢ d = other_slot slots y.d d is in
        record {
          x = more.x;
          at = entry_at-before y ys p before ∙ more.at;
          choice = newest-other y ys d e who other ∙ more.choice ∙ ap (λ (zs : List Entry). if visible more.x e who && more.x.d == d then Some p else newest_place zs d e who) (sym cut);
          next = more.next ∙ ap (λ (zs : List Entry). last_in slots (slot_of slots d) (destinations zs)) (sym cut);
          rest = subst (λ (zs : List Entry). AreOlder slots older (destinations zs)) (sym cut) more.rest;
        }

-- the entry there is what is looked for
pub found : (slots d : ℕ) (older : List ℕ) (p e : ℕ) (who : Reader) (ys : List Entry) (raw : RawEntry) → (s : Stands slots d older p e who ys) → HasRow s.x → raw ≡ raw_entry s.x →
    raw.d ≡ d → raw_visible raw.created raw.ended e who ≡ true → newest_place ys d e who ≡ Some p
found slots d older p e who ys raw s has is same seen =
    let shown : visible s.x e who ≡ true = sym (visible-raw s.x raw e who has is) ∙ seen in
    let to : s.x.d ≡ d = ap (λ (r : RawEntry). r.d) (sym is) ∙ same in
    s.choice ∙ here s.x (newest_place (oldest p ys) d e who) shown to
  where
    here : (x : Entry) (rest : Option ℕ) → visible x e who ≡ true → x.d ≡ d → (if visible x e who && x.d == d then Some p else rest) ≡ Some p
    here x rest shown to = grind (arith, nat_tests, shown, to)

-- it is not, since it leads elsewhere
pub passed_other : (slots d : ℕ) (older : List ℕ) (p e : ℕ) (who : Reader) (ys : List Entry) (raw : RawEntry) → (s : Stands slots d older p e who ys) → raw ≡ raw_entry s.x →
    (raw.d ≡ d → ⊥) → newest_place (oldest p ys) d e who ≡ newest_place ys d e who
passed_other slots d older p e who ys raw s is other =
    let to : s.x.d ≡ d → ⊥ = λ same. other (ap (λ (r : RawEntry). r.d) is ∙ same) in
    sym (s.choice ∙ past s.x (newest_place (oldest p ys) d e who) to)
  where
    past : (x : Entry) (rest : Option ℕ) → (x.d ≡ d → ⊥) → (if visible x e who && x.d == d then Some p else rest) ≡ rest
    past x rest to = grind (arith, nat_tests, to)

-- it is not, since it is not seen
pub passed_unseen : (slots d : ℕ) (older : List ℕ) (p e : ℕ) (who : Reader) (ys : List Entry) (raw : RawEntry) → (s : Stands slots d older p e who ys) → HasRow s.x → raw ≡ raw_entry s.x →
    raw_visible raw.created raw.ended e who ≡ false → newest_place (oldest p ys) d e who ≡ newest_place ys d e who
passed_unseen slots d older p e who ys raw s has is unseen =
    let hidden : visible s.x e who ≡ false = sym (visible-raw s.x raw e who has is) ∙ unseen in
    sym (s.choice ∙ past s.x (newest_place (oldest p ys) d e who) hidden)
  where
    past : (x : Entry) (rest : Option ℕ) → visible x e who ≡ false → (if visible x e who && x.d == d then Some p else rest) ≡ rest
    past x rest hidden = grind (arith, nat_tests, hidden)

-- what is below a place that there is, is there
pub still-there : (next : Option ℕ) (p n : ℕ) → p < n → IfSome next (λ q. q < p) → IfSome next (λ q. q < n)
still-there None p n within below = tt
still-there (Some q) p n within below = omega (arith, within, below)
