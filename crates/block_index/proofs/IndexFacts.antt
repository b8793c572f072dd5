-- When an index may be changed and asked, and which changes of entries leave it one of them.
use Rattle.std.proofs.Common.{◌≡◌, ℕ, ◌+◌, ◌^◌, ◌<◌, ◌≤◌, Bool, true, false, List, [], ◌∷◌, length, get_or, refl, sym, ap, subst, ◌∙◌, arith, Option, Some, None}
use Rattle.std.specs.Global.{Box}
use Rattle.std.specs.Prelude.{IfSome, MatchOption, ◌==◌, if◌then◌else◌}
use Rattle.stamps.specs.declared.stamp.Stamp.TheVariants.{By}
use Rattle.std.proofs.lemmas.List.{length-map}
use Rattle.edge_log.specs.Entries.{Entry, converted, cleared, payload_sum}
use Rattle.edge_log.specs.Places.{ended_at}
use Rattle.place_index.specs.declared.place_index.PlaceIndex.{PlaceIndex}
use Rattle.place_index.specs.Chains.{IsIndexOf, HasSlots, GoesDown, places_of}
use Rattle.place_index.proofs.IndexLemmas.{goes-down}
use Rattle.block_index.specs.declared.entry_index.EntryIndex.{EntryIndex}
use Rattle.block_index.specs.declared.notes.Notes.{Notes}
use Rattle.block_index.specs.Noted.{destinations, IsIndexed, TellProps, AreNoted, HasRoomFor, MayNote}
use Rattle.block_index.specs.Indexed.{least_indexed, Indexes, HasRoom, MayPush, MayTakeBack, MayFind}

-- it has as many places as there are entries
counted : (places : PlaceIndex) (xs : List Entry) → IsIndexed places xs → places_of places ≡ length xs
counted places xs is = places.older.ok.0 ∙ is.count ∙ length-map xs (λ (x : Entry). x.d)

pub may-push : (index : EntryIndex) (n : ℕ) (xs : List Entry) → Indexes index xs → HasRoom n index → length xs < n → length xs + 1 < 2 ^ 32 → MayPush index
may-push index n xs is room within few = by_notes index.notes is room
  where
    by_notes : (o : Option (Box Notes)) → IfSome o (λ notes. AreNoted notes.value xs) → MatchOption o (n < least_indexed) (λ notes. HasRoomFor n notes.value) →
        IfSome o (λ notes. MayNote notes.value)
    by_notes None is room = tt
    by_notes (Some notes) is room = let c = counted notes.value.places xs is.places in let p = is.props.0 in let l = notes.value.props.ok.0 in let r = room.0 in let q = room.1 in record { slots = is.places.has_slots; places = omega (arith, c, r, within); few = omega (arith, c, few); props = omega (arith, p, l, q, within) }

pub may-take-back : (index : EntryIndex) (xs : List Entry) → Indexes index xs → MayTakeBack index
may-take-back index xs is = by_notes index.notes is
  where
    by_notes : (o : Option (Box Notes)) → IfSome o (λ notes. AreNoted notes.value xs) → IfSome o (λ notes. HasSlots notes.value.places)
    by_notes None is = tt
    by_notes (Some notes) is = is.places.has_slots

pub may-find : (index : EntryIndex) (n : ℕ) (xs : List Entry) → Indexes index xs → length xs ≡ n → MayFind n index
may-find index n xs is long = by_notes index.notes is
  where
    by_notes : (o : Option (Box Notes)) → IfSome o (λ notes. AreNoted notes.value xs) → IfSome o (λ notes. HasSlots notes.value.places × GoesDown notes.value.places × (places_of notes.value.places ≡ n) × (length notes.value.props.items ≡ n))
    by_notes None is = tt
    by_notes (Some notes) is = (is.places.has_slots, goes-down notes.value.places (destinations xs) is.places, counted notes.value.places xs is.places ∙ long, is.props.0 ∙ long)

-- Entries are the same but for their stamps.
abbrev pub Alike : List Entry → List Entry → Type 0
Alike [] [] = Unit {0}
Alike [] (y ∷ ys) = ⊥
Alike (x ∷ xs) [] = ⊥
Alike (x ∷ xs) (y ∷ ys) = (x.d ≡ y.d) × (x.p ≡ y.p) × Alike xs ys

alike-destinations : (xs ys : List Entry) → Alike xs ys → destinations xs ≡ destinations ys
alike-destinations [] [] alike = refl
alike-destinations [] (y ∷ ys) alike = absurd alike
alike-destinations (x ∷ xs) [] alike = absurd alike
alike-destinations (x ∷ xs) (y ∷ ys) alike =
    ap (λ (d : ℕ). d ∷ destinations xs) alike.0 ∙ ap (λ (ds : List ℕ). y.d ∷ ds) (alike-destinations xs ys alike.2)

alike-length : (xs ys : List Entry) → Alike xs ys → length xs ≡ length ys
alike-length [] [] alike = refl
alike-length [] (y ∷ ys) alike = absurd alike
alike-length (x ∷ xs) [] alike = absurd alike
alike-length (x ∷ xs) (y ∷ ys) alike = let rest = alike-length xs ys alike.2 in omega (arith, rest)

alike-sum : (xs ys : List Entry) → Alike xs ys → payload_sum xs ≡ payload_sum ys
alike-sum [] [] alike = refl
alike-sum [] (y ∷ ys) alike = absurd alike
alike-sum (x ∷ xs) [] alike = absurd alike
alike-sum (x ∷ xs) (y ∷ ys) alike = let rest = alike-sum xs ys alike.2 in let here = ap length alike.1 in omega (arith, rest, here)

alike-tell : (props : List ℕ) (xs ys : List Entry) → Alike xs ys → TellProps props xs → TellProps props ys
alike-tell props [] [] alike tell = tt
alike-tell props [] (y ∷ ys) alike tell = absurd alike
alike-tell props (x ∷ xs) [] alike tell = absurd alike
alike-tell props (x ∷ xs) (y ∷ ys) alike tell =
    (ap (λ (n : ℕ). get_or props n 0) (sym (alike-length xs ys alike.2)) ∙ tell.0 ∙ alike-sum xs ys alike.2, alike-tell props xs ys alike.2 tell.1)

-- an index of entries is one of others that are the same but for their stamps
pub same-entries : (index : EntryIndex) (xs ys : List Entry) → Alike xs ys → Indexes index xs → Indexes index ys
same-entries index xs ys alike is = by_notes index.notes is
  where
    by_notes : (o : Option (Box Notes)) → IfSome o (λ notes. AreNoted notes.value xs) → IfSome o (λ notes. AreNoted notes.value ys)
    by_notes None is = tt
    by_notes (Some notes) is = record {
      places = subst (λ (ds : List ℕ). IsIndexOf notes.value.places ds) (alike-destinations xs ys alike) is.places;
      props = (is.props.0 ∙ alike-length xs ys alike, alike-tell notes.value.props.items xs ys alike is.props.1);
    }

alike-same : (xs : List Entry) → Alike xs xs
alike-same [] = tt
alike-same (x ∷ xs) = (refl, refl, alike-same xs)

pub alike-converted : (t e : ℕ) (xs : List Entry) → Alike xs (converted t e xs)
alike-converted t e [] = tt
alike-converted t e (x ∷ xs) = (refl, refl, alike-converted t e xs)

pub alike-cleared : (t : ℕ) (xs : List Entry) → Alike xs (cleared t xs)
alike-cleared t [] = tt
alike-cleared t (x ∷ xs) = (refl, refl, alike-cleared t xs)

pub alike-ended : (xs : List Entry) (n t : ℕ) → Alike xs (ended_at xs n t)
alike-ended [] n t = tt
alike-ended (x ∷ xs) n t = by_place (n == length xs) (alike-ended xs n t)
  where
    by_place : (b : Bool) → Alike xs (ended_at xs n t) → Alike (x ∷ xs) (if b then record x { ended = By t } ∷ xs else x ∷ ended_at xs n t)
    by_place true rest = (refl, refl, alike-same xs)
    by_place false rest = (refl, refl, rest)

-- room for some is room for fewer
pub has-room-less : (index : EntryIndex) (m n : ℕ) → m ≤ n → HasRoom n index → HasRoom m index
has-room-less index m n fewer room = by_notes index.notes room
  where
    by_notes : (o : Option (Box Notes)) → MatchOption o (n < least_indexed) (λ notes. HasRoomFor n notes.value) → MatchOption o (m < least_indexed) (λ notes. HasRoomFor m notes.value)
    by_notes None room = omega (arith, room, fewer)
    by_notes (Some notes) room = (let r = room.0 in let q = room.1 in (omega (arith, r, fewer), omega (arith, q, fewer)))
