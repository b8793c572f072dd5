-- What every image of a story recovers to, from the one relation over its calls.
use Rattle.std.proofs.Common.{◌≡◌, ℕ, zero, suc, ◌+◌, ◌<◌, ◌≤◌, true, false, List, [], ◌∷◌, ◌++◌, length, refl, sym, ◌∙◌, ap, subst, ◌⊎◌, inl, inr, arith}
use Rattle.std.specs.Prelude.{nat_le}
use Rattle.std.specs.List.{Contains}
use Rattle.std.proofs.lemmas.Bool.Decides.{nat_tests}
use Rattle.std.proofs.lemmas.List.{append-nil}
use Rattle.graph_model.specs.declared.record.Record.{Record}
use Rattle.graph_model.specs.Records.{Lawful, last_epoch}
use Rattle.disk_model.specs.Images.{EachImage}
use Rattle.disk_model.specs.Memory.{MemoryDisk, bytes_of, ImageAt}
use Rattle.group_commit.specs.Encoded.{Encoded}
use Rattle.group_commit.specs.Members.{records_at}
use Rattle.graph_wal.specs.Log.{RecoversTo}
use Rattle.graph_wal.specs.Appends.{durable_group, Tried, tried, first_records, durable_by, MayLeave}
use Rattle.graph_wal.specs.Story.{IsKnown}

-- the last epoch of a group is its own
last-own : (epoch : ℕ) (members : List Encoded) → last_epoch epoch (records_at epoch members) ≡ epoch
last-own epoch [] = refl
last-own epoch (m ∷ members) = last-own epoch members

pub last-of : (before epoch : ℕ) (members : List Encoded) → 0 < length members → last_epoch before (records_at epoch members) ≡ epoch
last-of before epoch [] some = absurd (omega arith)
last-of before epoch (m ∷ members) some = last-own epoch members

-- what the second group must be, behind the first
pub second-may : (first : List Encoded) (h : List Record) → 0 < length first → Lawful (records_at 1 first ++ h) → (2 ≡ last_epoch 0 (records_at 1 first ++ []) + 1) × Lawful ((records_at 1 first ++ []) ++ h)
second-may first h some lawful =
    let same = append-nil (records_at 1 first) in (
      sym (ap (λ (l : List Record). last_epoch 0 l + 1) same ∙ ap (λ (n : ℕ). n + 1) (last-of 0 1 first some)),
      subst (λ (l : List Record). Lawful (l ++ h)) (sym same) lawful,
    )

-- the one group that was tried
tried-one : (h g : List Record) (k j : ℕ) → j ≡ k → Contains (tried 1 h ∷ []) (tried k g) → (j ≡ 1) × (h ≡ g)
tried-one h g k j is (zero, within, same) = (is ∙ sym (ap (λ (x : Tried). x.behind) same), ap (λ (x : Tried). x.group) same)
tried-one h g k j is (suc i, within, same) = absurd (omega (arith, within))

by-none : (a b : ℕ) (h1 h3 : List Record) (m : ℕ) → m < a → m < b → durable_by m (durable_group h1 a ∷ durable_group h3 b ∷ []) ≡ 0
by-none a b h1 h3 m first second =
    let no : nat_le a m ≡ false = grind (arith, nat_tests) in
    let no' : nat_le b m ≡ false = grind (arith, nat_tests) in
    rw (no, no') refl

by-one : (a b : ℕ) (h1 h3 : List Record) (m : ℕ) → a ≤ m → m < b → durable_by m (durable_group h1 a ∷ durable_group h3 b ∷ []) ≡ 1
by-one a b h1 h3 m first second =
    let yes : nat_le a m ≡ true = grind (arith, nat_tests) in
    let no' : nat_le b m ≡ false = grind (arith, nat_tests) in
    rw (yes, no') refl

by-both : (a b : ℕ) (h1 h3 : List Record) (m : ℕ) → a ≤ m → b ≤ m → durable_by m (durable_group h1 a ∷ durable_group h3 b ∷ []) ≡ 2
by-both a b h1 h3 m first second =
    let yes : nat_le a m ≡ true = grind (arith, nat_tests) in
    let yes' : nat_le b m ≡ true = grind (arith, nat_tests) in
    rw (yes, yes') refl

-- what may be left while no group is durable, one, or both
left-none : (a b : ℕ) (h1 h2 h3 : List Record) (m : ℕ) (c : List ℕ) → m < a → m < b → MayLeave [] (durable_group h1 a ∷ durable_group h3 b ∷ []) (tried 1 h2 ∷ []) m c → RecoversTo [] c ⊎ RecoversTo h1 c
left-none a b h1 h2 h3 m c first second (inl (inl is)) = inl (subst (λ (k : ℕ). RecoversTo (first_records [] (durable_group h1 a ∷ durable_group h3 b ∷ []) k) c) (by-none a b h1 h3 m first second) is)
left-none a b h1 h2 h3 m c first second (inl (inr is)) =
    let none = by-none a b h1 h3 m first second in
    absurd (omega (arith, (tried-one h2 is.0 (durable_by m (durable_group h1 a ∷ durable_group h3 b ∷ [])) 0 (sym none) is.1).0))
left-none a b h1 h2 h3 m c first second (inr is) =
    inr (subst (λ (l : List Record). RecoversTo l c) (append-nil h1) (subst (λ (k : ℕ). RecoversTo (first_records [] (durable_group h1 a ∷ durable_group h3 b ∷ []) (k + 1)) c) (by-none a b h1 h3 m first second) is))

left-one : (a b : ℕ) (h1 h2 h3 : List Record) (m : ℕ) (c : List ℕ) → a ≤ m → m < b → MayLeave [] (durable_group h1 a ∷ durable_group h3 b ∷ []) (tried 1 h2 ∷ []) m c → RecoversTo h1 c ⊎ RecoversTo (h1 ++ h2) c ⊎ RecoversTo (h1 ++ h3) c
left-one a b h1 h2 h3 m c first second (inl (inl is)) =
    inl (subst (λ (l : List Record). RecoversTo l c) (append-nil h1) (subst (λ (k : ℕ). RecoversTo (first_records [] (durable_group h1 a ∷ durable_group h3 b ∷ []) k) c) (by-one a b h1 h3 m first second) is))
left-one a b h1 h2 h3 m c first second (inl (inr is)) =
    let one = by-one a b h1 h3 m first second in
    let same = (tried-one h2 is.0 (durable_by m (durable_group h1 a ∷ durable_group h3 b ∷ [])) 1 (sym one) is.1).1 in
    inr (inl (subst (λ (l : List Record). RecoversTo (l ++ h2) c) (append-nil h1)
    (subst (λ (g : List Record). RecoversTo ((h1 ++ []) ++ g) c) (sym same)
    (subst (λ (k : ℕ). RecoversTo (first_records [] (durable_group h1 a ∷ durable_group h3 b ∷ []) k ++ is.0) c) one is.2))))
left-one a b h1 h2 h3 m c first second (inr is) =
    inr (inr (subst (λ (l : List Record). RecoversTo (h1 ++ l) c) (append-nil h3) (subst (λ (k : ℕ). RecoversTo (first_records [] (durable_group h1 a ∷ durable_group h3 b ∷ []) (k + 1)) c) (by-one a b h1 h3 m first second) is)))

left-both : (a b : ℕ) (h1 h2 h3 : List Record) (m : ℕ) (c : List ℕ) → a ≤ m → b ≤ m → MayLeave [] (durable_group h1 a ∷ durable_group h3 b ∷ []) (tried 1 h2 ∷ []) m c → RecoversTo (h1 ++ h3) c
left-both a b h1 h2 h3 m c first second (inl (inl is)) =
    subst (λ (l : List Record). RecoversTo (h1 ++ l) c) (append-nil h3) (subst (λ (k : ℕ). RecoversTo (first_records [] (durable_group h1 a ∷ durable_group h3 b ∷ []) k) c) (by-both a b h1 h3 m first second) is)
left-both a b h1 h2 h3 m c first second (inl (inr is)) =
    let both = by-both a b h1 h3 m first second in
    absurd (omega (arith, (tried-one h2 is.0 (durable_by m (durable_group h1 a ∷ durable_group h3 b ∷ [])) 2 (sym both) is.1).0))
left-both a b h1 h2 h3 m c first second (inr is) =
    subst (λ (l : List Record). RecoversTo (h1 ++ l) c) (append-nil h3) (subst (λ (k : ℕ). RecoversTo (first_records [] (durable_group h1 a ∷ durable_group h3 b ∷ []) (k + 1)) c) (by-both a b h1 h3 m first second) is)

pub known : (disk : MemoryDisk) (made a b : ℕ) (h1 h2 h3 : List Record) → (made ≤ a) × (a ≤ b) × (b ≤ disk.moment) → EachImage (λ (d : MemoryDisk). d.moment) ImageAt disk made (MayLeave [] (durable_group h1 a ∷ durable_group h3 b ∷ []) (tried 1 h2 ∷ [])) → ((c : List ℕ) → ImageAt disk disk.moment c → c ≡ bytes_of disk) → IsKnown disk made a b h1 h2 h3
known disk made a b h1 h2 h3 order each firm = record {
  in_order = order;
  empty = λ m c since before left. left-none a b h1 h2 h3 m c before (omega (arith, order.1)) (each m c since (omega (arith, order.1, order.2)) left);
  one = λ m c since before left. left-one a b h1 h2 h3 m c since before (each m c (omega (arith, order.0)) (omega (arith, order.2)) left);
  both = λ m c since until left. left-both a b h1 h2 h3 m c (omega (arith, order.1)) since (each m c (omega (arith, order.0, order.1)) until left);
  settled = firm;
}
