-- The log that was opened, as the sessions of a run find it.
use Rattle.std.proofs.Common.{◌≡◌, ℕ, ◌<◌, ◌≤◌, Bool, true, false, List, [], ◌∷◌, ◌++◌, length, refl, sym, ap, ◌∙◌, subst, arith, Option, Some, None}
use Rattle.std.specs.Prelude.{IfSome}
use Rattle.graph_model.specs.declared.record.Record.{Record}
use Rattle.disk_model.specs.Images.{Only, StillTells, EachImage}
use Rattle.group_codec.specs.Log.{Recovers}
use Rattle.graph_wal.specs.Log.{RecoversTo, IsWhole}
use Rattle.graph_wal.specs.Log.{IsMended, HasNoRest}
use Rattle.graph_wal.specs.Appends.{HasAppended}
use Rattle.graph_wal.specs.declared.wal.Wal.{Wal}
use Rattle.graph_model.specs.declared.graph.Base.{Base}
use Rattle.graph_model.specs.Records.{Lawful}
use Rattle.graph_recover.specs.Bases.{base_of}
use Rattle.run_opening.specs.Moments.{IsSettledAsRead}
use Rattle.run_opening.specs.Opening.{IsOpened}
use Rattle.store_log.specs.LogChanges.{IsBaseOf}
use Rattle.store_log.specs.LogValues.{where_told}
use Rattle.store_log.specs.Written.{Origin}
use Rattle.graph_store.specs.Found.{IsFound}
use Rattle.run_ending.specs.Ending.{IsOrigin, since_of}
use Rattle.graph_wal.proofs.Logs.{whole}

-- what holds of a log that is firm
pub firm-recovers : (t : Option (List ℕ)) (left : List ℕ → Type 0) (r : List Record) (n : ℕ) → IfSome t (λ b. Only b left × Recovers b r n × (length b ≡ n)) → IfSome t (λ b. Recovers b r n)
firm-recovers None left r n firm = tt
firm-recovers (Some b) left r n firm = firm.1

pub firm-adopts : (t : Option (List ℕ)) (left : List ℕ → Type 0) (r : List Record) (n : ℕ) → IfSome t (λ b. Only b left × Recovers b r n × (length b ≡ n)) → IfSome t (λ b. Only b left × ((q : List Record) × Recovers b q n))
firm-adopts None left r n firm = tt
firm-adopts (Some b) left r n firm = (firm.0, (r, firm.1))

pub firm-whole : (t : Option (List ℕ)) (left : List ℕ → Type 0) (r : List Record) (n : ℕ) → IfSome t (λ b. Only b left × Recovers b r n × (length b ≡ n)) → IfSome t (λ b. length b ≡ n)
firm-whole None left r n firm = tt
firm-whole (Some b) left r n firm = firm.2

-- what is settled and has no rest is whole
pub settled-final : (t : Option (List ℕ)) (left : List ℕ → Type 0) (r : List Record) (n : ℕ) → IfSome t (λ b. Only b left × Recovers b r n) → IfSome t (λ b. length b ≡ n) → IfSome t (λ b. Only b left × IsWhole r b × (n ≡ length b))
settled-final None left r n settled long = tt
settled-final (Some b) left r n settled long = (settled.0, whole b r n settled.1 long, sym long)

module _ {D : Type 0} (told : D → Option (List ℕ)) (moment : D → ℕ) (images : D → ℕ → List ℕ → Type 0) where
  -- a firm log leaves its records from now on
  pub firm-each : (d : D) (r : List Record) (n : ℕ) → IfSome (told d) (λ b. Only b (images d (moment d)) × Recovers b r n × (length b ≡ n)) → IfSome (told d) (λ _. EachImage moment images d (moment d) (λ _ c. RecoversTo r c))
  firm-each d r n firm = go (told d) firm
    where
      go : (t : Option (List ℕ)) → IfSome t (λ b. Only b (images d (moment d)) × Recovers b r n × (length b ≡ n)) → IfSome t (λ _. EachImage moment images d (moment d) (λ _ c. RecoversTo r c))
      go None is = tt
      go (Some b) is = λ m c since until left.
          let here : m ≡ moment d = omega arith in
          let now : c ≡ b = is.0 c (subst (λ (k : ℕ). images d k c) here left) in
          subst (λ (l : List ℕ). RecoversTo r l) (sym now) (n, is.1)

  -- the moment since which a run speaks of images is none after that of the disk, and none before the entry
  pub since-now : (settled : Bool) (old d : D) → moment old ≤ moment d → since_of settled (moment old) (moment d) ≤ moment d
  since-now true old d later = later
  since-now false old d later = omega arith

  pub since-entry : (settled : Bool) (old d : D) → moment old ≤ moment d → moment old ≤ since_of settled (moment old) (moment d)
  since-entry true old d later = omega arith
  since-entry false old d later = later

  pub since-settled : (settled : Bool) (old d : D) → settled ≡ true → since_of settled (moment old) (moment d) ≡ moment old
  since-settled true old d is = refl
  since-settled false old d is = absurd (cc is)

  -- and since then a crash leaves the records
  pub since-leaves : (settled : Bool) (old d : D) (records : List Record) (base : Base) (durable : ℕ) → IsOpened told moment images old d records base durable → (settled ≡ true → IsSettledAsRead told moment images old)
      → IfSome (told d) (λ _. EachImage moment images d (since_of settled (moment old) (moment d)) (λ _ c. RecoversTo records c))
  since-leaves true old d records base durable o known = o.settled (known refl records o.was)
  since-leaves false old d records base durable o known = firm-each d records durable o.firm

  -- the log that is adopted is one that a store may be opened over
  base-found : (t : Option (List ℕ)) (records : List Record) (base : Base) → Lawful records → base ≡ base_of records → IsBaseOf base (where_told t records)
  base-found None records base lawful is = tt
  base-found (Some b) records base lawful is = (lawful, is)

  pub is-found : (old d : D) (wal : Wal D) (records : List Record) (base : Base) (durable : ℕ) (origin : Origin)
      → IsOpened told moment images old d records base durable → IsOrigin told moment images d records base origin
      → wal.disk ≡ d → wal.durable ≡ durable → IsMended wal
      → ((r : List Record) (from : ℕ) → IfSome (told d) (λ b. Recovers b r durable) → IfSome (told d) (λ _. EachImage moment images d from (λ _ c. RecoversTo r c)) → HasAppended told moment images wal from r [] [])
      → IsFound told moment images base wal origin
  is-found old d wal records base durable origin o from same long mended begun = record {
    begun = subst (λ (b : List Record). HasAppended told moment images wal origin.since b [] []) (sym from.base_is)
        (begun records origin.since (firm-recovers (told d) (images d (moment d)) records durable o.firm) from.leaves);
    mended = mended;
    epoch = sym from.epoch_is;
    base_is = subst (λ (b : List Record). IsBaseOf base (where_told (told wal.disk) b)) (sym from.base_is) (base-found (told wal.disk) records base o.lawful o.base_is);
    no_rest = λ _. subst (λ (x : D). IfSome (told x) (λ b. length b ≡ wal.durable)) (sym same)
        (subst (λ (n : ℕ). IfSome (told d) (λ b. length b ≡ n)) (sym long) (firm-whole (told d) (images d (moment d)) records durable o.firm));
    since = subst (λ (x : D). origin.since ≤ moment x) (sym same) from.since;
  }
