-- What a crash may leave, over the calls that open a run.
use Rattle.std.proofs.Common.{◌≡◌, ℕ, ◌<◌, List, length, refl, sym, ap, ◌∙◌, subst, inl, inr, arith, Option, Some, None}
use Rattle.std.specs.Prelude.{IfSome}
use Rattle.std.proofs.lemmas.Bool.{cases_lt}
use Rattle.graph_model.specs.declared.record.Record.{Record}
use Rattle.disk_model.specs.Images.{Only, NoneNew, Stays, StillTells, EachImage}
use Rattle.group_codec.specs.Log.{Recovers}
use Rattle.group_codec.proofs.Readings.{one-list}
use Rattle.graph_wal.specs.Log.{RecoversTo}
use Rattle.log_commands.specs.declared.status.Status.{Status}
use Rattle.run_opening.specs.Moments.{RecoversAs, TellsNoRest, KeepsImages, KeepsRecords, IsSettledTo}
use Rattle.run_opening.specs.Opening.{IsKept}

-- a log that is told without a rest has no byte behind its durable length
pub whole-uncut : (t : Option (List ℕ)) (records : List Record) (durable size : ℕ) → IfSome t (λ b. Recovers b records durable × (size ≡ length b)) → TellsNoRest t → size ≡ durable
whole-uncut None records durable size is whole = absurd whole.1
whole-uncut (Some b) records durable size is whole =
    let one = one-list b records whole.0 durable (length b) is.0 whole.1 in
    is.1 ∙ sym one.1

-- what holds where the bytes are told still does after calls that tell them still
pub told-two : (t t' t'' : Option (List ℕ)) (A B : Type 0) → t' ≡ t → StillTells t' t'' → IfSome t (λ _. A) → (A → IfSome t' (λ _. B)) → IfSome t'' (λ _. B)
told-two t t' None A B same tells a more = tt
told-two t None (Some d) A B same tells a more = absurd tells
told-two None (Some c) (Some d) A B same tells a more = cc
told-two (Some b) (Some c) (Some d) A B same tells a more = more a

-- parts of what a firm log is
pub firm-recovers : (t : Option (List ℕ)) (left : List ℕ → Type 0) (r : List Record) (n size : ℕ) → IfSome t (λ b. Only b left × Recovers b r n × (size ≡ length b)) → IfSome t (λ b. Recovers b r n)
firm-recovers None left r n size firm = tt
firm-recovers (Some b) left r n size firm = firm.1

pub firm-both : (t : Option (List ℕ)) (left : List ℕ → Type 0) (r : List Record) (n size : ℕ) → IfSome t (λ b. Only b left × Recovers b r n × (size ≡ length b)) → IfSome t (λ b. Only b left × Recovers b r n)
firm-both None left r n size firm = tt
firm-both (Some b) left r n size firm = (firm.0, firm.1)

pub firm-cut : (t : Option (List ℕ)) (left : List ℕ → Type 0) (r : List Record) (n : ℕ) → IfSome t (λ b. Only b left) → IfSome t (λ b. Recovers b r n × (length b ≡ n)) → IfSome t (λ b. Only b left × Recovers b r n × (length b ≡ n))
firm-cut None left r n only log = tt
firm-cut (Some b) left r n only log = (only, log.0, log.1)

-- a log that was recovered from bytes that stayed is firm with them
pub firm-log : (t t' : Option (List ℕ)) (left : List ℕ → Type 0) (r : List Record) (n size : ℕ) → t' ≡ t → IfSome t' (λ b. Only b left) → IfSome t (λ b. Recovers b r n × (size ≡ length b)) → IfSome t' (λ b. Only b left × Recovers b r n × (size ≡ length b))
firm-log t None left r n size same only log = tt
firm-log None (Some c) left r n size same only log = cc
firm-log (Some b) (Some c) left r n size same only log =
    let is : b ≡ c = cc in
    (only, subst (λ (l : List ℕ). Recovers l r n) is log.0, log.1 ∙ ap length is)

-- a log that was recovered recovers to its records
pub log-was : (t : Option (List ℕ)) (r : List Record) (n size : ℕ) → IfSome t (λ b. Recovers b r n × (size ≡ length b)) → IfSome t (RecoversTo r)
log-was None r n size log = tt
log-was (Some b) r n size log = (n, log.0)

module _ {D : Type 0} (told : D → Option (List ℕ)) (moment : D → ℕ) (images : D → ℕ → List ℕ → Type 0) where
  -- what holds of each image now holds of each from now on
  pub EachImage-now : (d : D) (P : List ℕ → Type 0) → ((c : List ℕ) → images d (moment d) c → P c) → EachImage moment images d (moment d) (λ _ c. P c)
  EachImage-now d P now m c since until left = let here : m ≡ moment d = omega arith in now c (subst (λ (k : ℕ). images d k c) here left)

  -- images that could be left at the beginning recover to what such images do
  pub images-records : (old new : D) → KeepsImages moment images old new → KeepsRecords told moment images old new
  images-records old new keeps = each (told old)
    where
      each : (t : Option (List ℕ)) → IfSome t (λ _. EachImage moment images new (moment old) (λ _ c. (d : List ℕ) × images old (moment old) d × RecoversAs d c))
      each None = tt
      each (Some b) = λ m c since until left. (c, keeps m c since until left, inl refl)

  -- a disk that was not cut is kept, whatever the status
  pub kept-uncut : (old new : D) (s : Status) → told new ≡ told old → KeepsImages moment images old new → IsKept told moment images old new s
  kept-uncut old new s same keeps = record { records = images-records old new keeps; whole = λ whole. keeps; untouched = λ uncut. (same, keeps) }

  -- a firm log stays firm over a call that changes nothing
  pub Only-stays : (mid new : D) → told new ≡ told mid → Stays (moment mid) (moment new) (images mid) (images new) → IfSome (told mid) (λ b. Only b (images mid (moment mid))) → IfSome (told new) (λ b. Only b (images new (moment new)))
  Only-stays mid new same stays firm = only (told mid) (told new) same firm
    where
      only : (t t' : Option (List ℕ)) → t' ≡ t → IfSome t (λ b. Only b (images mid (moment mid))) → IfSome t' (λ b. Only b (images new (moment new)))
      only t None is firm = tt
      only None (Some c) is firm = cc
      only (Some b) (Some c) is firm = λ d left.
          let at : images new (moment mid) d = subst (λ (k : ℕ). images new k d) stays.same left in
          let was : d ≡ b = firm d (stays.no_more (moment mid) d at) in
          cc

  -- settled to records, so that each image from then on recovers to them
  pub settled-each : (old : D) (r : List Record) (A : Type 0) → IsSettledTo told moment images old r → (EachImage moment images old (moment old) (λ _ c. RecoversTo r c) → A) → IfSome (told old) (λ _. A)
  settled-each old r A settled more = go (told old) settled
    where
      go : (t : Option (List ℕ)) → IfSome t (λ _. (c : List ℕ) → images old (moment old) c → RecoversTo r c) → IfSome t (λ _. A)
      go None is = tt
      go (Some b) is = more (EachImage-now old (λ c. RecoversTo r c) is)

  -- A firm log was cut: what a crash leaves since the beginning could be left then, or recovers to the records of
  -- what a read gave then.
  pub cut-records : (old mid new : D) (r : List Record) (n size : ℕ) → told mid ≡ told old → ((b : List ℕ) → told old ≡ Some b → images old (moment old) b) → KeepsImages moment images old mid →
      IfSome (told mid) (λ b. Only b (images mid (moment mid)) × Recovers b r n × (size ≡ length b)) →
      ((from : ℕ) → EachImage moment images mid from (λ _ c. RecoversTo r c) → IfSome (told mid) (λ _. EachImage moment images new from (λ _ c. RecoversTo r c))) →
      ((m : ℕ) → m < moment mid → NoneNew (images mid m) (images new m)) → KeepsRecords told moment images old new
  cut-records old mid new r n size same back keeps firm cut more = go (told old) (told mid) same back firm (cut (moment mid))
    where
      go : (t t' : Option (List ℕ)) → t' ≡ t → ((b : List ℕ) → t ≡ Some b → images old (moment old) b) →
          IfSome t' (λ b. Only b (images mid (moment mid)) × Recovers b r n × (size ≡ length b)) →
          (EachImage moment images mid (moment mid) (λ _ c. RecoversTo r c) → IfSome t' (λ _. EachImage moment images new (moment mid) (λ _ c. RecoversTo r c))) →
          IfSome t (λ _. EachImage moment images new (moment old) (λ _ c. (d : List ℕ) × images old (moment old) d × RecoversAs d c))
      go None t' is back firm cut = tt
      go (Some b) None is back firm cut = cc
      go (Some b) (Some b') is back firm cut = λ m c since until left.
          let now : (c : List ℕ) → images mid (moment mid) c → RecoversTo r c = λ c left. subst (λ (l : List ℕ). RecoversTo r l) (sym (firm.0 c left)) (n, firm.1) in
          let each = cut (EachImage-now mid (λ c. RecoversTo r c) now) in
          elim (cases_lt m (moment mid)) [
            | inl earlier ↦ (c, keeps m c since (omega arith) (more m earlier c left), inl refl)
            | inr late ↦ (b', back b' (sym is), inr (r, (n, firm.1), each m c late until left))
          ]
