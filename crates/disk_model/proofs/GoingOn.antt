-- Disks that go on by one call, and by one after another.
use Rattle.std.proofs.Common.{◌≡◌, ℕ, ◌<◌, ◌≤◌, List, refl, sym, arith, subst, inl, inr, Some, None, Option}
use Rattle.std.proofs.lemmas.Bool.{cases_lt}
use Rattle.io_edges.specs.Faults.{NeverFalls}
use Rattle.disk_model.specs.Images.{Passes, Stays, NoneNew, ToldBy, StillTells, GoesOn, EachImage}

-- a call that tells how the bytes went tells them still
pub tells-by : (t u : Option (List ℕ)) (step : List ℕ → List ℕ → Type 0) → ToldBy step t u → StillTells t u
tells-by None None step is = tt
tells-by None (Some c) step is = is
tells-by (Some b) None step is = is
tells-by (Some b) (Some c) step is = tt

pub tells-join : (t u v : Option (List ℕ)) → StillTells t u → StillTells u v → StillTells t v
tells-join None None v first second = second
tells-join None (Some c) v first second = absurd first
tells-join (Some b) None v first second = absurd first
tells-join (Some b) (Some c) None first second = absurd second
tells-join (Some b) (Some c) (Some d) first second = tt

-- so does one that leaves them as they were
pub tells-same : (t u : Option (List ℕ)) → u ≡ t → StillTells t u
tells-same None None is = tt
tells-same None (Some c) is = cc
tells-same (Some b) None is = cc
tells-same (Some b) (Some c) is = tt

module _ {D : Type 0} (told : D → Option (List ℕ)) (moment : D → ℕ) (images : D → ℕ → List ℕ → Type 0) (faults : D → ℕ) where
  -- no call
  pub GoesOn-same : (d : D) → GoesOn told moment images faults d d
  GoesOn-same d = record {
    tells = tells-same (told d) (told d) refl;
    later = omega arith;
    no_more = λ m earlier c left. left;
    no_less = λ m earlier c left. left;
    count = omega arith;
  }

  -- one run and then another
  pub GoesOn-join : (old mid new : D) → GoesOn told moment images faults old mid → GoesOn told moment images faults mid new → GoesOn told moment images faults old new
  GoesOn-join old mid new first second = record {
    tells = tells-join (told old) (told mid) (told new) first.tells second.tells;
    later = omega (arith, first.later, second.later);
    no_more = λ m earlier c left. first.no_more m earlier c (second.no_more m (omega (arith, first.later)) c left);
    no_less = λ m earlier c left. second.no_less m (omega (arith, first.later)) c (first.no_less m earlier c left);
    count = omega (arith, first.count, second.count);
  }

  -- one call that may change the disk
  pub GoesOn-passes : (old new : D) → StillTells (told old) (told new) → Passes (moment old) (moment new) (images old) (images new) → NeverFalls (faults old) (faults new) → GoesOn told moment images faults old new
  GoesOn-passes old new tells passes count = record {
    tells = tells;
    later = passes.later;
    no_more = λ m earlier. passes.no_more m (omega (arith, passes.later));
    no_less = λ m earlier. passes.no_less m (omega (arith, passes.later));
    count = count;
  }

  -- one call that changes nothing
  pub GoesOn-stays : (old new : D) → told new ≡ told old → Stays (moment old) (moment new) (images old) (images new) → NeverFalls (faults old) (faults new) → GoesOn told moment images faults old new
  GoesOn-stays old new tells stays count = record {
    tells = tells-same (told old) (told new) tells;
    later = omega (arith, stays.same);
    no_more = λ m earlier. stays.no_more m;
    no_less = λ m earlier. stays.no_less m;
    count = count;
  }

module _ {D : Type 0} (moment : D → ℕ) (images : D → ℕ → List ℕ → Type 0) where
  -- what each image has, after a call that changes nothing
  pub EachImage-stays : (old new : D) (from : ℕ) (P : ℕ → List ℕ → Type 0) → Stays (moment old) (moment new) (images old) (images new) → EachImage moment images old from P → EachImage moment images new from P
  EachImage-stays old new from P stays each = λ m c since until left. each m c since (omega (arith, stays.same)) (stays.no_more m c left)

  -- after one after which now a crash leaves what has it too
  pub EachImage-passes : (old new : D) (from : ℕ) (P : ℕ → List ℕ → Type 0) → Passes (moment old) (moment new) (images old) (images new) → EachImage moment images old from P → ((c : List ℕ) → images new (moment new) c → P (moment new) c) → EachImage moment images new from P
  EachImage-passes old new from P passes each now = λ m c since until left. elim (cases_lt m (moment new)) [
    | inl earlier ↦ each m c since (omega (arith, passes.next, passes.later)) (passes.no_more m earlier c left)
    | inr late ↦ let here : m ≡ moment new = omega arith in subst (λ (k : ℕ). P k c) (sym here) (now c (subst (λ (k : ℕ). images new k c) here left))
  ]
