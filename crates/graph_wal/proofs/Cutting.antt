-- A log whose rest is cut off before it is adopted.
use Rattle.std.proofs.Common.{◌≡◌, ℕ, List, length, take, sym, ◌∙◌, ap, subst, inl, inr, arith, None, Some, Option}
use Rattle.std.specs.Prelude.{IfSome}
use Rattle.std.proofs.lemmas.Bool.{cases_lt}
use Rattle.std.proofs.lemmas.List.{length-take-le}
use Rattle.graph_model.specs.declared.record.Record.{Record}
use Rattle.disk_model.specs.Images.{CutShort, Only, ToldBy, EachImage}
use Rattle.group_codec.specs.Log.{Recovers}
use Rattle.graph_wal.specs.Since.{Since}
use Rattle.graph_wal.specs.Log.{RecoversTo, IsClosed}
use Rattle.graph_wal.proofs.Logs.{recovers-closed, closed-recovers, front-closed, closed-long}
use Rattle.graph_wal.proofs.Moments.{SameFront-cut}
use Rattle.graph_wal.proofs.Standing.{take-front}

-- what is cut at its gate recovers to the same, and has no rest
pub cut-log : (t t' : Option (List ℕ)) (n : ℕ) (r : List Record) → IfSome t (λ b. Recovers b r n) → ToldBy (λ old new. new ≡ take n old) t t' → IfSome t' (λ b. Recovers b r n × (length b ≡ n))
cut-log None None n r is cut = tt
cut-log None (Some b') n r is cut = absurd cut
cut-log (Some b) None n r is cut = absurd cut
cut-log (Some b) (Some b') n r is cut =
    let log = recovers-closed r n b is in
    let closed : IsClosed log.0 b' = subst (λ (l : List ℕ). IsClosed log.0 l) (sym cut) (front-closed log.0 n b (take n b) log.1.place log.2 (take-front n b)) in
    (closed-recovers log.0 r n b' log.1 closed, ap length cut ∙ length-take-le n b (omega (arith, log.1.place, closed-long log.0 b log.2)))

-- and so does what a crash leaves of the cut
pub cut-recovers : (t : Option (List ℕ)) (n : ℕ) (r : List Record) (left : List ℕ → Type 0) (P : Type 0) → IfSome t (λ b. Only b left × Recovers b r n) → (((c : List ℕ) → (d : List ℕ) × left d × CutShort n d c → RecoversTo r c) → P) → IfSome t (λ _. P)
cut-recovers None n r left P firm use_it = tt
cut-recovers (Some b) n r left P firm use_it =
    use_it (λ c is.
    let log = recovers-closed r n b firm.1 in
    let closed : IsClosed log.0 is.0 = subst (λ (l : List ℕ). IsClosed log.0 l) (sym (firm.0 is.0 is.1)) log.2 in
    (n, closed-recovers log.0 r n c log.1 (front-closed log.0 n is.0 c log.1.place closed (SameFront-cut n n is.0 c (omega arith) is.2))))

-- what each image has since an earlier moment
pub each-on : {D : Type 0} (moment : D → ℕ) (images : D → ℕ → List ℕ → Type 0) (old new : D) (from : ℕ) (P Q : List ℕ → Type 0) → ((c : List ℕ) → Q c → P c) → EachImage moment images old from (λ _ c. P c) → Since moment images old new Q → EachImage moment images new from (λ _ c. P c)
each-on moment images old new from P Q more each since = λ m c from_on until left. elim (cases_lt m (moment old)) [
  | inl earlier ↦ each m c from_on (omega arith) (since.before m c earlier left)
  | inr during ↦ more c (since.each m c during until left)
]
