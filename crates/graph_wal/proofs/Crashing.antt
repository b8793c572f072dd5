-- What a crash may leave of a log, after one more call.
use Rattle.std.proofs.Common.{◌≡◌, ℕ, ◌+◌, ◌<◌, ◌≤◌, Bool, true, false, List, [], ◌∷◌, ◌++◌, length, refl, sym, ◌∙◌, ap, subst, ◌⊎◌, inl, inr, arith, append_assoc, length-append, cond, suc, Some, None, Option}
use Rattle.std.specs.Prelude.{IfSome, nat_le, flat_map}
use Rattle.std.specs.List.{Contains}
use Rattle.std.proofs.lemmas.Bool.{cases_lt}
use Rattle.std.proofs.lemmas.Bool.Decides.{nat_tests}
use Rattle.std.proofs.lemmas.List.{append-nil, take_all, take-append-le}
use Rattle.graph_model.specs.declared.record.Record.{Record}
use Rattle.group_codec.specs.Log.{log_head, Recovers}
use Rattle.disk_model.specs.Images.{Only, StillTells, EachImage}
use Rattle.graph_wal.specs.declared.wal.Attempt.{Attempt}
use Rattle.graph_wal.specs.declared.wal.Attempt.TheVariants as attempts
use Rattle.graph_wal.specs.declared.wal.Wal.{Wal}
use Rattle.graph_wal.specs.Since.{Since}
use Rattle.graph_wal.specs.Log.{RecoversTo, RecoversToEither, IsClosed, IsMended, IsSettled, Stands}
use Rattle.graph_wal.specs.Appends.{Durable, durable_group, Tried, tried, all_records, first_records, durable_by, AreDurableBy, HasFirst, MayLeave, HasAppended}
use Rattle.graph_wal.proofs.Logs.{closed-recovers, recovers-closed, staged-either, zero_shut}
use Rattle.graph_wal.proofs.Standing.{LogAs, without}
use Rattle.graph_wal.proofs.Writes.{IfSome-map}

-- what a crash now leaves of a log recovers to its records, with the attempt or without
log-now : (t : Option (List ℕ)) (n : ℕ) (x : Attempt) (r : List Record) (a : Option (List Record)) (left : List ℕ → Type 0) → LogAs t n x r a left → IfSome t (λ _. (c : List ℕ) → left c → RecoversToEither r a c)
log-now None n x r a left log = tt
log-now (Some b) n attempts.Mended r a left log =
    λ c is. without r a c (n, closed-recovers log.0 r n c log.1 (subst (λ (l : List ℕ). IsClosed log.0 l) (sym (log.2.1 c is)) log.2.0))
log-now (Some b) n attempts.Untouched r a left log = λ c is. without r a c (n, closed-recovers log.0 r n c log.1 (log.2 c is))
log-now (Some b) n attempts.Touched r None left log = absurd log.2
log-now (Some b) n attempts.Touched r (Some g) left log = λ c is. staged-either log.0 r g n c log.1 log.2.0 (log.2.1 c is)

-- the log without a group
pub made-as : (t : Option (List ℕ)) (left : List ℕ → Type 0) → IfSome t (λ b. b ≡ log_head ++ 0 ∷ []) → IfSome t (λ b. Only b left) → LogAs t 9 attempts.Mended [] None left
made-as None left is firm = tt
made-as (Some b) left is firm = (
  [],
  record {
    spelled = refl;
    lawful = record { epochs = refl; groups = refl; each = refl; numbers = refl; made = refl; made_once = refl; fit = refl; no_overlap = refl; lists = refl };
    all = refl;
    place = refl;
  },
  ((0, [], zero_shut, is), firm),
)

-- a log that a firm disk holds
pub adopted-as : (t : Option (List ℕ)) (n : ℕ) (r : List Record) (left : List ℕ → Type 0) → IfSome t (λ b. Only b left × ((q : List Record) × Recovers b q n)) → IfSome t (λ b. Recovers b r n) → LogAs t n attempts.Mended r None left
adopted-as None n r left firm is = tt
adopted-as (Some b) n r left firm is =
    let log = recovers-closed r n b is in
    (log.0, log.1, (log.2, firm.0))

pub settled-as : (t : Option (List ℕ)) (n : ℕ) (r : List Record) (a : Option (List Record)) (left : List ℕ → Type 0) → LogAs t n attempts.Mended r a left → IfSome t (λ b. Only b left × Recovers b r n)
settled-as None n r a left log = tt
settled-as (Some b) n r a left log = (log.2.1, closed-recovers log.0 r n b log.1 log.2.0)

-- LISTS of groups
durable_by-all : (m n : ℕ) (groups : List Durable) → AreDurableBy n groups → n ≤ m → durable_by m groups ≡ length groups
durable_by-all m n [] all later = refl
durable_by-all m n (g ∷ groups) all later =
    let yes : nat_le g.moment m ≡ true = grind (arith, nat_tests, all.0) in
    ap (λ (b : Bool). cond b 1 0 + durable_by m groups) yes ∙ ap (λ (k : ℕ). 1 + k) (durable_by-all m n groups all.1 later) ∙ (omega arith)

durable_by-le : (m : ℕ) (groups : List Durable) → durable_by m groups ≤ length groups
durable_by-le m [] = omega arith
durable_by-le m (g ∷ groups) = one (nat_le g.moment m) (durable_by m groups) (length groups) (durable_by-le m groups) where
  one : (b : Bool) (j k : ℕ) → j ≤ k → cond b 1 0 + j ≤ suc k
  one true j k le = omega arith
  one false j k le = omega arith

durable_by-push : (m : ℕ) (groups : List Durable) (x : Durable) → durable_by m (groups ++ x ∷ []) ≡ durable_by m groups + cond (nat_le x.moment m) 1 0
durable_by-push m [] x = omega arith
durable_by-push m (g ∷ groups) x = ap (λ (k : ℕ). cond (nat_le g.moment m) 1 0 + k) (durable_by-push m groups x) ∙ (omega arith)

durable_by-before : (m : ℕ) (groups : List Durable) (x : Durable) → m < x.moment → durable_by m (groups ++ x ∷ []) ≡ durable_by m groups
durable_by-before m groups x before =
    let no : nat_le x.moment m ≡ false = grind (arith, nat_tests) in
    durable_by-push m groups x ∙ ap (λ (b : Bool). durable_by m groups + cond b 1 0) no ∙ (omega arith)

by-later : (m n : ℕ) (groups : List Durable) → m ≤ n → AreDurableBy m groups → AreDurableBy n groups
by-later m n [] later all = tt
by-later m n (g ∷ groups) later all = (omega (arith, all.0), by-later m n groups later all.1)

by-push : (m : ℕ) (groups : List Durable) (x : Durable) → AreDurableBy m groups → x.moment ≤ m → AreDurableBy m (groups ++ x ∷ [])
by-push m [] x all now = (now, tt)
by-push m (g ∷ groups) x all now = (all.0, by-push m groups x all.1 now)

flat-push : (groups : List Durable) (x : Durable) → flat_map (λ g. g.group) (groups ++ x ∷ []) ≡ flat_map (λ (g : Durable). g.group) groups ++ x.group
flat-push [] x = append-nil x.group
flat-push (g ∷ groups) x = ap (λ (l : List Record). g.group ++ l) (flat-push groups x) ∙ sym (append_assoc g.group (flat_map (λ (y : Durable). y.group) groups) x.group)

pub all-push : (base : List Record) (groups : List Durable) (x : Durable) → all_records base (groups ++ x ∷ []) ≡ all_records base groups ++ x.group
all-push base groups x =
    ap (λ (l : List Record). base ++ l) (flat-push groups x) ∙ sym (append_assoc base (flat_map (λ (y : Durable). y.group) groups) x.group)

first-all : (base : List Record) (groups : List Durable) (k : ℕ) → length groups ≤ k → first_records base groups k ≡ all_records base groups
first-all base groups k most = ap (λ (l : List Durable). all_records base l) (take_all k groups most)

first-push : (base : List Record) (groups : List Durable) (x : Durable) (k : ℕ) → k ≤ length groups → first_records base (groups ++ x ∷ []) k ≡ first_records base groups k
first-push base groups x k few = ap (λ (l : List Durable). all_records base l) (take-append-le k groups (x ∷ []) few)

contains-more : (failed : List Tried) (x y : Tried) → Contains failed y → Contains (x ∷ failed) y
contains-more failed x y is = (suc is.0, omega (arith, is.1), is.2)

contains-first : (failed : List Tried) (x : Tried) → Contains (x ∷ failed) x
contains-first failed x = (0, omega arith, refl)

-- WHAT a crash may leave, with one group more
has-push : (base : List Record) (groups : List Durable) (failed : List Tried) (x : Durable) (k : ℕ) (c : List ℕ) → k ≤ length groups → HasFirst base groups failed k c → HasFirst base (groups ++ x ∷ []) failed k c
has-push base groups failed x k c few (inl is) = inl (subst (λ (l : List Record). RecoversTo l c) (sym (first-push base groups x k few)) is)
has-push base groups failed x k c few (inr is) = inr (is.0, is.1, subst (λ (l : List Record). RecoversTo (l ++ is.0) c) (sym (first-push base groups x k few)) is.2)

-- and with one failed group more
has-more : (base : List Record) (groups : List Durable) (failed : List Tried) (x : Tried) (k : ℕ) (c : List ℕ) → HasFirst base groups failed k c → HasFirst base groups (x ∷ failed) k c
has-more base groups failed x k c (inl is) = inl is
has-more base groups failed x k c (inr is) = inr (is.0, contains-more failed x (tried k is.0) is.1, is.2)

may-more : (base : List Record) (groups : List Durable) (failed : List Tried) (x : Tried) (m : ℕ) (c : List ℕ) → MayLeave base groups failed m c → MayLeave base groups (x ∷ failed) m c
may-more base groups failed x m c (inl is) = inl (has-more base groups failed x (durable_by m groups) c is)
may-more base groups failed x m c (inr is) = inr is

-- all groups, with an attempt that was tried or without
has-all : (base : List Record) (groups : List Durable) (failed : List Tried) (a : Option (List Record)) (k : ℕ) (c : List ℕ) → k ≡ length groups → IfSome a (λ g. Contains failed (tried (length groups) g)) → RecoversToEither (all_records base groups) a c → HasFirst base groups failed k c
has-all base groups failed None k c is listed left = inl (subst (λ (l : List Record). RecoversTo l c) (sym (first-all base groups k (omega arith))) left)
has-all base groups failed (Some g) k c is listed (inl left) = inl (subst (λ (l : List Record). RecoversTo l c) (sym (first-all base groups k (omega arith))) left)
has-all base groups failed (Some g) k c is listed (inr left) =
    inr (g, subst (λ (j : ℕ). Contains failed (tried j g)) (sym is) listed, subst (λ (l : List Record). RecoversTo (l ++ g) c) (sym (first-all base groups k (omega arith))) left)

-- before the new group is durable
before-push : (base : List Record) (groups : List Durable) (failed : List Tried) (x : Durable) (m : ℕ) (c : List ℕ) → m < x.moment → MayLeave base groups failed m c → MayLeave base (groups ++ x ∷ []) failed m c
before-push base groups failed x m c before (inl is) =
    inl (subst (λ (k : ℕ). HasFirst base (groups ++ x ∷ []) failed k c) (sym (durable_by-before m groups x before)) (has-push base groups failed x (durable_by m groups) c (durable_by-le m groups) is))
before-push base groups failed x m c before (inr is) = elim (cases_lt (durable_by m groups) (length groups)) [
  | inl fewer ↦ inr (subst (λ (k : ℕ). RecoversTo (first_records base (groups ++ x ∷ []) (k + 1)) c) (sym (durable_by-before m groups x before))
      (subst (λ (l : List Record). RecoversTo l c) (sym (first-push base groups x (durable_by m groups + 1) (omega arith))) is))
  | inr all ↦
      let same : first_records base groups (durable_by m groups + 1) ≡ first_records base (groups ++ x ∷ []) (durable_by m groups) =
      first-all base groups (durable_by m groups + 1) (omega arith) ∙ sym (first-all base groups (durable_by m groups) all) ∙ sym (first-push base groups x (durable_by m groups) (durable_by-le m groups)) in
      inl (subst (λ (k : ℕ). HasFirst base (groups ++ x ∷ []) failed k c) (sym (durable_by-before m groups x before)) (inl (subst (λ (l : List Record). RecoversTo l c) same is)))
]

-- while it is appended, and all others are durable
while-push : (base : List Record) (groups : List Durable) (failed : List Tried) (a : Option (List Record)) (x : Durable) (n m : ℕ) (c : List ℕ) → AreDurableBy n groups → n ≤ m → m < x.moment → IfSome a (λ g. Contains failed (tried (length groups) g)) → RecoversToEither (all_records base groups) a c ⊎ RecoversTo (all_records base groups ++ x.group) c → MayLeave base (groups ++ x ∷ []) failed m c
while-push base groups failed a x n m c all later before listed (inl is) =
    before-push base groups failed x m c before (inl (has-all base groups failed a (durable_by m groups) c (durable_by-all m n groups all later) listed is))
while-push base groups failed a x n m c all later before listed (inr is) =
    let k : durable_by m (groups ++ x ∷ []) ≡ length groups = durable_by-before m groups x before ∙ durable_by-all m n groups all later in
    let long : length (groups ++ x ∷ []) ≡ length groups + 1 = length-append groups (x ∷ []) in
    inr (subst (λ (j : ℕ). RecoversTo (first_records base (groups ++ x ∷ []) (j + 1)) c) (sym k)
    (subst (λ (l : List Record). RecoversTo l c) (sym (first-all base (groups ++ x ∷ []) (length groups + 1) (omega arith) ∙ all-push base groups x)) is))

-- once it is durable
after-push : (base : List Record) (groups : List Durable) (failed : List Tried) (x : Durable) (n m : ℕ) (c : List ℕ) → AreDurableBy n (groups ++ x ∷ []) → n ≤ m → RecoversTo (all_records base groups ++ x.group) c → MayLeave base (groups ++ x ∷ []) failed m c
after-push base groups failed x n m c all later is =
    let k : durable_by m (groups ++ x ∷ []) ≡ length (groups ++ x ∷ []) = durable_by-all m n (groups ++ x ∷ []) all later in
    inl (has-all base (groups ++ x ∷ []) failed None (durable_by m (groups ++ x ∷ [])) c k tt (subst (λ (l : List Record). RecoversTo l c) (sym (all-push base groups x)) is))

-- where its append failed
failed-more : (base : List Record) (groups : List Durable) (failed : List Tried) (a : Option (List Record)) (h : List Record) (n m : ℕ) (c : List ℕ) → AreDurableBy n groups → n ≤ m → IfSome a (λ g. Contains failed (tried (length groups) g)) → RecoversToEither (all_records base groups) a c ⊎ RecoversTo (all_records base groups ++ h) c → MayLeave base groups (tried (length groups) h ∷ failed) m c
failed-more base groups failed a h n m c all later listed (inl is) =
    inl (has-more base groups failed (tried (length groups) h) (durable_by m groups) c (has-all base groups failed a (durable_by m groups) c (durable_by-all m n groups all later) listed is))
failed-more base groups failed a h n m c all later listed (inr is) =
    inl (has-all base groups (tried (length groups) h ∷ failed) (Some h) (durable_by m groups) c (durable_by-all m n groups all later) (contains-first failed (tried (length groups) h)) (inr is))

listed-more : (failed : List Tried) (x : Tried) (k : ℕ) (a : Option (List Record)) → IfSome a (λ g. Contains failed (tried k g)) → IfSome a (λ g. Contains (x ∷ failed) (tried k g))
listed-more failed x k None is = tt
listed-more failed x k (Some g) is = contains-more failed x (tried k g) is

nothing : (t : Option (List ℕ)) → IfSome t (λ _. Unit {0})
nothing None = tt
nothing (Some b) = tt

-- what holds where a disk told its bytes before a call and tells them after it
told-three : (t u : Option (List ℕ)) (A B C Z : Type 0) → StillTells t u → IfSome t (λ _. A) → IfSome t (λ _. B) → IfSome u (λ _. C) → (A → B → C → Z) → IfSome u (λ _. Z)
told-three None None A B C Z told a b c f = tt
told-three None (Some y) A B C Z told a b c f = absurd told
told-three (Some x) None A B C Z told a b c f = tt
told-three (Some x) (Some y) A B C Z told a b c f = f a b c

module _ {D : Type 0} (told : D → Option (List ℕ)) (moment : D → ℕ) (images : D → ℕ → List ℕ → Type 0) where
  -- what a crash now leaves
  pub stands-now : (w : Wal D) (r : List Record) (a : Option (List Record)) → Stands told moment images w r a → IfSome (told w.disk) (λ _. (c : List ℕ) → images w.disk (moment w.disk) c → RecoversToEither r a c)
  stands-now w r a stands = log-now (told w.disk) w.durable w.attempt r a (images w.disk (moment w.disk)) stands.log

  -- where no attempt stands, a crash leaves what a read gives
  pub settled : (w : Wal D) (r : List Record) (a : Option (List Record)) → IsMended w → Stands told moment images w r a → IsSettled told moment images w r
  settled w r a mended stands =
      settled-as (told w.disk) w.durable r a (images w.disk (moment w.disk)) (subst (λ (x : Attempt). LogAs (told w.disk) w.durable x r a (images w.disk (moment w.disk))) mended stands.log)

  -- a log to which nothing was appended yet
  pub begun : (w : Wal D) (from : ℕ) (r : List Record) → Stands told moment images w r None → IfSome (told w.disk) (λ _. EachImage moment images w.disk from (λ _ c. RecoversTo r c)) → HasAppended told moment images w from r [] []
  begun w from r stands each = record {
    attempt = None;
    stands = subst (λ (l : List Record). Stands told moment images w l None) (sym (append-nil r)) stands;
    tried_here = tt;
    by_now = tt;
    crash = IfSome-map (told w.disk) (EachImage moment images w.disk from (λ _ c. RecoversTo r c)) (EachImage moment images w.disk from (MayLeave r [] [])) each
        (λ e m c since until left. inl (inl (subst (λ (l : List Record). RecoversTo l c) (sym (append-nil r)) (e m c since until left))));
  }

  -- from now on
  pub begun-now : (w : Wal D) (r : List Record) → Stands told moment images w r None → HasAppended told moment images w (moment w.disk) r [] []
  begun-now w r stands =
      begun w (moment w.disk) r stands
      (IfSome-map (told w.disk) ((c : List ℕ) → images w.disk (moment w.disk) c → RecoversTo r c) (EachImage moment images w.disk (moment w.disk) (λ _ c. RecoversTo r c)) (stands-now w r None stands)
      (λ now m c since until left. let here : m ≡ moment w.disk = omega arith in now c (subst (λ (k : ℕ). images w.disk k c) here left)))

  module _ (old new : Wal D) (from : ℕ) (base : List Record) (groups : List Durable) (failed : List Tried) (log : HasAppended told moment images old from base groups failed) (tells : StillTells (told old.disk) (told new.disk)) (later : moment old.disk ≤ moment new.disk) where
    -- a group was appended, and is durable from this moment on
    pub acknowledged : (h : List Record) (now : ℕ) → now ≡ moment new.disk → Stands told moment images new (all_records base groups ++ h) None → IfSome (told old.disk) (λ _. Since moment images old.disk new.disk (λ c. RecoversToEither (all_records base groups) log.attempt c ⊎ RecoversTo (all_records base groups ++ h) c)) → HasAppended told moment images new from base (groups ++ durable_group h now ∷ []) failed
    acknowledged h now is stands any =
        let x = durable_group h now in
        let all = all_records base groups in
        let by_now : AreDurableBy (moment new.disk) (groups ++ x ∷ []) = by-push (moment new.disk) groups x (by-later (moment old.disk) (moment new.disk) groups later log.by_now) (omega arith) in
        record {
          attempt = None;
          stands = subst (λ (l : List Record). Stands told moment images new l None) (sym (all-push base groups x)) stands;
          tried_here = tt;
          by_now = by_now;
          crash = told-three (told old.disk) (told new.disk)
              (EachImage moment images old.disk from (MayLeave base groups failed))
              (Since moment images old.disk new.disk (λ c. RecoversToEither all log.attempt c ⊎ RecoversTo (all ++ h) c))
              ((c : List ℕ) → images new.disk (moment new.disk) c → RecoversTo (all ++ h) c)
              (EachImage moment images new.disk from (MayLeave base (groups ++ x ∷ []) failed))
              tells log.crash any (stands-now new (all ++ h) None stands)
              (λ each since end m c from_on until left. elim (cases_lt m (moment new.disk)) [
                | inl ahead ↦ elim (cases_lt m (moment old.disk)) [
                  | inl earlier ↦ before-push base groups failed x m c (omega arith) (each m c from_on (omega arith) (since.before m c earlier left))
                  | inr during ↦ while-push base groups failed log.attempt x (moment old.disk) m c log.by_now during (omega arith) log.tried_here (since.each m c during until left)
                ]
                | inr late ↦ let here : m ≡ moment new.disk = omega arith in after-push base groups failed x (moment new.disk) m c by_now late (end c (subst (λ (k : ℕ). images new.disk k c) here left))
              ]);
        }

    -- a group was tried, and its append failed
    pub given-up : (h : List Record) → Stands told moment images new (all_records base groups) (Some h) ⊎ Stands told moment images new (all_records base groups) log.attempt → IfSome (told old.disk) (λ _. Since moment images old.disk new.disk (λ c. RecoversToEither (all_records base groups) log.attempt c ⊎ RecoversTo (all_records base groups ++ h) c)) → HasAppended told moment images new from base groups (tried (length groups) h ∷ failed)
    given-up h stands any = elim stands [
      | inl this ↦ one (Some h) this (contains-first failed x)
      | inr that ↦ one log.attempt that (listed-more failed x (length groups) log.attempt log.tried_here)
    ] where
      x : Tried
      x = tried (length groups) h

      all : List Record
      all = all_records base groups

      one : (a : Option (List Record)) → Stands told moment images new all a → IfSome a (λ g. Contains (x ∷ failed) (tried (length groups) g)) → HasAppended told moment images new from base groups (x ∷ failed)
      one a is listed = record {
        attempt = a;
        stands = is;
        tried_here = listed;
        by_now = by-later (moment old.disk) (moment new.disk) groups later log.by_now;
        crash = told-three (told old.disk) (told new.disk)
            (EachImage moment images old.disk from (MayLeave base groups failed))
            (Since moment images old.disk new.disk (λ c. RecoversToEither all log.attempt c ⊎ RecoversTo (all ++ h) c))
            (Unit {0})
            (EachImage moment images new.disk from (MayLeave base groups (x ∷ failed)))
            tells log.crash any (nothing (told new.disk))
            (λ each since end m c from_on until left. elim (cases_lt m (moment old.disk)) [
              | inl earlier ↦ may-more base groups failed x m c (each m c from_on (omega arith) (since.before m c earlier left))
              | inr during ↦ failed-more base groups failed log.attempt h (moment old.disk) m c log.by_now during log.tried_here (since.each m c during until left)
            ]);
      }

    -- the log was mended, or a mending failed
    pub kept : Stands told moment images new (all_records base groups) log.attempt → IfSome (told old.disk) (λ _. Since moment images old.disk new.disk (RecoversToEither (all_records base groups) log.attempt)) → HasAppended told moment images new from base groups failed
    kept stands any =
        let all = all_records base groups in
        record {
          attempt = log.attempt;
          stands = stands;
          tried_here = log.tried_here;
          by_now = by-later (moment old.disk) (moment new.disk) groups later log.by_now;
          crash = told-three (told old.disk) (told new.disk)
              (EachImage moment images old.disk from (MayLeave base groups failed))
              (Since moment images old.disk new.disk (RecoversToEither all log.attempt))
              (Unit {0})
              (EachImage moment images new.disk from (MayLeave base groups failed))
              tells log.crash any (nothing (told new.disk))
              (λ each since end m c from_on until left. elim (cases_lt m (moment old.disk)) [
                | inl earlier ↦ each m c from_on (omega arith) (since.before m c earlier left)
                | inr during ↦ inl (has-all base groups failed log.attempt (durable_by m groups) c (durable_by-all m (moment old.disk) groups log.by_now during) log.tried_here (since.each m c during until left))
              ]);
        }
