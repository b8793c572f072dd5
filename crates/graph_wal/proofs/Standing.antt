-- How a log stands after each step, from how it stood before.
use Rattle.std.proofs.Common.{◌≡◌, ℕ, ◌+◌, ◌-◌, ◌<◌, ◌≤◌, ◌^◌, List, [], ◌∷◌, ◌++◌, length, take, refl, sym, ◌∙◌, ap, subst, ◌⊎◌, inl, inr, arith, Some, None, Option}
use Rattle.std.specs.Prelude.{IfSome}
use Rattle.std.proofs.lemmas.List.{length-take-le, take-take}
use Rattle.graph_model.specs.declared.record.Record.{Record}
use Rattle.disk_model.specs.Images.{overwritten, Torn, CutShort, Only, ToldBy, StillTells}
use Rattle.group_codec.specs.Spelling.{group_bytes}
use Rattle.group_codec.specs.Log.{log_bytes}
use Rattle.group_commit.specs.Encoded.{Encoded}
use Rattle.group_commit.specs.Members.{records_at}
use Rattle.graph_wal.specs.declared.wal.Attempt.{Attempt}
use Rattle.graph_wal.specs.declared.wal.Attempt.TheVariants as attempts
use Rattle.graph_wal.specs.Since.{SameFront}
use Rattle.graph_wal.specs.Pieces.{AreWithin, AreSpelled, Wrote, members_bytes}
use Rattle.graph_wal.specs.Log.{RecoversTo, RecoversToEither, IsDurable, IsClosed, IsStaged, MayFollow, Stands, StandsAs, MayAppend}
use Rattle.graph_wal.specs.declared.wal.Wal.{Wal}
use Rattle.graph_wal.proofs.Moments.{SameFront-cut}
use Rattle.graph_wal.proofs.Logs.{closed-recovers, durable-next, staged-either, front-closed, staged-torn, staged-shut, staged-opened, closed-staged, closed-long, staged-long}
use Rattle.graph_wal.proofs.Epochs.{last-durable, may-follow}

-- how the log of a disk stands
abbrev pub LogAs : Option (List ℕ) → ℕ → Attempt → List Record → Option (List Record) → (List ℕ → Type 0) → Type 0
LogAs told n attempt r a left = IfSome told (λ bytes. (groups : List (List Record)) × IsDurable groups r n × StandsAs attempt groups r a bytes left)

-- and with a group that is ready
abbrev pub ReadyAs : Option (List ℕ) → ℕ → List Record → List Record → ℕ → (List ℕ → Type 0) → Type 0
ReadyAs told n r g end left = IfSome told (λ bytes. (groups : List (List Record)) × IsDurable groups r n × MayFollow groups r g × IsStaged groups g bytes × (end ≡ n + length (group_bytes (length groups + 1) g) + 1) × Only bytes left)

abbrev pub FirmAs : Option (List ℕ) → (List ℕ → Type 0) → Type 0
FirmAs told left = IfSome told (λ bytes. Only bytes left)

-- with or without an attempt, the records alone are one of the two
pub without : (r : List Record) (a : Option (List Record)) (c : List ℕ) → RecoversTo r c → RecoversToEither r a c
without r None c is = is
without r (Some g) c is = inl is

-- where no attempt stands, both are one
pub either-none : (r : List Record) (c : List ℕ) → RecoversToEither r None c → RecoversTo r c
either-none r c is = is

gate-place : (groups : List (List Record)) (r : List Record) (n : ℕ) → IsDurable groups r n → n - 1 ≡ length (log_bytes groups)
gate-place groups r n log = omega (arith, log.place)

-- TOUCHED: the gate of an attempt is closed
pub touched-joined : (t : Option (List ℕ)) (n : ℕ) (r : List Record) (a : Option (List Record)) (left : List ℕ → Type 0) → ((b : List ℕ) → t ≡ Some b → left b) → LogAs t n attempts.Touched r a left → IfSome t (λ b. n - 1 ≤ length b)
touched-joined None n r a left reads log = tt
touched-joined (Some b) n r None left reads log = absurd log.2
touched-joined (Some b) n r (Some g) left reads log = omega (arith, log.1.place, staged-long log.0 g b (log.2.1 b (reads b refl)))

pub touched-kept : (t t' : Option (List ℕ)) (n : ℕ) (r : List Record) (a : Option (List Record)) (left left' : List ℕ → Type 0) → LogAs t n attempts.Touched r a left → StillTells t t' → ((c : List ℕ) → left' c → (d : List ℕ) × left d × Torn (n - 1) 1 d c) → LogAs t' n attempts.Touched r a left'
touched-kept None None n r a left left' log told torn = tt
touched-kept None (Some b') n r a left left' log told torn = absurd told
touched-kept (Some b) None n r a left left' log told torn = absurd told
touched-kept (Some b) (Some b') n r None left left' log told torn = absurd log.2
touched-kept (Some b) (Some b') n r (Some g) left left' log told torn = (
  log.0,
  log.1,
  (log.2.0, λ c is. let from = torn c is in staged-torn log.0 g (n - 1) from.0 c (gate-place log.0 r n log.1) (log.2.1 from.0 from.1) from.2),
)

pub touched-closed : (t t' : Option (List ℕ)) (n : ℕ) (r : List Record) (a : Option (List Record)) (left left' : List ℕ → Type 0) → ((b : List ℕ) → t ≡ Some b → left b) → LogAs t n attempts.Touched r a left → Wrote t t' (n - 1) (0 ∷ []) → FirmAs t' left' → LogAs t' n attempts.Untouched r a left'
touched-closed None None n r a left left' reads log wrote firm = tt
touched-closed None (Some b') n r a left left' reads log wrote firm = absurd wrote
touched-closed (Some b) None n r a left left' reads log wrote firm = absurd wrote
touched-closed (Some b) (Some b') n r None left left' reads log wrote firm = absurd log.2
touched-closed (Some b) (Some b') n r (Some g) left left' reads log wrote firm =
    let shut : IsClosed log.0 b' = staged-shut log.0 g (n - 1) b b' (gate-place log.0 r n log.1) (log.2.1 b (reads b refl)) wrote in
    (log.0, log.1, λ c is. subst (λ (x : List ℕ). IsClosed log.0 x) (sym (firm c is)) shut)

-- while it is closed, an image has the attempt or not
pub touched-either : (t : Option (List ℕ)) (n : ℕ) (r : List Record) (a : Option (List Record)) (left : List ℕ → Type 0) (P : Type 0) → LogAs t n attempts.Touched r a left → (((c : List ℕ) → (d : List ℕ) × left d × Torn (n - 1) 1 d c → RecoversToEither r a c) → P) → IfSome t (λ _. P)
touched-either None n r a left P log use_it = tt
touched-either (Some b) n r None left P log use_it = absurd log.2
touched-either (Some b) n r (Some g) left P log use_it =
    use_it (λ c is. staged-either log.0 r g n c log.1 log.2.0 (staged-torn log.0 g (n - 1) is.0 c (gate-place log.0 r n log.1) (log.2.1 is.0 is.1) is.2))

-- UNTOUCHED: what stands behind a closed gate is cut off
pub untouched-kept : (t t' : Option (List ℕ)) (n : ℕ) (r : List Record) (a : Option (List Record)) (left left' : List ℕ → Type 0) → LogAs t n attempts.Untouched r a left → StillTells t t' → ((c : List ℕ) → left' c → (d : List ℕ) × left d × CutShort n d c) → LogAs t' n attempts.Untouched r a left'
untouched-kept None None n r a left left' log told torn = tt
untouched-kept None (Some b') n r a left left' log told torn = absurd told
untouched-kept (Some b) None n r a left left' log told torn = absurd told
untouched-kept (Some b) (Some b') n r a left left' log told torn =
    (log.0, log.1, λ c is. let from = torn c is in front-closed log.0 n from.0 c log.1.place (log.2 from.0 from.1) (SameFront-cut n n from.0 c (omega arith) from.2))

pub take-front : (n : ℕ) (b : List ℕ) → SameFront n b (take n b)
take-front n b = record {
  long = λ l. omega (arith, length-take-le n b l);
  front = λ l. take-take n n b (omega arith);
}

pub untouched-cut : (t t' : Option (List ℕ)) (n : ℕ) (r : List Record) (a a' : Option (List Record)) (left left' : List ℕ → Type 0) → ((b : List ℕ) → t ≡ Some b → left b) → LogAs t n attempts.Untouched r a left → ToldBy (λ old new. new ≡ take n old) t t' → FirmAs t' left' → LogAs t' n attempts.Mended r a' left'
untouched-cut None None n r a a' left left' reads log cut firm = tt
untouched-cut None (Some b') n r a a' left left' reads log cut firm = absurd cut
untouched-cut (Some b) None n r a a' left left' reads log cut firm = absurd cut
untouched-cut (Some b) (Some b') n r a a' left left' reads log cut firm =
    let closed : IsClosed log.0 (take n b) = front-closed log.0 n b (take n b) log.1.place (log.2 b (reads b refl)) (take-front n b) in
    (log.0, log.1, (subst (λ (x : List ℕ). IsClosed log.0 x) (sym cut) closed, firm))

pub untouched-either : (t : Option (List ℕ)) (n : ℕ) (r : List Record) (a : Option (List Record)) (left : List ℕ → Type 0) (P : Type 0) → LogAs t n attempts.Untouched r a left → (((c : List ℕ) → (d : List ℕ) × left d × CutShort n d c → RecoversToEither r a c) → P) → IfSome t (λ _. P)
untouched-either None n r a left P log use_it = tt
untouched-either (Some b) n r a left P log use_it =
    use_it (λ c is. without r a c (n, closed-recovers log.0 r n c log.1 (front-closed log.0 n is.0 c log.1.place (log.2 is.0 is.1) (SameFront-cut n n is.0 c (omega arith) is.2))))

-- MENDED: a group is written behind the closed gate
pub mended-joined : (t : Option (List ℕ)) (n : ℕ) (r : List Record) (a : Option (List Record)) (left : List ℕ → Type 0) → LogAs t n attempts.Mended r a left → IfSome t (λ b. n ≤ length b)
mended-joined None n r a left log = tt
mended-joined (Some b) n r a left log = omega (arith, log.1.place, closed-long log.0 b log.2.0)

-- where no attempt stands, any may be named
pub mended-any : (t : Option (List ℕ)) (n : ℕ) (r : List Record) (a a' : Option (List Record)) (left : List ℕ → Type 0) → LogAs t n attempts.Mended r a left → LogAs t n attempts.Mended r a' left
mended-any None n r a a' left log = tt
mended-any (Some b) n r a a' left log = (log.0, log.1, log.2)

pub mended-kept : (t t' : Option (List ℕ)) (n : ℕ) (r : List Record) (a a' : Option (List Record)) (left left' : List ℕ → Type 0) → LogAs t n attempts.Mended r a left → StillTells t t' → ((c : List ℕ) → left' c → (d : List ℕ) × left d × SameFront n d c) → LogAs t' n attempts.Untouched r a' left'
mended-kept None None n r a a' left left' log told front = tt
mended-kept None (Some b') n r a a' left left' log told front = absurd told
mended-kept (Some b) None n r a a' left left' log told front = absurd told
mended-kept (Some b) (Some b') n r a a' left left' log told front = (
  log.0,
  log.1,
  λ c is. let from = front c is in
      let closed : IsClosed log.0 from.0 = subst (λ (x : List ℕ). IsClosed log.0 x) (sym (log.2.1 from.0 from.1)) log.2.0 in
      front-closed log.0 n from.0 c log.1.place closed from.2,
)

pub mended-either : (t : Option (List ℕ)) (n : ℕ) (r : List Record) (a a' : Option (List Record)) (left : List ℕ → Type 0) (P : Type 0) → LogAs t n attempts.Mended r a left → (((c : List ℕ) → (d : List ℕ) × left d × SameFront n d c → RecoversToEither r a' c) → P) → IfSome t (λ _. P)
mended-either None n r a a' left P log use_it = tt
mended-either (Some b) n r a a' left P log use_it =
    use_it (λ c is.
    let closed : IsClosed log.0 is.0 = subst (λ (x : List ℕ). IsClosed log.0 x) (sym (log.2.1 is.0 is.1)) log.2.0 in
    without r a' c (n, closed-recovers log.0 r n c log.1 (front-closed log.0 n is.0 c log.1.place closed is.2)))

pub mended-ready : (t t' : Option (List ℕ)) (n end epoch : ℕ) (r : List Record) (a : Option (List Record)) (members : List Encoded) (left left' : List ℕ → Type 0) → LogAs t n attempts.Mended r a left → Wrote t t' n (group_bytes epoch (records_at epoch members) ++ 0 ∷ []) → FirmAs t' left' → end ≡ n + length (group_bytes epoch (records_at epoch members)) + 1 → MayAppend t r epoch members → AreSpelled members → AreWithin members → 0 < length members → length members ≤ 64 → epoch < 2 ^ 64 → length (members_bytes members) ≤ 1073743104 → ReadyAs t' n r (records_at epoch members) end left'
mended-ready None None n end epoch r a members left left' log wrote firm is-end next spelled within some few fits short = tt
mended-ready None (Some b') n end epoch r a members left left' log wrote firm is-end next spelled within some few fits short = absurd wrote
mended-ready (Some b) None n end epoch r a members left left' log wrote firm is-end next spelled within some few fits short = absurd wrote
mended-ready (Some b) (Some b') n end epoch r a members left left' log wrote firm is-end next spelled within some few fits short =
    let groups = log.0 in
    let g = records_at epoch members in
    let is : epoch ≡ length groups + 1 = next.0 ∙ ap (λ (k : ℕ). k + 1) (last-durable groups r n log.1) in
    let body : group_bytes epoch g ≡ group_bytes (length groups + 1) g = ap (λ (k : ℕ). group_bytes k g) is in (
      groups,
      log.1,
      may-follow groups r n epoch members log.1 spelled within some few fits short next.0 next.1,
      closed-staged groups g n b b' log.1.place log.2.0 (wrote ∙ ap (λ (l : List ℕ). overwritten b n (l ++ 0 ∷ [])) body),
      is-end ∙ ap (λ (l : List ℕ). n + length l + 1) body,
      firm,
    )

-- READY: the gate before the group is opened
pub ready-joined : (t : Option (List ℕ)) (n end : ℕ) (r g : List Record) (left : List ℕ → Type 0) → ReadyAs t n r g end left → IfSome t (λ b. n - 1 ≤ length b)
ready-joined None n end r g left log = tt
ready-joined (Some b) n end r g left log = omega (arith, log.1.place, staged-long log.0 g b log.3)

pub ready-kept : (t t' : Option (List ℕ)) (n end : ℕ) (r g : List Record) (left left' : List ℕ → Type 0) → ReadyAs t n r g end left → StillTells t t' → ((c : List ℕ) → left' c → (d : List ℕ) × left d × Torn (n - 1) 1 d c) → LogAs t' n attempts.Touched r (Some g) left'
ready-kept None None n end r g left left' log told torn = tt
ready-kept None (Some b') n end r g left left' log told torn = absurd told
ready-kept (Some b) None n end r g left left' log told torn = absurd told
ready-kept (Some b) (Some b') n end r g left left' log told torn = (
  log.0,
  log.1,
  (
    log.2,
    λ c is. let from = torn c is in
        let staged : IsStaged log.0 g from.0 = subst (λ (x : List ℕ). IsStaged log.0 g x) (sym (log.5 from.0 from.1)) log.3 in
        staged-torn log.0 g (n - 1) from.0 c (gate-place log.0 r n log.1) staged from.2,
  ),
)

pub ready-either : (t : Option (List ℕ)) (n end : ℕ) (r g : List Record) (left : List ℕ → Type 0) (P : Type 0) → ReadyAs t n r g end left → (((c : List ℕ) → (d : List ℕ) × left d × Torn (n - 1) 1 d c → RecoversToEither r (Some g) c) → P) → IfSome t (λ _. P)
ready-either None n end r g left P log use_it = tt
ready-either (Some b) n end r g left P log use_it =
    use_it (λ c is.
    let staged : IsStaged log.0 g is.0 = subst (λ (x : List ℕ). IsStaged log.0 g x) (sym (log.5 is.0 is.1)) log.3 in
    staged-either log.0 r g n c log.1 log.2 (staged-torn log.0 g (n - 1) is.0 c (gate-place log.0 r n log.1) staged is.2))

pub ready-opened : (t t' : Option (List ℕ)) (n end : ℕ) (r g : List Record) (a : Option (List Record)) (left left' : List ℕ → Type 0) → ReadyAs t n r g end left → Wrote t t' (n - 1) (1 ∷ []) → FirmAs t' left' → LogAs t' end attempts.Mended (r ++ g) a left'
ready-opened None None n end r g a left left' log wrote firm = tt
ready-opened None (Some b') n end r g a left left' log wrote firm = absurd wrote
ready-opened (Some b) None n end r g a left left' log wrote firm = absurd wrote
ready-opened (Some b) (Some b') n end r g a left left' log wrote firm = (
  log.0 ++ g ∷ [],
  subst (λ (k : ℕ). IsDurable (log.0 ++ g ∷ []) (r ++ g) k) (sym log.4) (durable-next log.0 r g n log.1 log.2),
  (staged-opened log.0 g (n - 1) b b' (gate-place log.0 r n log.1) log.3 wrote, firm),
)

-- where no attempt stands, any may be named
pub stands-any : {D : Type 0} (told : D → Option (List ℕ)) (moment : D → ℕ) (images : D → ℕ → List ℕ → Type 0) (w : Wal D) (r : List Record) (a a' : Option (List Record)) → w.attempt ≡ attempts.Mended → Stands told moment images w r a → Stands told moment images w r a'
stands-any told moment images w r a a' mended stands =
    let left = images w.disk (moment w.disk) in
    let log : LogAs (told w.disk) w.durable attempts.Mended r a left = subst (λ (x : Attempt). LogAs (told w.disk) w.durable x r a left) mended stands.log in
    record {
      long = stands.long;
      short = stands.short;
      log = subst (λ (x : Attempt). LogAs (told w.disk) w.durable x r a' left) (sym mended) (mended-any (told w.disk) w.durable r a a' left log);
    }

-- the records with a new attempt or without it, beside an earlier one
pub either-way : (r h : List Record) (a : Option (List Record)) (c : List ℕ) → RecoversToEither r (Some h) c → RecoversToEither r a c ⊎ RecoversTo (r ++ h) c
either-way r h a c (inl is) = inl (without r a c is)
either-way r h a c (inr is) = inr is

-- what is cut at its last gate has no rest
pub untouched-short : (t t' : Option (List ℕ)) (n : ℕ) (r : List Record) (a : Option (List Record)) (left : List ℕ → Type 0) → ((b : List ℕ) → t ≡ Some b → left b) → LogAs t n attempts.Untouched r a left → ToldBy (λ old new. new ≡ take n old) t t' → IfSome t' (λ b. length b ≡ n)
untouched-short None None n r a left reads log cut = tt
untouched-short None (Some b') n r a left reads log cut = absurd cut
untouched-short (Some b) None n r a left reads log cut = absurd cut
untouched-short (Some b) (Some b') n r a left reads log cut =
    let long = closed-long log.0 b (log.2 b (reads b refl)) in
    ap length cut ∙ length-take-le n b (omega (arith, log.1.place))
