-- Logs with a gate closed, opened or torn.
use Rattle.std.proofs.Common.{◌≡◌, ◌≢◌, ℕ, suc, ◌+◌, ◌<◌, ◌≤◌, Bool, true, List, [], ◌∷◌, ◌++◌, length, take, drop, get_or, refl, sym, ◌∙◌, ap, subst, inl, inr, arith, length-append, append_assoc, Some}
use Rattle.std.specs.Prelude.{slice_index, ◌&&◌}
use Rattle.std.proofs.lemmas.Bool.{cases_eq, and_parts}
use Rattle.std.proofs.lemmas.List.{append-nil, take_at, drop_at, drop_more, take-append-drop, length-drop, get_or-drop, take_all}
use Rattle.graph_model.specs.declared.record.Record.{Record}
use Rattle.disk_model.specs.Images.{overwritten, Torn}
use Rattle.group_codec.specs.Spelling.{group_bytes, is_group}
use Rattle.group_codec.specs.Log.{log_head, groups_bytes, are_groups, log_bytes, records_of, LogText, Recovers}
use Rattle.graph_wal.specs.Since.{SameFront}
use Rattle.graph_wal.specs.Log.{RecoversToEither, IsWhole, IsDurable, IsClosed, IsStaged, MayFollow}
use Rattle.graph_wal.proofs.Moments.{same_take}

-- the groups with one more behind
groups_bytes-push : (epoch : ℕ) (groups : List (List Record)) (g : List Record) → groups_bytes epoch (groups ++ g ∷ []) ≡ groups_bytes epoch groups ++ 1 ∷ group_bytes (epoch + length groups + 1) g
groups_bytes-push epoch [] g =
    let same : epoch + 1 ≡ epoch + 0 + 1 = omega arith in
    ap (λ (l : List ℕ). 1 ∷ l) (append-nil (group_bytes (epoch + 1) g)) ∙ ap (λ (n : ℕ). 1 ∷ group_bytes n g) same
groups_bytes-push epoch (h ∷ groups) g =
    let same : epoch + 1 + length groups + 1 ≡ epoch + suc (length groups) + 1 = omega arith in
    ap (λ (l : List ℕ). 1 ∷ (group_bytes (epoch + 1) h ++ l)) (groups_bytes-push (epoch + 1) groups g ∙ ap (λ (n : ℕ). groups_bytes (epoch + 1) groups ++ 1 ∷ group_bytes n g) same)
    ∙ ap (λ (l : List ℕ). 1 ∷ l) (sym (append_assoc (group_bytes (epoch + 1) h) (groups_bytes (epoch + 1) groups) (1 ∷ group_bytes (epoch + suc (length groups) + 1) g)))

pub log_bytes-push : (groups : List (List Record)) (g : List Record) → log_bytes (groups ++ g ∷ []) ≡ log_bytes groups ++ 1 ∷ group_bytes (length groups + 1) g
log_bytes-push groups g =
    let same : 0 + length groups + 1 ≡ length groups + 1 = omega arith in
    ap (λ (l : List ℕ). log_head ++ l) (groups_bytes-push 0 groups g ∙ ap (λ (n : ℕ). groups_bytes 0 groups ++ 1 ∷ group_bytes n g) same)
    ∙ sym (append_assoc log_head (groups_bytes 0 groups) (1 ∷ group_bytes (length groups + 1) g))

are_groups-push : (epoch : ℕ) (groups : List (List Record)) (g : List Record) → are_groups epoch groups ≡ true → is_group (epoch + length groups + 1) g ≡ true → are_groups epoch (groups ++ g ∷ []) ≡ true
are_groups-push epoch [] g all last =
    let same : epoch + 0 + 1 ≡ epoch + 1 = omega arith in
    ap (λ (b : Bool). b && true) (ap (λ (n : ℕ). is_group n g) (sym same) ∙ last)
are_groups-push epoch (h ∷ groups) g all last =
    let parts = and_parts (is_group (epoch + 1) h) (are_groups (epoch + 1) groups) all in
    let same : epoch + suc (length groups) + 1 ≡ epoch + 1 + length groups + 1 = omega arith in
    ap (λ (b : Bool). b && are_groups (epoch + 1) (groups ++ g ∷ [])) parts.0 ∙ are_groups-push (epoch + 1) groups g parts.1 (ap (λ (n : ℕ). is_group n g) (sym same) ∙ last)

records_of-push : (groups : List (List Record)) (g : List Record) → records_of (groups ++ g ∷ []) ≡ records_of groups ++ g
records_of-push [] g = append-nil g
records_of-push (h ∷ groups) g = ap (λ (l : List Record). h ++ l) (records_of-push groups g) ∙ sym (append_assoc h (records_of groups) g)

-- a closed log recovers to its records
pub closed-recovers : (groups : List (List Record)) (records : List Record) (durable : ℕ) (c : List ℕ) → IsDurable groups records durable → IsClosed groups c → Recovers c records durable
closed-recovers groups records durable c log closed =
    (groups, closed.0, closed.1, record { spelled = log.spelled; closed = closed.2; text = closed.3 }, log.lawful, log.all, log.place)

pub recovers-closed : (records : List Record) (durable : ℕ) (c : List ℕ) → Recovers c records durable → (groups : List (List Record)) × IsDurable groups records durable × IsClosed groups c
recovers-closed records durable c is =
    (is.0, record { spelled = is.3.spelled; lawful = is.4; all = is.5; place = is.6 }, (is.1, is.2, is.3.closed, is.3.text))

-- the log with the group behind it
pub durable-next : (groups : List (List Record)) (records g : List Record) (durable : ℕ) → IsDurable groups records durable → MayFollow groups records g → IsDurable (groups ++ g ∷ []) (records ++ g) (durable + length (group_bytes (length groups + 1) g) + 1)
durable-next groups records g durable log next =
    let same : 0 + length groups + 1 ≡ length groups + 1 = omega arith in
    record {
      spelled = are_groups-push 0 groups g log.spelled (ap (λ (n : ℕ). is_group n g) same ∙ next.spelled);
      lawful = next.lawful;
      all = ap (λ (l : List Record). l ++ g) log.all ∙ sym (records_of-push groups g);
      place = omega (arith, log.place, ap length (log_bytes-push groups g), length-append (log_bytes groups) (1 ∷ group_bytes (length groups + 1) g));
    }

-- with the gate open, the group is in the log
opened : (groups : List (List Record)) (g : List Record) (rest : List ℕ) → log_bytes groups ++ 1 ∷ (group_bytes (length groups + 1) g ++ 0 ∷ rest) ≡ log_bytes (groups ++ g ∷ []) ++ 0 ∷ rest
opened groups g rest =
    sym (append_assoc (log_bytes groups) (1 ∷ group_bytes (length groups + 1) g) (0 ∷ rest)) ∙ ap (λ (l : List ℕ). l ++ 0 ∷ rest) (sym (log_bytes-push groups g))

pub zero_shut : ◌≢◌ {A = ℕ} 0 1
zero_shut = λ e. absurd (omega (arith, e))

-- with a group staged behind some gate, the log is that without it or that with it
pub staged-either : (groups : List (List Record)) (records g : List Record) (durable : ℕ) (c : List ℕ) → IsDurable groups records durable → MayFollow groups records g → IsStaged groups g c → RecoversToEither records (Some g) c
staged-either groups records g durable c log next staged =
    let gate = staged.0 in
    let rest = staged.1 in
    let body = group_bytes (length groups + 1) g ++ 0 ∷ rest in
    elim (cases_eq gate 1) [
      | inl is ↦ inr (
        durable + length (group_bytes (length groups + 1) g) + 1,
        closed-recovers (groups ++ g ∷ []) (records ++ g) (durable + length (group_bytes (length groups + 1) g) + 1) c (durable-next groups records g durable log next)
            (0, rest, zero_shut, staged.2 ∙ ap (λ (n : ℕ). log_bytes groups ++ n ∷ body) is ∙ opened groups g rest),
      )
      | inr shut ↦ inl (durable, closed-recovers groups records durable c log (gate, body, shut, staged.2))
    ]

-- the first bytes up to a gate decide that it is closed
pub front-closed : (groups : List (List Record)) (n : ℕ) (d c : List ℕ) → n ≡ length (log_bytes groups) + 1 → IsClosed groups d → SameFront n d c → IsClosed groups c
front-closed groups n d c place closed same =
    let front = log_bytes groups ++ closed.0 ∷ [] in
    let long : length front ≡ n = length-append (log_bytes groups) (closed.0 ∷ []) ∙ sym place in
    let whole : d ≡ front ++ closed.1 = closed.3 ∙ sym (append_assoc (log_bytes groups) (closed.0 ∷ []) closed.1) in
    let in_d : n ≤ length d = omega (arith, ap length whole, length-append front closed.1, long) in
    let taken : take n c ≡ front = same.front in_d ∙ ap (take n) whole ∙ take_at front closed.1 n long in (
      closed.0,
      drop n c,
      closed.2,
      sym (take-append-drop n c) ∙ ap (λ (l : List ℕ). l ++ drop n c) taken ∙ append_assoc (log_bytes groups) (closed.0 ∷ []) (drop n c),
    )

-- bytes that begin as these do, place by place
begins-with : (b c : List ℕ) → length b ≤ length c → ((k : ℕ) → k < length b → slice_index c k ≡ slice_index b k) → c ≡ b ++ drop (length b) c
begins-with b c long same =
    sym (take-append-drop (length b) c) ∙ ap (λ (l : List ℕ). l ++ drop (length b) c) (same_take (length b) b c (omega arith) long same ∙ take_all (length b) b (omega arith))

-- a torn write of a gate leaves what stands before it and behind it
pub gate-torn : (front body d c : List ℕ) (gate : ℕ) → d ≡ front ++ gate ∷ body → Torn (length front) 1 d c → (x : ℕ) × (more : List ℕ) × (c ≡ front ++ x ∷ (body ++ more))
gate-torn front body d c gate is torn =
    let p = length front in
    let long : length d ≡ p + 1 + length body = omega (arith, ap length is, length-append front (gate ∷ body)) in
    let before : take p c ≡ front = same_take p d c (omega arith) (omega (arith, torn.no_shorter)) (λ k below. torn.before k (omega arith) below) ∙ ap (take p) is ∙ take_at front (gate ∷ body) p refl in
    let behind : drop (p + 1) d ≡ body =
    ap (drop (p + 1)) (is ∙ sym (append_assoc front (gate ∷ []) body)) ∙ drop_at (front ++ gate ∷ []) body (p + 1) (length-append front (gate ∷ [])) in
    let same : (k : ℕ) → k < length body → slice_index (drop (p + 1) c) k ≡ slice_index body k =
    λ k inside. get_or-drop (p + 1) c k 0 ∙ torn.after (p + 1 + k) (omega arith) (omega arith) ∙ sym (get_or-drop (p + 1) d k 0) ∙ ap (λ (l : List ℕ). slice_index l k) behind in
    let rest : drop (p + 1) c ≡ body ++ drop (length body) (drop (p + 1) c) = begins-with body (drop (p + 1) c) (omega (arith, length-drop (p + 1) c, torn.no_shorter)) same in (
      get_or c p 0,
      drop (length body) (drop (p + 1) c),
      sym (take-append-drop p c) ∙ ap (λ (l : List ℕ). l ++ drop p c) before ∙ ap (λ (l : List ℕ). front ++ l) (drop_more c p 0 (omega (arith, torn.no_shorter)) ∙ ap (λ (l : List ℕ). get_or c p 0 ∷ l) rest),
    )

-- a write of a gate
pub gate-written : (front body b b' : List ℕ) (gate x : ℕ) → b ≡ front ++ gate ∷ body → b' ≡ overwritten b (length front) (x ∷ []) → b' ≡ front ++ x ∷ body
gate-written front body b b' gate x is written =
    let p = length front in
    let before : take p b ≡ front = ap (take p) is ∙ take_at front (gate ∷ body) p refl in
    let behind : drop (p + 1) b ≡ body =
    ap (drop (p + 1)) (is ∙ sym (append_assoc front (gate ∷ []) body)) ∙ drop_at (front ++ gate ∷ []) body (p + 1) (length-append front (gate ∷ [])) in
    written ∙ ap (λ (l : List ℕ). l ++ x ∷ drop (p + 1) b) before ∙ ap (λ (l : List ℕ). front ++ x ∷ l) behind

-- a torn write of its gate leaves a staged group staged
pub staged-torn : (groups : List (List Record)) (g : List Record) (p : ℕ) (d c : List ℕ) → p ≡ length (log_bytes groups) → IsStaged groups g d → Torn p 1 d c → IsStaged groups g c
staged-torn groups g p d c place staged torn =
    let body = group_bytes (length groups + 1) g in
    let found = gate-torn (log_bytes groups) (body ++ 0 ∷ staged.1) d c staged.0 staged.2 (subst (λ (n : ℕ). Torn n 1 d c) place torn) in
    (found.0, staged.1 ++ found.1, found.2 ∙ ap (λ (l : List ℕ). log_bytes groups ++ found.0 ∷ l) (append_assoc body (0 ∷ staged.1) found.1))

-- with the gate written closed, the log is closed
pub staged-shut : (groups : List (List Record)) (g : List Record) (p : ℕ) (b b' : List ℕ) → p ≡ length (log_bytes groups) → IsStaged groups g b → b' ≡ overwritten b p (0 ∷ []) → IsClosed groups b'
staged-shut groups g p b b' place staged written =
    let body = group_bytes (length groups + 1) g ++ 0 ∷ staged.1 in
    (0, body, zero_shut, gate-written (log_bytes groups) body b b' staged.0 0 staged.2 (written ∙ ap (λ (n : ℕ). overwritten b n (0 ∷ [])) place))

-- with the gate written open, the log with the group is closed
pub staged-opened : (groups : List (List Record)) (g : List Record) (p : ℕ) (b b' : List ℕ) → p ≡ length (log_bytes groups) → IsStaged groups g b → b' ≡ overwritten b p (1 ∷ []) → IsClosed (groups ++ g ∷ []) b'
staged-opened groups g p b b' place staged written =
    let body = group_bytes (length groups + 1) g ++ 0 ∷ staged.1 in
    (0, staged.1, zero_shut, gate-written (log_bytes groups) body b b' staged.0 1 staged.2 (written ∙ ap (λ (n : ℕ). overwritten b n (1 ∷ [])) place) ∙ opened groups g staged.1)

-- a group and a closed gate written behind a gate are staged
pub closed-staged : (groups : List (List Record)) (g : List Record) (n : ℕ) (b b' : List ℕ) → n ≡ length (log_bytes groups) + 1 → IsClosed groups b → b' ≡ overwritten b n (group_bytes (length groups + 1) g ++ 0 ∷ []) → IsStaged groups g b'
closed-staged groups g n b b' place closed written =
    let front = log_bytes groups ++ closed.0 ∷ [] in
    let body = group_bytes (length groups + 1) g in
    let long : length front ≡ n = length-append (log_bytes groups) (closed.0 ∷ []) ∙ sym place in
    let whole : b ≡ front ++ closed.1 = closed.3 ∙ sym (append_assoc (log_bytes groups) (closed.0 ∷ []) closed.1) in
    let rest = drop (n + length (body ++ 0 ∷ [])) b in
    let taken : take n b ≡ front = ap (take n) whole ∙ take_at front closed.1 n long in (
      closed.0,
      rest,
      written ∙ ap (λ (l : List ℕ). l ++ ((body ++ 0 ∷ []) ++ rest)) taken ∙ ap (λ (l : List ℕ). front ++ l) (append_assoc body (0 ∷ []) rest) ∙ append_assoc (log_bytes groups) (closed.0 ∷ []) (body ++ 0 ∷ rest),
    )

-- how long closed and staged bytes are at least
pub closed-long : (groups : List (List Record)) (b : List ℕ) → IsClosed groups b → length (log_bytes groups) + 1 ≤ length b
closed-long groups b closed = omega (arith, ap length closed.3, length-append (log_bytes groups) (closed.0 ∷ closed.1))

pub staged-long : (groups : List (List Record)) (g : List Record) (b : List ℕ) → IsStaged groups g b → length (log_bytes groups) + 1 ≤ length b
staged-long groups g b staged = omega (arith, ap length staged.2, length-append (log_bytes groups) (staged.0 ∷ (group_bytes (length groups + 1) g ++ 0 ∷ staged.1)))

-- bytes as many as their durable length end with the gate
pub whole : (b : List ℕ) (r : List Record) (n : ℕ) → Recovers b r n → length b ≡ n → IsWhole r b
whole b r n is long = (is.0, is.1, subst (λ (l : List ℕ). LogText b is.0 is.1 l) (none is.2 (omega (arith, is.6, ap length is.3.text, length-append (log_bytes is.0) (is.1 ∷ is.2)))) is.3, is.4, is.5) where
  none : (l : List ℕ) → length l ≡ 0 → l ≡ []
  none [] is = refl
  none (x ∷ l) is = absurd (omega (arith, is))
