-- The replies of workers in the order of the lines.
use Rattle.std.proofs.Common.{◌≡◌, ◌⊎◌, inl, inr, ℕ, zero, suc, ◌+◌, ◌%◌, ◌<◌, ◌≤◌, Bool, true, false, cond, ◌&&◌, List, [], ◌∷◌, ◌++◌, length, map, reverse, take, take_all, drop, slice_index_or, slice_set, length-append, refl, sym, ap, ◌∙◌, subst, arith, append-nil, append_assoc, Vec, Global}
use Rattle.std.specs.Prelude.{◌==◌, ◌≢◌}
use Rattle.std.proofs.lemmas.Bool.{ne_eqb, eq-eqb, cases_eq, cases_lt}
use Rattle.std.proofs.lemmas.List.{drop_all, get_or-map, get_or-set_same, get_or-set_other, length-reverse, reverse-append}
use Rattle.std.proofs.lemmas.List.Filters.{length-filter_more}
use Rattle.std.proofs.Math.Nat.{mod-lt}
use Rattle.graph_legal.specs.Lines.{Asked, Replied, asked_in, answered, history_onto}
use Rattle.graph_model.proofs.Snapshots.{drop-item}
use Rattle.graph_workers.specs.Passes.{own_lines}
use Rattle.request_text.specs.declared.reply.Reply.{Reply}
use Rattle.request_text.specs.declared.request.Line.{Line}
use Rattle.worker_lines.specs.Lines.{is_of, lines_of}
use Rattle.worker_sessions.specs.Sessions.{EachIs}
use Rattle.store_workers.specs.Crews.{AreNumbered}
use Rattle.store_workers.specs.Orders.{replies_of, own_at}
use Rattle.store_workers.proofs.Numbering.{any-default}

-- ---- the lines of a worker in the history of all

pub no-replies : (past : List Replied) (asked : List Asked) → history_onto past asked [] ≡ past
no-replies past [] = refl
no-replies past (a ∷ asked) = refl

module _ (w n ph : ℕ) where
  pub own-onto : (past : List Replied) (script : List Line) (rs : List Reply) → own_lines ph w (history_onto past (map (asked_in ph n) script) rs) ≡ history_onto (own_lines ph w past) (map (asked_in ph n) (lines_of w n script)) (replies_of w n script rs)
  own-onto past [] rs = refl
  own-onto past (line ∷ script) [] = sym (no-replies (own_lines ph w past) (map (asked_in ph n) (lines_of w n (line ∷ script))))
  own-onto past (line ∷ script) (r ∷ rs) =
      own-onto (answered (asked_in ph n line) r ∷ past) script rs
      ∙ ap (λ (b : Bool). history_onto (cond (b && is_of w n line) (answered (asked_in ph n line) r ∷ own_lines ph w past) (own_lines ph w past)) (map (asked_in ph n) (lines_of w n script)) (replies_of w n script rs)) (eq-eqb ph ph refl)
      ∙ by_case (is_of w n line)
    where
      by_case : (b : Bool) → history_onto (cond b (answered (asked_in ph n line) r ∷ own_lines ph w past) (own_lines ph w past)) (map (asked_in ph n) (lines_of w n script)) (replies_of w n script rs)
          ≡ history_onto (own_lines ph w past) (map (asked_in ph n) (cond b (line ∷ lines_of w n script) (lines_of w n script))) (cond b (r ∷ replies_of w n script rs) (replies_of w n script rs))
      by_case true = refl
      by_case false = refl

-- those of other phases are none of its lines
pub other-onto : (ph w : ℕ) (past : List Replied) (asked : List Asked) (rs : List Reply) → EachIs (λ a. a.phase ≢ ph) asked → own_lines ph w (history_onto past asked rs) ≡ own_lines ph w past
other-onto ph w past [] rs apart = refl
other-onto ph w past (a ∷ asked) [] apart = refl
other-onto ph w past (a ∷ asked) (r ∷ rs) apart =
    other-onto ph w (answered a r ∷ past) asked rs apart.1
    ∙ ap (λ (b : Bool). cond (b && (a.worker == w)) (answered a r ∷ own_lines ph w past) (own_lines ph w past)) (ne_eqb a.phase ph apart.0)

pub asked-apart : (ph k n : ℕ) (script : List Line) → k ≢ ph → EachIs (λ a. a.phase ≢ ph) (map (asked_in k n) script)
asked-apart ph k n [] ne = tt
asked-apart ph k n (line ∷ script) ne = (ne, asked-apart ph k n script ne)

pub each-both : {A : Type 0} (F : A → Type 0) (xs ys : List A) → EachIs F xs → EachIs F ys → EachIs F (xs ++ ys)
each-both F [] ys a b = b
each-both F (x ∷ xs) ys a b = (a.0, each-both F xs ys a.1 b)

module _ (w n : ℕ) where
  -- a worker that is not there has no lines
  none-of : (script : List Line) (rs : List Reply) → 0 < n → n ≤ w → replies_of w n script rs ≡ []
  none-of [] rs some high = refl
  none-of (line ∷ script) [] some high = refl
  none-of (line ∷ script) (r ∷ rs) some high =
      let low = mod-lt line.session {m = n} some in
      ap (λ (b : Bool). cond b (r ∷ replies_of w n script rs) (replies_of w n script rs)) (ne_eqb (line.session % n) w (λ e. omega (arith, low, high, e))) ∙ none-of script rs some high

pub no-worker : (vs : List (Vec Reply Global)) (w : ℕ) → length vs ≤ w → own_at vs w ≡ []
no-worker [] w high = refl
no-worker (v ∷ vs) zero high = absurd (omega (arith, high))
no-worker (v ∷ vs) (suc w) high = no-worker vs w (omega (arith, high))

pub own-replies : (n : ℕ) (script : List Line) (rs : List Reply) (vs : List (Vec Reply Global)) → 0 < n → length vs ≡ n → ((w : ℕ) → w < n → replies_of w n script rs ≡ own_at vs w) → (w : ℕ) → replies_of w n script rs ≡ own_at vs w
own-replies n script rs vs some many each w = by_case (cases_lt w n)
  where
    by_case : (w < n) ⊎ (n ≤ w) → replies_of w n script rs ≡ own_at vs w
    by_case (inl low) = each w low
    by_case (inr high) = none-of w n script rs some high ∙ sym (no-worker vs w (omega (arith, high, many)))

-- ---- one reply after another, from the last line to the first

-- The replies to the lines from this one on are brought into order, the last one first; each worker has those to its lines before.
pub record Dealt (n : ℕ) (script : List Line) (whole now : List (Vec Reply Global)) (left : ℕ) (rs : List Reply) : Type 0 where
  pub each : length now ≡ n
  pub len : length rs + left ≡ length script
  pub rest : (w : ℕ) (d : Vec Reply Global) → w < n → length (slice_index_or now w d).items ≡ length (lines_of w n (take left script))
  pub own : (w : ℕ) (d : Vec Reply Global) → w < n → (slice_index_or whole w d).items ≡ (slice_index_or now w d).items ++ replies_of w n (drop left script) (reverse rs)

-- the line is of its own worker, and of no other
same-of : (n : ℕ) (line : Line) → is_of (line.session % n) n line ≡ true
same-of n line = eq-eqb (line.session % n) (line.session % n) refl

not-of : (w n : ℕ) (line : Line) → (w ≡ line.session % n → ⊥) → is_of w n line ≡ false
not-of w n line ne = ne_eqb (line.session % n) w (λ e. ne (sym e))

module _ (n : ℕ) (script : List Line) (whole : List (Vec Reply Global)) where
  pub none-dealt : (rs : List Reply) → length whole ≡ n → rs ≡ [] → ((w : ℕ) (d : Vec Reply Global) → w < n → length (slice_index_or whole w d).items ≡ length (lines_of w n script)) → Dealt n script whole whole (length script) rs
  none-dealt rs many none each = record {
    each = many;
    len = let e = ap length none in omega (arith, e);
    rest = λ w d low. each w d low ∙ ap (λ (ls : List Line). length (lines_of w n ls)) (sym (take_all (length script) script (omega arith)));
    own = λ w d low. sym (append-nil (slice_index_or whole w d).items) ∙ ap (λ (ls : List Line). (slice_index_or whole w d).items ++ replies_of w n ls (reverse rs)) (sym (drop_all (length script) script (omega arith)));
  }

  -- how many lines of a worker stand before the next one
  before : (w k : ℕ) (line : Line) → k < length script → line ≡ slice_index_or script k line → length (lines_of w n (take (k + 1) script)) ≡ length (lines_of w n (take k script)) + cond (is_of w n line) 1 0
  before w k line low is = length-filter_more (is_of w n) script k line low ∙ ap (λ (z : Line). length (lines_of w n (take k script)) + cond (is_of w n z) 1 0) (sym is)

  -- the worker of the line has a reply to it
  pub has-reply : (now : List (Vec Reply Global)) (k left : ℕ) (rs : List Reply) (line : Line) (d : Vec Reply Global) → Dealt n script whole now left rs → left ≡ k + 1 → k < length script → line ≡ slice_index_or script k line → 0 < n
      → 0 < length (slice_index_or now (line.session % n) d).items
  has-reply now k left rs line d was one low is some =
      let w = line.session % n in
      let many = was.rest w d (mod-lt line.session {m = n} some) ∙ ap (λ (j : ℕ). length (lines_of w n (take j script))) one ∙ before w k line low is ∙ ap (λ (b : Bool). length (lines_of w n (take k script)) + cond b 1 0) (same-of n line) in
      omega (arith, many)

  pub one-dealt : (now next : List (Vec Reply Global)) (v : Vec Reply Global) (k left : ℕ) (rs rs' : List Reply) (r : Reply) (line : Line) (d : Vec Reply Global) → Dealt n script whole now left rs → left ≡ k + 1 → k < length script → line ≡ slice_index_or script k line → 0 < n
      → (slice_index_or now (line.session % n) d).items ≡ v.items ++ r ∷ [] → next ≡ slice_set now (line.session % n) v → rs' ≡ rs ++ r ∷ [] → Dealt n script whole next k rs'
  one-dealt now next v k left rs rs' r line d was one low is some popped set pushed = record {
    each = ap length set ∙ length-set now (line.session % n) v (subst (λ (m : ℕ). line.session % n < m) (sym was.each) (mod-lt line.session {m = n} some)) ∙ was.each;
    len = let had = was.len in let more = ap length pushed ∙ length-append rs (r ∷ []) in omega (arith, had, more, one);
    rest = λ w e in-n. rest-of w e in-n (cases_eq w (line.session % n));
    own = λ w e in-n. own-of w e in-n (cases_eq w (line.session % n));
  }
    where
      here : line.session % n < length now
      here = subst (λ (m : ℕ). line.session % n < m) (sym was.each) (mod-lt line.session {m = n} some)

      length-set : (vs : List (Vec Reply Global)) (i : ℕ) (x : Vec Reply Global) → i < length vs → length (slice_set vs i x) ≡ length vs
      length-set [] i x at = absurd (omega (arith, at))
      length-set (y ∷ vs) zero x at = refl
      length-set (y ∷ vs) (suc i) x at = ap suc (length-set vs i x (omega (arith, at)))

      at-same : (e : Vec Reply Global) → slice_index_or next (line.session % n) e ≡ v
      at-same e = ap (λ (vs : List (Vec Reply Global)). slice_index_or vs (line.session % n) e) set ∙ get_or-set_same now (line.session % n) v e here

      at-other : (w : ℕ) (e : Vec Reply Global) → (w ≡ line.session % n → ⊥) → slice_index_or next w e ≡ slice_index_or now w e
      at-other w e ne = ap (λ (vs : List (Vec Reply Global)). slice_index_or vs w e) set ∙ get_or-set_other now (line.session % n) w v e ne

      old-same : (e : Vec Reply Global) → slice_index_or now (line.session % n) e ≡ slice_index_or now (line.session % n) d
      old-same e = any-default now (line.session % n) e d here

      rest-of : (w : ℕ) (e : Vec Reply Global) → w < n → (w ≡ line.session % n) ⊎ (w ≡ line.session % n → ⊥) → length (slice_index_or next w e).items ≡ length (lines_of w n (take k script))
      rest-of w e in-n (inl same) = subst (λ (j : ℕ). length (slice_index_or next j e).items ≡ length (lines_of j n (take k script))) (sym same)
          (let j = line.session % n in
          let had = was.rest j d (mod-lt line.session {m = n} some) ∙ ap (λ (m : ℕ). length (lines_of j n (take m script))) one ∙ before j k line low is ∙ ap (λ (b : Bool). length (lines_of j n (take k script)) + cond b 1 0) (same-of n line) in
          let less = ap length popped ∙ length-append v.items (r ∷ []) in
          ap (λ (x : Vec Reply Global). length x.items) (at-same e) ∙ (omega (arith, had, less)))
      rest-of w e in-n (inr ne) =
          ap (λ (x : Vec Reply Global). length x.items) (at-other w e ne) ∙ was.rest w e in-n ∙ ap (λ (m : ℕ). length (lines_of w n (take m script))) one ∙ before w k line low is
          ∙ ap (λ (b : Bool). length (lines_of w n (take k script)) + cond b 1 0) (not-of w n line ne) ∙ plus-none (length (lines_of w n (take k script)))
        where
          plus-none : (m : ℕ) → m + 0 ≡ m
          plus-none m = omega arith

      suffix : drop k script ≡ line ∷ drop left script
      suffix = drop-item script k line low is ∙ ap (λ (m : ℕ). line ∷ drop m script) (sym one)

      turned : reverse rs' ≡ r ∷ reverse rs
      turned = ap (λ (xs : List Reply). reverse xs) pushed ∙ reverse-append rs (r ∷ [])

      joined : (w : ℕ) → replies_of w n (drop k script) (reverse rs') ≡ cond (is_of w n line) (r ∷ replies_of w n (drop left script) (reverse rs)) (replies_of w n (drop left script) (reverse rs))
      joined w = λ i. replies_of w n (suffix i) (turned i)

      own-of : (w : ℕ) (e : Vec Reply Global) → w < n → (w ≡ line.session % n) ⊎ (w ≡ line.session % n → ⊥) → (slice_index_or whole w e).items ≡ (slice_index_or next w e).items ++ replies_of w n (drop k script) (reverse rs')
      own-of w e in-n (inl same) = subst (λ (j : ℕ). (slice_index_or whole j e).items ≡ (slice_index_or next j e).items ++ replies_of j n (drop k script) (reverse rs')) (sym same)
          (let j = line.session % n in let late = replies_of j n (drop left script) (reverse rs) in
          was.own j e (mod-lt line.session {m = n} some) ∙ ap (λ (xs : List Reply). xs ++ late) (ap (λ (x : Vec Reply Global). x.items) (old-same e) ∙ popped) ∙ append_assoc v.items (r ∷ []) late
          ∙ (λ i. (sym (at-same e) i).items ++ sym (joined j ∙ ap (λ (b : Bool). cond b (r ∷ late) late) (same-of n line)) i))
      own-of w e in-n (inr ne) =
          let late = replies_of w n (drop left script) (reverse rs) in
          was.own w e in-n ∙ (λ i. (sym (at-other w e ne) i).items ++ sym (joined w ∙ ap (λ (b : Bool). cond b (r ∷ late) late) (not-of w n line ne)) i)

  -- all are
  pub all-dealt : (now : List (Vec Reply Global)) (left : ℕ) (rs rs' : List Reply) → Dealt n script whole now left rs → left ≡ 0 → rs' ≡ reverse rs → length whole ≡ n → Vec Reply Global → (length rs' ≡ length script) × ((w : ℕ) → w < n → replies_of w n script rs' ≡ own_at whole w)
  all-dealt now left rs rs' was none turned many d = (
    ap length turned ∙ length-reverse rs ∙ (let had = was.len in omega (arith, had, none)),
    λ w low. sym (get_or-map (λ (v : Vec Reply Global). v.items) whole w d [] (omega (arith, low, many)) ∙ was.own w d low ∙ (λ i. (empty w d low i) ++ replies_of w n (whole_script i) (sym turned i))),
  )
    where
      whole_script : drop left script ≡ script
      whole_script = ap (λ (m : ℕ). drop m script) none

      is-empty : (xs : List Reply) → length xs ≡ 0 → xs ≡ []
      is-empty [] e = refl
      is-empty (x ∷ xs) e = absurd (omega (arith, e))

      empty : (w : ℕ) (d : Vec Reply Global) → w < n → (slice_index_or now w d).items ≡ []
      empty w d low = is-empty (slice_index_or now w d).items (was.rest w d low ∙ ap (λ (m : ℕ). length (lines_of w n (take m script))) none)

-- ---- one worker alone

of-one : (line : Line) → is_of 0 1 line ≡ true
of-one line = let low = mod-lt line.session {m = 1} (omega arith) in eq-eqb (line.session % 1) 0 (omega (arith, low))

pub lines-of-one : (script : List Line) → lines_of 0 1 script ≡ script
lines-of-one [] = refl
lines-of-one (line ∷ script) = ap (λ (b : Bool). cond b (line ∷ lines_of 0 1 script) (lines_of 0 1 script)) (of-one line) ∙ ap (λ (lines : List Line). line ∷ lines) (lines-of-one script)

pub replies-of-one : (script : List Line) (rs : List Reply) → length rs ≡ length script → replies_of 0 1 script rs ≡ rs
replies-of-one [] [] same = refl
replies-of-one [] (r ∷ rs) same = absurd (let bad : ⊥ = omega (arith, same) in bad)
replies-of-one (line ∷ script) [] same = absurd (let bad : ⊥ = omega (arith, same) in bad)
replies-of-one (line ∷ script) (r ∷ rs) same =
    ap (λ (b : Bool). cond b (r ∷ replies_of 0 1 script rs) (replies_of 0 1 script rs)) (of-one line)
    ∙ ap (λ (ss : List Reply). r ∷ ss) (replies-of-one script rs (omega (arith, same)))

module _ (n : ℕ) (script : List Line) (own : List (Vec Reply Global)) (v : Vec Reply Global) (one : n ≡ 1) (is : own ≡ v ∷ []) (whole : AreNumbered (λ w rs. length rs.items ≡ length (lines_of w n script)) 0 own) where
  pub alone-len : length v.items ≡ length script
  alone-len =
      let of-v : AreNumbered (λ (w : ℕ) (rs : Vec Reply Global). length rs.items ≡ length (lines_of w 1 script)) 0 (v ∷ []) =
      subst (λ (z : ℕ × List (Vec Reply Global)). AreNumbered (λ (w : ℕ) (rs : Vec Reply Global). length rs.items ≡ length (lines_of w z.0 script)) 0 z.1) (λ i. (one i, is i)) whole in
      of-v.0 ∙ ap (λ (lines : List Line). length lines) (lines-of-one script)

  pub alone-own : (w : ℕ) → w < n → replies_of w n script v.items ≡ own_at own w
  alone-own w low =
      let first : w ≡ 0 = omega (arith, low, one) in
      ap (λ (k : ℕ). replies_of k n script v.items) first
      ∙ ap (λ (k : ℕ). replies_of 0 k script v.items) one
      ∙ replies-of-one script v.items alone-len
      ∙ sym (ap (λ (vs : List (Vec Reply Global)). own_at vs w) is ∙ ap (λ (k : ℕ). own_at (v ∷ []) k) first)
