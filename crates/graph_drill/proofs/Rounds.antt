-- The lines of a round, one after another.
use Rattle.std.proofs.Common.{◌≡◌, ◌≢◌, ℕ, zero, suc, length, get_or, set, subst, ◌+◌, ◌-◌, ◌%◌, ◌<◌, true, false, cond, List, [], ◌∷◌, ◌++◌, map, flat_map, append_assoc, refl, sym, ap, ◌∙◌, arith}
use Rattle.std.specs.Prelude.{◌==◌}
use Rattle.std.specs.List.{range_with_len}
use Rattle.std.proofs.lemmas.Bool.{eqb-true, eqb-false}
use Rattle.std.proofs.lemmas.Grind.{get_or-set_at}
use Rattle.std.proofs.lemmas.List.{map-append, flat_map_more, get_or-set_other}
use Rattle.request_text.specs.declared.request.Request.{Request}
use Rattle.request_text.specs.declared.request.Request.TheVariants.{Begin, Put, Del, Scan, Commit}
use Rattle.request_text.specs.declared.request.Line.{Line}
use Rattle.graph_drill.specs.declared.drill.Drill.{Drill}
use Rattle.graph_drill.specs.declared.drill_session.DrillSession.{DrillSession}
use Rattle.graph_drill.specs.Scripts.{asked_by, word_of, label_of, payload_of, in_every, requests_in, session_lines}
use Rattle.graph_drill.specs.Sessions.{IsAfter}

-- what is asked piece by piece
pieces : (s : ℕ) (start : List Line) (a b z : Request) (xs ys : List Request)
    → ((((start ++ asked_by s a ∷ []) ++ asked_by s b ∷ []) ++ map (asked_by s) xs) ++ map (asked_by s) ys) ++ asked_by s z ∷ []
    ≡ start ++ map (asked_by s) (a ∷ b ∷ (xs ++ (ys ++ z ∷ [])))
pieces s start a b z xs ys =
    append_assoc (((start ++ asked_by s a ∷ []) ++ asked_by s b ∷ []) ++ map (asked_by s) xs) (map (asked_by s) ys) (asked_by s z ∷ [])
    ∙ append_assoc ((start ++ asked_by s a ∷ []) ++ asked_by s b ∷ []) (map (asked_by s) xs) (map (asked_by s) ys ++ asked_by s z ∷ [])
    ∙ append_assoc (start ++ asked_by s a ∷ []) (asked_by s b ∷ []) (map (asked_by s) xs ++ (map (asked_by s) ys ++ asked_by s z ∷ []))
    ∙ append_assoc start (asked_by s a ∷ []) (asked_by s b ∷ (map (asked_by s) xs ++ (map (asked_by s) ys ++ asked_by s z ∷ [])))
    ∙ ap (λ r. start ++ asked_by s a ∷ asked_by s b ∷ (map (asked_by s) xs ++ r)) (sym (map-append (asked_by s) ys (z ∷ [])))
    ∙ ap (λ r. start ++ asked_by s a ∷ asked_by s b ∷ r) (sym (map-append (asked_by s) xs (ys ++ z ∷ [])))

-- only in every nth round does it matter what is asked
in_every-same : (n round : ℕ) (x y : Request) → ((round % n == 0) ≡ true → x ≡ y) → in_every n round x ≡ in_every n round y
in_every-same n round x y same =
    elim (round % n == 0) as (λ b. (round % n == 0) ≡ b → cond b (x ∷ []) [] ≡ cond b (y ∷ []) []) [
      | true ↦ λ e. ap (λ r. r ∷ []) (same e)
      | false ↦ λ e. refl
    ] refl

-- the label that is kept from two rounds before is right where an edge is taken out
taken : (drill : Drill) (x : DrillSession) (round v : ℕ) → 0 < round → IsAfter drill (round - 1) x
    → in_every 5 round (Del v x.before_last (round - 2)) ≡ in_every 5 round (Del v (label_of (word_of drill.seed x.number (round - 2))) (round - 2))
taken drill x round v counted now =
    in_every-same 5 round (Del v x.before_last (round - 2)) (Del v (label_of (word_of drill.seed x.number (round - 2))) (round - 2)) (λ e.
    let fifth : round % 5 ≡ 0 = eqb-true (round % 5) 0 e in
    let late : 1 < round - 1 = omega arith in
    let before : round - 1 - 1 ≡ round - 2 = omega arith in
    ap (λ l. Del v l (round - 2)) (now.before_last late ∙ ap (λ r. label_of (word_of drill.seed x.number r)) before))

-- the lines that a session appends are those of its round
pub session-pieces : (drill : Drill) (x : DrillSession) (round word : ℕ) (start : List Line) → 0 < round → IsAfter drill (round - 1) x → word ≡ word_of drill.seed x.number round
    → ((((start ++ asked_by x.number Begin ∷ []) ++ asked_by x.number (Put (drill.next_vertex + x.number) (label_of word) round (payload_of word)) ∷ [])
    ++ map (asked_by x.number) (in_every 5 round (Del (drill.next_vertex + x.number) x.before_last (round - 2))))
    ++ map (asked_by x.number) (in_every 10 round (Scan (drill.next_vertex + x.number) (label_of word)))) ++ asked_by x.number Commit ∷ []
    ≡ start ++ session_lines drill.seed drill.next_vertex round x.number
session-pieces drill x round word start counted now is =
    let v = drill.next_vertex + x.number in
    pieces x.number start Begin (Put v (label_of word) round (payload_of word)) Commit (in_every 5 round (Del v x.before_last (round - 2))) (in_every 10 round (Scan v (label_of word)))
    ∙ ap (λ dels. start ++ map (asked_by x.number) (Begin ∷ Put v (label_of word) round (payload_of word) ∷ (dels ++ (in_every 10 round (Scan v (label_of word)) ++ Commit ∷ [])))) (taken drill x round v counted now)
    ∙ ap (λ w. start ++ map (asked_by x.number) (requests_in round v w (label_of (word_of drill.seed x.number (round - 2))))) is

-- the same of five pushes, one after another
pub session-pushed : (drill : Drill) (x : DrillSession) (round word v l d q : ℕ) (p : List ℕ) (s0 s1 s2 s3 s4 s5 : List Line) → 0 < round → IsAfter drill (round - 1) x
    → word ≡ word_of drill.seed x.number round → v ≡ drill.next_vertex + x.number → l ≡ label_of word → d ≡ round → q ≡ d - 2 → p ≡ payload_of word
    → s1 ≡ s0 ++ asked_by x.number Begin ∷ []
    → s2 ≡ s1 ++ asked_by x.number (Put v l d p) ∷ []
    → s3 ≡ s2 ++ map (asked_by x.number) (in_every 5 round (Del v x.before_last q))
    → s4 ≡ s3 ++ map (asked_by x.number) (in_every 10 round (Scan v l))
    → s5 ≡ s4 ++ asked_by x.number Commit ∷ []
    → s5 ≡ s0 ++ session_lines drill.seed drill.next_vertex round x.number
session-pushed drill x round word v l d q p s0 s1 s2 s3 s4 s5 counted now is ev el ed eq ep e1 e2 e3 e4 e5 =
    let a = asked_by x.number in
    let q2 : q ≡ round - 2 = eq ∙ ap (λ n. n - 2) ed in
    let put : Put v l d p ≡ Put v (label_of word) round (payload_of word) = ap (λ k. Put v k d p) el ∙ ap (λ k. Put v (label_of word) k p) ed ∙ ap (λ k. Put v (label_of word) round k) ep in
    e5
    ∙ ap (λ s. s ++ a Commit ∷ []) (e4
    ∙ ap (λ k. s3 ++ map a (in_every 10 round (Scan v k))) el
    ∙ ap (λ s. s ++ map a (in_every 10 round (Scan v (label_of word)))) (e3
    ∙ ap (λ k. s2 ++ map a (in_every 5 round (Del v x.before_last k))) q2
    ∙ ap (λ s. s ++ map a (in_every 5 round (Del v x.before_last (round - 2)))) (e2
    ∙ ap (λ r. s1 ++ a r ∷ []) put
    ∙ ap (λ s. s ++ a (Put v (label_of word) round (payload_of word)) ∷ []) e1)))
    ∙ pieces-at v ev
  where
    pieces-at : (v : ℕ) → v ≡ drill.next_vertex + x.number
        → ((((s0 ++ asked_by x.number Begin ∷ []) ++ asked_by x.number (Put v (label_of word) round (payload_of word)) ∷ [])
        ++ map (asked_by x.number) (in_every 5 round (Del v x.before_last (round - 2))))
        ++ map (asked_by x.number) (in_every 10 round (Scan v (label_of word)))) ++ asked_by x.number Commit ∷ []
        ≡ s0 ++ session_lines drill.seed drill.next_vertex round x.number
    pieces-at v ev =
        ap (λ n. ((((s0 ++ asked_by x.number Begin ∷ []) ++ asked_by x.number (Put n (label_of word) round (payload_of word)) ∷ [])
        ++ map (asked_by x.number) (in_every 5 round (Del n x.before_last (round - 2))))
        ++ map (asked_by x.number) (in_every 10 round (Scan n (label_of word)))) ++ asked_by x.number Commit ∷ []) ev
        ∙ session-pieces drill x round word s0 counted now is

-- ---- all sessions, and all rounds

-- a number more at the end
pub range-more : (a n : ℕ) → range_with_len a n ++ (a + n) ∷ [] ≡ range_with_len a (n + 1)
range-more a zero = let same : a + 0 ≡ a = omega arith in ap (λ k. k ∷ []) same
range-more a (suc n) =
    let next : a + suc n ≡ a + 1 + n = omega arith in
    let more : suc (n + 1) ≡ suc n + 1 = omega arith in
    ap (λ k. a ∷ (range_with_len (a + 1) n ++ k ∷ [])) next ∙ ap (λ r. a ∷ r) (range-more (a + 1) n) ∙ ap (range_with_len a) more

-- what the next number gives comes behind
pub numbers-more : {X : Type 0} (f : ℕ → List X) (a n j : ℕ) (start : List X) → j ≡ a + n → (start ++ flat_map f (range_with_len a n)) ++ f j ≡ start ++ flat_map f (range_with_len a (n + 1))
numbers-more f a n j start is =
    ap (λ k. (start ++ flat_map f (range_with_len a n)) ++ f k) is
    ∙ flat_map_more f start (range_with_len a n) (a + n)
    ∙ ap (λ r. start ++ flat_map f r) (range-more a n)

-- what holds at a place when one place was written
pub set-at : {X : Type 0} (P : ℕ → X → Type 0) (xs : List X) (i : ℕ) (y : X) (k : ℕ) (x : X) → i < length xs → (k ≡ i → P k y) → (k ≢ i → P k (get_or xs k x)) → P k (get_or (set xs i y) k x)
set-at P xs i y k x within here there =
    elim (k == i) as (λ b. (k == i) ≡ b → P k (get_or (set xs i y) k x)) [
      | true ↦ λ e. let same : k ≡ i = eqb-true k i e in subst (P k) (sym (get_or-set_at xs i k y x same within)) (here same)
      | false ↦ λ e. let differ : k ≢ i = eqb-false k i e in subst (P k) (sym (get_or-set_other xs i k y x differ)) (there differ)
    ] refl
