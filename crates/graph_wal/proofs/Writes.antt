-- Bytes that were written piece by piece.
use Rattle.std.proofs.Common.{◌≡◌, ℕ, ◌+◌, ◌≤◌, List, [], ◌++◌, length, take, drop, sym, ◌∙◌, ap, subst, arith, length-append, append_assoc, Some, None, Option}
use Rattle.std.specs.Prelude.{IfSome, IfOk, OnOk, Result, Ok, Err}
use Rattle.std.proofs.lemmas.List.{take_at, drop_at, drop-drop, length-take-le, take-append-drop}
use Rattle.disk_model.specs.Images.{overwritten, StillTells}
use Rattle.graph_wal.specs.Pieces.{Wrote}

-- a piece and then the next one behind it are both as one
pub overwritten-twice : (b xs ys : List ℕ) (place : ℕ) → place ≤ length b → overwritten (overwritten b place xs) (place + length xs) ys ≡ overwritten b place (xs ++ ys)
overwritten-twice b xs ys place joined =
    let rest = drop (place + length xs) b in
    let front = take place b ++ xs in
    let whole : overwritten b place xs ≡ front ++ rest = sym (append_assoc (take place b) xs rest) in
    let long : length front ≡ place + length xs = length-append (take place b) xs ∙ ap (λ (n : ℕ). n + length xs) (length-take-le place b joined) in
    let taken : take (place + length xs) (overwritten b place xs) ≡ front = ap (take (place + length xs)) whole ∙ take_at front rest (place + length xs) long in
    let dropped : drop (place + length xs + length ys) (overwritten b place xs) ≡ drop (place + length (xs ++ ys)) b =
    sym (drop-drop (length ys) (place + length xs) (overwritten b place xs))
    ∙ ap (drop (length ys)) (ap (drop (place + length xs)) whole ∙ drop_at front rest (place + length xs) long)
    ∙ drop-drop (length ys) (place + length xs) b
    ∙ ap (λ (n : ℕ). drop n b) (omega (arith, length-append xs ys)) in
    ap (λ (l : List ℕ). l ++ (ys ++ drop (place + length xs + length ys) (overwritten b place xs))) taken
    ∙ ap (λ (l : List ℕ). front ++ (ys ++ l)) dropped
    ∙ append_assoc (take place b) xs (ys ++ drop (place + length (xs ++ ys)) b)
    ∙ ap (λ (l : List ℕ). take place b ++ l) (sym (append_assoc xs ys (drop (place + length (xs ++ ys)) b)))

pub Wrote-join : (t u v : Option (List ℕ)) (place : ℕ) (xs ys : List ℕ) → IfSome t (λ b. place ≤ length b) → Wrote t u place xs → Wrote u v (place + length xs) ys → Wrote t v place (xs ++ ys)
Wrote-join None None None place xs ys joined first second = tt
Wrote-join None None (Some d) place xs ys joined first second = second
Wrote-join None (Some c) v place xs ys joined first second = absurd first
Wrote-join (Some b) None v place xs ys joined first second = absurd first
Wrote-join (Some b) (Some c) None place xs ys joined first second = second
Wrote-join (Some b) (Some c) (Some d) place xs ys joined first second =
    second ∙ ap (λ (l : List ℕ). overwritten l (place + length xs) ys) first ∙ overwritten-twice b xs ys place joined

-- nothing was written
pub Wrote-nothing : (t : Option (List ℕ)) (place : ℕ) → Wrote t t place []
Wrote-nothing None place = tt
Wrote-nothing (Some b) place = sym (ap (λ (n : ℕ). take place b ++ drop n b) (omega arith) ∙ take-append-drop place b)

-- the same, at a place that is equal
pub Wrote-at : (t u : Option (List ℕ)) (p q : ℕ) (xs : List ℕ) → p ≡ q → Wrote t u p xs → Wrote t u q xs
Wrote-at t u p q xs same wrote = subst (λ (n : ℕ). Wrote t u n xs) same wrote

pub Wrote-bytes : (t u : Option (List ℕ)) (p : ℕ) (xs ys : List ℕ) → xs ≡ ys → Wrote t u p xs → Wrote t u p ys
Wrote-bytes t u p xs ys same wrote = subst (λ (l : List ℕ). Wrote t u p l) same wrote

-- what follows of a success from what a clause says of it
pub OnOk-map : {T E : Type 0} (r : Result T E) (P Q : Type 0) → OnOk r P → (P → Q) → OnOk r Q
OnOk-map (Ok x) P Q p f = f p
OnOk-map (Err e) P Q p f = tt

pub IfOk-map : {T E : Type 0} (r : Result T E) (P Q : T → Type 0) → IfOk r P → ((x : T) → P x → Q x) → IfOk r Q
IfOk-map (Ok x) P Q p f = f x p
IfOk-map (Err e) P Q p f = tt

-- a place behind what was written is within the bytes
pub Wrote-joined : (t u : Option (List ℕ)) (place : ℕ) (xs : List ℕ) → IfSome t (λ b. place ≤ length b) → Wrote t u place xs → IfSome u (λ c. place + length xs ≤ length c)
Wrote-joined None None place xs joined wrote = tt
Wrote-joined None (Some c) place xs joined wrote = absurd wrote
Wrote-joined (Some b) None place xs joined wrote = absurd wrote
Wrote-joined (Some b) (Some c) place xs joined wrote =
    omega (arith, ap length wrote, length-append (take place b) (xs ++ drop (place + length xs) b), length-append xs (drop (place + length xs) b), length-take-le place b joined)

pub IfSome-at : (t : Option (List ℕ)) (p q : ℕ) → p ≡ q → IfSome t (λ b. p ≤ length b) → IfSome t (λ b. q ≤ length b)
IfSome-at None p q same joined = tt
IfSome-at (Some b) p q same joined = omega arith

-- what holds where a disk told its bytes before a call, from what holds then and where it tells them after it
pub told-both : (t u : Option (List ℕ)) (A B C : Type 0) → StillTells t u → IfSome t (λ _. A) → IfSome u (λ _. B) → (A → B → C) → IfSome t (λ _. C)
told-both None u A B C told a b f = tt
told-both (Some x) None A B C told a b f = absurd told
told-both (Some x) (Some y) A B C told a b f = f a b

-- what holds where it told them holds where it tells them
pub told-on : (t u : Option (List ℕ)) (A : Type 0) → StillTells t u → IfSome t (λ _. A) → IfSome u (λ _. A)
told-on None None A told a = tt
told-on None (Some y) A told a = absurd told
told-on (Some x) None A told a = tt
told-on (Some x) (Some y) A told a = a

pub IfSome-map : (t : Option (List ℕ)) (A B : Type 0) → IfSome t (λ _. A) → (A → B) → IfSome t (λ _. B)
IfSome-map None A B a f = tt
IfSome-map (Some x) A B a f = f a
