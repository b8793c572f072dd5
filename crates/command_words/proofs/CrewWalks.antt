-- What clap makes of the words behind `run`: it takes exactly those that the table has, and finds the values that they give.
use Rattle.std.proofs.Common.{◌≡◌, ◌∙◌, ◌⊎◌, inl, inr, Bool, true, false, List, [], ◌∷◌, Option, Some, None, refl, sym, ap, subst, fold}
use Rattle.std.specs.Prelude.{codes}
use Rattle.std.specs.Str.{bytes_eq}
use Rattle.clap.specs.Lexer.{long_of, short_of}
use Rattle.clap.specs.Walk.{Row, Text, Walk, idle, option, walked, finished, nothing_held, settled_rows, has_row, first_of, rows_after}
use Rattle.clap.specs.Simple.{built}
use Rattle.clap.specs.Faults.{turn_fault, walk_fault, defaults_fault, built_fault}
use Rattle.clap.specs.Kinds.{Kinds}
use Rattle.command_words.specs.CommandLines.{crew_app}
use Rattle.command_words.specs.Commands.{EndsWords, GivesOption, GivesCrew}
use Rattle.command_words.proofs.Turns.{Bad, bad-cons, between}
use Rattle.command_words.proofs.Walks.{Ends, level_bad, ends_here, ends_later}
use Rattle.command_words.proofs.CrewForms.{Name, Workers, Shards, name_of, flag, flag_value, form_of}
use Rattle.command_words.proofs.CrewTurns.{crewed, row, trailing, crew_word, wants, has, value_word, again}

-- ---- options one after another

-- The words give these options in this order, and then they end.
abbrev pub Gives : List (Name × Text) → List Text → Type 0
Gives [] words = EndsWords words
Gives (o ∷ options) words =
    (rest : List Text) × Gives options rest × ((words ≡ flag o.0 ∷ o.1 ∷ rest) ⊎ (words ≡ flag_value o.0 o.1 ∷ rest))

-- what a word that gives an option its value leaves
abbrev after_value : Name → List Row → Option (Text × List Text) → Text → Walk
after_value n rows p v = between (settled_rows crewed.rules (Some (name_of n, v ∷ [])) (settled_rows crewed.rules p rows)) None idle false

after_dashes : (rows : List Row) (p : Option (Text × List Text)) (x : Text) → x ≡ 45 ∷ 45 ∷ [] → walked crewed.rules [] (between rows p idle false) x ≡ between rows p idle true
unfolding walked
after_dashes rows p x e = ap (λ z. walked crewed.rules [] (between rows p idle false) z) e

after_flag : (n : Name) (rows : List Row) (p : Option (Text × List Text)) (x : Text) → x ≡ flag n → walked crewed.rules [] (between rows p idle false) x ≡ wants n (settled_rows crewed.rules p rows) false
unfolding walked
after_flag Workers rows p x e = ap (λ z. walked crewed.rules [] (between rows p idle false) z) e
after_flag Shards rows p x e = ap (λ z. walked crewed.rules [] (between rows p idle false) z) e

after_flag_value : (n : Name) (v : Text) (rows : List Row) (p : Option (Text × List Text)) (x : Text) → x ≡ flag_value n v → walked crewed.rules [] (between rows p idle false) x ≡ after_value n rows p v
unfolding walked
after_flag_value Workers v rows p x e = ap (λ z. walked crewed.rules [] (between rows p idle false) z) e
after_flag_value Shards v rows p x e = ap (λ z. walked crewed.rules [] (between rows p idle false) z) e

-- where the option waits for its value
wanting_dashes : (n : Name) (rows : List Row) (x : Text) → x ≡ 45 ∷ 45 ∷ [] → walked crewed.rules [] (wants n rows false) x ≡ wants n rows true
unfolding walked
wanting_dashes Workers rows x e = ap (λ z. walked crewed.rules [] (wants Workers rows false) z) e
wanting_dashes Shards rows x e = ap (λ z. walked crewed.rules [] (wants Shards rows false) z) e

-- no value behind it is refused
unvalued : (n : Name) (rows : List Row) (trail : Bool) → Ends crewed (wants n rows trail) []
unvalued Workers rows trail = inr (bad-cons _ _)
unvalued Shards rows trail = inr (bad-cons _ _)

wanting_trailing : (n : Name) (rows : List Row) (words : List Text) → Ends crewed (wants n rows true) words
wanting_trailing n rows [] = unvalued n rows true
wanting_trailing n rows (x ∷ words) = ends_here crewed (wants n rows true) x words (trailing rows (Some (name_of n, [])) (option (name_of n)) x)

-- the words are options and then they end, or they are refused
parts : (rows : List Row) (p : Option (Text × List Text)) (words : List Text) → ((options : List (Name × Text)) × Gives options words) ⊎ Ends crewed (between rows p idle false) words
parts rows p [] = inl ([], inl refl)
parts rows p (x ∷ []) =
    let w : Walk = between rows p idle false in
    elim (crew_word rows p x (form_of x)) [
      | inl e ↦ inl ([], inr (ap (λ y. y ∷ []) e))
      | inr m ↦ elim m [
        | inl f ↦ inr (ends_later crewed w (wants f.0 (settled_rows crewed.rules p rows) false) x [] (after_flag f.0 rows p x f.1) (unvalued f.0 (settled_rows crewed.rules p rows) false))
        | inr n ↦ elim n [
          | inl f ↦ inl ((f.0, f.1) ∷ [], ([], inl refl, inr (ap (λ y. y ∷ []) f.2)))
          | inr bad ↦ inr (ends_here crewed w x [] bad)
        ]
      ]
    ]
parts rows p (x ∷ y ∷ words) =
    let w : Walk = between rows p idle false in
    let now : List Row = settled_rows crewed.rules p rows in
    elim (crew_word rows p x (form_of x)) [
      | inl e ↦ inr (ends_later crewed w (between rows p idle true) x (y ∷ words) (after_dashes rows p x e) (ends_here crewed (between rows p idle true) y words (trailing rows p idle y)))
      | inr m ↦ elim m [
        | inl f ↦
            let later : Ends crewed (wants f.0 now false) (y ∷ words) → Ends crewed w (x ∷ y ∷ words) = ends_later crewed w (wants f.0 now false) x (y ∷ words) (after_flag f.0 rows p x f.1) in
            elim (value_word f.0 now y (form_of y)) [
              | inl e ↦ inr (later (ends_later crewed (wants f.0 now false) (wants f.0 now true) y words (wanting_dashes f.0 now y e) (wanting_trailing f.0 now words)))
              | inr k ↦ elim k [
                | inl bad ↦ inr (later (ends_here crewed (wants f.0 now false) y words bad))
                | inr is ↦ elim (parts now (Some (name_of f.0, y ∷ [])) words) [
                  | inl given ↦ inl ((f.0, y) ∷ given.0, (words, given.1, inl (ap (λ z. z ∷ y ∷ words) f.1)))
                  | inr ends ↦ inr (later (ends_later crewed (wants f.0 now false) (has f.0 now y false) y words is ends))
                ]
              ]
            ]
        | inr n ↦ elim n [
          | inl f ↦ elim (parts (settled_rows crewed.rules (Some (name_of f.0, f.1 ∷ [])) now) None (y ∷ words)) [
            | inl given ↦ inl ((f.0, f.1) ∷ given.0, (y ∷ words, given.1, inr (ap (λ z. z ∷ y ∷ words) f.2)))
            | inr ends ↦ inr (ends_later crewed w (after_value f.0 rows p f.1) x (y ∷ words) (after_flag_value f.0 f.1 rows p x f.2) ends)
          ]
          | inr bad ↦ inr (ends_here crewed w x (y ∷ words) bad)
        ]
      ]
    ]

-- ---- an option given a second time

again_trailing : (n : Name) (rows : List Row) (vs : List Text) → has_row (name_of n) rows ≡ true → (words : List Text) → Ends crewed (between rows (Some (name_of n, vs)) idle true) words
again_trailing Workers rows vs there [] = inr (again Workers vs rows there)
again_trailing Shards rows vs there [] = inr (again Shards vs rows there)
again_trailing n rows vs there (x ∷ words) =
    ends_here crewed (between rows (Some (name_of n, vs)) idle true) x words (trailing rows (Some (name_of n, vs)) idle x)

-- a word behind its value settles it
settled_flag : (n m : Name) (rows : List Row) (v x : Text) → x ≡ flag m → has_row (name_of n) rows ≡ true → Bad (turn_fault crewed [] (has n rows v false) x)
settled_flag Workers Workers rows v x e there = rw (e, there) (bad-cons _ _)
settled_flag Workers Shards rows v x e there = rw (e, there) (bad-cons _ _)
settled_flag Shards Workers rows v x e there = rw (e, there) (bad-cons _ _)
settled_flag Shards Shards rows v x e there = rw (e, there) (bad-cons _ _)

settled_value : (n m : Name) (u : Text) (rows : List Row) (v x : Text) → x ≡ flag_value m u → has_row (name_of n) rows ≡ true → Bad (turn_fault crewed [] (has n rows v false) x)
settled_value Workers Workers u rows v x e there = rw (e, there) (bad-cons _ _)
settled_value Workers Shards u rows v x e there = rw (e, there) (bad-cons _ _)
settled_value Shards Workers u rows v x e there = rw (e, there) (bad-cons _ _)
settled_value Shards Shards u rows v x e there = rw (e, there) (bad-cons _ _)

settling : (n : Name) (rows : List Row) (v : Text) → has_row (name_of n) rows ≡ true → (words : List Text) → Ends crewed (has n rows v false) words
settling Workers rows v there [] = inr (again Workers (v ∷ []) rows there)
settling Shards rows v there [] = inr (again Shards (v ∷ []) rows there)
settling n rows v there (x ∷ words) =
    let w : Walk = has n rows v false in
    let here : Bad (turn_fault crewed [] w x) → Ends crewed w (x ∷ words) = ends_here crewed w x words in
    elim (crew_word rows (Some (name_of n, v ∷ [])) x (form_of x)) [
      | inl e ↦ ends_later crewed w (has n rows v true) x words (after_dashes rows (Some (name_of n, v ∷ [])) x e) (again_trailing n rows (v ∷ []) there words)
      | inr m ↦ elim m [
        | inl f ↦ here (settled_flag n f.0 rows v x f.1 there)
        | inr k ↦ elim k [
          | inl f ↦ here (settled_value n f.0 f.1 rows v x f.2 there)
          | inr bad ↦ here bad
        ]
      ]
    ]

wanting : (n : Name) (rows : List Row) → has_row (name_of n) rows ≡ true → (words : List Text) → Ends crewed (wants n rows false) words
wanting n rows there [] = unvalued n rows false
wanting n rows there (x ∷ words) =
    elim (value_word n rows x (form_of x)) [
      | inl e ↦ ends_later crewed (wants n rows false) (wants n rows true) x words (wanting_dashes n rows x e) (wanting_trailing n rows words)
      | inr m ↦ elim m [
        | inl bad ↦ ends_here crewed (wants n rows false) x words bad
        | inr e ↦ ends_later crewed (wants n rows false) (has n rows x false) x words e (settling n rows x there words)
      ]
    ]

-- ---- what is found

-- the value of an option at the end of a walk
abbrev pub finds : Name → Walk → List Text → Option Text
finds n w words = first_of (name_of n) (finished crewed.rules (fold (walked crewed.rules []) w words).held)

abbrev pub first : Walk
first = between [] None idle false

-- A walk over words goes on as another over the rest of them.
record GoesOn (w w' : Walk) (words rest : List Text) : Type 0 where
  ends : Ends crewed w' rest → Ends crewed w words
  finds_so : (n : Name) → finds n w words ≡ finds n w' rest

-- The words begin with the option, given this value.
abbrev Begins : Name → Text → List Text → List Text → Type 0
Begins n v words rest = (words ≡ flag n ∷ v ∷ rest) ⊎ (words ≡ flag_value n v ∷ rest)

abbrev Step : Name → List Row → Option (Text × List Text) → Text → List Text → List Text → Type 0
Step n rows p v words rest =
    Ends crewed (between rows p idle false) words
    ⊎ (GoesOn (between rows p idle false) (after_value n rows p v) words rest
    ⊎ GoesOn (between rows p idle false) (has n (settled_rows crewed.rules p rows) v false) words rest)

steps_here : (n : Name) (rows : List Row) (p : Option (Text × List Text)) (v : Text) (rest : List Text) → Step n rows p v (flag n ∷ v ∷ rest) rest
steps_here n rows p v rest =
    let w : Walk = between rows p idle false in
    let now : List Row = settled_rows crewed.rules p rows in
    let later : Ends crewed (wants n now false) (v ∷ rest) → Ends crewed w (flag n ∷ v ∷ rest) = ends_later crewed w (wants n now false) (flag n) (v ∷ rest) (after_flag n rows p (flag n) refl) in
    elim (value_word n now v (form_of v)) [
      | inl e ↦ inl (later (ends_later crewed (wants n now false) (wants n now true) v rest (wanting_dashes n now v e) (wanting_trailing n now rest)))
      | inr k ↦ elim k [
        | inl bad ↦ inl (later (ends_here crewed (wants n now false) v rest bad))
        | inr is ↦ inr (inr (record {
          ends = λ ends. later (ends_later crewed (wants n now false) (has n now v false) v rest is ends);
          finds_so = λ m. ap (λ z. finds m z (v ∷ rest)) (after_flag n rows p (flag n) refl) ∙ ap (λ z. finds m z rest) is;
        }))
      ]
    ]

steps : (n : Name) (rows : List Row) (p : Option (Text × List Text)) (v : Text) (words rest : List Text) → Begins n v words rest → Step n rows p v words rest
steps n rows p v words rest (inl is) = let P : List Text → Type 0 = λ ws. Step n rows p v ws rest in subst P (sym is) (steps_here n rows p v rest)
steps n rows p v words rest (inr is) =
    let P : List Text → Type 0 = λ ws. Step n rows p v ws rest in
    subst P (sym is) (inr (inl (record {
      ends = λ ends. ends_later crewed (between rows p idle false) (after_value n rows p v) (flag_value n v) rest (after_flag_value n v rows p (flag_value n v) refl) ends;
      finds_so = λ m. ap (λ z. finds m z rest) (after_flag_value n v rows p (flag_value n v) refl);
    })))

-- an option that was given is not taken again
abbrev Refuses : Walk → Name → Type 0
Refuses w n = (v : Text) (words rest : List Text) → Begins n v words rest → Ends crewed w words

refuses : (n : Name) (rows : List Row) (p : Option (Text × List Text)) → has_row (name_of n) (settled_rows crewed.rules p rows) ≡ true
    → ((u : Text) → Bad (turn_fault crewed [] (between rows p idle false) (flag_value n u))) → Refuses (between rows p idle false) n
refuses n rows p there bad v words rest (inl is) =
    let w : Walk = between rows p idle false in
    let now : List Row = settled_rows crewed.rules p rows in
    let P : List Text → Type 0 = λ ws. Ends crewed w ws in
    subst P (sym is) (ends_later crewed w (wants n now false) (flag n) (v ∷ rest) (after_flag n rows p (flag n) refl) (wanting n now there (v ∷ rest)))
refuses n rows p there bad v words rest (inr is) =
    let w : Walk = between rows p idle false in
    let P : List Text → Type 0 = λ ws. Ends crewed w ws in
    subst P (sym is) (ends_here crewed w (flag_value n v) rest (bad v))

-- where the first option was given
given_value : (n : Name) (v : Text) → Refuses (between (row n v ∷ []) None idle false) n
given_value Workers v = refuses Workers (row Workers v ∷ []) None refl (λ u. bad-cons _ _)
given_value Shards v = refuses Shards (row Shards v ∷ []) None refl (λ u. bad-cons _ _)

given_words : (n : Name) (v : Text) → Refuses (has n [] v false) n
given_words Workers v = refuses Workers [] (Some (codes "workers", v ∷ [])) refl (λ u. bad-cons _ _)
given_words Shards v = refuses Shards [] (Some (codes "shards", v ∷ [])) refl (λ u. bad-cons _ _)

abbrev pub other : Name → Name
other Workers = Shards
other Shards = Workers

-- where both were
both_value : (n : Name) (v u : Text) (m : Name) → Refuses (between (row n v ∷ row (other n) u ∷ []) None idle false) m
both_value Workers v u Workers = refuses Workers (row Workers v ∷ row Shards u ∷ []) None refl (λ z. bad-cons _ _)
both_value Workers v u Shards = refuses Shards (row Workers v ∷ row Shards u ∷ []) None refl (λ z. bad-cons _ _)
both_value Shards v u Workers = refuses Workers (row Shards v ∷ row Workers u ∷ []) None refl (λ z. bad-cons _ _)
both_value Shards v u Shards = refuses Shards (row Shards v ∷ row Workers u ∷ []) None refl (λ z. bad-cons _ _)

both_words : (n : Name) (v u : Text) (m : Name) → Refuses (has (other n) (row n v ∷ []) u false) m
both_words Workers v u Workers = refuses Workers (row Workers v ∷ []) (Some (codes "shards", u ∷ [])) refl (λ z. bad-cons _ _)
both_words Workers v u Shards = refuses Shards (row Workers v ∷ []) (Some (codes "shards", u ∷ [])) refl (λ z. bad-cons _ _)
both_words Shards v u Workers = refuses Workers (row Shards v ∷ []) (Some (codes "workers", u ∷ [])) refl (λ z. bad-cons _ _)
both_words Shards v u Shards = refuses Shards (row Shards v ∷ []) (Some (codes "workers", u ∷ [])) refl (λ z. bad-cons _ _)

-- ---- the words that are taken

-- The words give the two options these values, where a walk over them finds these.
abbrev Found : Walk → List Text → Type 0
Found w words = (workers : Option Text) × (shards : Option Text) × GivesCrew workers shards words × (finds Workers w words ≡ workers) × (finds Shards w words ≡ shards)

-- what the options that were given are, the one then the other
abbrev value_at : Name → Name → Text → Option Text
value_at Workers Workers v = Some v
value_at Shards Shards v = Some v
value_at n m v = None

ended : (n : Name) (words : List Text) → EndsWords words → finds n first words ≡ None
unfolding walked
ended Workers words (inl e) = rw e refl
ended Workers words (inr e) = rw e refl
ended Shards words (inl e) = rw e refl
ended Shards words (inr e) = rw e refl

one_value : (n m : Name) (v : Text) (words : List Text) → EndsWords words → finds m (between (row n v ∷ []) None idle false) words ≡ value_at n m v
unfolding walked
one_value Workers Workers v words (inl e) = rw e refl
one_value Workers Workers v words (inr e) = rw e refl
one_value Workers Shards v words (inl e) = rw e refl
one_value Workers Shards v words (inr e) = rw e refl
one_value Shards Workers v words (inl e) = rw e refl
one_value Shards Workers v words (inr e) = rw e refl
one_value Shards Shards v words (inl e) = rw e refl
one_value Shards Shards v words (inr e) = rw e refl

one_words : (n m : Name) (v : Text) (words : List Text) → EndsWords words → finds m (has n [] v false) words ≡ value_at n m v
unfolding walked
one_words Workers Workers v words (inl e) = rw e refl
one_words Workers Workers v words (inr e) = rw e refl
one_words Workers Shards v words (inl e) = rw e refl
one_words Workers Shards v words (inr e) = rw e refl
one_words Shards Workers v words (inl e) = rw e refl
one_words Shards Workers v words (inr e) = rw e refl
one_words Shards Shards v words (inl e) = rw e refl
one_words Shards Shards v words (inr e) = rw e refl

-- what of two options
abbrev of_two : Name → Name → Text → Text → Text
of_two Workers Workers v u = v
of_two Workers Shards v u = u
of_two Shards Workers v u = u
of_two Shards Shards v u = v

two_value : (n m : Name) (v u : Text) (words : List Text) → EndsWords words → finds m (between (row n v ∷ row (other n) u ∷ []) None idle false) words ≡ Some (of_two n m v u)
unfolding walked
two_value Workers Workers v u words (inl e) = rw e refl
two_value Workers Workers v u words (inr e) = rw e refl
two_value Workers Shards v u words (inl e) = rw e refl
two_value Workers Shards v u words (inr e) = rw e refl
two_value Shards Workers v u words (inl e) = rw e refl
two_value Shards Workers v u words (inr e) = rw e refl
two_value Shards Shards v u words (inl e) = rw e refl
two_value Shards Shards v u words (inr e) = rw e refl

two_words : (n m : Name) (v u : Text) (words : List Text) → EndsWords words → finds m (has (other n) (row n v ∷ []) u false) words ≡ Some (of_two n m v u)
unfolding walked
two_words Workers Workers v u words (inl e) = rw e refl
two_words Workers Workers v u words (inr e) = rw e refl
two_words Workers Shards v u words (inl e) = rw e refl
two_words Workers Shards v u words (inr e) = rw e refl
two_words Shards Workers v u words (inl e) = rw e refl
two_words Shards Workers v u words (inr e) = rw e refl
two_words Shards Shards v u words (inl e) = rw e refl
two_words Shards Shards v u words (inr e) = rw e refl

-- the words behind two options
pub record Both (n : Name) (v u : Text) (w : Walk) (words : List Text) : Type 0 where
  pub ends : EndsWords words
  pub found : (m : Name) → finds m w words ≡ Some (of_two n m v u)

behind_two : (n : Name) (v u : Text) (w : Walk) → ((m : Name) → Refuses w m) → ((m : Name) (words : List Text) → EndsWords words → finds m w words ≡ Some (of_two n m v u)) → (options : List (Name × Text)) (words : List Text) → Gives options words → Both n v u w words ⊎ Ends crewed w words
behind_two n v u w blocked found [] words ends = inl (record { ends = ends; found = λ m. found m words ends })
behind_two n v u w blocked found (o ∷ options) words given = inr (blocked o.0 o.1 words given.0 given.2)

-- the words behind one option: they end, or give the other one and end, or are refused
pub data Behind (n : Name) (v : Text) (w : Walk) (words : List Text) : Type 0 where
  ends_there : EndsWords words → ((m : Name) → finds m w words ≡ value_at n m v) → Behind n v w words
  gives_other : (u : Text) (rest : List Text) → EndsWords rest → Begins (other n) u words rest → ((m : Name) → finds m w words ≡ Some (of_two n m v u)) → Behind n v w words
  ends_badly : Ends crewed w words → Behind n v w words

second : (n : Name) (v : Text) (rows : List Row) (p : Option (Text × List Text)) (u : Text) (words rest : List Text) → Begins (other n) u words rest → (options : List (Name × Text)) → Gives options rest
    → after_value (other n) rows p u ≡ between (row n v ∷ row (other n) u ∷ []) None idle false
    → has (other n) (settled_rows crewed.rules p rows) u false ≡ has (other n) (row n v ∷ []) u false
    → Behind n v (between rows p idle false) words
second n v rows p u words rest begins options given by_value by_words =
    elim (steps (other n) rows p u words rest begins) [
      | inl ends ↦ ends_badly ends
      | inr k ↦ elim k [
        | inl goes ↦
            let P : Walk → Type 0 = λ z. GoesOn (between rows p idle false) z words rest in
            let on = subst P by_value goes in
            elim (behind_two n v u (between (row n v ∷ row (other n) u ∷ []) None idle false) (both_value n v u) (λ m ws. two_value n m v u ws) options rest given) [
              | inl both ↦ gives_other u rest both.ends begins (λ m. on.finds_so m ∙ both.found m)
              | inr bad ↦ ends_badly (on.ends bad)
            ]
        | inr goes ↦
            let P : Walk → Type 0 = λ z. GoesOn (between rows p idle false) z words rest in
            let on = subst P by_words goes in
            elim (behind_two n v u (has (other n) (row n v ∷ []) u false) (both_words n v u) (λ m ws. two_words n m v u ws) options rest given) [
              | inl both ↦ gives_other u rest both.ends begins (λ m. on.finds_so m ∙ both.found m)
              | inr bad ↦ ends_badly (on.ends bad)
            ]
      ]
    ]

-- the words behind an option that was given in one word
behind_value : (n : Name) (v : Text) (options : List (Name × Text)) (words : List Text) → Gives options words → Behind n v (between (row n v ∷ []) None idle false) words
behind_value n v [] words ends = ends_there ends (λ m. one_value n m v words ends)
behind_value Workers v ((Workers, u) ∷ options) words given = ends_badly (given_value Workers v u words given.0 given.2)
behind_value Workers v ((Shards, u) ∷ options) words given = second Workers v (row Workers v ∷ []) None u words given.0 given.2 options given.1 refl refl
behind_value Shards v ((Workers, u) ∷ options) words given = second Shards v (row Shards v ∷ []) None u words given.0 given.2 options given.1 refl refl
behind_value Shards v ((Shards, u) ∷ options) words given = ends_badly (given_value Shards v u words given.0 given.2)

-- and in two words
behind_words : (n : Name) (v : Text) (options : List (Name × Text)) (words : List Text) → Gives options words → Behind n v (has n [] v false) words
behind_words n v [] words ends = ends_there ends (λ m. one_words n m v words ends)
behind_words Workers v ((Workers, u) ∷ options) words given = ends_badly (given_words Workers v u words given.0 given.2)
behind_words Workers v ((Shards, u) ∷ options) words given = second Workers v [] (Some (codes "workers", v ∷ [])) u words given.0 given.2 options given.1 refl refl
behind_words Shards v ((Workers, u) ∷ options) words given = second Shards v [] (Some (codes "shards", v ∷ [])) u words given.0 given.2 options given.1 refl refl
behind_words Shards v ((Shards, u) ∷ options) words given = ends_badly (given_words Shards v u words given.0 given.2)

-- what is found of all words
found_of_one : (n : Name) (v : Text) (words rest : List Text) (w : Walk) → Begins n v words rest → GoesOn first w words rest → Behind n v w rest → Found first words ⊎ Ends crewed first words
found_of_one n v words rest w begins on (ends_badly bad) = inr (on.ends bad)
found_of_one Workers v words rest w begins on (ends_there ends found) = inl (Some v, None, (rest, ends, begins), on.finds_so Workers ∙ found Workers, on.finds_so Shards ∙ found Shards)
found_of_one Shards v words rest w begins on (ends_there ends found) = inl (None, Some v, (rest, ends, begins), on.finds_so Workers ∙ found Workers, on.finds_so Shards ∙ found Shards)
found_of_one Workers v words rest w begins on (gives_other u behind ends then found) = inl (Some v, Some u, inl (rest, (behind, ends, then), begins), on.finds_so Workers ∙ found Workers, on.finds_so Shards ∙ found Shards)
found_of_one Shards v words rest w begins on (gives_other u behind ends then found) = inl (Some u, Some v, inr (rest, (behind, ends, then), begins), on.finds_so Workers ∙ found Workers, on.finds_so Shards ∙ found Shards)

reads_given : (options : List (Name × Text)) (words : List Text) → Gives options words → Found first words ⊎ Ends crewed first words
reads_given [] words ends = inl (None, None, ends, ended Workers words ends, ended Shards words ends)
reads_given ((Workers, v) ∷ options) words given =
    elim (steps Workers [] None v words given.0 given.2) [
      | inl bad ↦ inr bad
      | inr k ↦ elim k [
        | inl on ↦ found_of_one Workers v words given.0 (between (row Workers v ∷ []) None idle false) given.2 on (behind_value Workers v options given.0 given.1)
        | inr on ↦ found_of_one Workers v words given.0 (has Workers [] v false) given.2 on (behind_words Workers v options given.0 given.1)
      ]
    ]
reads_given ((Shards, v) ∷ options) words given =
    elim (steps Shards [] None v words given.0 given.2) [
      | inl bad ↦ inr bad
      | inr k ↦ elim k [
        | inl on ↦ found_of_one Shards v words given.0 (between (row Shards v ∷ []) None idle false) given.2 on (behind_value Shards v options given.0 given.1)
        | inr on ↦ found_of_one Shards v words given.0 (has Shards [] v false) given.2 on (behind_words Shards v options given.0 given.1)
      ]
    ]

crew_reads : (words : List Text) → Found first words ⊎ Ends crewed first words
crew_reads words = elim (parts [] None words) [ inl given ↦ reads_given given.0 words given.1 | inr bad ↦ inr bad ]

abbrev pub crew_level : List Text → Kinds
crew_level words = built_fault (built crew_app) nothing_held words

pub crew_refuses : (words : List Text) → (crew_level words ≡ []) → Found first words
crew_refuses words none =
    elim (crew_reads words) [
      | inl h ↦ h
      | inr ends ↦ absurd (level_bad crewed words _ _ ends none)
    ]

-- ---- words of the table are taken

-- a word that is no flag
abbrev pub IsPlain : Text → Type 0
IsPlain v = (bytes_eq v (45 ∷ 45 ∷ []) ≡ false) × (long_of v ≡ None) × (short_of v ≡ None)

abbrev pub Taken : List Text → Option Text → Option Text → Type 0
Taken words workers shards = (crew_level words ≡ []) × (first_of (codes "workers") (rows_after crewed.rules [] words) ≡ workers) × (first_of (codes "shards") (rows_after crewed.rules [] words) ≡ shards)

pub takes_none : (words : List Text) → EndsWords words → Taken words None None
unfolding walk_fault walked defaults_fault
takes_none words (inl e) = (rw e refl, rw e refl, rw e refl)
takes_none words (inr e) = (rw e refl, rw e refl, rw e refl)

pub takes_workers : (v : Text) (words : List Text) → IsPlain v → GivesOption (codes "workers") v EndsWords words → Taken words (Some v) None
unfolding walk_fault walked defaults_fault
takes_workers v words (apart, long, short) (ends, inl e, inl is) = (rw (is, e, apart, long, short) refl, rw (is, e, apart, long, short) refl, rw (is, e, apart, long, short) refl)
takes_workers v words (apart, long, short) (ends, inl e, inr is) = (rw (is, e) refl, rw (is, e) refl, rw (is, e) refl)
takes_workers v words (apart, long, short) (ends, inr e, inl is) = (rw (is, e, apart, long, short) refl, rw (is, e, apart, long, short) refl, rw (is, e, apart, long, short) refl)
takes_workers v words (apart, long, short) (ends, inr e, inr is) = (rw (is, e) refl, rw (is, e) refl, rw (is, e) refl)

pub takes_shards : (v : Text) (words : List Text) → IsPlain v → GivesOption (codes "shards") v EndsWords words → Taken words None (Some v)
unfolding walk_fault walked defaults_fault
takes_shards v words (apart, long, short) (ends, inl e, inl is) = (rw (is, e, apart, long, short) refl, rw (is, e, apart, long, short) refl, rw (is, e, apart, long, short) refl)
takes_shards v words (apart, long, short) (ends, inl e, inr is) = (rw (is, e) refl, rw (is, e) refl, rw (is, e) refl)
takes_shards v words (apart, long, short) (ends, inr e, inl is) = (rw (is, e, apart, long, short) refl, rw (is, e, apart, long, short) refl, rw (is, e, apart, long, short) refl)
takes_shards v words (apart, long, short) (ends, inr e, inr is) = (rw (is, e) refl, rw (is, e) refl, rw (is, e) refl)

pub takes_workers_first : (v u : Text) (words : List Text) → IsPlain v → IsPlain u → GivesOption (codes "workers") v (GivesOption (codes "shards") u EndsWords) words → Taken words (Some v) (Some u)
unfolding walk_fault walked defaults_fault
takes_workers_first v u words (va, vl, vs) (ua, ul, us) (rest, (ends, inl e, inl too), inl is) = (rw (is, too, e, va, vl, vs, ua, ul, us) refl, rw (is, too, e, va, vl, vs, ua, ul, us) refl, rw (is, too, e, va, vl, vs, ua, ul, us) refl)
takes_workers_first v u words (va, vl, vs) (ua, ul, us) (rest, (ends, inl e, inl too), inr is) = (rw (is, too, e, ua, ul, us) refl, rw (is, too, e, ua, ul, us) refl, rw (is, too, e, ua, ul, us) refl)
takes_workers_first v u words (va, vl, vs) (ua, ul, us) (rest, (ends, inl e, inr too), inl is) = (rw (is, too, e, va, vl, vs) refl, rw (is, too, e, va, vl, vs) refl, rw (is, too, e, va, vl, vs) refl)
takes_workers_first v u words (va, vl, vs) (ua, ul, us) (rest, (ends, inl e, inr too), inr is) = (rw (is, too, e) refl, rw (is, too, e) refl, rw (is, too, e) refl)
takes_workers_first v u words (va, vl, vs) (ua, ul, us) (rest, (ends, inr e, inl too), inl is) = (rw (is, too, e, va, vl, vs, ua, ul, us) refl, rw (is, too, e, va, vl, vs, ua, ul, us) refl, rw (is, too, e, va, vl, vs, ua, ul, us) refl)
takes_workers_first v u words (va, vl, vs) (ua, ul, us) (rest, (ends, inr e, inl too), inr is) = (rw (is, too, e, ua, ul, us) refl, rw (is, too, e, ua, ul, us) refl, rw (is, too, e, ua, ul, us) refl)
takes_workers_first v u words (va, vl, vs) (ua, ul, us) (rest, (ends, inr e, inr too), inl is) = (rw (is, too, e, va, vl, vs) refl, rw (is, too, e, va, vl, vs) refl, rw (is, too, e, va, vl, vs) refl)
takes_workers_first v u words (va, vl, vs) (ua, ul, us) (rest, (ends, inr e, inr too), inr is) = (rw (is, too, e) refl, rw (is, too, e) refl, rw (is, too, e) refl)

pub takes_shards_first : (v u : Text) (words : List Text) → IsPlain v → IsPlain u → GivesOption (codes "shards") u (GivesOption (codes "workers") v EndsWords) words → Taken words (Some v) (Some u)
unfolding walk_fault walked defaults_fault
takes_shards_first v u words (va, vl, vs) (ua, ul, us) (rest, (ends, inl e, inl too), inl is) = (rw (is, too, e, ua, ul, us, va, vl, vs) refl, rw (is, too, e, ua, ul, us, va, vl, vs) refl, rw (is, too, e, ua, ul, us, va, vl, vs) refl)
takes_shards_first v u words (va, vl, vs) (ua, ul, us) (rest, (ends, inl e, inl too), inr is) = (rw (is, too, e, va, vl, vs) refl, rw (is, too, e, va, vl, vs) refl, rw (is, too, e, va, vl, vs) refl)
takes_shards_first v u words (va, vl, vs) (ua, ul, us) (rest, (ends, inl e, inr too), inl is) = (rw (is, too, e, ua, ul, us) refl, rw (is, too, e, ua, ul, us) refl, rw (is, too, e, ua, ul, us) refl)
takes_shards_first v u words (va, vl, vs) (ua, ul, us) (rest, (ends, inl e, inr too), inr is) = (rw (is, too, e) refl, rw (is, too, e) refl, rw (is, too, e) refl)
takes_shards_first v u words (va, vl, vs) (ua, ul, us) (rest, (ends, inr e, inl too), inl is) = (rw (is, too, e, ua, ul, us, va, vl, vs) refl, rw (is, too, e, ua, ul, us, va, vl, vs) refl, rw (is, too, e, ua, ul, us, va, vl, vs) refl)
takes_shards_first v u words (va, vl, vs) (ua, ul, us) (rest, (ends, inr e, inl too), inr is) = (rw (is, too, e, va, vl, vs) refl, rw (is, too, e, va, vl, vs) refl, rw (is, too, e, va, vl, vs) refl)
takes_shards_first v u words (va, vl, vs) (ua, ul, us) (rest, (ends, inr e, inr too), inl is) = (rw (is, too, e, ua, ul, us) refl, rw (is, too, e, ua, ul, us) refl, rw (is, too, e, ua, ul, us) refl)
takes_shards_first v u words (va, vl, vs) (ua, ul, us) (rest, (ends, inr e, inr too), inr is) = (rw (is, too, e) refl, rw (is, too, e) refl, rw (is, too, e) refl)

pub crew_takes : (workers shards : Option Text) (words : List Text) → GivesCrew workers shards words → ((v : Text) → workers ≡ Some v → IsPlain v) → ((v : Text) → shards ≡ Some v → IsPlain v) → Taken words workers shards
crew_takes None None words gives pw ps = takes_none words gives
crew_takes (Some v) None words gives pw ps = takes_workers v words (pw v refl) gives
crew_takes None (Some u) words gives pw ps = takes_shards u words (ps u refl) gives
crew_takes (Some v) (Some u) words (inl gives) pw ps = takes_workers_first v u words (pw v refl) (ps u refl) gives
crew_takes (Some v) (Some u) words (inr gives) pw ps = takes_shards_first v u words (pw v refl) (ps u refl) gives
