-- A vertex's past, cut at an epoch.
use Rattle.std.proofs.Common.{◌≡◌, ℕ, ◌<◌, ◌≤◌, Bool, true, false, List, [], ◌∷◌, ◌++◌, refl, ap, arith}
use Rattle.std.proofs.lemmas.Bool.{leb-false}
use Rattle.std.proofs.lemmas.Bool.Decides.{nat_tests}
use Rattle.std.specs.Prelude.{nat_le, ◌&&◌}
use Rattle.graph_model.specs.declared.change.Change.{Change}
use Rattle.graph_model.specs.declared.pairs.Pair.{Pair}
use Rattle.core_rows.specs.Rows.{Life}
use Rattle.row_pasts.specs.Lives.{life_step, lives, list_step, lists, all_fit, Past, until, changes_of, stamped, AllUntil, AllFrom, Rising, last_epoch}

pub until_late : (n e : ℕ) (xs : List Past) → AllUntil n xs → n ≤ e → until e xs ≡ changes_of xs
until_late n e [] low a = refl
until_late n e (x ∷ xs) low a = grind (arith, nat_tests, until_late n e xs low.1 a)

pub until-append : (e : ℕ) (xs ys : List Past) → until e (xs ++ ys) ≡ until e xs ++ until e ys
until-append e [] ys = refl
until-append e (x ∷ xs) ys = grind (arith, until-append e xs ys)

pub until_stamped_late : (h e : ℕ) (cs : List Change) → h ≤ e → until e (stamped h cs) ≡ cs
until_stamped_late h e [] a = refl
until_stamped_late h e (c ∷ cs) a = grind (arith, nat_tests, until_stamped_late h e cs a)

pub until_stamped_early : (h e : ℕ) (cs : List Change) → e < h → until e (stamped h cs) ≡ []
until_stamped_early h e [] a = refl
until_stamped_early h e (c ∷ cs) a = grind (arith, nat_tests, until_stamped_early h e cs a)

pub changes_of-append : (xs ys : List Past) → changes_of (xs ++ ys) ≡ changes_of xs ++ changes_of ys
changes_of-append [] ys = refl
changes_of-append (x ∷ xs) ys = ap (λ l. x.change ∷ l) (changes_of-append xs ys)

pub changes_of-stamped : (h : ℕ) (cs : List Change) → changes_of (stamped h cs) ≡ cs
changes_of-stamped h [] = refl
changes_of-stamped h (c ∷ cs) = ap (λ l. c ∷ l) (changes_of-stamped h cs)

pub lists-append : (l : ℕ) (cs ds : List Change) (xs : List Pair) → lists l (cs ++ ds) xs ≡ lists l ds (lists l cs xs)
lists-append l [] ds xs = refl
lists-append l (c ∷ cs) ds xs = lists-append l cs ds (list_step l c xs)

pub lives-append : (cs ds : List Change) (x : Life) → lives (cs ++ ds) x ≡ lives ds (lives cs x)
lives-append [] ds x = refl
lives-append (c ∷ cs) ds x = lives-append cs ds (life_step c x)

pub all_fit-append : (cs ds : List Change) (x : Life) → all_fit (cs ++ ds) x ≡ (all_fit cs x && all_fit ds (lives cs x))
all_fit-append [] ds x = refl
all_fit-append (c ∷ cs) ds x = grind (arith, all_fit-append cs ds (life_step c x))

pub AllUntil-append : (n : ℕ) (xs ys : List Past) → AllUntil n xs → AllUntil n ys → AllUntil n (xs ++ ys)
AllUntil-append n [] ys a b = b
AllUntil-append n (x ∷ xs) ys a b = (a.0, AllUntil-append n xs ys a.1 b)

pub AllUntil_up : (n m : ℕ) (xs : List Past) → n ≤ m → AllUntil n xs → AllUntil m xs
AllUntil_up n m [] le a = tt
AllUntil_up n m (x ∷ xs) le a = (omega arith, AllUntil_up n m xs le a.1)

pub AllUntil-stamped : (h : ℕ) (cs : List Change) → AllUntil h (stamped h cs)
AllUntil-stamped h [] = tt
AllUntil-stamped h (c ∷ cs) = (omega arith, AllUntil-stamped h cs)

pub last_epoch-append : (n : ℕ) (xs ys : List Past) → last_epoch n (xs ++ ys) ≡ last_epoch (last_epoch n xs) ys
last_epoch-append n [] ys = refl
last_epoch-append n (x ∷ xs) ys = last_epoch-append x.epoch xs ys

pub last_epoch-stamped : (n h : ℕ) (c : Change) (cs : List Change) → last_epoch n (stamped h (c ∷ cs)) ≡ h
last_epoch-stamped n h c [] = refl
last_epoch-stamped n h c (d ∷ cs) = last_epoch-stamped h h d cs

AllFrom-append : (n : ℕ) (xs ys : List Past) → AllFrom n xs → AllFrom n ys → AllFrom n (xs ++ ys)
AllFrom-append n [] ys a b = b
AllFrom-append n (x ∷ xs) ys a b = (a.0, AllFrom-append n xs ys a.1 b)

AllFrom-stamped : (n h : ℕ) (cs : List Change) → n ≤ h → AllFrom n (stamped h cs)
AllFrom-stamped n h [] le = tt
AllFrom-stamped n h (c ∷ cs) le = (le, AllFrom-stamped n h cs le)

pub Rising-stamped : (h : ℕ) (cs : List Change) → Rising (stamped h cs)
Rising-stamped h [] = tt
Rising-stamped h (c ∷ cs) = (AllFrom-stamped h h cs (omega arith), Rising-stamped h cs)

pub Rising-append : (n h : ℕ) (xs : List Past) (cs : List Change) → n ≤ h → AllUntil n xs → Rising xs → Rising (xs ++ stamped h cs)
Rising-append n h [] cs le low rising = Rising-stamped h cs
Rising-append n h (x ∷ xs) cs le low rising =
    (AllFrom-append x.epoch xs (stamped h cs) rising.0 (AllFrom-stamped x.epoch h cs (let b = low.0 in omega arith)), Rising-append n h xs cs le low.1 rising.1)

none_until : (e n : ℕ) (xs : List Past) → e < n → AllFrom n xs → until e xs ≡ []
none_until e n [] lt from = refl
none_until e n (x ∷ xs) lt from = grind (arith, nat_tests, none_until e n xs lt from.1)

-- up to an epoch a past that never falls is a front of it
pub record Front (e : ℕ) (xs : List Past) : Type 0 where
  pub rest : List Change
  pub is : changes_of xs ≡ until e xs ++ rest

pub front : (e : ℕ) (xs : List Past) → Rising xs → Front e xs
front e [] rising = record { rest = []; is = refl }
front e (x ∷ xs) rising = by_test (nat_le x.epoch e) refl (front e xs rising.1)
  where
    by_test : (b : Bool) → nat_le x.epoch e ≡ b → Front e xs → Front e (x ∷ xs)
    by_test true h f = record { rest = f.rest; is = rw h (ap (λ l. x.change ∷ l) f.is) }
    by_test false h f = record { rest = changes_of (x ∷ xs); is = rw h (rw (none_until e x.epoch xs (leb-false x.epoch e h) rising.0) refl) }
