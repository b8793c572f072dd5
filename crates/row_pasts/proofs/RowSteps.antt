-- Each event on a vertex keeps what its row must show.
use Rattle.std.proofs.Common.{◌≡◌, ℕ, ◌<◌, ◌≤◌, true, false, List, [], ◌∷◌, ◌++◌, refl, sym, ap, ◌∙◌, arith, Option, Some, None}
use Rattle.std.proofs.lemmas.Bool.{ne_eqb, and_from}
use Rattle.graph_model.specs.declared.change.Change.{Change}
use Rattle.graph_model.specs.declared.change.Change.TheVariants.{New, Put, Del}
use Rattle.graph_model.specs.declared.pairs.Pair.{Pair}
use Rattle.stamps.specs.Stamps.{Txn}
use Rattle.graph_model.specs.Whole.{rise}
use Rattle.edge_log.specs.Contents.{LogContent, with_appended, with_undone}
use Rattle.core_rows.specs.Rows.{ended_log, Row, fresh_row, log_at, Life, Unborn, life_of, newest, is_there, taken_row, put_row, del_row, push_row, committed_log, apply_row, undo_row}
use Rattle.row_pasts.specs.Lives.{life_step, lives, list_step, fits, all_fit, Past, changes_of, stamped, last_epoch}
use Rattle.row_pasts.specs.RowFits.{LogFits, Rooted, RowFits}
use Rattle.row_pasts.proofs.LabelLogs.{each_set, each_changed, labels_with, labels_each}
use Rattle.row_pasts.proofs.LogSteps.{log_none, log_put, log_del, log_kept, log_taken, log_commit, log_release, log_undo}
use Rattle.row_pasts.proofs.LifeSteps.{life_push, life_kept, life_taken, life_apply, life_release, life_undo}
use Rattle.row_pasts.proofs.Pasts.{all_fit-append, changes_of-append, changes_of-stamped, AllUntil-append, AllUntil_up, AllUntil-stamped, last_epoch-append, last_epoch-stamped, Rising-append}

-- a row with an owner is itself with that owner
pub as_taken : (t : ℕ) (row : Row) → row.owner ≡ Some t → row ≡ taken_row t row
as_taken t row e = λ i. record { owner = e i; committed = row.committed; versions = row.versions; logs = row.logs }

own_fits_more : (c : Change) (own : List Change) (x : Life) → all_fit own x ≡ true → fits c (lives own x) ≡ true → all_fit (own ++ c ∷ []) x ≡ true
own_fits_more c own x a b = rw all_fit-append (grind arith)

-- a change fits a vertex that its owner sees
seen_there : (f : ℕ) (base : Rooted) (past : List Past) (t r : ℕ) (own : List Change) (row : Row) → row.committed ≤ r → RowFits f base past own (taken_row t row)
    → is_there (newest row.versions r (Txn t)) ≡ true → is_there (lives own (lives (changes_of past) base.life)) ≡ true
seen_there f base past t r own row low fit there = rw (← fit.life.mine t refl r low) there

abbrev pub free_row : Row → Row
free_row row = record { owner = None; committed = row.committed; versions = row.versions; logs = row.logs }

pub as_free : (row : Row) → row.owner ≡ None → row ≡ free_row row
as_free row e = λ i. record { owner = e i; committed = row.committed; versions = row.versions; logs = row.logs }

pub row_taken : (f : ℕ) (base : Rooted) (past : List Past) (t : ℕ) (row : Row) → RowFits f base past [] (free_row row) → RowFits f base past [] (taken_row t row)
row_taken f base past t row fit = record {
  life = life_taken f row.committed past t base.life row.versions fit.past_low fit.life;
  logs = λ l. log_taken f row.committed past t (base.lists l) l (log_at row.logs l) fit.past_low (fit.logs l);
  labels = fit.labels;
  past_low = fit.past_low;
  rising = fit.rising;
  committed = fit.committed;
  past_fits = fit.past_fits;
  own_fits = refl;
}

-- A new vertex.
pub row_new : (f : ℕ) (base : Rooted) (t v : ℕ) (p : List ℕ) → base.life ≡ Unborn → RowFits f base [] [] fresh_row → RowFits f base [] (New v p ∷ []) (push_row t (Some p) fresh_row)
row_new f base t v p unborn fit = record {
  life = life_push f 0 [] t [] base.life (New v p) (Some p) [] (λ x. refl) (life_taken f 0 [] t base.life [] tt fit.life);
  logs = λ l. record {
    stamps = tt;
    plain = λ _. tt;
    count = refl;
    order = refl;
    settled_room = (fit.logs l).settled_room;
    private_room = omega arith;
    others = (fit.logs l).others;
    mine = λ u is e a. refl;
  };
  labels = refl;
  past_low = tt;
  rising = tt;
  committed = fit.committed;
  past_fits = refl;
  own_fits = rw unborn refl;
}

pub row_put : (f : ℕ) (base : Rooted) (past : List Past) (t r : ℕ) (own : List Change) (v l d : ℕ) (p : List ℕ) (row : Row) → row.committed ≤ r
    → is_there (newest row.versions r (Txn t)) ≡ true → RowFits f base past own (taken_row t row) → RowFits f base past (own ++ Put v l d p ∷ []) (put_row t r l d p row)
row_put f base past t r own v l d p row low there fit = record {
  life = life_kept f row.committed past t own base.life (Put v l d p) row.versions (λ x. refl) fit.life;
  logs = each_set (λ m (log : LogContent). LogFits f row.committed past (Some t) (own ++ Put v l d p ∷ []) (base.lists m) m log) row.logs l (with_appended t d p (ended_log d r t (log_at row.logs l)))
      (log_put f row.committed past t r own (base.lists l) v l d p (log_at row.logs l) low (fit.logs l))
      (λ m n. log_kept f row.committed past t own (base.lists m) m (Put v l d p) (log_at row.logs m) (λ xs. rw (ne_eqb l m (λ e. n (sym e))) refl) (fit.logs m));
  labels = labels_with (record { label = l; log = with_appended t d p (ended_log d r t (log_at row.logs l)) }) row.logs fit.labels;
  past_low = fit.past_low;
  rising = fit.rising;
  committed = fit.committed;
  past_fits = fit.past_fits;
  own_fits = own_fits_more (Put v l d p) own (lives (changes_of past) base.life) fit.own_fits (seen_there f base past t r own row low fit there);
}

pub row_del : (f : ℕ) (base : Rooted) (past : List Past) (t r : ℕ) (own : List Change) (v l d : ℕ) (row : Row) → row.committed ≤ r
    → is_there (newest row.versions r (Txn t)) ≡ true → RowFits f base past own (taken_row t row) → RowFits f base past (own ++ Del v l d ∷ []) (del_row t r l d row)
row_del f base past t r own v l d row low there fit = record {
  life = life_kept f row.committed past t own base.life (Del v l d) row.versions (λ x. refl) fit.life;
  logs = each_set (λ m (log : LogContent). LogFits f row.committed past (Some t) (own ++ Del v l d ∷ []) (base.lists m) m log) row.logs l (ended_log d r t (log_at row.logs l))
      (log_del f row.committed past t r own (base.lists l) v l d (log_at row.logs l) low (fit.logs l))
      (λ m n. log_kept f row.committed past t own (base.lists m) m (Del v l d) (log_at row.logs m) (λ xs. rw (ne_eqb l m (λ e. n (sym e))) refl) (fit.logs m));
  labels = labels_with (record { label = l; log = ended_log d r t (log_at row.logs l) }) row.logs fit.labels;
  past_low = fit.past_low;
  rising = fit.rising;
  committed = fit.committed;
  past_fits = fit.past_fits;
  own_fits = own_fits_more (Del v l d) own (lives (changes_of past) base.life) fit.own_fits (seen_there f base past t r own row low fit there);
}

-- set and drop
pub row_push : (f : ℕ) (base : Rooted) (past : List Past) (t r : ℕ) (own : List Change) (c : Change) (content : Option (List ℕ)) (row : Row) → row.committed ≤ r
    → ((x : Life) → life_step c x ≡ life_of content) → ((l : ℕ) (xs : List Pair) → list_step l c xs ≡ xs) → ((x : Life) → fits c x ≡ is_there x)
    → is_there (newest row.versions r (Txn t)) ≡ true → RowFits f base past own (taken_row t row) → RowFits f base past (own ++ c ∷ []) (push_row t content row)
row_push f base past t r own c content row low is same test there fit = record {
  life = life_push f row.committed past t own base.life c content row.versions is fit.life;
  logs = λ m. log_kept f row.committed past t own (base.lists m) m c (log_at row.logs m) (same m) (fit.logs m);
  labels = fit.labels;
  past_low = fit.past_low;
  rising = fit.rising;
  committed = fit.committed;
  past_fits = fit.past_fits;
  own_fits = own_fits_more c own (lives (changes_of past) base.life) fit.own_fits (test (lives own (lives (changes_of past) base.life)) ∙ seen_there f base past t r own row low fit there);
}

-- Applying a record that changed the vertex.
pub row_apply : (f : ℕ) (base : Rooted) (past : List Past) (t h : ℕ) (c : Change) (own : List Change) (row : Row) → row.committed < h
    → RowFits f base past (c ∷ own) (taken_row t row) → RowFits f base (past ++ stamped h (c ∷ own)) [] (apply_row t h true row)
row_apply f base past t h c own row late fit = record {
  life = life_apply f row.committed past t h (c ∷ own) base.life row.versions late fit.past_low fit.life;
  logs = λ l. each_changed (LogFits f h (past ++ stamped h (c ∷ own)) None [] (base.lists l) l) (committed_log t h) row.logs l (λ none. none)
      (log_commit f row.committed past t h (c ∷ own) (base.lists l) l (log_at row.logs l) late fit.past_low (fit.logs l));
  rising = Rising-append row.committed h past (c ∷ own) (omega arith) fit.past_low fit.rising;
  labels = ap rise (labels_each (committed_log t h) row.logs) ∙ fit.labels;
  past_low = AllUntil-append h past (stamped h (c ∷ own)) (AllUntil_up row.committed h past (omega arith) fit.past_low) (AllUntil-stamped h (c ∷ own));
  committed = sym (last_epoch-append base.epoch past (stamped h (c ∷ own)) ∙ last_epoch-stamped (last_epoch base.epoch past) h c own);
  past_fits =
      rw changes_of-append (rw changes_of-stamped (rw all_fit-append (and_from (all_fit (changes_of past) base.life) (all_fit (c ∷ own) (lives (changes_of past) base.life)) fit.past_fits fit.own_fits)));
  own_fits = refl;
}

-- Applying a record that touched the vertex and did not change it.
pub row_release : (f : ℕ) (base : Rooted) (past : List Past) (t h : ℕ) (row : Row)
    → RowFits f base past [] (taken_row t row) → RowFits f base past [] (apply_row t h false row)
row_release f base past t h row fit = record {
  life = life_release f row.committed past t base.life row.versions fit.life;
  logs = λ l. log_release f row.committed past t (base.lists l) l (log_at row.logs l) (fit.logs l);
  labels = fit.labels;
  past_low = fit.past_low;
  rising = fit.rising;
  committed = fit.committed;
  past_fits = fit.past_fits;
  own_fits = refl;
}

pub row_undo : (f : ℕ) (base : Rooted) (past : List Past) (t : ℕ) (own : List Change) (row : Row)
    → RowFits f base past own (taken_row t row) → RowFits f base past [] (undo_row t row)
row_undo f base past t own row fit = record {
  life = life_undo f row.committed past t own base.life row.versions fit.life;
  logs = λ l. each_changed (LogFits f row.committed past None [] (base.lists l) l) (with_undone t) row.logs l (log_none f row.committed past None [] (base.lists l) l 0)
      (log_undo f row.committed past t own (base.lists l) l (log_at row.logs l) (fit.logs l));
  labels = ap rise (labels_each (with_undone t) row.logs) ∙ fit.labels;
  past_low = fit.past_low;
  rising = fit.rising;
  committed = fit.committed;
  past_fits = fit.past_fits;
  own_fits = refl;
}
