-- A transaction that works sees the graph at its read epoch after its own changes.
use Rattle.std.proofs.Common.{◌≡◌, ◌≢◌, ℕ, ◌<◌, ◌≤◌, Bool, true, false, List, [], ◌∷◌, ◌++◌, refl, sym, ap, ◌∙◌, subst, arith, Option, Some, None, ⊎_elim, append-nil}
use Rattle.std.proofs.lemmas.Bool.{cases_eq, eq-eqb, eqb-true, ne_eqb, and_from, and_parts, false≢true, true≢false}
use Rattle.std.proofs.lemmas.Bool.Decides.{nat_tests}
use Rattle.graph_model.specs.Places.{changes_about}
use Rattle.graph_model.specs.declared.change.Change.{Change}
use Rattle.graph_model.specs.declared.graph.Base.{Base}
use Rattle.graph_model.specs.declared.record.Record.{Record}
use Rattle.stamps.specs.Stamps.{Nobody, Txn, counts}
use Rattle.stamps.specs.declared.stamp.Stamp.{Stamp}
use Rattle.stamps.specs.declared.stamp.Stamp.TheVariants.{Never, At, By}
use Rattle.vertex_versions.specs.declared.version.Version.{Version}
use Rattle.edge_log.specs.Entries.{Entry, shown}
use Rattle.core_rows.specs.Rows.{log_at, newest}
use Rattle.core_states.proofs.Names.{some_is}
use Rattle.core_kept.specs.Good.{records_but, root, past_of, part_of, Place, Nowhere, InQueue, InGroup, InLog, InFault, Ghost, RowOkBy, published, TxnOk, AllAbove, Good}
use Rattle.row_pasts.specs.Lives.{lives, lists, all_fit, until, changes_of}
use Rattle.graph_model.specs.Vertex.{Vertex}
use Rattle.graph_model.specs.Whole.{rise, is_graph}
use Rattle.graph_model.specs.Graph.{vertex_at, changes_until, at, after as after_changes}
use Rattle.graph_model.specs.Places.{place_after}
use Rattle.graph_model.proofs.Places.{vertex_at-after}
use Rattle.graph_model.proofs.Wholes.{is_graph-after}
use Rattle.core_rows.specs.Rows.{shown_vertex}
use Rattle.row_pasts.proofs.LabelLogs.{labels_of}
use Rattle.core_states.proofs.Names.{some_is}
use Rattle.core_kept.specs.Good.{TxnOk}
use Rattle.core_states.specs.Names.{Name}
use Rattle.core_states.specs.Numbers.{has_number, has_active}
use Rattle.row_pasts.specs.RowFits.{StampFits, StampsFit, VersionsFit}
use Rattle.core_states.specs.States.{State}
use Rattle.core_states.specs.Transactions.{is_working}
use Rattle.core_states.specs.declared.clock.Active.{Active}
use Rattle.core_states.specs.declared.transaction.Transaction.{Transaction}
use Rattle.row_pasts.proofs.Pasts.{until_late, until-append, until_stamped_early}
use Rattle.row_pasts.proofs.LogSteps.{plain_shown}
use Rattle.row_pasts.proofs.LifeSteps.{plain_newest}
use Rattle.core_kept.proofs.Changing.{Works, works, own_free, past_skip, published_nowhere}
use Rattle.core_kept.proofs.GoingOn.{nowhere_of}
use Rattle.core_kept.proofs.Shows.{Agree, agree, root_agrees, front_fits, until_past, number_at, whole_at, vertex_shown}

-- where the private stamps are another's
other_stamp : (n u : ℕ) (s : Stamp) (e t : ℕ) → u ≢ t → StampFits n (Some u) s → counts s e (Txn t) ≡ counts s e Nobody
other_stamp n u Never e t ne fit = refl
other_stamp n u (At m) e t ne fit = refl
other_stamp n u (By w) e t ne fit = ne_eqb w t (λ q. ne (some_is u w fit ∙ q))

other_shown : (n u : ℕ) (xs : List Entry) (e t : ℕ) → u ≢ t → StampsFit n (Some u) xs → shown xs e (Txn t) ≡ shown xs e Nobody
other_shown n u [] e t ne fit = refl
other_shown n u (x ∷ xs) e t ne fit = let c = other_stamp n u x.created e t ne fit.0 in let d = other_stamp n u x.ended e t ne fit.1 in grind (arith, c, d, other_shown n u xs e t ne fit.2)

other_newest : (n u : ℕ) (xs : List Version) (e t : ℕ) → u ≢ t → VersionsFit n (Some u) xs → newest xs e (Txn t) ≡ newest xs e Nobody
other_newest n u [] e t ne fit = refl
other_newest n u (x ∷ xs) e t ne fit = let c = other_stamp n u x.created e t ne fit.0 in grind (arith, c, other_newest n u xs e t ne fit.1)

pub active_above : (low high t e : ℕ) (ps : List Active) → AllAbove low high ps → has_active t e ps ≡ true → low < e
active_above low high t e [] above has = absurd (false≢true has)
active_above low high t e (x ∷ xs) above has = grind (arith, Rattle.std.proofs.lemmas.Bool.Decides.nat_tests, active_above low high t e xs above.2)

-- What a transaction sees of a vertex, by what the records and its own changes make of it.
pub record Views (s : State) (base : Base) (v : ℕ) (x : Transaction) : Type 0 where
  pub labels : rise (labels_of (s.row v).logs) ≡ true
  pub life : newest (s.row v).versions x.read (Txn x.tid) ≡ lives (changes_about v x.own) (lives (until x.read (past_of s.clock.records v None)) (root base v).life)
  pub list : (l : ℕ) → shown (log_at (s.row v).logs l).entries x.read (Txn x.tid) ≡ lists l (changes_about v x.own) (lists l (until x.read (past_of s.clock.records v None)) ((root base v).lists l))
  pub past_fits : all_fit (until x.read (past_of s.clock.records v None)) (root base v).life ≡ true
  pub own_fits : all_fit (changes_about v x.own) (lives (until x.read (past_of s.clock.records v None)) (root base v).life) ≡ true

late_part : (low e read : ℕ) (p : Place) (cs : List Change) → read ≤ low → ((n : ℕ) → p ≡ InLog n → low < n) → until read (published p cs) ≡ []
late_part low e read Nowhere cs le late = refl
late_part low e read InQueue cs le late = refl
late_part low e read (InGroup i) cs le late = refl
late_part low e read (InLog n) cs le late = until_stamped_early n read cs (let b = late n refl in omega arith)
late_part low e read (InFault b a) cs le late = refl

views_by : (o : Option ℕ) (base : Base) (g : Ghost) (s : State) (i : Name) (v : ℕ) (x : Transaction) → Good base g s → (s.actor i).txn ≡ Some x → Works x → (s.row v).owner ≡ o → RowOkBy o base g s.clock.records s.actor v (s.row v) → Views s base v x
views_by None base g s i v x good at w owner ok =
    let read = (good.txns i x at).read_above in
    let own = own_free base g s i v x good at w owner in
    let low : base.epoch ≤ x.read = read in
    let vfit : VersionsFit (s.row v).committed None (s.row v).versions = ok.life.plain refl in
    record {
      labels = ok.labels;
      life = rw own (plain_newest (s.row v).committed (s.row v).versions x.read x.tid vfit ∙ ok.life.others x.read low);
      list = λ l. rw own (plain_shown (s.row v).committed (log_at (s.row v).logs l).entries x.read x.tid ((ok.logs l).plain refl) ∙ (ok.logs l).others x.read low);
      past_fits = front_fits x.read (past_of s.clock.records v None) base.epoch (s.row v) (root base v) [] ok;
      own_fits = rw own refl;
    }
views_by (Some u) base g s i v x good at w owner ok = ⊎_elim own_view other_view (cases_eq u x.tid)
  where
    txn_ok : TxnOk base g s.clock i x
    txn_ok = good.txns i x at

    theirs : TxnOk base g s.clock (g.who u) ok.txn
    theirs = good.txns (g.who u) ok.txn ok.is

    own_view : u ≡ x.tid → Views s base v x
    own_view same =
        let is : ok.txn ≡ x = some_is ok.txn x (sym ok.is ∙ ap (λ j. (s.actor j).txn) (ap g.who same ∙ txn_ok.who) ∙ at) in
        let nothing : part_of s.clock.records v x.tid ≡ [] = txn_ok.record_is v ∙ published_nowhere (g.place x.tid) (changes_about v x.own) (nowhere_of base g s i x good at w) in
        let past : past_of s.clock.records v None ≡ past_of s.clock.records v (Some u) = past_skip s.clock.records v x.tid nothing ∙ ap (λ t. past_of s.clock.records v (Some t)) (sym same) in
        let low : (s.row v).committed ≤ x.read = rw (← is) ok.read in
        let whole : until x.read (past_of s.clock.records v None) ≡ changes_of (past_of s.clock.records v (Some u)) = ap (until x.read) past ∙ until_late (s.row v).committed x.read (past_of s.clock.records v (Some u)) ok.fits.past_low low in
        let mine : changes_about v ok.txn.own ≡ changes_about v x.own = ap (λ (y : Transaction). changes_about v y.own) is in
        record {
          labels = ok.fits.labels;
          life = ok.fits.life.mine x.tid (owner ∙ ap Some same) x.read low ∙ ap (λ cs. lives cs (lives (changes_of (past_of s.clock.records v (Some u))) (root base v).life)) mine ∙ ap (λ cs. lives (changes_about v x.own) (lives cs (root base v).life)) (sym whole);
          list = λ l. (ok.fits.logs l).mine x.tid (owner ∙ ap Some same) x.read low ∙ ap (λ cs. lists l cs (lists l (changes_of (past_of s.clock.records v (Some u))) ((root base v).lists l))) mine ∙ ap (λ cs. lists l (changes_about v x.own) (lists l cs ((root base v).lists l))) (sym whole);
          past_fits = ap (λ cs. all_fit cs (root base v).life) whole ∙ ok.fits.past_fits;
          own_fits = ap (λ cs. all_fit (changes_about v x.own) (lives cs (root base v).life)) whole ∙ ap (λ cs. all_fit cs (lives (changes_of (past_of s.clock.records v (Some u))) (root base v).life)) (sym mine) ∙ ok.fits.own_fits;
        }

    other_view : u ≢ x.tid → Views s base v x
    other_view ne =
        let own : changes_about v x.own ≡ [] = txn_ok.touched v (untouched (has_number v x.touched) refl) in
        let low : base.epoch ≤ x.read = txn_ok.read_above in
        let early : until x.read (part_of s.clock.records v u) ≡ [] =
        ap (λ t. until x.read (part_of s.clock.records v t)) (sym ok.tid) ∙ ap (until x.read) (theirs.record_is v)
        ∙ late_part s.clock.visible 0 x.read (g.place ok.txn.tid) (changes_about v ok.txn.own) txn_ok.read_below (λ n place. active_above s.clock.visible s.clock.last ok.txn.tid n s.clock.pending good.pending (theirs.pending n place)) in
        let past : until x.read (past_of s.clock.records v None) ≡ until x.read (past_of s.clock.records v (Some u)) =
        ap (until x.read) ok.last ∙ until-append x.read (past_of s.clock.records v (Some u)) (part_of s.clock.records v u) ∙ ap (λ l. until x.read (past_of s.clock.records v (Some u)) ++ l) early ∙ append-nil (until x.read (past_of s.clock.records v (Some u))) in
        let vfit : VersionsFit (s.row v).committed (Some u) (s.row v).versions = subst (λ (o : Option ℕ). VersionsFit (s.row v).committed o (s.row v).versions) owner ok.fits.life.stamps in
        record {
          labels = ok.fits.labels;
          life = rw (own, past) (other_newest (s.row v).committed u (s.row v).versions x.read x.tid ne vfit ∙ ok.fits.life.others x.read low);
          list = λ l. rw (own, past) (other_shown (s.row v).committed u (log_at (s.row v).logs l).entries x.read x.tid ne (subst (λ (o : Option ℕ). StampsFit (s.row v).committed o (log_at (s.row v).logs l).entries) owner (ok.fits.logs l).stamps) ∙ (ok.fits.logs l).others x.read low);
          past_fits = rw past (front_fits x.read (past_of s.clock.records v (Some u)) base.epoch (s.row v) (root base v) (changes_about v ok.txn.own) ok.fits);
          own_fits = rw own refl;
        }
      where
        untouched : (b : Bool) → has_number v x.touched ≡ b → has_number v x.touched ≡ false
        untouched false e = e
        untouched true e = absurd (ne (some_is u x.tid (sym owner ∙ good.held i x at v (rw (e, w.settled) refl))))

pub views : (base : Base) (g : Ghost) (s : State) (i : Name) (v : ℕ) (x : Transaction) → Good base g s → (s.actor i).txn ≡ Some x → is_working x ≡ true → Views s base v x
views base g s i v x good at w = views_by (s.row v).owner base g s i v x good at (works x w) refl (good.rows v)

-- A read answers the vertex of the graph at the read epoch after the own changes.
pub but_none : (rs : List Record) → records_but None rs ≡ rs
but_none [] = refl
but_none (r ∷ rs) = ap (λ l. r ∷ l) (but_none rs)

-- A transaction that works sees, in the row of a vertex, the vertex of the graph at its read epoch after its own changes.
pub reads_see : (base : Base) (g : Ghost) (s : State) (i : Name) (v : ℕ) (x : Transaction) → is_graph base.graph ≡ true → Good base g s → (s.actor i).txn ≡ Some x → is_working x ≡ true
    → shown_vertex v (s.row v) x.read (Txn x.tid) ≡ vertex_at v (after_changes x.own (at base.graph s.clock.records x.read))
reads_see base g s i v x whole good at_actor w =
    let view = views base g s i v x good at_actor w in
    let cs = until x.read (past_of s.clock.records v None) in
    let own = changes_about v x.own in
    let snapshot = at base.graph s.clock.records x.read in
    let changed : cs ≡ changes_about v (changes_until x.read s.clock.records) = until_past s.clock.records v x.read None ∙ ap (λ rs. changes_about v (changes_until x.read rs)) (but_none s.clock.records) in
    let node : place_after own (place_after cs (vertex_at v base.graph)) ≡ vertex_at v (after_changes x.own snapshot) =
    ap (λ ds. place_after own (place_after ds (vertex_at v base.graph))) changed
    ∙ ap (place_after own) (sym (vertex_at-after v (changes_until x.read s.clock.records) base.graph))
    ∙ sym (vertex_at-after v x.own snapshot) in
    let both : Agree (vertex_at v (after_changes x.own snapshot)) (lives own (lives cs (root base v).life)) (λ l. lists l own (lists l cs ((root base v).lists l))) =
    subst (λ (o : Option Vertex). Agree o (lives own (lives cs (root base v).life)) (λ l. lists l own (lists l cs ((root base v).lists l)))) node
    (agree own (place_after cs (vertex_at v base.graph)) (lives cs (root base v).life) (λ l. lists l cs ((root base v).lists l)) view.own_fits
    (agree cs (vertex_at v base.graph) (root base v).life (root base v).lists view.past_fits (root_agrees base.epoch (vertex_at v base.graph) (whole_at v base.graph whole)))) in
    vertex_shown v (vertex_at v (after_changes x.own snapshot)) (lives own (lives cs (root base v).life)) (λ l. lists l own (lists l cs ((root base v).lists l))) (s.row v) x.read (Txn x.tid)
    (number_at v (after_changes x.own snapshot)) (whole_at v (after_changes x.own snapshot) (is_graph-after x.own snapshot (is_graph-after (changes_until x.read s.clock.records) base.graph whole)))
    view.labels view.life view.list both
