-- `renoted` gives on what has no bytes, and the value that clauses see of it is any.
use Rattle.std.proofs.Common.{◌≡◌, List, [], ◌∷◌, ◌++◌, refl, ap, ◌∙◌}
use mir.Val.{Val, vstruct, vcons, vnil, of_list}
use base.Logic.{SProp, emp}
use base.Fml.{Fml}
use prog.Wp.{WpFn}
use contract.Monad.{fact, fact_i}
use contract.Running.{tables}
use types.Kit.{‵, raw, ◌⊛◌, prop, ◌$◌, ◌∵◌, !, qed, by, keep, use0, split, regoal, fjoin}
use types.Run.{returns, enter, of_opd}
use types.ByLocal.{alloc_all, pass_all, free_all, look_at, get, sets}
use denote.RattleType.{RattleType, owns}
use denote.Exit.{yes}
use denote.Shadow.{makes_shadow}
use denote.Signature.{types_at, plain}
use denote.Steps.{nothing}
use denote.Triple.Entry.{alive, Res}
use denote.Triple.Walked.{Stays, stay_dropped, walk_of, Goes-dropped}
use Rattle.std.proofs.raw_atomic.Walks.{proved_at, leaves}
use Rattle.std.specs.contracts.snapshot.Snapshot as Snapshot
use Rattle.store_log.specs.contracts.notes.Note as Note
use Rattle.store_log.specs.contracts.notes.renoted as f
use Rattle.store_log.proofs.notes.renoted.Statement.{statement}
use Rattle.store_log.proofs.notes.renoted.Code as code

abbrev R : RattleType
R = Snapshot.the_row Note.the_row

abbrev bytes : Val
bytes = vstruct (vcons (vstruct vnil) vnil)

abbrev stayed : Stays f.ended.signature.params f.ended.kept
stayed = (stay_dropped (plain (λ _. R)) yes, tt)

pub renoted_spec : {M : Type 1} → statement M
renoted_spec 𝓤 𝓛 𝓜 𝓡 wired =
    let c = f.clauses 𝓛 𝓜.mem 𝓡.returns in let 𝓣 = tables 𝓤 𝓛.H 𝓜 𝓡 𝓡.env in
    proved_at 𝓛 f.ended stayed c 𝓜 𝓡 (Goes-dropped 𝓛 0 (plain (λ _. R)) yes (λ κs x w. refl), tt)
    f.Key.name code.function (code.unfolded 𝓤 𝓛.H 𝓜 𝓡 wired) (λ z are.
    let Post : Val → SProp 𝓤 = (walk_of 𝓛 f.ended stayed c).post z in
    let r : Res f.signature z.0.0 = record { marker = record {}; value = z.1 } in
    let O : Fml = R.own_val r (bytes ∷ []) in
    let told : z.0.4.0 ≡ bytes ∷ [] = let is = are.0.0 in is.1.0 ∙ ap (λ (ws : List Val). vstruct (of_list (ws ++ [])) ∷ []) is.1.1.0.1.0 in
    qed 𝓛 ((raw (alive 𝓛 f.signature z.0.0 z.0.1) ⊛ ‵ (owns (types_at f.signature.params z.0.0) z.0.3 z.0.4)) ∷ raw ((c z.0.0 z.0.3).requires z.1) ∷ []) ∵ split ! $ keep ! (0 ∷ []) $
    regoal ! (λ (us : List Val). prop (WpFn 𝓤 𝓛.H 𝓣.C 𝓣.Λ code.function us Post)) (λ i. told i ++ []) refl $
    enter ! 𝓣.C 𝓣.Λ code.function (bytes ∷ []) Post $ alloc_all ! (λ l. pass_all ! refl ((tt, (tt, tt)), tt) $
    sets ! (of_opd ! (get ! refl)) refl (tt, (tt, tt)) $
    use0 𝓛 (raw (fact 𝓤 (z.1 ≡ z.1))) (fact_i 𝓤 (z.1 ≡ z.1) (emp 𝓤) refl) $
    use0 𝓛 (‵ O) (makes_shadow 𝓛 O ((λ vss. (tt, ((λ uss. (tt, tt)), tt))), tt) (((vstruct vnil ∷ [], tt), (refl, ((tt, (refl, tt)), tt))), tt)) $ nothing ! $ nothing ! $ fjoin ! $
    returns ! (look_at ! 0 refl) $ free_all ! refl $ keep ! (3 ∷ 0 ∷ 1 ∷ 2 ∷ []) $
    by ! (leaves 𝓛 f.ended stayed c z bytes r (tt, tt) (tt, tt))))
