use Rattle.std.proofs.Common.{ℕ, ◌<◌, ◌∙◌, nat_eq, length, sym, ap, arith}
use Rattle.std.proofs.lemmas.List.{get_or_default}
use Rattle.std.proofs.lemmas.List.Sums.{position_or_len_is}
use Rattle.graph_model.specs.declared.record.Outcome.{Outcome}
use Rattle.graph_model.specs.declared.record.Outcome.TheVariants.{Failed}
use Rattle.commit_queue.specs.KeptOutcomes.{KeptOutcomes, place_in}
use Rattle.commit_queue.proofs.Places.{eq_refl}
use Rattle.commit_queue.proofs.outcomes.Outcomes.search.Goals as goal

pub returns-else-index-tid : goal.returns-else-index-tid
returns-else-index-tid c =
    let items = c.self.inside.kept.items in
    sym (position_or_len_is (λ (x : ℕ × Outcome). nat_eq c.args.tid x.0) items c.loop-i.i (0, Failed 0 0) c.loop-i.invariant.within c.loop-i.invariant.others
    (λ (within : c.loop-i.i < length items). ap (λ (x : ℕ × Outcome). nat_eq c.args.tid x.0) (get_or_default items c.loop-i.i (0, Failed 0 0) c.index.result.now within ∙ sym c.index.ensures) ∙ ap (nat_eq c.args.tid) c.if-index-tid.false ∙ eq_refl c.args.tid))
    ∙ ap (λ (s : KeptOutcomes). place_in c.args.tid s.kept) c.self.view_is

pub returns-after-loop-i : goal.returns-after-loop-i
returns-after-loop-i c =
    let items = c.self.inside.kept.items in
    sym (position_or_len_is (λ (x : ℕ × Outcome). nat_eq c.args.tid x.0) items c.loop-i.i (0, Failed 0 0) c.loop-i.invariant.within c.loop-i.invariant.others
    (λ (within : c.loop-i.i < length items). absurd (omega (arith, c.loop-i-test.false, c.len-in-loop-i.ensures, within))))
    ∙ ap (λ (s : KeptOutcomes). place_in c.args.tid s.kept) c.self.view_is
