use Rattle.std.proofs.Common.{ℕ, ◌≡◌, ◌+◌, ◌<◌, Some, length, get_or, set, sym, ap, ◌∙◌, nat_eq, arith, if◌then◌else◌}
use Rattle.std.proofs.lemmas.List.{length-set}
use Rattle.graph_model.specs.declared.record.Outcome.TheVariants.{Failed}
use Rattle.commit_queue.specs.KeptOutcomes.{KeptOutcomes, outcome_of, place_in, noted_place}
use Rattle.commit_queue.proofs.Places.{no_place, place_most, place_replaced, keeps_replaced, keeps_appended}
use Rattle.commit_queue.proofs.outcomes.Outcomes.keep_one.Goals as goal
use Rattle.commit_queue.proofs.outcomes.Outcomes.keep_one.Goals.{Then-i-len}

-- where the outcome that is there stands
there : (c : Then-i-len) → (c.place-i.result ≡ place_in c.args.tid c.self.inside.kept.items) × (place_in c.args.tid c.self.inside.kept.items < length c.self.inside.kept.items)
there c =
    let is = c.place-i.ensures ∙ sym (ap (λ (s : KeptOutcomes). place_in c.args.tid s.kept) c.self.view_is) in
    (is, omega (arith, is, c.if-i-len.true, c.len.ensures))

pub invariant_of-self : goal.invariant_of-self
invariant_of-self c =
    let a = c.self.inside in
    let h = c.self.invariant in
    let old = a.kept.items in
    let t = c.args.tid in
    let o = c.args.o in
    let at = there (goal.at.invariant_of-self c).Then-i-len in
    let long = length-set old c.place-i.result (t, o) in
    let same : (q : ℕ) → place_in q (set old c.place-i.result (t, o)) ≡ place_in q old =
    λ q. ap (λ (i : ℕ). place_in q (set old i (t, o))) at.0 ∙ place_replaced q t o old (0, Failed 0 0) at.1 in
    record {
      most = λ q above. same q ∙ h.most q above ∙ sym long;
      noted = λ n within. ap (λ (m : ℕ). noted_place m (get_or a.places.items n 0)) long ∙ h.noted n within ∙ sym (same (a.first + n));
      within = λ n. omega (arith, long, h.within n);
    }

pub append-requires-clause-new : goal.append-requires-clause-new
append-requires-clause-new c =
    let same = ap (λ (s : KeptOutcomes). length s.kept) c.self.view_is in
    omega (arith, place_most c.args.tid c.args.self.now.kept, c.place-i.ensures, c.len.ensures, c.if-i-len.false, same)

pub returns-then-i-len-clause-kept : goal.returns-then-i-len-clause-kept
returns-then-i-len-clause-kept c =
    let t = c.args.tid in
    let o = c.args.o in
    let at = there (goal.at.returns-then-i-len-clause-kept c).Then-i-len in λ q.
    ap (λ (i : ℕ). outcome_of q (set c.self.inside.kept.items i (t, o))) at.0
    ∙ keeps_replaced t o c.self.inside.kept.items at.1 q
    ∙ ap (λ (s : KeptOutcomes). if nat_eq t q then Some o else outcome_of q s.kept) c.self.view_is

pub returns-then-i-len-clause-appended : goal.returns-then-i-len-clause-appended
returns-then-i-len-clause-appended c =
    let at = there (goal.at.returns-then-i-len-clause-appended c).Then-i-len in λ none.
    absurd (let over = no_place c.args.tid c.self.inside.kept.items (ap (λ (s : KeptOutcomes). outcome_of c.args.tid s.kept) c.self.view_is ∙ none) in omega (arith, over, at.1))

pub returns-else-i-len-clause-kept : goal.returns-else-i-len-clause-kept
returns-else-i-len-clause-kept c =
    let t = c.args.tid in
    let o = c.args.o in
    let same = ap (λ (s : KeptOutcomes). length s.kept) c.self.view_is in
    let none : place_in t c.args.self.now.kept ≡ length c.args.self.now.kept = omega (arith, place_most t c.args.self.now.kept, c.place-i.ensures, c.len.ensures, c.if-i-len.false, same) in
    λ q. ap (outcome_of q) c.append.ensures.kept ∙ keeps_appended t o c.args.self.now.kept none q
