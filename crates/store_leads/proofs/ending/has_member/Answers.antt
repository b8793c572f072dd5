use Rattle.std.proofs.Common.{◌≡◌, ◌+◌, ℕ, suc, false, sym, ap, ◌∙◌, subst, arith, take}
use Rattle.group_commit.specs.Members.{records_at}
use Rattle.core_states.specs.Numbers.{has_record}
use Rattle.store_leads.proofs.Members.{has_at, none_more}
use Rattle.store_leads.proofs.ending.has_member.Goals as goal

pub returns-then-record-tid : goal.returns-then-record-tid
returns-then-record-tid c = sym (has_at c.args.tid 0 c.args.group.now c.loop-i.i c.member_at.result.now c.member_at.ensures (ap (λ r. r.tid) (sym c.record.ensures) ∙ c.if-record-tid.true))

pub loop-i-preserved : goal.loop-i-preserved
loop-i-preserved c =
    let next : suc c.loop-i.i ≡ c.loop-i.i + 1 = omega arith in
    subst (λ (n : ℕ). has_record c.args.tid (records_at 0 (take n c.args.group.now)) ≡ false) next
    (none_more c.args.tid 0 c.args.group.now c.loop-i.i c.member_at.result.now c.member_at.ensures (λ is. c.if-record-tid.false (ap (λ r. r.tid) c.record.ensures ∙ is)) c.loop-i.invariant)
