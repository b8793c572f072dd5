use Rattle.std.proofs.Common.{◌≡◌, ℕ, ◌<◌, List, sym, subst, arith}
use Rattle.std.specs.Prelude.{true, All}
use Rattle.std.proofs.lemmas.List.Elements.{All-push}
use Rattle.edge_log.proofs.PlaceLemmas.{entry_at_some-within}
use Rattle.block_writing.specs.Changed.{is_among}
use Rattle.edge_log.specs.Contents.{with_ended}
use Rattle.tel_block.specs.Logs.{entries_of, content_in}
use Rattle.tel_block.proofs.LogFacts.{count, small}
use Rattle.tel_block.proofs.PrivateFacts.{among-kept, among-here}
use Rattle.tel_block.proofs.Steps.{Shows, ended}
use Rattle.tel_block.proofs.log.TelBlock.end_in.Goals as goal
use Rattle.tel_block.proofs.log.TelBlock.end_in.Goals.{After-push_reserved, Else-place-self}

pub end_entry-requires : goal.end_entry-requires
end_entry-requires c =
    let log = c.args.self.now in
    let s = small log.block.order log.fill log.committed log.epoch c.args.bytes.now c.requires.is_log.filled in
    let n = count log.block.order log.fill c.args.bytes.now in
    let w = entry_at_some-within (entries_of log.block.order log.fill c.args.bytes.now) c.args.place _ c.requires.live in
    record { there = omega (arith, s.rows, n, w); number = c.requires.number }

noted : (c : After-push_reserved) → Shows (record c.args.self.now { noted = c.push_reserved.new.self }) (with_ended c.args.place c.args.tid (content_in c.args.self.now c.args.bytes.now)) c.end_entry.new.block
noted c =
    let log = c.args.self.now in
    let is = c.requires.is_log.filled in
    let xs = entries_of log.block.order log.fill c.args.bytes.now in
    let w = entry_at_some-within xs c.args.place _ c.requires.live in
    ended log c.push_reserved.new.self c.args.place c.args.tid c.args.bytes.now c.end_entry.new.block c.requires.is_log
    (subst (λ (ns : List ℕ). All (λ n. n < log.settled) ns) (sym c.push_reserved.ensures.items) (All-push (λ n. n < log.settled) log.noted.items c.args.place c.requires.is_log.noted c.if-place-self.true))
    (λ k among. subst (λ (ns : List ℕ). is_among ns k ≡ true) (sym c.push_reserved.ensures.items) (among-kept log.noted.items c.args.place k among))
    (λ _. subst (λ (ns : List ℕ). is_among ns c.args.place ≡ true) (sym c.push_reserved.ensures.items) (among-here log.noted.items c.args.place))
    (c.end_entry.ensures log.block.order is.header is.filter xs is.block w)

pub returns-then-place-self-clause-is_log : goal.returns-then-place-self-clause-is_log
returns-then-place-self-clause-is_log c = (noted (goal.at.returns-then-place-self-clause-is_log c).After-push_reserved).is

pub returns-then-place-self-clause-ended : goal.returns-then-place-self-clause-ended
returns-then-place-self-clause-ended c = (noted (goal.at.returns-then-place-self-clause-ended c).After-push_reserved).content

passed : (c : Else-place-self) → Shows c.args.self.now (with_ended c.args.place c.args.tid (content_in c.args.self.now c.args.bytes.now)) c.end_entry.new.block
passed c =
    let log = c.args.self.now in
    let is = c.requires.is_log.filled in
    let xs = entries_of log.block.order log.fill c.args.bytes.now in
    let w = entry_at_some-within xs c.args.place _ c.requires.live in
    ended log log.noted c.args.place c.args.tid c.args.bytes.now c.end_entry.new.block c.requires.is_log c.requires.is_log.noted (λ k among. among) (λ below. absurd (omega (arith, below, c.if-place-self.false)))
    (c.end_entry.ensures log.block.order is.header is.filter xs is.block w)

pub returns-else-place-self-clause-is_log : goal.returns-else-place-self-clause-is_log
returns-else-place-self-clause-is_log c = (passed (goal.at.returns-else-place-self-clause-is_log c).Else-place-self).is

pub returns-else-place-self-clause-ended : goal.returns-else-place-self-clause-ended
returns-else-place-self-clause-ended c = (passed (goal.at.returns-else-place-self-clause-ended c).Else-place-self).content
