use Rattle.std.proofs.Common.{ℕ, refl, sym, ap, length}
use Rattle.edge_log.specs.Entries.{fresh_entry}
use Rattle.tel_entry.specs.declared.entry.Entry.{Entry as RawEntry}
use Rattle.block_writing.proofs.append.append_entry.Goals as goal

pub returns-clause-appended : goal.returns-clause-appended
returns-clause-appended c = λ h f xs b count sum.
    let e : ℕ → RawEntry = λ n. record { d = c.args.d; created = n; ended = 0; len = length c.args.p.now } in
    c.put_entry.ensures.appended h f xs (fresh_entry c.args.d c.args.p.now c.args.tid) b count sum
    (record { d = c.ranges.d.fits; created = c.requires.number; ended = tt; len = c.requires.len })
    (ap e (sym c.private_stamp.ensures.raw))
    refl
