use Rattle.std.proofs.Common.{◌≡◌, ◌∙◌, sym, ap, subst}
use Rattle.core_states.specs.declared.clock.Clock.{Clock}
use Rattle.turn_board.specs.Board.{known}
use Rattle.turn_board.specs.Views.{start_of}
use Rattle.graph_store.specs.Closing.{IsClosed}
use Rattle.graph_store.proofs.Shown.{all_shards, clock_shown, log_shown}
use Rattle.graph_store.proofs.Closes.{closes}
use Rattle.graph_store.proofs.store.Store.close_seat.Goals as goal

pub let_go-requires : goal.let_go-requires
let_go-requires g c = let e = c.close-shards.ensures.ends in
    all_shards _ _ _ _ _ (start_of (known c.args.pass)) e.parts c.close-shards.result e.shows

pub returns : goal.returns
returns g c =
    let e = c.close-shards.ensures.ends in
    let k = c.close-wal.ensures in
    let wal = c.close-wal.result.wal in
    let disk = g.D.Disk in
    let log = c.into_inner-2.result in
    let clock : e.parts.clock ≡ c.close-shards.result.clock.value.part.clock = clock_shown _ _ _ _ _ (start_of (known c.args.pass)) e.parts c.close-shards.result e.shows in
    let unboxed : c.close-shards.result.clock.value.part.clock ≡ c.into_inner.result.part.clock = ap (λ h. h.part.clock) (sym c.into_inner.ensures) in
    let part : e.parts.log ≡ log.log = log_shown _ _ _ _ _ (start_of (known c.args.pass)) e.parts c.close-shards.result e.shows
    ∙ ap (λ b. b.value.log) (sym c.into_box.ensures) ∙ ap (λ h. h.log) (sym c.into_inner-2.ensures) in
    let told = closes disk.told disk.moment disk.images disk.faults (known c.args.pass) e.parts e.run log.log log.written log.wal.disk wal c.close-wal.result.last_moment c.close-wal.result.mended
    (record { reached = e.reached; opened = e.opened; own = e.own; began = e.began }) part k.crash k.free k.shown k.epochs k.last_moment k.mended k.disk_fault k.counted k.no_rest k.keeps k.firm k.since in
    record {
      closed = (
        e.parts,
        e.run,
        log.written,
        subst (IsClosed disk.told disk.moment disk.images disk.faults (known c.args.pass) e.parts e.run log.written) (λ i. record {
          records = (ap (λ (z : Clock). z.records) (clock ∙ unboxed) ∙ sym c.into_ends-records.ensures.records) i;
          durable_at = (ap (λ (z : Clock). z.moments) (clock ∙ unboxed) ∙ sym c.into_ends-records.ensures.moments) i;
          durable_length = sym c.durable-durable_length.ensures i;
          last_moment = c.close-wal.result.last_moment;
          mended = c.close-wal.result.mended;
          disk = sym c.into_disk.ensures i;
        }) told,
      );
    }
