use Rattle.std.proofs.Common.{◌≡◌, false, ap, sym, ◌∙◌, arith}
use Rattle.std.specs.Prelude.{None}
use Rattle.std.specs.List.{list_any}
use Rattle.edge_log.specs.Slots.{is_private_to}
use Rattle.edge_log.proofs.ReachLemmas.{none-private}
use Rattle.edge_log.proofs.plain_log.PlainLog.settle.Goals as goal

pub returns-then-not-has_private-clause-stands : goal.returns-then-not-has_private-clause-stands
returns-then-not-has_private-clause-stands c =
    let old = c.requires in
    let none : list_any (is_private_to None) c.args.self.now.slots.items ≡ false =
    ap (list_any (is_private_to None)) (sym c.deref.ensures.value) ∙ sym c.has_private.ensures.any ∙ c.if-not-has_private.true in
    record {
      fits = old.fits;
      size = old.size;
      props = old.props;
      committed_props = old.committed_props;
      settled = omega arith;
      noted = rw c.clear.ensures.items (λ k d h. absurd (omega (arith, h)));
      reached = none-private c.clear.new.self.items c.args.self.now.committed c.args.self.now.slots.items none;
      ready = old.ready;
    }
