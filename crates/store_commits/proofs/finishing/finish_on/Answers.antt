use Rattle.std.proofs.Common.{◌≡◌, ◌∙◌, sym, ap}
use Rattle.std.specs.Prelude.{nat_le}
use Rattle.core_states.proofs.Names.{some_is}
use Rattle.store_commits.proofs.finishing.finish_on.Goals as goal

pub returns-in-Some-clause-visible : goal.returns-in-Some-clause-visible
returns-in-Some-clause-visible c e is =
    let same : c.in-Some.epoch ≡ e = some_is c.in-Some.epoch e (sym c.in-Some.is ∙ is) in
    c.seen.ensures.visible ∙ ap (λ x. nat_le x c.call.new.home.part.clock.visible) same
