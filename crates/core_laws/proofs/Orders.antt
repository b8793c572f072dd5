-- A clock is later than itself, and than all that an earlier one is later than; and so is a log part.
use Rattle.std.proofs.Common.{◌≡◌, ℕ, ◌≤◌, List, [], ◌∷◌, ◌++◌, sym, refl, ap, ◌∙◌, append_assoc, arith}
use Rattle.graph_model.specs.declared.record.Record.{Record}
use Rattle.core_states.specs.declared.clock.Clock.{Clock}
use Rattle.core_states.specs.Laters.{AllLater, Later, LaterLog}
use Rattle.core_states.specs.LogParts.{LogPart}

append_none : {A : Type 0} (xs : List A) → xs ++ [] ≡ xs
append_none [] = refl
append_none (x ∷ xs) = λ i. x ∷ append_none xs i

pub later_self : (k : Clock) → Later k k
later_self k = record { next_tid = omega arith; next_vertex = omega arith; last = omega arith; visible = omega arith; more = []; is = sym (append_none k.records); above = tt; since = []; moments = sym (append_none k.moments) }

lower : (a b : ℕ) (rs : List Record) → a ≤ b → AllLater b rs → AllLater a rs
lower a b [] low all = tt
lower a b (r ∷ rs) low all = let high = all.0 in (omega arith, lower a b rs low all.1)

both : (a : ℕ) (rs ss : List Record) → AllLater a rs → AllLater a ss → AllLater a (rs ++ ss)
both a [] ss x y = y
both a (r ∷ rs) ss x y = (x.0, both a rs ss x.1 y)

pub later_still : (k z y : Clock) → Later k z → Later z y → Later k y
later_still k z y a b =
    let tid = a.next_tid in let tid' = b.next_tid in let vertex = a.next_vertex in let vertex' = b.next_vertex in
    let last = a.last in let last' = b.last in let visible = a.visible in let visible' = b.visible in record {
      next_tid = omega arith;
      next_vertex = omega arith;
      last = omega arith;
      visible = omega arith;
      more = a.more ++ b.more;
      is = b.is ∙ (ap (λ rs. rs ++ b.more) a.is ∙ append_assoc k.records a.more b.more);
      above = both k.last a.more b.more a.above (lower k.last z.last b.more a.last b.above);
      since = a.since ++ b.since;
      moments = b.moments ∙ (ap (λ ms. ms ++ b.since) a.moments ∙ append_assoc k.moments a.since b.since);
    }

pub log_self : (k : LogPart) → LaterLog k k
log_self k = record { durable = omega arith; moment = omega arith; greatest = omega arith; opening_count = refl; firm = refl; opened = refl }

pub log_still : (k z y : LogPart) → LaterLog k z → LaterLog z y → LaterLog k y
log_still k z y a b =
    let durable = a.durable in let durable' = b.durable in let moment = a.moment in let moment' = b.moment in
    let greatest = a.greatest in let greatest' = b.greatest in record {
      durable = omega arith;
      moment = omega arith;
      greatest = omega arith;
      opening_count = b.opening_count ∙ a.opening_count;
      firm = b.firm ∙ a.firm;
      opened = b.opened ∙ a.opened;
    }
