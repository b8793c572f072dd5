use Rattle.std.proofs.Common.{ℕ, List, ◌≡◌, [], ap, sym, ◌∙◌}
use Rattle.std.specs.Prelude.{nat_eq}
use Rattle.std.proofs.lemmas.List.{drop_all}
use Rattle.indexmap.specs.IndexSet.{insert_all}
use Rattle.label_index.proofs.Lists.{insert_key-absent, insert_all-distinct}
use Rattle.label_index.proofs.label_list.set_of.Goals as goal

pub returns : goal.returns
returns c =
    let none_left = drop_all c.loop-label.label-index c.args.labels.now c.loop-label-test.false in
    let all : c.loop-label.set.keys ≡ c.args.labels.now =
    sym (ap (λ (rest : List ℕ). insert_all nat_eq c.loop-label.set.keys rest) none_left)
    ∙ c.loop-label.invariant ∙ insert_all-distinct [] c.args.labels.now c.requires.once in
    rw (c.in_ok-new.ensures.ok, c.in_ok-insert-2.ensures.keys, all) (insert_key-absent c.args.last c.args.labels.now c.requires.absent)
