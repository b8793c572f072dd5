use Rattle.std.proofs.Common.{ℕ, ◌<◌, List, ◌∷◌, length, subst, sym, ap, arith}
use Rattle.edge_log.specs.Entries.{Entry}
use Rattle.edge_log.specs.Places.{oldest}
use Rattle.tel_entry.specs.declared.entry.Entry.{Entry as RawEntry}
use Rattle.edge_bloom.specs.Filters.{HasBitsOf}
use Rattle.block_layout.proofs.AtPlaces.{there, oldest_all, oldest_with}
use Rattle.block_writing.proofs.Copied.{oldest-none, filter-long, destinations}
use Rattle.block_writing.proofs.copy.add_all.Goals as goal

pub loop-place-init : goal.loop-place-init
loop-place-init c = record {
  is_filter = c.requires.filter;
  bits = λ start xs held count none.
      (let P : List Entry → Type 0 = λ ys. HasBitsOf c.args.filter.now (destinations ys) in subst P (sym (oldest-none xs)) none);
}

pub loop-place-preserved : goal.loop-place-preserved
loop-place-preserved c = record {
  is_filter = filter-long c.add.new.filter c.loop-place.filter c.add.auto.filter c.loop-place.invariant.is_filter;
  bits = λ start xs held count none.
      (let n : ℕ = c.loop-place.place in
      let within : n < length xs = omega (arith, count) in
      let x = there xs n within in
      let read = c.read_row.ensures start xs x.0 held x.1 in
      let new : List ℕ = c.add.new.filter in
      let P : ℕ → Type 0 = λ d. HasBitsOf new (d ∷ destinations (oldest n xs)) in
      let Q : List Entry → Type 0 = λ ys. HasBitsOf new (destinations ys) in
      subst Q (sym (oldest_with xs n x.0 x.1))
      (subst P (ap (λ (e : RawEntry). e.d) read) (c.add.ensures.added (destinations (oldest n xs)) (c.loop-place.invariant.bits start xs held count none))));
}

pub returns : goal.returns
returns c = λ start xs held count none.
    let P : List Entry → Type 0 = λ ys. HasBitsOf c.loop-place.filter (destinations ys) in
    subst P (oldest_all xs c.loop-place.place (omega (arith, count))) (c.loop-place.invariant.bits start xs held count none)
