use Rattle.std.proofs.Common.{◌≡◌, ℕ, ◌+◌, Bool, true, false, List, [], ◌∷◌, length, refl, subst, sym, ap, ◌∙◌, arith}
use Rattle.std.specs.Prelude.{if◌then◌else◌}
use Rattle.stamps.specs.Stamps.{Nobody, counts}
use Rattle.edge_log.specs.Entries.{Entry, kept, payload_sum}
use Rattle.edge_log.specs.Places.{oldest}
use Rattle.tel_entry.specs.declared.entry.Entry.{Entry as RawEntry}
use Rattle.tel_entry.specs.RawStamps.{stamp_of}
use Rattle.edge_bloom.specs.Filters.{HasBitsOf}
use Rattle.block_layout.specs.Sizes.{props_start, bytes_at}
use Rattle.block_layout.specs.Blocks.{IsBlock}
use Rattle.block_layout.proofs.AtPlaces.{oldest_all}
use Rattle.block_writing.specs.Filters.{filter_in}
use Rattle.block_writing.specs.Spelled.{spelled}
use Rattle.block_writing.proofs.Copied.{oldest-none, destinations}
use Rattle.block_writing.proofs.Kept.{length-entries_in, kept-room, past-raw, next, block-small}
use Rattle.block_writing.proofs.keep.copy_kept.Goals as goal

pub read_row-entry-requires : goal.read_row-entry-requires
read_row-entry-requires c = (next c.args.from_order c.args.fill c.args.from.now c.loop-place.place c.requires.spelled (omega arith)).row

pub payload_at-p-requires : goal.payload_at-p-requires
payload_at-p-requires c =
    let n = next c.args.from_order c.args.fill c.args.from.now c.loop-place.place c.requires.spelled (omega arith) in
    let len = ap (λ (e : RawEntry). e.len) (c.read_row-entry.ensures (props_start c.args.from_order) (spelled c.args.from_order c.args.fill c.args.from.now) n.x c.requires.spelled.held n.at) in
    let within = n.within in
    let was = c.loop-place.invariant.place in
    omega (arith, len, within, was)

pub keep-kept-requires-clause-few : goal.keep-kept-requires-clause-few
keep-kept-requires-clause-few c =
    let long = c.loop-place.auto.to in
    let is = c.requires.long in
    let small = block-small c.args.order c.requires.orders.1 in
    omega (arith, long, is, small)

pub keep-kept-requires-clause-room : goal.keep-kept-requires-clause-room
keep-kept-requires-clause-room c = λ here.
    let h : ℕ = c.args.horizon in
    let xs : List Entry = spelled c.args.from_order c.args.fill c.args.from.now in
    let place : ℕ = c.loop-place.place in
    let n = next c.args.from_order c.args.fill c.args.from.now place c.requires.spelled (omega arith) in
    let read = c.read_row-entry.ensures (props_start c.args.from_order) xs n.x c.requires.spelled.held n.at in
    let len : c.read_row-entry.result.len ≡ length n.x.p = ap (λ (e : RawEntry). e.len) read in
    let now : counts n.x.ended h Nobody ≡ false = sym (past-raw h n.x n.fits) ∙ ap (λ (e : RawEntry). counts (stamp_of e.ended) h Nobody) (sym read) ∙ here in
    let more = kept-room h place xs n.x n.more now in
    let entries = c.loop-place.invariant.entries in
    let props = c.loop-place.invariant.props in
    let room = c.requires.room in
    let long = c.loop-place.auto.to in
    let size = c.payload_at-p.ensures.len in
    omega (arith, more.0, more.1, entries, props, room, long, size, len)

-- how much is kept with one entry more, by whether it is past
grown : (b : Bool) (x : Entry) (ys : List Entry) (entries props len : ℕ) → length ys ≡ entries → payload_sum ys ≡ props → len ≡ length x.p →
    (length (if b then ys else x ∷ ys) ≡ (if b then entries else entries + 1)) × (payload_sum (if b then ys else x ∷ ys) ≡ (if b then props else props + len))
grown true x ys entries props len es ps ls = (es, ps)
grown false x ys entries props len es ps ls = ((omega (arith, es)), (omega (arith, ps, ls)))

chosen : (b : Bool) (x : Entry) (ys : List Entry) (d : ℕ) → d ≡ x.d → (if b then destinations ys else d ∷ destinations ys) ≡ destinations (if b then ys else x ∷ ys)
chosen true x ys d is = refl
chosen false x ys d is = ap (λ (k : ℕ). k ∷ destinations ys) is

pub loop-place-init : goal.loop-place-init
loop-place-init c =
    let h : ℕ = c.args.horizon in
    let to : List ℕ = c.args.to.now in
    let xs : List Entry = spelled c.args.from_order c.args.fill c.args.from.now in
    let none = oldest-none xs in
    record {
      place = c.props_start-at.ensures ∙ (let sum = ap payload_sum none in omega (arith, sum));
      entries = ap (λ (ys : List Entry). length (kept h ys)) none;
      props = ap (λ (ys : List Entry). payload_sum (kept h ys)) none;
      block = λ g f b.
          (let P : List Entry → Type 0 = λ ys. IsBlock c.args.order g (filter_in c.args.order to) (kept h ys) to in
          let Q : List ℕ → Type 0 = λ e. IsBlock c.args.order g e [] to in
          subst P (sym none) (subst Q (sym b.bits) b));
      bits = λ has bits. (let P : List Entry → Type 0 = λ ys. HasBitsOf (filter_in c.args.order to) (destinations (kept h ys)) in subst P (sym none) bits);
    }

pub loop-place-preserved : goal.loop-place-preserved
loop-place-preserved c =
    let h : ℕ = c.args.horizon in
    let order : ℕ = c.args.order in
    let new : List ℕ = c.keep-kept.new.to in
    let start : ℕ = props_start c.args.from_order in
    let xs : List Entry = spelled c.args.from_order c.args.fill c.args.from.now in
    let place : ℕ = c.loop-place.place in
    let ys : List Entry = oldest place xs in
    let n = next c.args.from_order c.args.fill c.args.from.now place c.requires.spelled (omega arith) in
    let read = c.read_row-entry.ensures start xs n.x c.requires.spelled.held n.at in
    let len : c.read_row-entry.result.len ≡ length n.x.p = ap (λ (e : RawEntry). e.len) read in
    let past : counts (stamp_of c.read_row-entry.result.ended) h Nobody ≡ counts n.x.ended h Nobody =
    ap (λ (e : RawEntry). counts (stamp_of e.ended) h Nobody) read ∙ past-raw h n.x n.fits in
    let size = c.payload_at-p.ensures.len in
    let was = c.loop-place.invariant.place in
    let payload : c.payload_at-p.result.now ≡ n.x.p =
    c.payload_at-p.ensures.bytes ∙ ap (λ (k : ℕ). bytes_at k c.read_row-entry.result.len c.args.from.now) was ∙ ap (λ (k : ℕ). bytes_at (start + payload_sum ys) k c.args.from.now) len ∙ n.payload in
    let sum = ap payload_sum n.more in
    let entries = c.loop-place.invariant.entries in
    let props = c.loop-place.invariant.props in
    let b : Bool = counts n.x.ended h Nobody in
    let step : kept h (oldest (place + 1) xs) ≡ (if b then kept h ys else n.x ∷ kept h ys) = ap (kept h) n.more in
    let long = ap length step in
    let bytes = ap payload_sum step in
    let nes = c.keep-kept.ensures.entries ∙ ap (λ (t : Bool). if t then c.loop-place.kept.entries else c.loop-place.kept.entries + 1) past in
    let nps = c.keep-kept.ensures.props ∙ ap (λ (t : Bool). if t then c.loop-place.kept.props else c.loop-place.kept.props + length c.payload_at-p.result.now) past in
    let both = grown b n.x (kept h ys) c.loop-place.kept.entries c.loop-place.kept.props (length c.payload_at-p.result.now) entries props (omega (arith, size, len)) in
    record {
      place = omega (arith, sum, was, size, len);
      entries = long ∙ both.0 ∙ sym nes;
      props = bytes ∙ both.1 ∙ sym nps;
      block = λ g f b0.
          (let now = c.keep-kept.ensures.kept g (filter_in order c.loop-place.to) (kept h ys) n.x (c.loop-place.invariant.block g f b0) entries props n.fits (sym read) (sym payload) in
          let P : Bool → Type 0 = λ t. (let zs : List Entry = if t then kept h ys else n.x ∷ kept h ys in IsBlock order g (filter_in order new) zs new) in
          let Q : List Entry → Type 0 = λ zs. IsBlock order g (filter_in order new) zs new in
          subst Q (sym step) (subst P past now));
      bits = λ has none.
          (let now = c.keep-kept.ensures.bits has (destinations (kept h ys)) (c.loop-place.invariant.bits has none) in
          let P : Bool → Type 0 = λ t. (let es : List ℕ = if t then destinations (kept h ys) else c.read_row-entry.result.d ∷ destinations (kept h ys) in HasBitsOf (filter_in order new) es) in
          let d : c.read_row-entry.result.d ≡ n.x.d = ap (λ (e : RawEntry). e.d) read in
          let R : List ℕ → Type 0 = λ es. HasBitsOf (filter_in order new) es in
          let Q : List Entry → Type 0 = λ zs. HasBitsOf (filter_in order new) (destinations zs) in
          subst Q (sym step) (subst R (chosen b n.x (kept h ys) c.read_row-entry.result.d d) (subst P past now)));
    }

pub returns-clause-copied : goal.returns-clause-copied
returns-clause-copied c = λ g f b.
    let xs : List Entry = spelled c.args.from_order c.args.fill c.args.from.now in
    let long = length-entries_in (props_start c.args.from_order) c.args.fill.entries c.args.fill.props c.args.from.now in
    let P : List Entry → Type 0 = λ ys. IsBlock c.args.order g (filter_in c.args.order c.loop-place.to) (kept c.args.horizon ys) c.loop-place.to in
    subst P (oldest_all xs c.loop-place.place (omega (arith, long))) (c.loop-place.invariant.block g f b)

pub returns-clause-filter : goal.returns-clause-filter
returns-clause-filter c = λ has bits.
    let xs : List Entry = spelled c.args.from_order c.args.fill c.args.from.now in
    let long = length-entries_in (props_start c.args.from_order) c.args.fill.entries c.args.fill.props c.args.from.now in
    let P : List Entry → Type 0 = λ ys. HasBitsOf (filter_in c.args.order c.loop-place.to) (destinations (kept c.args.horizon ys)) in
    subst P (oldest_all xs c.loop-place.place (omega (arith, long))) (c.loop-place.invariant.bits has bits)
