-- What each change of the bytes makes of a log.
use Rattle.std.proofs.Common.{◌≡◌, ℕ, ◌+◌, ◌<◌, ◌≤◌, true, false, List, [], ◌∷◌, length, refl, sym, ap, subst, ◌∙◌, arith}
use Rattle.std.specs.Global.{Vec}
use Rattle.std.specs.Prelude.{◌||◌, nat_le, All, None}
use Rattle.std.specs.List.{list_any}
use Rattle.std.proofs.lemmas.Bool.Decides.{nat_tests}
use Rattle.graph_model.specs.Records.{list_most}
use Rattle.edge_log.specs.Entries.{Entry, payload_sum, fresh_entry, converted, cleared, kept}
use Rattle.edge_log.specs.Places.{oldest, ended_at}
use Rattle.edge_log.specs.Contents.{LogContent, empty_content, with_appended, with_ended, with_converted, with_undone, with_kept}
use Rattle.edge_log.proofs.PlaceLemmas.{oldest_all, length-oldest}
use Rattle.edge_log.proofs.EntryLemmas.{payloads-oldest, payloads-converted, payloads-cleared, payloads-ended_at, payloads-oldest-ended_at, length-ended_at, length-converted, length-cleared, length-kept-oldest, oldest-kept, sizes-kept, sizes-payloads}
use Rattle.tel_entry.specs.declared.header.Header.{Header}
use Rattle.block_layout.specs.Blocks.{IsBlock}
use Rattle.block_layout.proofs.AtPlaces.{oldest_older}
use Rattle.block_pool.specs.Blocks.{Area}
use Rattle.block_writing.specs.declared.fill.Fill.{Fill}
use Rattle.block_writing.specs.Headers.{fresh_header, committed_header, moved_header, kept_header}
use Rattle.block_writing.specs.Changed.{is_among}
use Rattle.block_index.specs.declared.entry_index.EntryIndex.{EntryIndex}
use Rattle.block_index.specs.Indexed.{Indexes, HasRoom, IsFresh, most_in}
use Rattle.block_index.proofs.IndexFacts.{same-entries, alike-converted, alike-cleared, alike-ended}
use Rattle.tel_block.specs.declared.log.TelBlock.{TelBlock}
use Rattle.tel_block.specs.Logs.{entries_of, spare_of, content_in, IsFillOf, is_private_to, IsReached, IsLog}
use Rattle.tel_block.specs.declared.moving.Moving.{Moving}
use Rattle.tel_block.specs.Moved.{IsMoved}
use Rattle.block_writing.specs.Filters.{filter_in}
use Rattle.tel_block.proofs.LogFacts.{at-order, count, spelled, Counts, Knows, is-log, sizes-used}
use Rattle.tel_block.proofs.DatedFacts.{dated-oldest, dated-cleared, dated-converted, dated-ended, dated-kept}
use Rattle.tel_block.proofs.PrivateFacts.{reached-converted, reached-cleared, reached-oldest, reached-ended, none-reached}

-- A log's bytes, and what they show.
pub record Shows (log : TelBlock) (shown : LogContent) (bytes : List ℕ) : Type 0 where
  pub is : IsLog log bytes
  pub content : content_in log bytes ≡ shown

same-content : (entries entries' : List Entry) (committed committed' epoch : ℕ) → entries ≡ entries' → committed ≡ committed' →
    ◌≡◌ {A = LogContent} (record { entries = entries; committed = committed; epoch = epoch }) (record { entries = entries'; committed = committed'; epoch = epoch })
same-content entries entries' committed committed' epoch e c = cc (e, c)

-- a log of these entries
shows : (log : TelBlock) (h : Header) (f : List ℕ) (ys : List Entry) (bytes : List ℕ) (committed : ℕ) → Counts log.block.order log.fill log.committed log.epoch h f ys bytes → Knows log ys → log.committed.entries ≡ committed →
    Shows log (record { entries = ys; committed = committed; epoch = log.epoch }) bytes
shows log h f ys bytes committed counts knows same = record {
  is = is-log log h f ys bytes counts knows;
  content = same-content (entries_of log.block.order log.fill bytes) ys log.committed.entries committed log.epoch
      (spelled log.block.order log.fill h f ys bytes counts.block counts.entries counts.props) same;
}

below-from : (noted : List ℕ) (from n : ℕ) → from ≤ n → (nat_le from n || is_among noted n) ≡ true
below-from noted from n within = grind (arith, nat_tests, within)

pub begun : (log : TelBlock) (v l previous : ℕ) (f bytes : List ℕ) → IsFresh log.block.order log.index → log.noted.items ≡ [] → log.most ≤ list_most → IsBlock log.block.order (fresh_header v l log.block.order previous) f [] bytes →
    Shows (record log { fill = record { entries = 0; props = 0 }; committed = record { entries = 0; props = 0 }; epoch = 0; latest = 0; settled = 0 }) empty_content bytes
begun log v l previous f bytes fresh none most block =
    let zero : Fill = record { entries = 0; props = 0 } in
    let new : TelBlock = record log { fill = zero; committed = zero; epoch = 0; latest = 0; settled = 0 } in
    let counts : Counts new.block.order zero zero 0 (fresh_header v l log.block.order previous) f [] bytes = record {
      block = block;
      entries = refl;
      props = refl;
      header_entries = refl;
      header_props = refl;
      header_epoch = refl;
      within = omega arith;
      committed_props = refl;
    } in
    let knows : Knows new [] = record {
      settled = omega arith;
      noted = subst (λ (ns : List ℕ). All (λ n. n < 0) ns) (sym none) (λ k d h. absurd (omega (arith, h)));
      reached = tt;
      dated = tt;
      within = omega arith;
      bounded = most;
      indexed = fresh.0;
      index_room = fresh.1;
    } in
    shows new (fresh_header v l log.block.order previous) f [] bytes 0 counts knows refl

-- after an edge was appended
pub appended : (log : TelBlock) (index : EntryIndex) (t d k : ℕ) (p old bytes f : List ℕ) → IsLog log old → Indexes index (fresh_entry d p t ∷ entries_of log.block.order log.fill old) → HasRoom (most_in log.block.order) index → k ≡ length p → 28 + length p ≤ spare_of log →
    ((h : Header) (g : List ℕ) (xs : List Entry) → IsBlock log.block.order h g xs old → length xs ≡ log.fill.entries → payload_sum xs ≡ log.fill.props → IsBlock log.block.order h f (fresh_entry d p t ∷ xs) bytes) →
    Shows (record log { fill = record { entries = log.fill.entries + 1; props = log.fill.props + k }; index = index }) (with_appended t d p (content_in log old)) bytes
appended log index t d k p old bytes f is indexed index_room len room writes =
    let xs : List Entry = entries_of log.block.order log.fill old in
    let new : TelBlock = record log { fill = record { entries = log.fill.entries + 1; props = log.fill.props + k }; index = index } in
    let n = count log.block.order log.fill old in
    let props = is.filled.props in
    let low = is.filled.within in
    let settled = is.settled in
    let counts : Counts new.block.order new.fill new.committed new.epoch is.filled.header f (fresh_entry d p t ∷ xs) bytes = record {
      block = writes is.filled.header is.filled.filter xs is.filled.block n props;
      entries = omega (arith, n);
      props = omega (arith, props, len);
      header_entries = is.filled.header_entries;
      header_props = is.filled.header_props;
      header_epoch = is.filled.header_epoch;
      within = omega (arith, low);
      committed_props = is.filled.committed_props ∙ ap payload_sum (sym (oldest_older (fresh_entry d p t) xs log.committed.entries (omega (arith, n, low))));
    } in
    let knows : Knows new (fresh_entry d p t ∷ xs) = record {
      settled = settled;
      noted = is.noted;
      reached = (λ _. below-from log.noted.items log.settled (length xs) (omega (arith, n, low, settled)), is.reached);
      dated = (record { created = refl; ended = refl }, is.dated);
      within = omega (arith, room, len);
      bounded = is.bounded;
      indexed = indexed;
      index_room = index_room;
    } in
    shows new is.filled.header f (fresh_entry d p t ∷ xs) bytes log.committed.entries counts knows refl

-- after the entry at a place was ended, with these notes
pub ended : (log : TelBlock) (v : Vec ℕ) (place t : ℕ) (old bytes : List ℕ) → (is : IsLog log old) →
    All (λ n. n < log.settled) v.items → ((k : ℕ) → is_among log.noted.items k ≡ true → is_among v.items k ≡ true) → (place < log.settled → is_among v.items place ≡ true) →
    IsBlock log.block.order is.filled.header is.filled.filter (ended_at (entries_of log.block.order log.fill old) place t) bytes →
    Shows (record log { noted = v }) (with_ended place t (content_in log old)) bytes
ended log v place t old bytes is noted kept_notes here block =
    let xs : List Entry = entries_of log.block.order log.fill old in
    let ys : List Entry = ended_at xs place t in
    let new : TelBlock = record log { noted = v } in
    let n = count log.block.order log.fill old in
    let counts : Counts new.block.order new.fill new.committed new.epoch is.filled.header is.filled.filter ys bytes = record {
      block = block;
      entries = length-ended_at xs place t ∙ n;
      props = payloads-ended_at xs place t ∙ is.filled.props;
      header_entries = is.filled.header_entries;
      header_props = is.filled.header_props;
      header_epoch = is.filled.header_epoch;
      within = is.filled.within;
      committed_props = is.filled.committed_props ∙ sym (payloads-oldest-ended_at log.committed.entries xs place t);
    } in
    let knows : Knows new ys = record {
      settled = is.settled;
      noted = noted;
      reached = reached-ended log.noted.items v.items log.settled xs place t kept_notes here is.reached;
      dated = dated-ended log.latest place t xs is.dated;
      within = is.within;
      bounded = is.bounded;
      indexed = same-entries log.index xs ys (alike-ended xs place t) is.indexed;
      index_room = is.index_room;
    } in
    shows new is.filled.header is.filled.filter ys bytes log.committed.entries counts knows refl

-- after a commit
pub committed : (log : TelBlock) (t e latest : ℕ) (old bytes : List ℕ) → (is : IsLog log old) → log.latest ≤ latest → e ≤ latest →
    IsBlock log.block.order (committed_header e log.fill.entries log.fill.props is.filled.header) is.filled.filter (converted t e (entries_of log.block.order log.fill old)) bytes →
    Shows (record log { committed = log.fill; epoch = e; latest = latest }) (with_converted t e (content_in log old)) bytes
committed log t e latest old bytes is later epoch block =
    let xs : List Entry = entries_of log.block.order log.fill old in
    let new : TelBlock = record log { committed = log.fill; epoch = e; latest = latest } in
    let n = count log.block.order log.fill old in
    let long : length (converted t e xs) ≡ log.fill.entries = length-converted t e xs ∙ n in
    let sum : payload_sum (converted t e xs) ≡ log.fill.props = payloads-converted t e xs ∙ is.filled.props in
    let low = is.filled.within in
    let settled = is.settled in
    let counts : Counts new.block.order new.fill new.committed new.epoch (committed_header e log.fill.entries log.fill.props is.filled.header) is.filled.filter (converted t e xs) bytes = record {
      block = block;
      entries = long;
      props = sum;
      header_entries = refl;
      header_props = refl;
      header_epoch = refl;
      within = omega arith;
      committed_props = sym sum ∙ ap payload_sum (sym (oldest_all (converted t e xs) log.fill.entries (omega (arith, long))));
    } in
    let knows : Knows new (converted t e xs) = record {
      settled = omega (arith, settled, low);
      noted = is.noted;
      reached = reached-converted t e log.noted.items log.settled xs is.reached;
      dated = dated-converted t e log.latest latest xs later epoch is.dated;
      within = is.within;
      bounded = is.bounded;
      indexed = same-entries log.index xs (converted t e xs) (alike-converted t e xs) is.indexed;
      index_room = is.index_room;
    } in
    shows new (committed_header e log.fill.entries log.fill.props is.filled.header) is.filled.filter (converted t e xs) bytes (length xs) counts knows (sym n)

-- after a transaction was given up
pub undone : (log : TelBlock) (index : EntryIndex) (t : ℕ) (old bytes : List ℕ) → (is : IsLog log old) → Indexes index (oldest log.committed.entries (entries_of log.block.order log.fill old)) → HasRoom (most_in log.block.order) index →
    IsBlock log.block.order is.filled.header is.filled.filter (cleared t (oldest log.committed.entries (entries_of log.block.order log.fill old))) bytes →
    Shows (record log { fill = log.committed; index = index }) (with_undone t (content_in log old)) bytes
undone log index t old bytes is indexed index_room block =
    let xs : List Entry = entries_of log.block.order log.fill old in
    let ys : List Entry = oldest log.committed.entries xs in
    let new : TelBlock = record log { fill = log.committed; index = index } in
    let n = count log.block.order log.fill old in
    let low = is.filled.within in
    let long : length (cleared t ys) ≡ log.committed.entries = length-cleared t ys ∙ length-oldest xs log.committed.entries (omega (arith, n, low)) in
    let sum : payload_sum (cleared t ys) ≡ log.committed.props = payloads-cleared t ys ∙ sym is.filled.committed_props in
    let settled = is.settled in
    let used = is.within in
    let props = is.filled.props in
    let fewer = payloads-oldest log.committed.entries xs in
    let below = is.filled.committed_props in
    let counts : Counts new.block.order new.fill new.committed new.epoch is.filled.header is.filled.filter (cleared t ys) bytes = record {
      block = block;
      entries = long;
      props = sum;
      header_entries = is.filled.header_entries;
      header_props = is.filled.header_props;
      header_epoch = is.filled.header_epoch;
      within = omega arith;
      committed_props = sym sum ∙ ap payload_sum (sym (oldest_all (cleared t ys) log.committed.entries (omega (arith, long))));
    } in
    let knows : Knows new (cleared t ys) = record {
      settled = settled;
      noted = is.noted;
      reached = reached-cleared t log.noted.items log.settled ys (reached-oldest log.noted.items log.settled log.committed.entries xs is.reached);
      dated = dated-cleared log.latest t ys (dated-oldest log.latest log.committed.entries xs is.dated);
      within = omega (arith, used, low, props, fewer, below);
      bounded = is.bounded;
      indexed = same-entries index ys (cleared t ys) (alike-cleared t ys) indexed;
      index_room = index_room;
    } in
    shows new is.filled.header is.filled.filter (cleared t ys) bytes log.committed.entries counts knows refl

-- in another block, with the same entries
pub moved : (log : TelBlock) (b : Area) (index : EntryIndex) (previous : ℕ) (old bytes f : List ℕ) → (is : IsLog log old) → Indexes index (entries_of log.block.order log.fill old) → HasRoom (most_in b.order) index →
    IsBlock b.order (moved_header b.order previous is.filled.header) f (entries_of log.block.order log.fill old) bytes →
    Shows (record log { block = b; index = index }) (content_in log old) bytes
moved log b index previous old bytes f is indexed index_room block =
    let xs : List Entry = entries_of log.block.order log.fill old in
    let new : TelBlock = record log { block = b; index = index } in
    let counts : Counts b.order new.fill new.committed new.epoch (moved_header b.order previous is.filled.header) f xs bytes = record {
      block = block;
      entries = count log.block.order log.fill old;
      props = is.filled.props;
      header_entries = is.filled.header_entries;
      header_props = is.filled.header_props;
      header_epoch = is.filled.header_epoch;
      within = is.filled.within;
      committed_props = is.filled.committed_props;
    } in
    let knows : Knows new xs = record { settled = is.settled; noted = is.noted; reached = is.reached; dated = is.dated; within = is.within; bounded = is.bounded; indexed = indexed; index_room = index_room } in
    shows new (moved_header b.order previous is.filled.header) f xs bytes log.committed.entries counts knows refl

-- all of a log's block, copied into another one
pub copied-whole : (log : TelBlock) (b : Area) (index : EntryIndex) (moving : Moving) (old bytes : List ℕ) → IsLog log old → Indexes index (entries_of log.block.order log.fill old) → HasRoom (most_in b.order) index → moving.from_order ≡ log.block.order → moving.order ≡ b.order → moving.fill ≡ log.fill → IsMoved moving old bytes →
    Shows (record log { block = b; index = index }) (content_in log old) bytes
copied-whole log b index moving old bytes is indexed index_room from to fill copy =
    let xs : List Entry = entries_of log.block.order log.fill old in
    let f : List ℕ = filter_in moving.order bytes in
    let P : ℕ → Type 0 = λ k. IsBlock k (moved_header k moving.previous is.filled.header) f xs bytes in
    let entries = ap (λ (x : Fill). x.entries) fill in
    let props = ap (λ (x : Fill). x.props) fill in
    moved log b index moving.previous old bytes f is indexed index_room
    (subst P to
    (copy is.filled.header is.filled.filter xs (at-order moving.from_order log.block.order is.filled.header is.filled.filter xs old from is.filled.block)
    (count log.block.order log.fill old ∙ sym entries) (is.filled.props ∙ sym props)))

-- what is kept of it, in another block
pub copied : (log new : TelBlock) (h : ℕ) (previous : ℕ) (old bytes f : List ℕ) → (is : IsLog log old) → Indexes new.index (kept h (entries_of log.block.order log.fill old)) → HasRoom (most_in new.block.order) new.index → new.noted.items ≡ [] → new.most ≡ log.most →
    IsFillOf new.fill (kept h (entries_of log.block.order log.fill old)) → IsFillOf new.committed (kept h (oldest log.committed.entries (entries_of log.block.order log.fill old))) →
    IsBlock new.block.order (kept_header new.block.order previous new.committed.entries new.committed.props is.filled.header) f (kept h (entries_of log.block.order log.fill old)) bytes →
    Shows (record new { epoch = log.epoch; latest = log.latest; settled = 0 }) (with_kept h (content_in log old)) bytes
copied log new h previous old bytes f is indexed index_room none same_most fill committed_fill block =
    let xs : List Entry = entries_of log.block.order log.fill old in
    let ys : List Entry = kept h xs in
    let zs : List Entry = kept h (oldest log.committed.entries xs) in
    let copy : TelBlock = record new { epoch = log.epoch; latest = log.latest; settled = 0 } in
    let head : Header = kept_header new.block.order previous new.committed.entries new.committed.props is.filled.header in
    let few = length-kept-oldest h log.committed.entries xs in
    let ce = committed_fill.entries in
    let cp = committed_fill.props in
    let fe = fill.entries in
    let fp = fill.props in
    let sy = sizes-payloads ys in
    let sk = sizes-kept h xs in
    let sx = sizes-used log.block.order log.fill log.committed log.epoch old is.filled in
    let used = is.within in
    let counts : Counts copy.block.order copy.fill copy.committed copy.epoch head f ys bytes = record {
      block = block;
      entries = fe;
      props = fp;
      header_entries = refl;
      header_props = refl;
      header_epoch = is.filled.header_epoch;
      within = omega (arith, few, ce, fe);
      committed_props = sym cp ∙ ap payload_sum (sym (oldest-kept h log.committed.entries xs)) ∙ ap (λ (n : ℕ). payload_sum (oldest n ys)) ce;
    } in
    let knows : Knows copy ys = record {
      settled = omega arith;
      noted = subst (λ (ns : List ℕ). All (λ n. n < 0) ns) (sym none) (λ k d h. absurd (omega (arith, h)));
      reached = all-reached new.noted.items ys;
      dated = dated-kept log.latest h xs is.dated;
      within = omega (arith, fe, fp, sy, sk, sx, used, same_most);
      bounded = (let b = is.bounded in omega (arith, b, same_most));
      indexed = indexed;
      index_room = index_room;
    } in
    shows copy head f ys bytes (length zs) counts knows (sym ce)
  where
    all-reached : (noted : List ℕ) (ys : List Entry) → IsReached noted 0 ys
    all-reached noted [] = tt
    all-reached noted (y ∷ ys) = (λ _. below-from noted 0 (length ys) (omega arith), all-reached noted ys)

-- without notes, where nothing is private
pub settled : (log : TelBlock) (v : Vec ℕ) (bytes : List ℕ) → IsLog log bytes → v.items ≡ [] → list_any (is_private_to None) (entries_of log.block.order log.fill bytes) ≡ false →
    IsLog (record log { noted = v; settled = log.committed.entries }) bytes
settled log v bytes is empty none = record {
  filled = is.filled;
  settled = omega arith;
  noted = subst (λ (ns : List ℕ). All (λ n. n < log.committed.entries) ns) (sym empty) (λ k d h. absurd (omega (arith, h)));
  reached = none-reached v.items log.committed.entries (entries_of log.block.order log.fill bytes) none;
  dated = is.dated;
  within = is.within;
  bounded = is.bounded;
  indexed = is.indexed;
  index_room = is.index_room;
}
