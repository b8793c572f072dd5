-- The rule of the board, and what each step tells.
use Rattle.std.specs.Prelude.{◌≡◌, ◌≢◌, ℕ, ◌+◌, ◌≤◌, ◌<◌, false, List, [], ◌∷◌, length, slice_index, Option, Some, None}
use mathlib.Core.Option.{some}
use lib.ListN.{get_elem?}
use Rattle.atomic_table.specs.Table.{State, Me, Step, rest}
use Rattle.atomic_table.specs.declared.shared.Seat.{Seat}
use Rattle.graph_model.specs.declared.graph.Base.{Base}
use Rattle.core_states.specs.Names.{Name}
use Rattle.core_states.specs.Openings.{fresh_actor, opening, MayOpen, IsAllowed}
use Rattle.core_states.specs.RowEvents.{Limits}
use Rattle.core_states.specs.Parts.{Part, Parts, actor_of, state_of_parts}
use Rattle.core_states.specs.Laters.{Later, LaterLog}
use Rattle.turn_board.specs.Views.{Done, Shown, Belongs, Held, Start, View, start_of, In, numbers, EachHeld, EachSeen, IsDistinct, HasTurn, has_name, taking, finding_busy}
use Rattle.turn_board.specs.Histories.{Reached, found_by, did, noted, Began}
use Rattle.turn_board.specs.Turns.{turn_part, word_of, IsOwn, IsOpened, Told, IsNewest}
use Rattle.turn_board.specs.Spread.{slot_of, turns_in, IsBetween}

-- the pass has no actor of this name, and has noted nothing of that actor's pass
abbrev pub IsSilent : Name → View → Type 0
IsSilent n v = (has_name n v.actors ≡ false) × (noted n.pass v.events ≡ [])

-- the actor of this name has done nothing, and no other of its pass
abbrev pub IsUnused : Start → Name → Parts → List Done → Type 0
IsUnused start n parts run = (actor_of start.base parts.actors n ≡ fresh_actor start.base) × (did start n.pass run ≡ [])

-- What is kept of a pass that is not spent. `all` are the numbers of all passes so far, and `owner` has the seat that a turn is with.
pub record Live (start : Start) (words : List ℕ) (parts : Parts) (run : List Done) (all : List (List ℕ)) (owner : ℕ → ℕ) (seat : ℕ) (v : View) : Type 0 where
  pub base_is : v.base ≡ start.base
  pub start_is : (v.limits ≡ start.limits) × (v.found ≡ start.found) × (v.shards ≡ start.shards)
  pub held : EachHeld (λ k p. (owner k ≡ seat) × (turn_part parts k ≡ p) × (slice_index words (word_of k) ≢ 0)) v.held
  pub distinct : IsDistinct v.held
  pub known : (n : List ℕ) → In n (numbers v) → In n all
  pub own : (n : Name) → In n.pass (numbers v) → IsOwn n v parts run
  pub silent : (n : Name) → (In n.pass (numbers v) → ⊥) → IsSilent n v
  pub later : EachSeen (λ k. Later k parts.clock) v.seen
  pub later_log : EachSeen (λ g. LaterLog g parts.log) v.seen_logs
  pub made : (k : ℕ) (m : List ℕ) → In m (numbers v) → In (k ∷ m) all → In (k ∷ m) v.made
  pub count : (k : ℕ) → In (k ∷ v.number) all → k ≤ v.splits
  pub began : EachSeen (Began start run) v.origins

-- The rule: the words, the values at home and the passes together are one state of the core. The part of a turn whose word is 0 is that of the value at home; the part of any other turn is with the pass that holds it. The slots between those of turns are empty.
pub record IsBoard {H : Type 0} (start : Start) (show : H → Shown) (s : State (Option H) View) : Type 0 where
  pub parts : Parts
  pub run : List Done
  pub all : List (List ℕ)
  pub owner : ℕ → ℕ
  pub reached : Reached start.base parts run
  pub opened : (parts.limits ≡ start.limits) × (found_by parts.log ≡ start.found)
  pub wide : length s.words ≡ word_of (length parts.shards + 2)
  pub deep : length s.homes ≡ slot_of (length parts.shards + 2)
  pub at_home : (k : ℕ) → k < length parts.shards + 2 → slice_index s.words (word_of k) ≡ 0
      → (x : H) × (get_elem? s.homes (slot_of k) ≡ some (some (Some x))) × (turn_part parts k ≡ (show x).part) × Belongs start k (show x)
  pub between : (i : ℕ) → i < length s.homes → IsBetween i → get_elem? s.homes i ≡ some (some None)
  pub out : (k : ℕ) → k < length parts.shards + 2 → slice_index s.words (word_of k) ≢ 0
      → (v : View) × (get_elem? s.views (owner k) ≡ some v) × (v.spent ≡ false) × HasTurn k v.held
  pub live : (seat : ℕ) (v : View) → get_elem? s.views seat ≡ some v → v.spent ≡ false → Live start s.words parts run all owner seat v
  pub apart : (seat other : ℕ) (v w : View) (n : List ℕ) → get_elem? s.views seat ≡ some v → v.spent ≡ false → get_elem? s.views other ≡ some w → w.spent ≡ false
      → In n (numbers v) → In n (numbers w) → seat ≡ other
  pub unused : (n : Name) → (In n.pass all → ⊥) → IsUnused start n parts run
  pub first : In [] all
  pub parents : (k : ℕ) (m : List ℕ) → In (k ∷ m) all → In m all

-- Each value shows the part of its turn, and belongs there.
abbrev pub Shows : {H : Type 0} → (H → Shown) → Start → Parts → List (Option H) → Type 0
Shows {H} show start parts xs = (length xs ≡ length parts.shards + 2)
    × ((k : ℕ) → k < length parts.shards + 2 → (x : H) × (get_elem? xs k ≡ some (Some x)) × (turn_part parts k ≡ (show x).part) × Belongs start k (show x))

-- What is asked of the values that a board is made of: they show the state that a run of a good base with these limits starts from.
pub record Opens {H : Type 0} (base : Base) (most : Limits) (show : H → Shown) (xs : List (Option H)) : Type 0 where
  pub may : MayOpen base most
  pub allowed : IsAllowed most
  pub parts : Parts
  pub some : 0 < length parts.shards
  pub few : length parts.shards ≤ 64
  pub limits : parts.limits ≡ most
  pub idle : parts.actors ≡ []
  pub is : state_of_parts base parts ≡ opening base (found_by parts.log)
  pub shows : Shows show (record { base = base; limits = most; found = found_by parts.log; shards = length parts.shards }) parts xs

-- What a close tells: the values show the parts of a kept state of the core, to which a run of events led. In it the actors of each pass did what the last pass has noted of them, event by event, with each actor as the event left it; and each actor is as the last pass has it. Nothing is noted of a pass that is none of those that it was made of. No pass that was split off did anything before the others had done what they had noted by then.
pub record Ends {H : Type 0} (show : H → Shown) (xs : List (Option H)) (v : View) : Type 0 where
  pub parts : Parts
  pub run : List Done
  pub reached : Reached v.base parts run
  pub opened : IsOpened v parts
  pub shows : Shows show (start_of v) parts xs
  pub own : (n : Name) → IsOwn n v parts run
  pub silent : (p : List ℕ) → (In p (numbers v) → ⊥) → noted p v.events ≡ []
  pub began : EachSeen (Began (start_of v) run) v.origins
  pub later : EachSeen (λ k. Later k parts.clock) v.seen
  pub later_log : EachSeen (λ g. LaterLog g parts.log) v.seen_logs

-- ---- what the steps tell

abbrev pub Knows : Type 0 → Type 0
Knows H = Me (Option H) View

-- the turn of the step's word was taken, with the value x
abbrev pub TakesAt : {H : Type 0} → (H → Shown) → H → Step (Option H) → Knows H → Knows H → Type 0
TakesAt {H} show x st m m' = (k : ℕ) → st.word ≡ word_of k → (◌≡◌ {A = Knows H} m' (taking k (show x).part m.0, (slot_of k, Some x) ∷ m.1)) × Told (turns_in st.slots) (taking k (show x).part m.0) × Belongs (start_of m.0) k (show x)

abbrev pub takes_turn : {H : Type 0} → (H → Shown) → Step (Option H) → Knows H → ℕ → Knows H → Type 0
takes_turn {H} show st m r m' = (r ≡ 0 → (x : H) × TakesAt show x st m m') × (r ≢ 0 → m' ≡ m)

-- and a pass notes where it finds the turn taken
abbrev pub tries_turn : {H : Type 0} → (H → Shown) → Step (Option H) → Knows H → ℕ → Knows H → Type 0
tries_turn {H} show st m r m' = (r ≡ 0 → (x : H) × TakesAt show x st m m') × (r ≢ 0 → (k : ℕ) → st.word ≡ word_of k → ◌≡◌ {A = Knows H} m' (finding_busy k m.0, m.1))

-- The pass becomes this one, and is told of the state. This part was given.
abbrev pub gives_turn : {H : Type 0} → View → Part → Step (Option H) → Knows H → ℕ → Knows H → Type 0
gives_turn {H} w given st m r m' = (◌≡◌ {A = Knows H} m' (w, rest m.1)) × Told (turns_in st.slots) w × IsNewest given m.0

-- The pass is as it was, and this is its base.
abbrev pub shows_base : {H : Type 0} → Base → Step (Option H) → Knows H → ℕ → Knows H → Type 0
shows_base base st m r m' = (m' ≡ m) × (m.0.base ≡ base)

-- ---- what the calls say of a pass

-- the slots of the turns that a pass holds, with nothing in them
abbrev pub slots_of : {H : Type 0} → List Held → List (ℕ × Option H)
slots_of [] = []
slots_of (h ∷ hs) = (slot_of h.turn, None) ∷ slots_of hs

-- what the pass knows
abbrev pub known : {H : Type 0} → Seat (Option H) View → View
known s = s.me.0

-- the number of turns of its board
abbrev pub turns : {H : Type 0} → Seat (Option H) View → ℕ
turns s = turns_in s.table_id.slots

-- the pass knows this, and its slots are those of the turns that it holds
abbrev pub Knowing : {H : Type 0} → Seat (Option H) View → View → Type 0
Knowing {H} s v = ◌≡◌ {A = Knows H} s.me (v, slots_of v.held)

-- the pass was not spent
abbrev pub Ready : {H : Type 0} → Seat (Option H) View → Type 0
Ready s = (s.me.0.spent ≡ false) × (s.me.1 ≡ slots_of s.me.0.held)

abbrev pub SameSeat : {H : Type 0} → Seat (Option H) View → Seat (Option H) View → Type 0
SameSeat p q = (q.table_id ≡ p.table_id) × (q.id ≡ p.id)

-- this turn is the last that the pass took
abbrev pub HoldsLast : {H : Type 0} → ℕ → Seat (Option H) View → Type 0
HoldsLast turn s = (p : Part) × (hs : List Held) × ((known s).held ≡ record { turn = turn; part = p } ∷ hs) × (turn < turns s)

-- the pass took the turn with the value x, and was told of the state
abbrev pub Took : {H : Type 0} → (H → Shown) → ℕ → Seat (Option H) View → Seat (Option H) View → H → Type 0
Took show turn s s' x = Knowing s' (taking turn (show x).part (known s)) × Told (turns s') (known s') × IsNewest (show x).part (known s) × Belongs (start_of (known s)) turn (show x)
