-- A run has from 1 to 64 workers and shards, and a drill no more of anything than it may have.
use Rattle.std.proofs.Common.{◌≡◌, ℕ, ◌<◌, ◌≤◌, ◌-◌, ◌^◌, nat_le, ◌&&◌, List, [], ◌∷◌, Option, Some, None, refl, inl, inr, sym, ◌∙◌, arith}
use Rattle.std.proofs.lemmas.Bool.{cases_Bool}
use Rattle.request_text.specs.Words.{is_decimal, digits_value, number_of}
use Rattle.command_words.specs.Commands.{AsksForCount, IsCommand, IsWithinCounts}
use Rattle.command_words.specs.declared.command.Command.{Command}
use Rattle.command_words.specs.declared.command.Command.TheVariants as command

-- what a word spells is within the most
spelled_within : (most : ℕ) (v : List ℕ) (n : ℕ) → number_of most v ≡ Some n → n ≤ most
spelled_within most v n h =
    elim (cases_Bool (is_decimal v && nat_le (digits_value v) most)) [
      | inl fit ↦ let some : number_of most v ≡ Some (digits_value v) = rw fit refl in let same : digits_value v ≡ n = cc (sym some ∙ h) in grind (arith, fit, same)
      | inr unfit ↦ let none : number_of most v ≡ None = rw unfit refl in cc (sym none ∙ h)
    ]

count_within : (default : ℕ) (given : Option (List ℕ)) (count : ℕ) → 0 < default → default ≤ 64 → AsksForCount default given count → (0 < count) × (count ≤ 64)
count_within default None count some few asks = (omega (arith, asks), omega (arith, asks))
count_within default (Some v) count some few asks = (asks.1, spelled_within 64 v count asks.0)

pub command_within : (words : List (List ℕ)) (c : Command) → IsCommand words c → IsWithinCounts c
command_within words command.Init is = tt
command_within words command.Check is = tt
command_within words (command.Dump at) is = tt
command_within [] (command.Run w s) is = absurd is
command_within (word ∷ words) (command.Run w s) is =
    let workers = count_within 1 is.1.given w (omega arith) (omega arith) is.1.workers_asked in
    let shards = count_within 16 is.1.given_shards s (omega arith) (omega arith) is.1.shards_asked in
    (workers.0, workers.1, shards.0, shards.1)
command_within [] (command.Drill seed sessions rounds workers) is = absurd is
command_within (word ∷ words) (command.Drill seed sessions rounds workers) is =
    let asks = is.1 in
    let crew = count_within 1 asks.given workers (omega arith) (omega arith) asks.workers_asked in
    let seeded : seed ≤ 2 ^ 64 - 1 = spelled_within (2 ^ 64 - 1) asks.seed_word seed asks.seed_asked in (
      omega (arith, seeded),
      asks.sessions_asked.1,
      spelled_within 65535 asks.sessions_word sessions asks.sessions_asked.0,
      asks.rounds_asked.1,
      spelled_within 2000 asks.rounds_word rounds asks.rounds_asked.0,
      asks.few,
      crew.0,
      crew.1,
    )
