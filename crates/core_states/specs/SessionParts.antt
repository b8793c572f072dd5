-- What a store's session must keep of an actor: all but what proofs alone need.
use Rattle.std.specs.Prelude.{◌≡◌, ℕ, Bool, List, Option}
use Rattle.graph_model.specs.declared.record.Record.{Record}
use Rattle.core_states.specs.declared.actor.Actor.{Actor}
use Rattle.core_states.specs.declared.actor.LastLook.{LastLook}
use Rattle.core_states.specs.declared.actor.Learnt.{Learnt}
use Rattle.core_states.specs.declared.transaction.Receipt.{Receipt}
use Rattle.core_states.specs.declared.transaction.Transaction.{Transaction}
use Rattle.core_states.specs.Parts.{LocalMove}

-- The fields that events ask for. The receipts of ended transactions, and the vertex numbers that were ever drawn, are not among them: only what is promised of whole runs speaks of these.
pub record SessionPart : Type 0 where
  pub row : Bool
  pub txn : Option Transaction
  pub group : List Record
  pub written : Bool
  pub learnt : Learnt
  pub looked : Option LastLook
  pub finished : Option ℕ

abbrev pub session_part : Actor → SessionPart
session_part a = record { row = a.row; txn = a.txn; group = a.group; written = a.written; learnt = a.learnt; looked = a.looked; finished = a.finished }

-- the actor with other receipts, and other numbers drawn
abbrev pub remembering : List Receipt → List ℕ → Actor → Actor
remembering receipts drew a = record a { receipts = receipts; drew = drew }

-- Two moves answer the same, leave the same parts, and leave actors of the same session.
pub record IsAlike (m n : LocalMove) : Type 0 where
  pub answer : m.answer ≡ n.answer
  pub parts : m.parts ≡ n.parts
  pub session : session_part m.actor ≡ session_part n.actor
