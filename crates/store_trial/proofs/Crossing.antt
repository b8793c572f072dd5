-- A closure, or a tuple, may go to another thread where all that it has may.
use denote.RattleType.{RattleType}
use denote.Param.Send.{IsSend, AllSend, struct_send, recorded_send}
use denote.Struct.Declared as declared
use denote.Struct.Tuple.{TupleAt, type_at}
use Rattle.std.proofs.Common.{ℕ, List}

pub tuple_send : (ν : List ℕ) (Ts : List RattleType) → AllSend (declared.shape (type_at ν Ts)).fields → IsSend (TupleAt ν Ts)
tuple_send ν Ts s = let T = type_at ν Ts in recorded_send _ _ T.to T.to_one (struct_send (declared.shape T) s)
