-- A session before its first call.
use Rattle.std.specs.Prelude.{ℕ, false, None}
use Rattle.store_turns.specs.declared.session.Session.{Session}

-- the session of this index that has done nothing
abbrev pub new_session : ℕ → Session
new_session index = record { index = index; is_open = false; finished = None; work = None }
