-- How often a disk was called, by kind of call.
use Rattle.std.specs.Prelude.{ℕ}
use Rattle.io_edges.specs.Faults.{one_more}
use Rattle.disk_model.specs.declared.calls.Kind.{Kind}
use Rattle.disk_model.specs.declared.calls.Kind.TheVariants as kinds
use Rattle.disk_model.specs.declared.calls.Calls.{Calls}

-- how many calls of a kind there were
abbrev pub count_of : Calls → Kind → ℕ
count_of calls kinds.Len = calls.len
count_of calls kinds.Read = calls.read
count_of calls kinds.Write = calls.write
count_of calls kinds.Cut = calls.cut
count_of calls kinds.Sync = calls.sync

-- after one call more of a kind
abbrev pub called : Calls → Kind → Calls
called calls kinds.Len = record calls { len = one_more calls.len }
called calls kinds.Read = record calls { read = one_more calls.read }
called calls kinds.Write = record calls { write = one_more calls.write }
called calls kinds.Cut = record calls { cut = one_more calls.cut }
called calls kinds.Sync = record calls { sync = one_more calls.sync }

-- no call yet
abbrev pub no_calls : Calls
no_calls = record { len = 0; read = 0; write = 0; cut = 0; sync = 0 }
