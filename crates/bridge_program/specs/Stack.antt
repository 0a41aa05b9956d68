-- Entries as the call stack keeps them.
use Rattle.bridge_program.specs.declared.call_stack.Entry.{Entry}
use Rattle.bridge_program.specs.Entry.{Entered}

-- an entry, as contracts see it
abbrev pub entered : Entry → Entered
entered e = record { ordinal = e.ordinal; ocall = e.ocall }
