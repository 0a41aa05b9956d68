use Rattle.edl_interface.specs.declared.Interface.{Interface}
use Rattle.runtime_tables.proofs.bridges.entry.Goals as goal

pub entry_check-requires : goal.entry_check-requires
entry_check-requires c =
    let interface : Interface = record { ecalls = c.push-2.new.self; ocalls = c.in_ok-ocalls.ocalls } in
    (interface, c.in_ok-bridges.ensures, c.nested.ensures interface c.in_ok-function-4.field-0 c.in_ok-ocalls.ensures)
