-- The fault that a script has.
use Rattle.call_script.specs.Faults as faults
use Rattle.script_faults.specs.declared.fault.Fault.{Fault}

abbrev pub fault_of : Fault → faults.Fault
fault_of f = record { line = f.line; code = f.code }
