-- How the faults of files and of scripts are told.
use Rattle.std.specs.Prelude.{◌≡◌, List, Result, Err}
use Rattle.sgx_base.specs.declared.Fault.{Fault}
use Rattle.edl_grammar.specs.declared.SourceFile.{SourceFile}
use Rattle.edl_imports.specs.Gathering.{name_at}
use Rattle.edl_reader.specs.declared.faults.SourceFault.{SourceFault}
use Rattle.edl_reader.specs.declared.faults.SourceFault.TheVariants as source
use Rattle.call_script.specs.declared.ScriptFault.{ScriptFault}
use Rattle.call_script.specs.declared.ScriptFault.TheVariants as rule
use Rattle.call_script.specs.Faults.{Fault as BrokenRule}
use Rattle.call_engine.specs.declared.faults.PrepareFault.{PrepareFault}
use Rattle.call_engine.specs.declared.faults.PrepareFault.TheVariants.{Edl, Script, NotFound, ReadFault, Memory}

-- a fault of an EDL file or of what it imports
abbrev pub of_source : SourceFault → PrepareFault
of_source (source.Edl name fault) = Edl name fault
of_source (source.NotFound name) = NotFound name
of_source (source.ReadFault name) = ReadFault name
of_source source.Memory = Memory

-- a fault of a script
abbrev pub of_script : ScriptFault → PrepareFault
of_script (rule.Rule line code) = Script line code
of_script rule.Memory = Memory

-- a fault of these files, under the name of that in which it stands
abbrev pub IsEdlFault : List SourceFile → (Fault → Type 0) → PrepareFault → Type 0
IsEdlFault files Is (Edl name f) = (name ≡ name_at files f.file) × Is f
IsEdlFault files Is _ = ⊥

-- the fault of a script that is stated of its reading
abbrev pub IsFaultOf : {A : Type 0} → Result A BrokenRule → PrepareFault → Type 0
IsFaultOf stated (Script line code) = stated ≡ Err (record { line = line; code = code })
IsFaultOf stated _ = ⊥
