-- Why the run of a machine gives no report.
use Rattle.call_machine.specs.declared.Machine.{Machine}
use Rattle.call_machine.specs.declared.run.RunFault.{RunFault}
use Rattle.call_machine.specs.declared.run.RunFault.TheVariants.{Full, Memory}
use Rattle.call_machine.specs.Reported.{IsCutBy}

-- thread 0 is cut by the limit that the fault names; of want of memory nothing is told
abbrev pub IsRunFault : Machine → RunFault → Type 0
IsRunFault m (Full full) = IsCutBy m full
IsRunFault m Memory = Unit {0}
