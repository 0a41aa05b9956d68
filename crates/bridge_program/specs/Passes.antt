-- What each pass over the parameters adds to a list.
use Rattle.std.specs.Prelude.{ℕ, List}
use Rattle.edl_interface.specs.declared.Param.{Param}
use Rattle.edl_interface.specs.Parameters.{is_marshalled, is_in, is_out}
use Rattle.bridge_program.specs.declared.Instr.{Instr}
use Rattle.bridge_program.specs.declared.Instr.TheVariants as instr
use Rattle.bridge_program.specs.declared.passes.Pass.{Pass}
use Rattle.bridge_program.specs.declared.passes.Pass.TheVariants.{Length, Outside, Entry, CopyOut, OLength, OWithin, OAdd, Field, OCopy, OBack}
use Rattle.bridge_program.specs.Lists.{once, entry_of, field_instr}

-- the instructions for one parameter, by its number
abbrev pub instructions_of : Pass → ℕ → Param → List Instr
instructions_of Length n p = once (is_marshalled p.class) (instr.Length n)
instructions_of Outside n p = once (is_marshalled p.class) (instr.Outside n)
instructions_of Entry n p = entry_of n p
instructions_of CopyOut n p = once (is_out p.class) (instr.CopyOut n)
instructions_of OLength n p = once (is_marshalled p.class) (instr.OLength n)
instructions_of OWithin n p = once (is_marshalled p.class) (instr.OWithin n)
instructions_of OAdd n p = once (is_marshalled p.class) (instr.OAdd n)
instructions_of Field n p = field_instr n p
instructions_of OCopy n p = once (is_in p.class) (instr.OCopy n)
instructions_of OBack n p = once (is_out p.class) (instr.OBack n)
