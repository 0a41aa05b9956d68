-- The functions of an interface as the code holds them.
use Rattle.std.specs.Prelude.{Bool, true, false, Option}
use Rattle.edl_grammar.specs.declared.Gathered.{Gathered}
use Rattle.edl_grammar.specs.declared.Pick.{Pick}
use Rattle.edl_grammar.specs.Files.{FunctionIn, trusted_pick, untrusted_pick}
use Rattle.attr_terms.specs.declared.functions.Taken.{Taken}

abbrev pub function_in : Taken → FunctionIn
function_in t = record { file = t.file; is_trusted = t.is_trusted; decl = t.decl.now }

-- the function of a pick on one side
abbrev pub picked : Bool → Gathered → Pick → Option FunctionIn
picked true g p = trusted_pick g p
picked false g p = untrusted_pick g p
