-- The answer to a check of the rules.
use Rattle.std.specs.Prelude.{Bool, List, [], ◌∷◌, Result, Ok, Err}
use Rattle.edl_grammar.specs.declared.Gathered.{Gathered}
use Rattle.edl_grammar.specs.Files.{fault_in}
use Rattle.edl_layout.specs.declared.NamedShape.{NamedShape}
use Rattle.edl_interface.specs.declared.Interface.{Interface}
use Rattle.attr_terms.specs.declared.Broken.{Broken}
use Rattle.attr_terms.specs.Rules.{broken}
use Rattle.attr_terms.specs.Accepted.{size_of, interface_of}
use Rattle.attr_rules.specs.declared.RuleFault.{RuleFault}
use Rattle.attr_rules.specs.declared.RuleFault.TheVariants as faults

abbrev pub answer : Gathered → List NamedShape → List Broken → Result Interface RuleFault
answer g table [] = Ok (interface_of g table)
answer g table (b ∷ bs) = Err (faults.Rule (fault_in g b.file b.token b.code))

-- the interface of the files, or their first broken rule
abbrev pub checked : Gathered → List NamedShape → Bool → Result Interface RuleFault
checked g table runner = answer g table (broken g runner (size_of g table))
