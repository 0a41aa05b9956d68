-- How the faults of an EDL file and of what it imports are told.
use Rattle.std.specs.Prelude.{ℕ, List}
use Rattle.sgx_base.specs.declared.Fault.{Fault}
use Rattle.edl_lexer.specs.declared.LexFault.{LexFault}
use Rattle.edl_lexer.specs.declared.LexFault.TheVariants as lexical
use Rattle.edl_grammar.specs.declared.ParseFault.{ParseFault}
use Rattle.edl_grammar.specs.declared.ParseFault.TheVariants as syntactic
use Rattle.edl_imports.specs.declared.faults.ImportCause.{ImportCause}
use Rattle.edl_imports.specs.declared.faults.ImportCause.TheVariants as causes
use Rattle.edl_layout.specs.declared.LayoutFault.{LayoutFault}
use Rattle.edl_layout.specs.declared.LayoutFault.TheVariants as laid
use Rattle.attr_rules.specs.declared.RuleFault.{RuleFault}
use Rattle.attr_rules.specs.declared.RuleFault.TheVariants as rule
use Rattle.edl_reader.specs.declared.faults.SourceFault.{SourceFault}
use Rattle.edl_reader.specs.declared.faults.SourceFault.TheVariants.{Edl, NotFound, ReadFault, Memory}

-- ---- what each stage tells: a fault at a place, or want of memory

abbrev pub of_lexer : LexFault → RuleFault
of_lexer (lexical.BadByte place) = rule.Rule place
of_lexer (lexical.OpenComment place) = rule.Rule place
of_lexer (lexical.OpenText place) = rule.Rule place
of_lexer (lexical.NumberTooWide place) = rule.Rule place
of_lexer (lexical.TooManyTokens place) = rule.Rule place
of_lexer lexical.Memory = rule.Memory

abbrev pub of_parser : ParseFault → RuleFault
of_parser (syntactic.Expected token place) = rule.Rule place
of_parser (syntactic.TooDeep place) = rule.Rule place
of_parser syntactic.Memory = rule.Memory

abbrev pub of_layouts : LayoutFault → RuleFault
of_layouts (laid.Unknown place) = rule.Rule place
of_layouts (laid.SelfHolding place) = rule.Rule place
of_layouts (laid.TooLarge place) = rule.Rule place
of_layouts laid.Memory = rule.Memory

-- a fault at a place is told, and it is so
abbrev pub Told : (Fault → Type 0) → RuleFault → Type 0
Told Is (rule.Rule f) = Is f
Told Is rule.Memory = ⊥

-- ---- under a name

-- a fault of the file of this name
abbrev pub of_file : List ℕ → RuleFault → SourceFault
of_file name (rule.Rule f) = Edl name f
of_file name rule.Memory = Memory

-- why files were not gathered, under the name that the gathering gives
abbrev pub of_cause : List ℕ → ImportCause → SourceFault
of_cause name causes.NotFound = NotFound name
of_cause name (causes.Cycle f) = Edl name f
of_cause name (causes.NoSuchName f) = Edl name f
of_cause name (causes.Conflict f) = Edl name f
of_cause name (causes.TooManyFiles f) = Edl name f
of_cause name (causes.Lex e) = of_file name (of_lexer e)
of_cause name (causes.Parse e) = of_file name (of_parser e)
of_cause name causes.ReadFault = ReadFault name
of_cause name causes.Memory = Memory
