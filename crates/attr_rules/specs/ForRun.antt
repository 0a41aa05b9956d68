-- What a run rests on in gathered files, beside their layouts and their rules.
use Rattle.std.specs.Prelude.{◌≡◌, ℕ, ◌<◌, true, false, List, All, Contains}
use Rattle.edl_grammar.specs.declared.Gathered.{Gathered}
use Rattle.edl_grammar.specs.declared.EdlFile.{EdlFile}
use Rattle.edl_grammar.specs.declared.FuncDecl.{FuncDecl}
use Rattle.edl_grammar.specs.declared.TypeDecl.{TypeDecl}
use Rattle.edl_grammar.specs.declared.Base.{Base}
use Rattle.edl_grammar.specs.declared.Base.TheVariants as base
use Rattle.edl_grammar.specs.Files.{TypeIn, types_of, token_of}
use Rattle.edl_layout.specs.declared.ForeignTypes.{ForeignTypes}
use Rattle.edl_layout.specs.Meaning.{is_named}

-- an integer type is not empty
abbrev pub HasSize : Base → Type 0
HasSize (base.Integer size signed) = 0 < size
HasSize _ = Unit {0}

pub record HasSizes (f : FuncDecl) : Type 0 where
  pub result : HasSize f.result.base
  pub params : All (λ p. HasSize p.written.base) f.params

-- what a parser keeps: each declared type has a token of its own, and integers have sizes
pub record IsRead (tree : EdlFile) : Type 0 where
  pub types : (a b : TypeDecl) → Contains tree.types a → Contains tree.types b → token_of a ≡ token_of b → a ≡ b
  pub trusted : All HasSizes tree.trusted
  pub untrusted : All HasSizes tree.untrusted

-- types of one name stand in one file
abbrev pub AreInOneFile : List TypeIn → Type 0
AreInOneFile ts = (name : List ℕ) (a b : TypeIn) → Contains ts a → Contains ts b → is_named name a ≡ true → is_named name b ≡ true → a.file ≡ b.file

-- each type is declared or known, with an alignment
pub record AreForRun (g : Gathered) (foreign : ForeignTypes) : Type 0 where
  pub strict : foreign.lenient ≡ false
  pub aligned : All (λ t. 0 < t.align) foreign.types
  pub trees : All (λ f. IsRead f.tree) g.files
  pub names : AreInOneFile (types_of g)
