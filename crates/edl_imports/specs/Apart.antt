-- What is known of files that were gathered, whatever the contents are.
use Rattle.std.specs.Prelude.{ℕ, ◌≡◌, List, Option, Some, IfSome, Ok, Contains}
use Rattle.sgx_base.specs.Stores.{Store}
use Rattle.edl_lexer.specs.Lexing.{lexing}
use Rattle.edl_grammar.specs.declared.Gathered.{Gathered}
use Rattle.edl_grammar.specs.declared.SourceFile.{SourceFile}
use Rattle.edl_grammar.specs.Files.{TypeIn, types_of, name_of}
use Rattle.edl_grammar.specs.Parser.{parsing}

-- the file's tokens and its tree are those of some bytes, which it has where the contents are told
pub record IsSource (contents : Option Store) (f : SourceFile) : Type 0 where
  pub number : ℕ
  pub bytes : List ℕ
  pub held : IfSome contents (λ store. store f.name ≡ Some bytes)
  pub lexed : lexing number bytes ≡ Ok f.tokens
  pub parsed : parsing number bytes f.tokens ≡ Ok f.tree

-- types of one name stand in one file
pub record TypesAreApart (g : Gathered) : Type 0 where
  pub in_one_file : (name : List ℕ) (a b : TypeIn) → Contains (types_of g) a → Contains (types_of g) b
      → name_of a.decl ≡ Some name → name_of b.decl ≡ Some name → a.file ≡ b.file
