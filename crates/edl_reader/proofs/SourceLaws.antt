-- What was gathered is as the parser gives it, and its types stand apart.
use Rattle.std.proofs.Common.{◌≡◌, true, ℕ, List, Option, Some, None, get_or, Ok, Result, ap, subst}
use Rattle.std.specs.Prelude.{All}
use Rattle.std.specs.Str.{bytes_eq}
use Rattle.std.proofs.lemmas.Slice.Eq.{bytes_eq-Decides}
use Rattle.sgx_base.specs.Stores.{Store}
use Rattle.edl_grammar.specs.declared.EdlFile.{EdlFile}
use Rattle.edl_grammar.specs.declared.Gathered.{Gathered}
use Rattle.edl_grammar.specs.declared.ParseFault.{ParseFault}
use Rattle.edl_grammar.specs.declared.SourceFile.{SourceFile}
use Rattle.edl_grammar.specs.declared.TypeDecl.{TypeDecl}
use Rattle.edl_grammar.specs.declared.TypeDecl.TheVariants as decl
use Rattle.edl_grammar.specs.Files.{name_of}
use Rattle.edl_grammar.specs.Sentence.{Parses}
use Rattle.edl_grammar.proofs.Theorem.{computed}
use Rattle.edl_imports.specs.Apart.{IsSource, TypesAreApart}
use Rattle.edl_imports.specs.ComeTo.{IsReached}
use Rattle.edl_layout.specs.Meaning.{is_named}
use Rattle.attr_rules.specs.ForRun.{IsRead}
use Rattle.edl_reader.specs.Sources.{AreParsed}
use Rattle.edl_reader.proofs.ReadLaws.{read_tree}

-- the tree of a source is one that a parser keeps
source_read : (contents : Option Store) (f : SourceFile) → IsSource contents f → IsRead f.tree
source_read contents f s =
    let parsed : Parses s.number s.bytes f.tokens (Ok f.tree) =
    subst (λ (r : Result EdlFile ParseFault). Parses s.number s.bytes f.tokens r) s.parsed (computed s.number s.bytes f.tokens) in
    read_tree s.bytes f.tokens f.tree parsed.0

-- a type of this name has it
has_name : (name n : List ℕ) → bytes_eq n name ≡ true → Some n ≡ Some name
has_name name n is = ap Some ((bytes_eq-Decides n name).0 is)

named : (name : List ℕ) (file : ℕ) (t : TypeDecl) → is_named name (record { file = file; decl = t }) ≡ true → name_of t ≡ Some name
named name file (decl.Enumeration token (Some n) values) is = has_name name n is
named name file (decl.Enumeration token None values) is = absurd cc
named name file (decl.Structure token n members) is = has_name name n is
named name file (decl.Union token n members) is = has_name name n is

pub gathered_parsed : (contents : Option Store) (paths : List (List ℕ)) (edl : List ℕ) (g : Gathered) → All (IsReached contents paths edl) g.files → TypesAreApart g → AreParsed g
gathered_parsed contents paths edl g reached apart = record {
  trees = λ k d h. source_read contents (get_or g.files k d) (reached k d h).source;
  names = λ name a b p q is_a is_b. apart.in_one_file name a b p q (named name a.file a.decl is_a) (named name b.file b.decl is_b);
}
