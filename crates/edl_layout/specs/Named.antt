-- Tables of types by name.
use Rattle.std.specs.Prelude.{◌≡◌, ℕ, suc, Bool, false, ◌&&◌, cond, List, [], ◌∷◌, map, Option, Some, None}
use Rattle.std.specs.Str.{bytes_eq}
use Rattle.std.specs.Map.{lookup}
use denote.Ref.{Bor}
use Rattle.edl_grammar.specs.declared.Tag.{Tag}
use Rattle.edl_grammar.specs.declared.Tag.TheVariants as tag
use Rattle.edl_grammar.specs.Files.{TypeIn, types_of}
use Rattle.edl_layout.specs.declared.tables.TypeAt.{TypeAt}
use Rattle.edl_layout.specs.declared.tables.Declarations.{Declarations}
use Rattle.edl_layout.specs.Meaning.{is_named, has_tag}

-- the number of the first item that passes, where the first item has the number n
abbrev pub first_from : {X : Type 0} → (X → Bool) → ℕ → List X → Option ℕ
first_from p n [] = None
first_from p n (x ∷ xs) = cond (p x) (Some n) (first_from p (suc n) xs)

-- the type at its place
abbrev pub seen : TypeAt → TypeIn
seen t = record { file = t.file; decl = t.decl.now }

-- whether a name, bare or behind a tag, finds a type
abbrev pub is_under : Option Tag → List ℕ → TypeIn → Bool
is_under None name t = is_named name t
is_under (Some k) name t = has_tag k t.decl && is_named name t

-- whether the name is there, and is this one
abbrev pub is_name : Option (Bor (List ℕ)) → List ℕ → Bool
is_name None name = false
is_name (Some n) name = bytes_eq n.now name

-- the table gives each name the number of the first type that it finds
abbrev pub Finds : {X : Type 0} → (List ℕ → X → Bool) → List X → List (Bor (List ℕ) × ℕ) → Type 0
Finds test xs entries = (name : Bor (List ℕ)) → lookup (λ k. bytes_eq name.now k.now) entries ≡ first_from (test name.now) 0 xs

-- the tables have no names yet
pub record IsEmpty (d : Declarations) : Type 0 where
  pub types : d.types.items ≡ []
  pub bare : d.bare.entries ≡ []
  pub enumerations : d.enumerations.entries ≡ []
  pub structures : d.structures.entries ≡ []
  pub unions : d.unions.entries ≡ []
  pub foreign : d.foreign_names.entries ≡ []

-- the tables are those of the gathered files and the foreign types
pub record IsDeclarations (d : Declarations) : Type 0 where
  pub types : map seen d.types.items ≡ types_of d.gathered.now
  pub bare : Finds (is_under None) (types_of d.gathered.now) d.bare.entries
  pub enumerations : Finds (is_under (Some tag.Enum)) (types_of d.gathered.now) d.enumerations.entries
  pub structures : Finds (is_under (Some tag.Struct)) (types_of d.gathered.now) d.structures.entries
  pub unions : Finds (is_under (Some tag.Union)) (types_of d.gathered.now) d.unions.entries
  pub foreign : Finds (λ name t. bytes_eq t.name name) d.foreign.now.types d.foreign_names.entries
