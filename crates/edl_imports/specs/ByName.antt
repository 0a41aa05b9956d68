-- Offered functions by name.
use Rattle.std.specs.Prelude.{ℕ, ◌≡◌, Bool, true, false, not, ◌||◌, ◌==◌, if◌then◌else◌, List, [], ◌∷◌, ◌++◌, Option, filter, find, fold, length, unwrap_or}
use Rattle.std.specs.HashMap.{HashMap}
use Rattle.std.specs.Map.{lookup}
use Rattle.std.specs.Str.{bytes_eq}
use Rattle.edl_grammar.specs.declared.NameAt.{NameAt}
use Rattle.edl_grammar.specs.declared.Pick.{Pick}
use Rattle.edl_grammar.specs.declared.SourceFile.{SourceFile}
use Rattle.edl_imports.specs.declared.by_name.ByName.{ByName}
use Rattle.edl_imports.specs.declared.offers.Offer.{Offer}
use Rattle.edl_imports.specs.Offers.{is_called, joined}
use denote.Ref.{Bor}

module _ {S : Type 0} where
  -- the functions under the name
  abbrev pub under : HashMap (Bor (List ℕ)) (List Pick) S → List ℕ → List Pick
  under table name = unwrap_or (lookup (λ k. bytes_eq name k.now) table.entries) []

  -- the function comes to the end of those under the name
  abbrev pub Puts : List ℕ → Pick → HashMap (Bor (List ℕ)) (List Pick) S → HashMap (Bor (List ℕ)) (List Pick) S → Type 0
  Puts name p old new = (q : List ℕ) → under new q ≡ (if bytes_eq name q then under old q ++ p ∷ [] else under old q)

  -- the table has the functions of a side, those of one name in order
  pub record TellsNames (files : List SourceFile) (is_trusted : Bool) (table : HashMap (Bor (List ℕ)) (List Pick) S) (ps : List Pick) : Type 0 where
    pub here : (name : List ℕ) → under table name ≡ filter (is_called files is_trusted name) ps

-- the tables have the functions of the two sides
abbrev pub TellsOffered : List SourceFile → ByName → Offer → Type 0
TellsOffered files tables offer = TellsNames files true tables.trusted offer.trusted × TellsNames files false tables.untrusted offer.untrusted

module _ (tables : ByName) where
  -- whether a function has this name
  abbrev pub has : List ℕ → Bool
  has name = not (length (under tables.trusted name) == 0) || not (length (under tables.untrusted name) == 0)

  -- the first name that no function has
  abbrev pub first_unknown : List NameAt → Option NameAt
  first_unknown = find (λ x. not (has x.name))

  -- an offer, and behind it the functions of this name
  abbrev pub with_under : Offer → List ℕ → Offer
  with_under own name = record {
    trusted = joined own.trusted (under tables.trusted name);
    untrusted = joined own.untrusted (under tables.untrusted name);
  }

  -- the same for each name in order
  abbrev pub with_all_under : Offer → List NameAt → Offer
  with_all_under = fold (λ own x. with_under own x.name)
