-- What tables by key tell of lists of functions and of names.
use Rattle.std.specs.Prelude.{ℕ, ◌≡◌, Bool, true, false, ◌&&◌, ◌==◌, nat_lt, min, if◌then◌else◌, List, [], ◌∷◌, Option, Some, None, fold}
use Rattle.std.specs.HashMap.{HashMap}
use Rattle.std.specs.HashSet.{HashSet}
use Rattle.std.specs.List.{list_any}
use Rattle.std.specs.Map.{lookup}
use Rattle.std.specs.Str.{bytes_eq}
use Rattle.edl_grammar.specs.declared.Pick.{Pick}
use Rattle.edl_imports.specs.declared.conflicts.Known.{Known}
use Rattle.edl_imports.specs.declared.offers.Offer.{Offer}
use Rattle.edl_imports.specs.declared.offers.Joined.{Joined}
use Rattle.edl_imports.specs.declared.offers.Growing.{Growing}
use Rattle.edl_imports.specs.declared.by_name.ByName.{ByName}
use Rattle.edl_imports.specs.ByName.{under}
use Rattle.edl_imports.specs.Offers.{has_pick}
use denote.Ref.{Bor}

-- ---- functions

module _ {S : Type 0} where
  -- whether the table has the function
  abbrev pub knows : HashSet (ℕ × ℕ) S → Pick → Bool
  knows table p = list_any (λ k. p.file == k.0 && p.index == k.1) table.keys

  -- the table has the functions of the list
  pub record TellsPicks (table : HashSet (ℕ × ℕ) S) (ps : List Pick) : Type 0 where
    pub here : (p : Pick) → knows table p ≡ has_pick ps p

-- the tables have the functions of the two sides
abbrev pub TellsOffer : Joined → Offer → Type 0
TellsOffer tables offer = TellsPicks tables.trusted offer.trusted × TellsPicks tables.untrusted offer.untrusted

-- the tables have the functions of the offer that grows
abbrev pub IsTold : Growing → Type 0
IsTold growing = TellsOffer growing.tables growing.offer

-- the first list has each function of the second
abbrev pub HasAll : List Pick → List Pick → Type 0
HasAll ps [] = Unit {0}
HasAll ps (q ∷ qs) = (has_pick ps q ≡ true) × HasAll ps qs

module _ {S : Type 0} where
  -- the offer has the functions of these names already
  pub record AreJoined (seen : HashSet (Bor (List ℕ)) S) (tables : ByName) (offer : Offer) : Type 0 where
    pub here : (name : List ℕ) → list_any (λ k. bytes_eq name k.now) seen.keys ≡ true
        → HasAll offer.trusted (under tables.trusted name) × HasAll offer.untrusted (under tables.untrusted name)

-- ---- names

abbrev pub earlier_file : Option ℕ → ℕ → ℕ
earlier_file None file = file
earlier_file (Some first) file = min first file

abbrev pub with_file : List ℕ → Option ℕ → Known → Option ℕ
with_file name first k = if bytes_eq k.name name then Some (earlier_file first k.at.file) else first

-- the first file in which the name stands
abbrev pub first_file_of : List ℕ → List Known → Option ℕ
first_file_of name = fold (with_file name) None

abbrev pub is_before_file : Option ℕ → ℕ → Bool
is_before_file None file = false
is_before_file (Some first) file = nat_lt first file

module _ {S : Type 0} where
  -- the table has the first file of each name
  pub record TellsFiles (table : HashMap (Bor (List ℕ)) ℕ S) (all : List Known) : Type 0 where
    pub here : (name : Bor (List ℕ)) → lookup (λ k. bytes_eq name.now k.now) table.entries ≡ first_file_of name.now all
