-- What a parameter's attributes and type say of it.
use Rattle.std.specs.Prelude.{ℕ, Bool, true, false, not, ◌&&◌, ◌||◌, if◌then◌else◌, ◌==◌, nat_lt, List, [], ◌∷◌, filter_map, Option, Some, None, is_some, codes}
use Rattle.std.specs.List.{list_any}
use Rattle.std.specs.Str.{bytes_eq}
use Rattle.edl_grammar.specs.declared.Gathered.{Gathered}
use Rattle.edl_grammar.specs.declared.Attribute.{Attribute}
use Rattle.edl_grammar.specs.declared.AttrValue.{AttrValue}
use Rattle.edl_grammar.specs.declared.AttrValue.TheVariants as value
use Rattle.edl_grammar.specs.declared.NameAt.{NameAt}
use Rattle.edl_grammar.specs.declared.Declared.{Declared}
use Rattle.edl_grammar.specs.declared.Base.{Base}
use Rattle.edl_grammar.specs.declared.Base.TheVariants as base
use Rattle.edl_grammar.specs.declared.TypeDecl.{TypeDecl}
use Rattle.edl_grammar.specs.declared.TypeDecl.TheVariants as decl
use Rattle.edl_layout.specs.declared.ForeignTypes.{ForeignTypes}
use Rattle.edl_layout.specs.Meaning.{Meaning, Integer, Defined, Opaque, meaning}
use Rattle.edl_layout.specs.Frame.{has, is_array, is_by_address}

-- the attributes, by what they want behind them
abbrev pub with_value : List (List ℕ)
with_value = codes "size" ∷ codes "count" ∷ []

abbrev pub without_value : List (List ℕ)
without_value =
    codes "in" ∷ codes "out" ∷ codes "string" ∷ codes "wstring" ∷ codes "user_check"
    ∷ codes "isptr" ∷ codes "isary" ∷ codes "readonly" ∷ []

abbrev pub is_among : List (List ℕ) → List ℕ → Bool
is_among names name = list_any (bytes_eq name) names

-- an attribute that is known, with a value exactly where it wants one; `sizefunc` has a rule of its own
abbrev pub is_well_formed : Attribute → Bool
is_well_formed a =
    is_among (codes "sizefunc" ∷ []) a.name
    || (is_among with_value a.name && is_some a.value)
    || (is_among without_value a.name && not (is_some a.value))

abbrev pub has_direction : Declared → Bool
has_direction p = has "in" p || has "out" p

abbrev pub has_amount : Declared → Bool
has_amount p = has "size" p || has "count" p

abbrev pub is_string : Declared → Bool
is_string p = has "string" p || has "wstring" p

abbrev pub is_foreign_passed : Declared → Bool
is_foreign_passed p = has "isptr" p || has "isary" p

-- the name behind `size` or `count`
abbrev pub named : Option AttrValue → Option NameAt
named None = None
named (Some (value.Number n)) = None
named (Some (value.Named x)) = Some x

abbrev pub amount_name : Attribute → Option NameAt
amount_name a = if is_among with_value a.name then named a.value else None

-- the names in `size` and `count`, in order
abbrev pub amount_names : Declared → List NameAt
amount_names p = filter_map amount_name p.attrs

-- ---- types. At these rules each bare name that is neither declared nor standard is foreign.

abbrev pub any_foreign : ForeignTypes
any_foreign = record { types = []; lenient = true }

-- an integer, which has at most 8 bytes
abbrev pub is_integer_meaning : Meaning → Bool
is_integer_meaning (Integer size signed) = not (nat_lt 8 size)
is_integer_meaning _ = false

abbrev pub is_foreign_meaning : Meaning → Bool
is_foreign_meaning Opaque = true
is_foreign_meaning _ = false

abbrev pub is_aggregate : Meaning → Bool
is_aggregate (Defined t) = is_compound t.decl
  where
    is_compound : TypeDecl → Bool
    is_compound (decl.Enumeration token name values) = false
    is_compound (decl.Structure token name members) = true
    is_compound (decl.Union token name members) = true
is_aggregate _ = false

-- `char`, which is signed
abbrev pub is_char : Base → Bool
is_char (base.Integer size signed) = size == 1 && signed
is_char _ = false

-- a pointer with one star
abbrev pub is_single_pointer : Declared → Bool
is_single_pointer p = not (is_array p) && p.written.stars == 1

module _ (g : Gathered) where
  abbrev pub meant : Base → Meaning
  meant = meaning g any_foreign

  abbrev pub is_wide : Base → Bool
  is_wide (base.Bare name) = bytes_eq name (codes "wchar_t") && is_integer_meaning (meant (base.Bare name))
  is_wide _ = false

  -- a plain integer
  abbrev pub is_integer : Declared → Bool
  is_integer p = not (is_by_address p) && is_integer_meaning (meant p.written.base)

  -- a pointer with one star to a type that passes the test
  abbrev pub points_to : (Base → Bool) → Declared → Bool
  points_to test p = is_single_pointer p && test p.written.base

  abbrev pub is_foreign_type : Declared → Bool
  is_foreign_type p = not (is_by_address p) && is_foreign_meaning (meant p.written.base)
