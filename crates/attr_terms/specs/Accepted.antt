-- The interface of files in which no rule is broken.
use Rattle.std.specs.Prelude.{ℕ, ◌*◌, ◌^◌, Bool, true, false, ◌&&◌, if◌then◌else◌, ◌==◌, nat_lt, List, [], ◌∷◌, ◌++◌, map, find, position, Option, Some, None, option_map, unwrap_or, codes}
use Rattle.std.specs.Str.{bytes_eq}
use Rattle.sgx_base.specs.Bytes.{round_up}
use Rattle.edl_grammar.specs.declared.Gathered.{Gathered}
use Rattle.edl_grammar.specs.declared.AttrValue.{AttrValue}
use Rattle.edl_grammar.specs.declared.AttrValue.TheVariants as value
use Rattle.edl_grammar.specs.declared.Declared.{Declared}
use Rattle.edl_grammar.specs.declared.Written.{Written}
use Rattle.edl_grammar.specs.declared.Base.{Base}
use Rattle.edl_grammar.specs.declared.Base.TheVariants as base
use Rattle.edl_grammar.specs.declared.Tag.{Tag}
use Rattle.edl_grammar.specs.Files.{FunctionIn, trusted_of, untrusted_of}
use Rattle.edl_layout.specs.declared.NamedShape.{NamedShape}
use Rattle.edl_layout.specs.Shape.{Shape, square, end_of, elements, all_known}
use Rattle.edl_layout.specs.Meaning.{Meaning, Empty, Real, Integer, Defined, has_tag, pointed}
use Rattle.edl_layout.specs.Frame.{has, is_array, is_pointer, is_returning, field_shape, param_fields, result_fields, frame_shape}
use Rattle.edl_layout.specs.Table.{shape_in}
use Rattle.edl_interface.specs.declared.Interface.{Interface}
use Rattle.edl_interface.specs.declared.Function.{Function}
use Rattle.edl_interface.specs.declared.Param.{Param}
use Rattle.edl_interface.specs.declared.Class.{Class}
use Rattle.edl_interface.specs.declared.Class.TheVariants as class
use Rattle.sgx_base.specs.declared.Passing.{Passing}
use Rattle.sgx_base.specs.declared.Passing.TheVariants as passing
use Rattle.edl_interface.specs.declared.Plain.{Plain}
use Rattle.edl_interface.specs.declared.Amount.{Amount}
use Rattle.edl_interface.specs.declared.Amount.TheVariants as amount
use Rattle.attr_terms.specs.Attributes.{has_direction, is_foreign_passed, is_string, meant}

abbrev pub direction_of : Declared → Passing
direction_of p = if has "in" p && has "out" p then passing.Both else (if has "in" p then passing.Inward else passing.Outward)

abbrev pub foreign_class : Declared → Class
foreign_class p = class.Foreign (if has_direction p then Some (direction_of p) else None)

abbrev pub place_of : List ℕ → List Declared → ℕ
place_of name ps = unwrap_or (position (λ q. bytes_eq q.name name) ps) 0

-- what `size` or `count` says, or else this number
abbrev pub amount_by : List Declared → ℕ → Option (Option AttrValue) → Amount
amount_by ps default (Some (Some (value.Number n))) = amount.Number n
amount_by ps default (Some (Some (value.Named x))) = amount.Param (place_of x.name ps)
amount_by ps default _ = amount.Number default

abbrev pub value_behind : List ℕ → Declared → Option (Option AttrValue)
value_behind attr p = option_map (λ a. a.value) (find (λ a. bytes_eq a.name attr) p.attrs)

abbrev pub opaque : ℕ → Plain
opaque size = record { size = size; integer = false; signed = false }

-- a value without stars of this size
abbrev pub plain_by : Meaning → ℕ → Plain
plain_by (Integer n signed) size = if nat_lt 8 n then opaque size else record { size = size; integer = true; signed = signed }
plain_by _ size = opaque size

-- the size of a type that is not told by its name
abbrev pub own_size : Meaning → Option ℕ
own_size (Real size) = Some size
own_size (Integer size signed) = Some size
own_size _ = None

-- what a pointer points to; `void` counts as one byte
abbrev pub pointee_by : Meaning → ℕ → ℕ
pointee_by Empty size = 1
pointee_by _ size = size

abbrev pub is_tagged : Tag → Meaning → Bool
is_tagged tag (Defined t) = has_tag tag t.decl
is_tagged tag _ = false

-- the place of a field behind these, where the shapes of all are known
abbrev pub place_behind : Option (List Shape) → Option Shape → Option ℕ
place_behind (Some fields) (Some s) = Some (round_up (end_of 0 fields) s.align)
place_behind _ _ = None

-- a place that 32 bits do not hold, which stands in no structure of known size, counts as unknown
abbrev pub offset_by : Option ℕ → ℕ
offset_by None = 0
offset_by (Some n) = if nat_lt n (2 ^ 32) then n else 0

abbrev pub offset_behind : List (Option Shape) → Option Shape → ℕ
offset_behind fields s = offset_by (place_behind (all_known fields) s)

-- whether the first declared type of a name has this tag. In files without two types of one name it is so for each declared type.
abbrev pub is_first : Gathered → Tag → List ℕ → Bool
is_first g tag name = is_tagged tag (meant g (base.Bare name))

-- the ordinal of a trusted function
abbrev pub ordinal_of : Gathered → List ℕ → ℕ
ordinal_of g name = unwrap_or (position (λ h. bytes_eq h.decl.name name) (trusted_of g)) 0

module _ (g : Gathered) (table : List NamedShape) where
  -- ---- sizes, where what is not known counts as 0

  -- the shape of a type that is told by its name
  abbrev pub named_shape : Base → Option Shape
  named_shape (base.Bare name) = shape_in table name
  named_shape (base.Tagged tag name) = if is_first g tag name then shape_in table name else None
  named_shape _ = None

  abbrev pub base_shape_by : Option ℕ → Base → Option Shape
  base_shape_by (Some size) b = Some (square size)
  base_shape_by None b = named_shape b

  abbrev pub base_shape : Base → Option Shape
  base_shape b = base_shape_by (own_size (meant g b)) b

  abbrev pub shape_of : Written → Option Shape
  shape_of w = pointed w.stars (base_shape w.base)

  abbrev pub size_of : Written → ℕ
  size_of w = unwrap_or (option_map (λ s. s.size) (shape_of w)) 0

  abbrev pub base_size : Base → ℕ
  base_size b = unwrap_or (option_map (λ s. s.size) (base_shape b)) 0

  abbrev pub pointee_size : Written → ℕ
  pointee_size w = if w.stars == 1 then pointee_by (meant g w.base) (base_size w.base) else 8

  abbrev pub plain_of : Written → Plain
  plain_of w = if w.stars == 0 then plain_by (meant g w.base) (size_of w) else opaque (size_of w)

  -- ---- parameters

  abbrev pub buffer_of : List Declared → Declared → Class
  buffer_of ps p = class.Buffer (direction_of p) (amount_by ps (pointee_size p.written) (value_behind (codes "size") p)) (amount_by ps 1 (value_behind (codes "count") p)) (pointee_size p.written)

  abbrev pub pointer_class : List Declared → Declared → Class
  pointer_class ps p = if is_string p then class.Text (direction_of p) (pointee_size p.written) else buffer_of ps p

  abbrev pub fixed_class : Declared → Class
  fixed_class p = class.Fixed (direction_of p) (size_of p.written * elements p.dims) (size_of p.written)

  abbrev pub class_of : List Declared → Declared → Class
  class_of ps p =
      if is_foreign_passed p then foreign_class p
      else (if has "user_check" p then class.UserCheck
      else (if is_array p then fixed_class p
      else (if is_pointer p then pointer_class ps p
      else class.Plain (plain_of p.written))))

  -- a parameter behind these fields
  abbrev pub param_behind : List Declared → List (Option Shape) → Declared → Param
  param_behind all fields p = record { name = p.name; offset = offset_behind fields (field_shape shape_of p); class = class_of all p }

  abbrev pub params_from : Bool → List Declared → List (Option Shape) → List Declared → List Param
  params_from is_trusted all fields [] = []
  params_from is_trusted all fields (p ∷ ps) = param_behind all fields p ∷ params_from is_trusted all (fields ++ param_fields shape_of is_trusted p) ps

  -- ---- functions

  abbrev pub frame_size : FunctionIn → ℕ
  frame_size f = unwrap_or (option_map (λ s. s.size) (frame_shape shape_of f)) 0

  abbrev pub returned : Written → Option Plain
  returned w = if is_returning w then Some (plain_of w) else None

  abbrev pub function_of : FunctionIn → Function
  function_of f = record {
    name = f.decl.name;
    is_public = f.is_trusted && f.decl.is_public;
    switchless = f.decl.switchless;
    ret = returned f.decl.result;
    params = params_from f.is_trusted f.decl.params (result_fields shape_of f.decl.result) f.decl.params;
    allow = map (λ x. ordinal_of g x.name) (unwrap_or f.decl.allow []);
    frame_size = frame_size f;
  }

  abbrev pub interface_of : Interface
  interface_of = record { ecalls = map function_of (trusted_of g); ocalls = map function_of (untrusted_of g) }
