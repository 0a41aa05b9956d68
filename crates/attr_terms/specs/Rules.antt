-- The rules, each a condition on one declaration, in their order.
use Rattle.std.specs.Prelude.{ℕ, Bool, false, not, ◌&&◌, ◌||◌, if◌then◌else◌, ◌==◌, nat_lt, List, [], ◌∷◌, ◌++◌, map, flat_map, filter, filter_map, find, length, drop, slice_get, Option, Some, None, option_map, is_some, unwrap_or, codes}
use Rattle.std.specs.List.{list_any}
use Rattle.std.specs.Str.{bytes_eq}
use Rattle.edl_grammar.specs.declared.Gathered.{Gathered}
use Rattle.edl_grammar.specs.declared.SourceFile.{SourceFile}
use Rattle.edl_grammar.specs.declared.EdlFile.{EdlFile}
use Rattle.edl_grammar.specs.declared.Attribute.{Attribute}
use Rattle.edl_grammar.specs.declared.NameAt.{NameAt}
use Rattle.edl_grammar.specs.declared.EnumValue.{EnumValue}
use Rattle.edl_grammar.specs.declared.Declared.{Declared}
use Rattle.edl_grammar.specs.declared.FuncDecl.{FuncDecl}
use Rattle.edl_grammar.specs.declared.TypeDecl.{TypeDecl}
use Rattle.edl_grammar.specs.declared.TypeDecl.TheVariants as decl
use Rattle.edl_grammar.specs.declared.Written.{Written}
use Rattle.edl_grammar.specs.Files.{TypeIn, types_of, name_of, token_of, FunctionIn, trusted_of, untrusted_of}
use Rattle.edl_layout.specs.Meaning.{members_of}
use Rattle.edl_layout.specs.Frame.{has, is_array, is_pointer, is_by_address, is_void}
use Rattle.attr_terms.specs.declared.Broken.{Broken}
use Rattle.attr_terms.specs.Attributes.{is_well_formed, is_among, has_direction, has_amount, is_string, is_foreign_passed, amount_names, is_char, is_wide, is_integer, points_to, is_foreign_type, is_aggregate, meant}

-- a rule's code, and the token at which it is broken
pub record RuleRow : Type 0 where
  pub code : ℕ
  pub token : Option ℕ

-- the rule is broken at this token where the test holds
abbrev pub row : ℕ → Bool → ℕ → RuleRow
row code test token = record { code = code; token = if test then Some token else None }

-- the rule is broken at the first of these tokens
abbrev pub row_at : ℕ → List ℕ → RuleRow
row_at code tokens = record { code = code; token = slice_get tokens 0 }

-- a name and its token
abbrev pub at : ℕ → List ℕ → NameAt
at token name = record { token = token; name = name }

-- the same name stands at an earlier token
abbrev pub is_second : List NameAt → NameAt → Bool
is_second names x = list_any (λ y. bytes_eq y.name x.name && nat_lt y.token x.token) names

abbrev pub max_params : ℕ
max_params = 64

abbrev pub max_functions : ℕ
max_functions = 1024

-- ---- names

abbrev pub declared_name : Declared → NameAt
declared_name d = at d.token d.name

abbrev pub type_name : TypeDecl → Option NameAt
type_name t = option_map (at (token_of t)) (name_of t)

abbrev pub function_name : FuncDecl → NameAt
function_name f = at f.token f.name

abbrev pub value_name : EnumValue → NameAt
value_name v = at v.token v.name

abbrev pub values_of : TypeDecl → List EnumValue
values_of (decl.Enumeration token name values) = values
values_of (decl.Structure token name members) = []
values_of (decl.Union token name members) = []

-- the names that one file gives to its types, its functions and its enumerators
abbrev pub type_names : EdlFile → List NameAt
type_names tree = filter_map type_name tree.types

abbrev pub function_names : EdlFile → List NameAt
function_names tree = map function_name (tree.trusted ++ tree.untrusted)

abbrev pub enumerator_names : EdlFile → List NameAt
enumerator_names tree = flat_map (λ t. map value_name (values_of t)) tree.types

abbrev pub names_in : (EdlFile → List NameAt) → Option SourceFile → List NameAt
names_in names None = []
names_in names (Some f) = names f.tree

abbrev pub tree_names : (EdlFile → List NameAt) → Gathered → ℕ → List NameAt
tree_names names g file = names_in names (slice_get g.files file)

-- ---- the rows of a declaration

abbrev pub has_no_length : Declared → Bool
has_no_length d = list_any (λ n. unwrap_or n 0 == 0) d.dims

-- an attribute whose name stands before it
abbrev pub repeated : List Attribute → List ℕ
repeated attrs = map (λ x. x.token) (filter (is_second names) names)
  where
    names : List NameAt
    names = map (λ a. at a.token a.name) attrs

abbrev pub attributes_where : (Attribute → Bool) → Declared → List ℕ
attributes_where test p = map (λ a. a.token) (filter test p.attrs)

abbrev pub is_pointer_attribute : Attribute → Bool
is_pointer_attribute a = not (is_among (codes "isptr" ∷ codes "isary" ∷ codes "readonly" ∷ []) a.name)

abbrev pub is_size_function : Attribute → Bool
is_size_function a = bytes_eq a.name (codes "sizefunc")

-- the rules of one parameter's own words
abbrev pub direction_rows : Declared → List RuleRow
direction_rows p =
    row 15 (is_by_address p && not (has_direction p || has "user_check" p)) p.token
    ∷ row 16 (has_direction p && has "user_check" p) p.token
    ∷ row 17 (has_amount p && is_string p) p.token
    ∷ row 18 (has "string" p && has "wstring" p) p.token
    ∷ row 19 (is_string p && not (has "in" p)) p.token
    ∷ row 20 (not (is_by_address p) && not (is_foreign_passed p) && list_any is_pointer_attribute p.attrs) p.token
    ∷ []

abbrev pub attribute_rows : Declared → List RuleRow
attribute_rows p =
    row_at 21 (attributes_where (λ a. not (is_well_formed a)) p)
    ∷ row_at 22 (repeated p.attrs)
    ∷ row_at 23 (attributes_where is_size_function p)
    ∷ []

abbrev pub member_rows : List Declared → Declared → List RuleRow
member_rows members m =
    row 29 (has_no_length m) m.token
    ∷ row 31 (is_second (map declared_name members) (declared_name m)) m.token
    ∷ []

-- an enumerator, among those of its file
abbrev pub value_rows : List NameAt → EnumValue → List RuleRow
value_rows names v = row 31 (is_second names (value_name v)) v.token ∷ []

abbrev pub is_second_name : List NameAt → Option NameAt → Bool
is_second_name names None = false
is_second_name names (Some x) = is_second names x

-- the names in `size` and `count` that are no parameter, and those that are one but no integer
abbrev pub unknown_amounts : List Declared → Declared → List ℕ
unknown_amounts params p = map (λ x. x.token) (filter (λ x. not (list_any (λ q. bytes_eq q.name x.name) params)) (amount_names p))

abbrev pub first_named : List Declared → List ℕ → Option Declared
first_named params name = find (λ q. bytes_eq q.name name) params

-- a name in `allow` that is none of these functions
abbrev pub allow_names : FuncDecl → List NameAt
allow_names f = unwrap_or f.allow []

abbrev pub unknown_allowed : List FunctionIn → FuncDecl → List ℕ
unknown_allowed trusted f = map (λ x. x.token) (filter (λ x. not (list_any (λ h. bytes_eq h.decl.name x.name) trusted)) (allow_names f))

-- a type's own rows, and then those of its members or enumerators, by the types and enumerators of its file
abbrev pub type_rows_in : List NameAt → List NameAt → TypeDecl → List RuleRow
type_rows_in types values t =
    row 31 (is_second_name types (type_name t)) (token_of t)
    ∷ (flat_map (member_rows (members_of t)) (members_of t) ++ flat_map (value_rows values) (values_of t))

-- the broken ones of the rows
abbrev pub broken_in : ℕ → List RuleRow → List Broken
broken_in file rows = filter_map (λ r. option_map (λ token. record { file = file; token = token; code = r.code }) r.token) rows

abbrev pub first_function : ℕ → List FunctionIn → List Broken
first_function code [] = []
first_function code (f ∷ fs) = record { file = f.file; token = f.decl.token; code = code } ∷ []

-- there is a trusted function and none is public: at the first one
abbrev pub without_public : List FunctionIn → List Broken
without_public trusted = if list_any (λ f. f.decl.is_public) trusted then [] else first_function 33 trusted

-- function 1025 of a side
abbrev pub beyond : List FunctionIn → List Broken
beyond fs = first_function 40 (drop max_functions fs)

module _ (g : Gathered) where
  abbrev pub not_integer : Option Declared → Bool
  not_integer None = false
  not_integer (Some q) = not (is_integer g q)

  abbrev pub other_amounts : List Declared → Declared → List ℕ
  other_amounts params p = map (λ x. x.token) (filter (λ x. not_integer (first_named params x.name)) (amount_names p))

  abbrev pub amount_rows : List Declared → Declared → List RuleRow
  amount_rows params p =
      row 24 (is_array p && has_amount p) p.token
      ∷ row_at 25 (unknown_amounts params p)
      ∷ row_at 26 (other_amounts params p)
      ∷ []

  abbrev pub pointee_rows : Declared → List RuleRow
  pointee_rows p =
      row 27 (points_to g is_void p && has_direction p && not (has "size" p)) p.token
      ∷ row 28 ((has "string" p && not (points_to g is_char p)) || (has "wstring" p && not (points_to g (is_wide g) p))) p.token
      ∷ row 29 (has_no_length p) p.token
      ∷ row 30 (is_array p && is_pointer p) p.token
      ∷ []

  abbrev pub type_rows : TypeIn → List RuleRow
  type_rows t = type_rows_in (tree_names type_names g t.file) (tree_names enumerator_names g t.file) t.decl

  -- a result of structure or union type, or above 8 bytes
  abbrev pub is_large_result : (Written → ℕ) → Written → Bool
  is_large_result size_of w = w.stars == 0 && (is_aggregate (meant g w.base) || nat_lt 8 (size_of w))

  module _ (runner : Bool) where
    abbrev pub foreign_rows : Declared → List RuleRow
    foreign_rows p =
        row 36 (has "readonly" p && not (has "isptr" p)) p.token
        ∷ row 37 (is_foreign_passed p && (not (is_foreign_type g p) || (has "isptr" p && has "isary" p))) p.token
        ∷ row 38 (runner && is_foreign_passed p) p.token
        ∷ []

    -- the rules of one parameter among those of its function
    abbrev pub param_rows : List Declared → Declared → List RuleRow
    param_rows params p =
        direction_rows p ++ (attribute_rows p ++ (amount_rows params p ++ (pointee_rows p
        ++ (row 31 (is_second (map declared_name params) (declared_name p)) p.token ∷ foreign_rows p))))

    module _ (size_of : Written → ℕ) where
      abbrev pub own_rows : FunctionIn → List RuleRow
      own_rows f =
          row 31 (is_second (tree_names function_names g f.file) (function_name f.decl)) f.decl.token
          ∷ row_at 32 (unknown_allowed (trusted_of g) f.decl)
          ∷ row 34 (f.is_trusted && f.decl.switchless && not f.decl.is_public) f.decl.token
          ∷ row 35 (not f.is_trusted && f.decl.switchless && is_some f.decl.allow) f.decl.token
          ∷ row 38 (runner && is_large_result size_of f.decl.result) f.decl.token
          ∷ row 39 (nat_lt max_params (length f.decl.params)) f.decl.token
          ∷ []

      -- a function's own rows, and then those of its parameters
      abbrev pub function_rows : FunctionIn → List RuleRow
      function_rows f = own_rows f ++ flat_map (param_rows f.decl.params) f.decl.params

      -- ---- all rows, in order

      -- every broken rule: types, functions in ordinal order, and then those of a whole side
      abbrev pub broken : List Broken
      broken =
          flat_map (λ t. broken_in t.file (type_rows t)) (types_of g)
          ++ flat_map (λ f. broken_in f.file (function_rows f)) (trusted_of g ++ untrusted_of g)
          ++ without_public (trusted_of g) ++ beyond (trusted_of g) ++ beyond (untrusted_of g)
