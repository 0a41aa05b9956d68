-- The first broken rule of a declaration.
use Rattle.std.specs.Prelude.{ℕ, Bool, false, List, Option, Some, None, option_map, unwrap_or, find, fold, not, ◌&&◌, nat_lt}
use Rattle.std.specs.Option.{option_or}
use Rattle.std.specs.List.{list_any}
use Rattle.std.specs.Str.{bytes_eq}
use Rattle.edl_grammar.specs.declared.Gathered.{Gathered}
use Rattle.edl_grammar.specs.declared.Attribute.{Attribute}
use Rattle.edl_grammar.specs.declared.NameAt.{NameAt}
use Rattle.edl_grammar.specs.declared.Declared.{Declared}
use Rattle.broken_rules.specs.declared.rows.Breach.{Breach}
use Rattle.attr_terms.specs.declared.Broken.{Broken}
use Rattle.attr_terms.specs.Attributes.{amount_name}
use Rattle.attr_terms.specs.Rules.{RuleRow, first_named, not_integer}

-- there is a name, and it passes
abbrev pub holds_of : (NameAt → Bool) → Option NameAt → Bool
holds_of test None = false
holds_of test (Some x) = test x

abbrev pub breach_at : ℕ → Option ℕ → Option Breach
breach_at code token = option_map (λ t. record { code = code; token = t }) token

abbrev pub breach_of : RuleRow → Option Breach
breach_of r = breach_at r.code r.token

abbrev pub or_breach : Option Breach → RuleRow → Option Breach
or_breach first r = option_or first (breach_of r)

abbrev pub first_breach : List RuleRow → Option Breach
first_breach = fold or_breach None

abbrev pub in_file : ℕ → Breach → Broken
in_file file b = record { file = file; token = b.token; code = b.code }

-- the token of the first attribute that passes
abbrev pub first_where : (Attribute → Bool) → Declared → Option ℕ
first_where test p = option_map (λ a. a.token) (find test p.attrs)

-- the attribute's name stands at an earlier token too
abbrev pub is_repeated : List Attribute → Attribute → Bool
is_repeated attrs a = list_any (λ b. bytes_eq b.name a.name && nat_lt b.token a.token) attrs

-- the token of the name in one attribute, where it has one
abbrev pub amount_token : Attribute → ℕ
amount_token a = unwrap_or (option_map (λ x. x.token) (amount_name a)) 0

-- the name in one attribute is that of no parameter
abbrev pub names_none : List Declared → Attribute → Bool
names_none params a = holds_of (λ x. not (list_any (λ q. bytes_eq q.name x.name) params)) (amount_name a)

-- the first parameter that one attribute names is no integer
abbrev pub names_other : Gathered → List Declared → Attribute → Bool
names_other g params a = holds_of (λ x. not_integer g (first_named params x.name)) (amount_name a)
