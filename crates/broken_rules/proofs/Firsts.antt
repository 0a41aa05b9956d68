-- The first that is found in a list, and what a loop that looks for it knows.
use Rattle.std.proofs.Common.{arith, not, ◌≤◌, is_some, ℕ, zero, suc, ◌≡◌, ◌+◌, ◌<◌, Bool, true, false, cond, ◌||◌, ◌&&◌, nat_lt, List, [], ◌∷◌, ◌++◌, map, length, take, get_or, Option, Some, None, refl, sym, ◌∙◌, ap, add-one, filter}
use Rattle.std.specs.Prelude.{slice_get, find, unwrap_or, option_map, option_and_then, filter_map, if◌then◌else◌, fold}
use Rattle.std.specs.List.{flat_map, cons_option, list_any}
use Rattle.std.specs.Option.{option_or}
use Rattle.broken_rules.specs.declared.rows.Breach.{Breach}
use Rattle.edl_grammar.specs.declared.Attribute.{Attribute}
use Rattle.edl_grammar.specs.declared.NameAt.{NameAt}
use Rattle.std.specs.Str.{bytes_eq}
use Rattle.attr_terms.specs.Attributes.{amount_name}
use Rattle.attr_terms.specs.Rules.{RuleRow, broken_in, repeated, is_second, at}
use Rattle.broken_rules.specs.Breaches.{breach_of, or_breach, first_breach, in_file, is_repeated, amount_token, holds_of}
use Rattle.attr_terms.proofs.Lists.{take_whole}

-- ---- the first answer of a function over a list

module _ {X Y : Type 0} (f : X → Option Y) where
  abbrev pub first_in : List X → Option Y
  first_in [] = None
  first_in (x ∷ xs) = option_or (f x) (first_in xs)

  found_on : (o r : Option Y) (xs : List X) (i : ℕ) → (first_in (take i xs) ≡ None → r ≡ first_in xs) → option_or o (first_in (take i xs)) ≡ None → r ≡ option_or o (first_in xs)
  found_on None r xs i rest none = rest none
  found_on (Some z) r xs i rest none = absurd cc

  first_some : (r : Option Y) (o : Option Y) → is_some r ≡ true → r ≡ option_or r o
  first_some None o e = absurd cc
  first_some (Some y) o e = refl

  -- none so far, and one at this place
  pub first_found : (xs : List X) (i : ℕ) (d : X) (r : Option Y) → i < length xs → first_in (take i xs) ≡ None → r ≡ f (get_or xs i d) → is_some r ≡ true → r ≡ first_in xs
  first_found [] i d r h none e s = absurd (omega arith)
  first_found (x ∷ xs) zero d r h none e s = first_some r (first_in xs) s ∙ ap (λ (o : Option Y). option_or o (first_in xs)) e
  first_found (x ∷ xs) (suc i) d r h none e s = found_on (f x) r xs i (λ n. first_found xs i d r (omega arith) n e s) none

  none_on : (o : Option Y) (xs : List X) (i : ℕ) → (first_in (take i xs) ≡ None → first_in (take (suc i) xs) ≡ None) → option_or o (first_in (take i xs)) ≡ None → option_or o (first_in (take (suc i) xs)) ≡ None
  none_on None xs i rest none = rest none
  none_on (Some z) xs i rest none = absurd cc

  not_some : (r : Option Y) → is_some r ≡ false → r ≡ None
  not_some None e = refl
  not_some (Some y) e = absurd cc

  none_at : (xs : List X) (i : ℕ) (d : X) → i < length xs → first_in (take i xs) ≡ None → f (get_or xs i d) ≡ None → first_in (take (suc i) xs) ≡ None
  none_at [] i d h none e = absurd (omega arith)
  none_at (x ∷ xs) zero d h none e = ap (λ (o : Option Y). option_or o None) e
  none_at (x ∷ xs) (suc i) d h none e = none_on (f x) xs i (λ n. none_at xs i d (omega arith) n e) none

  -- none so far, and none at this place
  pub first_more : (xs : List X) (i : ℕ) (d : X) (r : Option Y) → i < length xs → first_in (take i xs) ≡ None → r ≡ f (get_or xs i d) → is_some r ≡ false → first_in (take (i + 1) xs) ≡ None
  first_more xs i d r h none e s = ap (λ n. first_in (take n xs)) (add-one i) ∙ none_at xs i d h none (sym e ∙ not_some r s)

  -- none at all
  pub first_none : (xs : List X) (i : ℕ) → length xs ≤ i → first_in (take i xs) ≡ None → None ≡ first_in xs
  first_none xs i h none = sym none ∙ ap first_in (take_whole xs i h)

-- ---- the head of a list

abbrev pub head : {X : Type 0} → List X → Option X
head xs = slice_get xs 0

pub head-append : {X : Type 0} (xs ys : List X) → head (xs ++ ys) ≡ option_or (head xs) (head ys)
head-append [] ys = refl
head-append (x ∷ xs) ys = refl

pub head-flat_map : {X Y : Type 0} (f : X → List Y) (xs : List X) → head (flat_map f xs) ≡ first_in (λ x. head (f x)) xs
head-flat_map f [] = refl
head-flat_map {Y = Y} f (x ∷ xs) = head-append (f x) (flat_map f xs) ∙ ap (λ (o : Option Y). option_or (head (f x)) o) (head-flat_map f xs)

pub head-filter : {X Y : Type 0} (test : X → Bool) (t : X → Y) (xs : List X) → head (map t (filter test xs)) ≡ first_in (λ x. if test x then Some (t x) else None) xs
head-filter test t [] = refl
head-filter {X} {Y} test t (x ∷ xs) = by (test x) (head-filter test t xs)
  where
    by : (b : Bool) → head (map t (filter test xs)) ≡ first_in (λ x. if test x then Some (t x) else None) xs → head (map t (cond b (x ∷ filter test xs) (filter test xs))) ≡ option_or (if b then Some (t x) else None) (first_in (λ x. if test x then Some (t x) else None) xs)
    by true rest = refl
    by false rest = rest

-- ---- rows

or_assoc : {X : Type 0} (a b c : Option X) → option_or (option_or a b) c ≡ option_or a (option_or b c)
or_assoc None b c = refl
or_assoc (Some x) b c = refl

or_none : {X : Type 0} (a : Option X) → option_or a None ≡ a
or_none None = refl
or_none (Some x) = refl

breach_from : (b : Option Breach) (rs : List RuleRow) → fold or_breach b rs ≡ option_or b (first_breach rs)
breach_from b [] = sym (or_none b)
breach_from b (r ∷ rs) = breach_from (or_breach b r) rs ∙ or_assoc b (breach_of r) (first_breach rs) ∙ ap (option_or b) (sym (breach_from (breach_of r) rs))

pub breach-cons : (r : RuleRow) (rs : List RuleRow) → first_breach (r ∷ rs) ≡ option_or (breach_of r) (first_breach rs)
breach-cons r rs = breach_from (breach_of r) rs

pub breach-append : (xs ys : List RuleRow) → first_breach (xs ++ ys) ≡ option_or (first_breach xs) (first_breach ys)
breach-append [] ys = refl
breach-append (x ∷ xs) ys = breach-cons x (xs ++ ys) ∙ ap (option_or (breach_of x)) (breach-append xs ys) ∙ sym (or_assoc (breach_of x) (first_breach xs) (first_breach ys)) ∙ ap (λ (o : Option Breach). option_or o (first_breach ys)) (sym (breach-cons x xs))

pub breach-flat_map : {X : Type 0} (f : X → List RuleRow) (xs : List X) → first_breach (flat_map f xs) ≡ first_in (λ x. first_breach (f x)) xs
breach-flat_map f [] = refl
breach-flat_map f (x ∷ xs) = breach-append (f x) (flat_map f xs) ∙ ap (option_or (first_breach (f x))) (breach-flat_map f xs)

-- the first broken rule of a declaration, in its file
pub head-broken_in : (file : ℕ) (rs : List RuleRow) → head (broken_in file rs) ≡ option_map (in_file file) (first_breach rs)
head-broken_in file [] = refl
head-broken_in file (r ∷ rs) = by r.token (head-broken_in file rs) ∙ ap (option_map (in_file file)) (sym (breach-cons r rs))
  where
    by : (t : Option ℕ) → head (broken_in file rs) ≡ option_map (in_file file) (first_breach rs) → head (cons_option (option_map (λ token. record { file = file; token = token; code = r.code }) t) (broken_in file rs)) ≡ option_map (in_file file) (option_or (option_map (λ t. record { code = r.code; token = t }) t) (first_breach rs))
    by None rest = rest
    by (Some t) rest = refl

pub or_cong : {X : Type 0} {a b c d : Option X} → a ≡ b → c ≡ d → option_or a c ≡ option_or b d
or_cong p q = λ i. option_or (p i) (q i)

-- the first of six lists in a row, from the first of each
pub breach-six : (a b c d e f : List RuleRow) → first_breach (a ++ (b ++ (c ++ (d ++ (e ++ f)))))
    ≡ option_or (option_or (option_or (option_or (option_or (first_breach a) (first_breach b)) (first_breach c)) (first_breach d)) (first_breach e)) (first_breach f)
breach-six a b c d e f =
    breach-append a (b ++ (c ++ (d ++ (e ++ f))))
    ∙ ap (option_or (first_breach a)) (breach-append b (c ++ (d ++ (e ++ f)))) ∙ sym (or_assoc (first_breach a) (first_breach b) (first_breach (c ++ (d ++ (e ++ f)))))
    ∙ ap (option_or (option_or (first_breach a) (first_breach b))) (breach-append c (d ++ (e ++ f)))
    ∙ sym (or_assoc (option_or (first_breach a) (first_breach b)) (first_breach c) (first_breach (d ++ (e ++ f))))
    ∙ ap (option_or (option_or (option_or (first_breach a) (first_breach b)) (first_breach c))) (breach-append d (e ++ f))
    ∙ sym (or_assoc (option_or (option_or (first_breach a) (first_breach b)) (first_breach c)) (first_breach d) (first_breach (e ++ f)))
    ∙ ap (option_or (option_or (option_or (option_or (first_breach a) (first_breach b)) (first_breach c)) (first_breach d))) (breach-append e f)
    ∙ sym (or_assoc (option_or (option_or (option_or (first_breach a) (first_breach b)) (first_breach c)) (first_breach d)) (first_breach e) (first_breach f))

some_or : {X : Type 0} (r o : Option X) → is_some r ≡ true → r ≡ option_or r o
some_or None o e = absurd cc
some_or (Some x) o e = refl

none_is : {X : Type 0} (r : Option X) → is_some r ≡ false → r ≡ None
none_is None e = refl
none_is (Some x) e = absurd cc

-- where the first part has one, it is the first of the whole
pub breach-front : (xs ys : List RuleRow) (r : Option Breach) → r ≡ first_breach xs → is_some r ≡ true → r ≡ first_breach (xs ++ ys)
breach-front xs ys r e s = some_or r (first_breach ys) s ∙ ap (λ (o : Option Breach). option_or o (first_breach ys)) e ∙ sym (breach-append xs ys)

-- where it has none, the first of the rest is
pub breach-rest : (xs ys : List RuleRow) (r t : Option Breach) → r ≡ first_breach xs → is_some r ≡ false → t ≡ first_breach ys → t ≡ first_breach (xs ++ ys)
breach-rest xs ys r t e s f = f ∙ ap (λ (o : Option Breach). option_or o (first_breach ys)) (sym (none_is r s) ∙ e) ∙ sym (breach-append xs ys)

-- ---- names and tests over a list that is made of another

pub first_in-map : {X Y Z : Type 0} (f : Y → Option Z) (h : X → Y) (xs : List X) → first_in f (map h xs) ≡ first_in (λ x. f (h x)) xs
first_in-map f h [] = refl
first_in-map {Z = Z} f h (x ∷ xs) = ap (λ (o : Option Z). option_or (f (h x)) o) (first_in-map f h xs)

pub list_any-map : {X Y : Type 0} (p : Y → Bool) (h : X → Y) (xs : List X) → list_any p (map h xs) ≡ list_any (λ x. p (h x)) xs
list_any-map p h [] = refl
list_any-map p h (x ∷ xs) = ap (λ (b : Bool). p (h x) || b) (list_any-map p h xs)

pub first_in-filter_map : {X Y Z : Type 0} (f : Y → Option Z) (h : X → Option Y) (xs : List X) → first_in f (filter_map h xs) ≡ first_in (λ x. option_and_then f (h x)) xs
first_in-filter_map f h [] = refl
first_in-filter_map {Y = Y} {Z = Z} f h (x ∷ xs) = by (h x) (first_in-filter_map f h xs)
  where
    by : (o : Option Y) → first_in f (filter_map h xs) ≡ first_in (λ x. option_and_then f (h x)) xs → first_in f (cons_option o (filter_map h xs)) ≡ option_or (option_and_then f o) (first_in (λ x. option_and_then f (h x)) xs)
    by None rest = rest
    by (Some y) rest = ap (option_or (f y)) rest

-- the first attribute whose name stands before it
pub repeated_law : (attrs : List Attribute) → first_in (λ a. if is_repeated attrs a then Some a.token else None) attrs ≡ head (repeated attrs)
repeated_law attrs =
    (λ i. first_in (λ (a : Attribute). if sym (list_any-map (λ (y : NameAt). bytes_eq y.name a.name && nat_lt y.token a.token) named attrs) i then Some a.token else None) attrs)
    ∙ sym (first_in-map (λ x. if is_second (map named attrs) x then Some x.token else None) named attrs)
    ∙ sym (head-filter (is_second (map named attrs)) (λ x. x.token) (map named attrs))
  where
    named : Attribute → NameAt
    named a = at a.token a.name

pub not_swap : (r s : Bool) → s ≡ not r → r ≡ not s
not_swap true s e = sym (ap not e)
not_swap false s e = sym (ap not e)

-- the first item that passes, and the head of all that do
pub head_find : {X Y : Type 0} (test : X → Bool) (t : X → Y) (xs : List X) → option_map t (find test xs) ≡ head (map t (filter test xs))
head_find test t [] = refl
head_find {X} {Y} test t (x ∷ xs) = by (test x) (head_find test t xs)
  where
    by : (b : Bool) → option_map t (find test xs) ≡ head (map t (filter test xs)) → option_map t (cond b (Some x) (find test xs)) ≡ head (map t (cond b (x ∷ filter test xs) (filter test xs)))
    by true rest = refl
    by false rest = rest

first_in-find : {X Y : Type 0} (test : X → Bool) (t : X → Y) (xs : List X) → option_map t (find test xs) ≡ first_in (λ x. if test x then Some (t x) else None) xs
first_in-find test t xs = head_find test t xs ∙ head-filter test t xs

pub repeated_find : (attrs : List Attribute) → option_map (λ (a : Attribute). a.token) (find (is_repeated attrs) attrs) ≡ head (repeated attrs)
repeated_find attrs = first_in-find (is_repeated attrs) (λ (a : Attribute). a.token) attrs ∙ repeated_law attrs

-- the first attribute whose name passes, and the head of all names that do
pub named_find : (test : NameAt → Bool) (attrs : List Attribute) → option_map amount_token (find (λ a. holds_of test (amount_name a)) attrs) ≡ head (map (λ x. x.token) (filter test (filter_map amount_name attrs)))
named_find test [] = refl
named_find test (a ∷ attrs) = by (amount_name a) refl (named_find test attrs)
  where
    by : (o : Option NameAt) → amount_name a ≡ o → option_map amount_token (find (λ a. holds_of test (amount_name a)) attrs) ≡ head (map (λ x. x.token) (filter test (filter_map amount_name attrs)))
        → option_map amount_token (cond (holds_of test o) (Some a) (find (λ a. holds_of test (amount_name a)) attrs)) ≡ head (map (λ x. x.token) (filter test (cons_option o (filter_map amount_name attrs))))
    by None e rest = rest
    by (Some x) e rest = pick (test x)
      where
        pick : (b : Bool) → option_map amount_token (cond b (Some a) (find (λ a. holds_of test (amount_name a)) attrs)) ≡ head (map (λ x. x.token) (cond b (x ∷ filter test (filter_map amount_name attrs)) (filter test (filter_map amount_name attrs))))
        pick true = ap (λ (o : Option NameAt). Some (unwrap_or (option_map (λ y. y.token) o) 0)) e
        pick false = rest

-- where the first part has a head, it is that of the whole
pub head-front : {X : Type 0} (xs ys : List X) (r : Option X) → r ≡ head xs → is_some r ≡ true → r ≡ head (xs ++ ys)
head-front xs ys r e s = some_or r (head ys) s ∙ ap (λ o. option_or o (head ys)) e ∙ sym (head-append xs ys)

pub head-rest : {X : Type 0} (xs ys : List X) (r t : Option X) → r ≡ head xs → is_some r ≡ false → t ≡ head ys → t ≡ head (xs ++ ys)
head-rest xs ys r t e s f = f ∙ ap (λ o. option_or o (head ys)) (sym (none_is r s) ∙ e) ∙ sym (head-append xs ys)
