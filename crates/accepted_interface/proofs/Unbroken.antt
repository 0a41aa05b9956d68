-- What holds where no rule is broken.
use Rattle.std.proofs.Common.{◌≡◌, ℕ, zero, suc, ◌≤◌, Bool, true, false, nat_lt, List, [], ◌∷◌, ◌++◌, map, length, drop, get_or, Option, Some, None, option_map, refl, arith, flat_map}
use Rattle.std.specs.Prelude.{slice_get, All}
use Rattle.std.specs.List.{cons_option}
use Rattle.std.proofs.lemmas.Bool.Decides.{nat_tests}
use Rattle.std.proofs.lemmas.List.Elements.{All-nil, All-cons}
use Rattle.edl_grammar.specs.declared.Gathered.{Gathered}
use Rattle.edl_grammar.specs.declared.Written.{Written}
use Rattle.edl_grammar.specs.Files.{TypeIn, FunctionIn, types_of, trusted_of, untrusted_of}
use Rattle.attr_terms.specs.declared.Broken.{Broken}
use Rattle.attr_terms.specs.Rules.{RuleRow, broken, broken_in, type_rows, function_rows, without_public, beyond, first_function, row, max_functions}

-- ---- empty lists

pub nil-left : {X : Type 0} (xs ys : List X) → xs ++ ys ≡ [] → xs ≡ []
nil-left [] ys e = refl
nil-left (x ∷ xs) ys e = cc

pub nil-right : {X : Type 0} (xs ys : List X) → xs ++ ys ≡ [] → ys ≡ []
nil-right [] ys e = e
nil-right (x ∷ xs) ys e = cc

pub nil-map : {X Y : Type 0} (f : X → Y) (xs : List X) → map f xs ≡ [] → xs ≡ []
nil-map f [] e = refl
nil-map f (x ∷ xs) e = cc

pub nil-first : {X : Type 0} (xs : List X) → slice_get xs 0 ≡ None → xs ≡ []
nil-first [] e = refl
nil-first (x ∷ xs) e = cc

pub nil-flat : {X Y : Type 0} (f : X → List Y) (xs : List X) → flat_map f xs ≡ [] → All (λ x. f x ≡ []) xs
nil-flat {X} f [] e = All-nil (λ (x : X). f x ≡ [])
nil-flat {X} f (y ∷ xs) e = All-cons (λ (x : X). f x ≡ []) y xs (nil-left (f y) (flat_map f xs) e) (nil-flat f xs (nil-right (f y) (flat_map f xs) e))

-- ---- rows

-- no row is broken
abbrev pub AreClean : List RuleRow → Type 0
AreClean [] = Unit {0}
AreClean (r ∷ rs) = (r.token ≡ None) × AreClean rs

pub row-clean : (code token : ℕ) (b : Bool) → (row code b token).token ≡ None → b ≡ false
row-clean code token true e = cc
row-clean code token false e = refl

-- the rows behind some
pub clean-behind : (rs more : List RuleRow) → AreClean (rs ++ more) → AreClean more
clean-behind [] more c = c
clean-behind (r ∷ rs) more c = clean-behind rs more c.1

clean-front : (rs more : List RuleRow) → AreClean (rs ++ more) → AreClean rs
clean-front [] more c = tt
clean-front (r ∷ rs) more c = (c.0, clean-front rs more c.1)

pub clean-flat : {X : Type 0} (f : X → List RuleRow) (xs : List X) → AreClean (flat_map f xs) → All (λ x. AreClean (f x)) xs
clean-flat {X} f [] c = All-nil (λ (x : X). AreClean (f x))
clean-flat {X} f (y ∷ xs) c = All-cons (λ (x : X). AreClean (f x)) y xs (clean-front (f y) (flat_map f xs) c) (clean-flat f xs (clean-behind (f y) (flat_map f xs) c))

abbrev broken_at : ℕ → ℕ → ℕ → Broken
broken_at file code token = record { file = file; token = token; code = code }

token-none : (file code : ℕ) (token : Option ℕ) (rest : List Broken) → cons_option (option_map (broken_at file code) token) rest ≡ [] → (token ≡ None) × (rest ≡ [])
token-none file code None rest e = (refl, e)
token-none file code (Some t) rest e = cc

pub rows-clean : (file : ℕ) (rs : List RuleRow) → broken_in file rs ≡ [] → AreClean rs
rows-clean file [] e = tt
rows-clean file (r ∷ rs) e =
    let p = token-none file r.code r.token (broken_in file rs) e in
    (p.0, rows-clean file rs p.1)

-- ---- limits

none-first : (code : ℕ) (fs : List FunctionIn) → first_function code fs ≡ [] → fs ≡ []
none-first code [] e = refl
none-first code (f ∷ fs) e = cc

few-by : {X : Type 0} (n : ℕ) (fs : List X) → drop n fs ≡ [] → length fs ≤ n
few-by n [] e = omega arith
few-by zero (f ∷ fs) e = cc
few-by (suc n) (f ∷ fs) e = let h : length fs ≤ n = few-by n fs e in omega arith

pub few : (fs : List FunctionIn) → beyond fs ≡ [] → length fs ≤ max_functions
few fs e = few-by max_functions fs (none-first 40 (drop max_functions fs) e)

pub not-above : (n m : ℕ) → nat_lt n m ≡ false → m ≤ n
not-above n m e = grind (arith, nat_tests)

-- ---- the parts of all rows

module _ (g : Gathered) (runner : Bool) (size_of : Written → ℕ) where
  pub record IsUnbroken : Type 0 where
    pub types : All (λ t. AreClean (type_rows g t)) (types_of g)
    pub functions : All (λ f. AreClean (function_rows g runner size_of f)) (trusted_of g ++ untrusted_of g)
    pub trusted : beyond (trusted_of g) ≡ []
    pub untrusted : beyond (untrusted_of g) ≡ []

  functions-clean : (fs : List FunctionIn) → All (λ f. broken_in f.file (function_rows g runner size_of f) ≡ []) fs → All (λ f. AreClean (function_rows g runner size_of f)) fs
  functions-clean fs h = λ k d lt. rows-clean (get_or fs k d).file (function_rows g runner size_of (get_or fs k d)) (h k d lt)

  types-clean : (ts : List TypeIn) → All (λ t. broken_in t.file (type_rows g t) ≡ []) ts → All (λ t. AreClean (type_rows g t)) ts
  types-clean ts h = λ k d lt. rows-clean (get_or ts k d).file (type_rows g (get_or ts k d)) (h k d lt)

  pub unbroken : broken g runner size_of ≡ [] → IsUnbroken
  unbroken e =
      let types : List Broken = flat_map (λ t. broken_in t.file (type_rows g t)) (types_of g) in
      let functions : List Broken = flat_map (λ f. broken_in f.file (function_rows g runner size_of f)) (trusted_of g ++ untrusted_of g) in
      let public : List Broken = without_public (trusted_of g) in
      let first_four : types ++ functions ++ public ++ beyond (trusted_of g) ≡ [] = nil-left (types ++ functions ++ public ++ beyond (trusted_of g)) (beyond (untrusted_of g)) e in
      let first_three : types ++ functions ++ public ≡ [] = nil-left (types ++ functions ++ public) (beyond (trusted_of g)) first_four in
      let first_two : types ++ functions ≡ [] = nil-left (types ++ functions) public first_three in
      record {
        types = types-clean (types_of g) (nil-flat (λ (t : TypeIn). broken_in t.file (type_rows g t)) (types_of g) (nil-left types functions first_two));
        functions = functions-clean (trusted_of g ++ untrusted_of g) (nil-flat (λ (f : FunctionIn). broken_in f.file (function_rows g runner size_of f)) (trusted_of g ++ untrusted_of g) (nil-right types functions first_two));
        trusted = nil-right (types ++ functions ++ public) (beyond (trusted_of g)) first_four;
        untrusted = nil-right (types ++ functions ++ public ++ beyond (trusted_of g)) (beyond (untrusted_of g)) e;
      }
