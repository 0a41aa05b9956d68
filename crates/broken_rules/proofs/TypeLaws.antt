-- The first broken rule of the types of all files.
use Rattle.std.proofs.Common.{arith, ℕ, zero, suc, ◌≡◌, ◌+◌, ◌<◌, true, false, is_some, List, [], ◌∷◌, ◌++◌, map, length, take, get_or, Option, Some, None, refl, sym, ◌∙◌, ap, add-one}
use Rattle.std.specs.Prelude.{slice_get}
use Rattle.std.specs.List.{flat_map}
use Rattle.std.specs.Option.{option_or}
use Rattle.std.proofs.lemmas.Grind.{flat_map-append}
use Rattle.edl_grammar.specs.declared.Gathered.{Gathered}
use Rattle.edl_grammar.specs.declared.SourceFile.{SourceFile}
use Rattle.edl_grammar.specs.declared.TypeDecl.{TypeDecl}
use Rattle.edl_grammar.specs.Files.{types_of, types_from}
use Rattle.attr_terms.specs.declared.Broken.{Broken}
use Rattle.attr_terms.specs.Rules.{broken_in, type_rows, type_rows_in, type_names, enumerator_names, names_in}
use Rattle.broken_rules.proofs.Firsts.{head, head-append}

-- the broken rules of a file's types
abbrev pub in_file_types : ℕ → SourceFile → List Broken
in_file_types n f = flat_map (λ t. broken_in n (type_rows_in (type_names f.tree) (enumerator_names f.tree) t)) f.tree.types

-- the first of the files from this number on
abbrev pub first_file : ℕ → List SourceFile → Option Broken
first_file n [] = None
first_file n (f ∷ fs) = option_or (head (in_file_types n f)) (first_file (suc n) fs)

file_on : (o r : Option Broken) (n : ℕ) (fs : List SourceFile) (i : ℕ) → (first_file n (take i fs) ≡ None → r ≡ first_file n fs) → option_or o (first_file n (take i fs)) ≡ None → r ≡ option_or o (first_file n fs)
file_on None r n fs i rest none = rest none
file_on (Some z) r n fs i rest none = absurd cc

some_or : (r o : Option Broken) → is_some r ≡ true → r ≡ option_or r o
some_or None o e = absurd cc
some_or (Some x) o e = refl

not_some : (r : Option Broken) → is_some r ≡ false → r ≡ None
not_some None e = refl
not_some (Some x) e = absurd cc

found_from : (n : ℕ) (fs : List SourceFile) (i : ℕ) (d : SourceFile) (r : Option Broken) → i < length fs → first_file n (take i fs) ≡ None → r ≡ head (in_file_types (n + i) (get_or fs i d)) → is_some r ≡ true → r ≡ first_file n fs
found_from n [] i d r h none e s = absurd (omega arith)
found_from n (f ∷ fs) zero d r h none e s =
    let z : n + 0 ≡ n = omega arith in
    some_or r (first_file (suc n) fs) s ∙ ap (λ o. option_or o (first_file (suc n) fs)) (e ∙ ap (λ m. head (in_file_types m f)) z)
found_from n (f ∷ fs) (suc i) d r h none e s =
    file_on (head (in_file_types n f)) r (suc n) fs i (λ z. found_from (suc n) fs i d r (omega arith) z (e ∙ ap (λ m. head (in_file_types m (get_or fs i d))) (omega arith)) s) none

pub file_found : (fs : List SourceFile) (i : ℕ) (d : SourceFile) (r : Option Broken) → i < length fs → first_file 0 (take i fs) ≡ None → r ≡ head (in_file_types i (get_or fs i d)) → is_some r ≡ true → r ≡ first_file 0 fs
file_found fs i d r h none e s = found_from 0 fs i d r h none (e ∙ ap (λ m. head (in_file_types m (get_or fs i d))) (omega arith)) s

file_none : (o : Option Broken) (n : ℕ) (fs : List SourceFile) (i : ℕ) → (first_file n (take i fs) ≡ None → first_file n (take (suc i) fs) ≡ None) → option_or o (first_file n (take i fs)) ≡ None → option_or o (first_file n (take (suc i) fs)) ≡ None
file_none None n fs i rest none = rest none
file_none (Some z) n fs i rest none = absurd cc

more_from : (n : ℕ) (fs : List SourceFile) (i : ℕ) (d : SourceFile) → i < length fs → first_file n (take i fs) ≡ None → head (in_file_types (n + i) (get_or fs i d)) ≡ None → first_file n (take (suc i) fs) ≡ None
more_from n [] i d h none e = absurd (omega arith)
more_from n (f ∷ fs) zero d h none e =
    let z : n ≡ n + 0 = omega arith in
    ap (λ o. option_or o None) (ap (λ m. head (in_file_types m f)) z ∙ e)
more_from n (f ∷ fs) (suc i) d h none e =
    file_none (head (in_file_types n f)) (suc n) fs i (λ z. more_from (suc n) fs i d (omega arith) z (ap (λ m. head (in_file_types m (get_or fs i d))) (omega arith) ∙ e)) none

pub file_more : (fs : List SourceFile) (i : ℕ) (d : SourceFile) (r : Option Broken) → i < length fs → first_file 0 (take i fs) ≡ None → r ≡ head (in_file_types i (get_or fs i d)) → is_some r ≡ false → first_file 0 (take (i + 1) fs) ≡ None
file_more fs i d r h none e s =
    ap (λ n. first_file 0 (take n fs)) (add-one i) ∙ more_from 0 fs i d h none (ap (λ m. head (in_file_types m (get_or fs i d))) (omega arith) ∙ sym e ∙ not_some r s)

-- ---- all types

rows_of : (g : Gathered) (n : ℕ) (f : SourceFile) (t : TypeDecl) → slice_get g.files n ≡ Some f → broken_in n (type_rows g (record { file = n; decl = t })) ≡ broken_in n (type_rows_in (type_names f.tree) (enumerator_names f.tree) t)
rows_of g n f t e = λ i. broken_in n (type_rows_in (names_in type_names (e i)) (names_in enumerator_names (e i)) t)

types_on : (g : Gathered) (n : ℕ) (f : SourceFile) (ts : List TypeDecl) → slice_get g.files n ≡ Some f
    → flat_map (λ t. broken_in t.file (type_rows g t)) (map (λ t. record { file = n; decl = t }) ts) ≡ flat_map (λ t. broken_in n (type_rows_in (type_names f.tree) (enumerator_names f.tree) t)) ts
types_on g n f [] e = refl
types_on g n f (t ∷ ts) e = λ i. rows_of g n f t e i ++ types_on g n f ts e i

all_from : (g : Gathered) (n : ℕ) (fs : List SourceFile) → ((i : ℕ) → slice_get g.files (n + i) ≡ slice_get fs i) → head (flat_map (λ t. broken_in t.file (type_rows g t)) (types_from n fs)) ≡ first_file n fs
all_from g n [] e = refl
all_from g n (f ∷ fs) e =
    let here : slice_get g.files n ≡ Some f = ap (slice_get g.files) (omega arith) ∙ e 0 in
    ap head (flat_map-append (λ t. broken_in t.file (type_rows g t)) (map (λ t. record { file = n; decl = t }) f.tree.types) (types_from (suc n) fs))
    ∙ head-append (flat_map (λ t. broken_in t.file (type_rows g t)) (map (λ t. record { file = n; decl = t }) f.tree.types)) (flat_map (λ t. broken_in t.file (type_rows g t)) (types_from (suc n) fs))
    ∙ (λ i. option_or (head (types_on g n f f.tree.types here i)) (all_from g (suc n) fs (λ k. ap (slice_get g.files) (omega arith) ∙ e (suc k)) i))

pub all_types : (g : Gathered) → first_file 0 g.files ≡ head (flat_map (λ t. broken_in t.file (type_rows g t)) (types_of g))
all_types g = sym (all_from g 0 g.files (λ i. ap (slice_get g.files) (omega arith)))
