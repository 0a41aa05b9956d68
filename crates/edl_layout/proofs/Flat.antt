-- The flat list of types.
use Rattle.std.proofs.Common.{◌≡◌, ◌<◌, ◌≤◌, ◌+◌, ℕ, zero, suc, List, [], ◌∷◌, ◌++◌, map, length, drop, take, get_or, refl, sym, ◌∙◌, ap, Some, option_map, append_assoc, append-nil, add-one, arith}
use Rattle.std.specs.Prelude.{slice_get}
use Rattle.std.proofs.lemmas.Option.{slice_get-map, slice_get-get_or}
use Rattle.std.proofs.lemmas.List.{length-map, map-append}
use Rattle.std.proofs.Math.Seq.{drop-cons}
use Rattle.edl_grammar.specs.declared.SourceFile.{SourceFile}
use Rattle.edl_grammar.specs.declared.TypeDecl.{TypeDecl}
use Rattle.edl_grammar.specs.Files.{TypeIn, types_of, types_from}
use Rattle.edl_layout.specs.declared.tables.TypeAt.{TypeAt}
use Rattle.edl_layout.specs.declared.tables.Declarations.{Declarations}
use Rattle.edl_layout.specs.Named.{seen, IsDeclarations}
use Rattle.edl_layout.proofs.Together.{take_next}

-- the types of one file
abbrev pub in_file : ℕ → TypeDecl → TypeIn
in_file n d = record { file = n; decl = d }

drop_past : {X : Type 0} (n : ℕ) (xs : List X) → length xs ≤ n → drop n xs ≡ []
drop_past zero [] h = refl
drop_past zero (x ∷ xs) h = absurd (omega (arith, h))
drop_past (suc n) [] h = refl
drop_past (suc n) (x ∷ xs) h = drop_past n xs (omega arith)

pub pushed_next : (old new : List TypeIn) (file : ℕ) (ds : List TypeDecl) (i : ℕ) (d : TypeDecl) (before : List TypeIn) → i < length ds
    → old ≡ before ++ map (in_file file) (take i ds) → new ≡ old ++ in_file file (get_or ds i d) ∷ [] → new ≡ before ++ map (in_file file) (take (i + 1) ds)
pushed_next old new file ds i d before low e more =
    more ∙ ap (λ (xs : List TypeIn). xs ++ in_file file (get_or ds i d) ∷ []) e
    ∙ append_assoc before (map (in_file file) (take i ds)) (in_file file (get_or ds i d) ∷ [])
    ∙ ap (λ (xs : List TypeIn). before ++ xs) (sym (map-append (in_file file) (take i ds) (get_or ds i d ∷ [])))
    ∙ ap (λ (xs : List TypeDecl). before ++ map (in_file file) xs) (sym (take_next ds i d low))

pub flat_next : (old new : List TypeIn) (fs : List SourceFile) (i : ℕ) (d : SourceFile) (whole : List TypeIn) → i < length fs
    → new ≡ old ++ map (in_file i) (get_or fs i d).tree.types → old ++ types_from i (drop i fs) ≡ whole → new ++ types_from (i + 1) (drop (i + 1) fs) ≡ whole
flat_next old new fs i d whole low more e =
    ap (λ (xs : List TypeIn). xs ++ types_from (i + 1) (drop (i + 1) fs)) more
    ∙ append_assoc old (map (in_file i) (get_or fs i d).tree.types) (types_from (i + 1) (drop (i + 1) fs))
    ∙ ap (λ n. old ++ (map (in_file i) (get_or fs i d).tree.types ++ types_from n (drop n fs))) (add-one i)
    ∙ ap (λ (xs : List SourceFile). old ++ types_from i xs) (sym (drop-cons fs i d low))
    ∙ e

pub flat_all : (types : List TypeIn) (fs : List SourceFile) (n : ℕ) (whole : List TypeIn) → length fs ≤ n → types ++ types_from n (drop n fs) ≡ whole → types ≡ whole
flat_all types fs n whole high e = sym (append-nil types) ∙ ap (λ (xs : List SourceFile). types ++ types_from n xs) (sym (drop_past n fs high)) ∙ e

pub count_types : (d : Declarations) → IsDeclarations d → length d.types.items ≡ length (types_of d.gathered.now)
count_types d is = sym (length-map d.types.items seen) ∙ ap length is.types

pub at_number : (d : Declarations) → IsDeclarations d → (i : ℕ) (x : TypeAt) → slice_get d.types.items i ≡ Some x → slice_get (types_of d.gathered.now) i ≡ Some (seen x)
at_number d is i x e = ap (λ (ts : List TypeIn). slice_get ts i) (sym is.types) ∙ slice_get-map seen d.types.items i ∙ ap (option_map seen) e

-- the item that an index reads
pub read_at : {X : Type 0} (xs : List X) (i : ℕ) (x : X) → i < length xs → x ≡ get_or xs i x → slice_get xs i ≡ Some x
read_at xs i x low e = slice_get-get_or xs i x low ∙ ap Some (sym e)
