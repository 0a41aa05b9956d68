-- A root without imports, and one that imports itself.
use Rattle.std.proofs.Common.{ℕ, ◌≡◌, Bool, true, false, ◌&&◌, ◌||◌, nat_lt, List, [], ◌∷◌, ◌++◌, map, length, Option, Some, None, Ok, refl, sym, ap, ◌∙◌, subst, arith, cond}
use Rattle.std.specs.Prelude.{filter_map, option_map, if◌then◌else◌}
use Rattle.std.specs.List.{cons_option, range_with_len, position_or_len}
use Rattle.std.specs.Option.{option_or}
use Rattle.std.specs.Str.{bytes_eq, IsUtf8}
use Rattle.std.proofs.lemmas.Bool.Decides.{nat_tests}
use Rattle.std.proofs.lemmas.Slice.Eq.{bytes_eq-Decides}
use Rattle.sgx_base.specs.Stores.{Store}
use Rattle.edl_grammar.specs.declared.FuncDecl.{FuncDecl}
use Rattle.edl_grammar.specs.declared.Gathered.{Gathered}
use Rattle.edl_grammar.specs.declared.Import.{Import}
use Rattle.edl_grammar.specs.declared.SourceFile.{SourceFile}
use Rattle.edl_grammar.specs.declared.TypeDecl.{TypeDecl}
use Rattle.edl_grammar.specs.Files.{token_of, name_of}
use Rattle.edl_imports.specs.declared.conflicts.Known.{Known}
use Rattle.edl_imports.specs.declared.faults.ImportCause.TheVariants as causes
use Rattle.edl_imports.specs.declared.gathering.Progress.{Progress}
use Rattle.edl_imports.specs.declared.offers.Offer.{Offer}
use Rattle.edl_imports.specs.declared.search.Found.{Found}
use Rattle.edl_imports.specs.declared.search.Found.TheVariants.{Known as is_known}
use Rattle.edl_imports.specs.Search.{candidates, in_directories, first_file, number_of, known_or_new}
use Rattle.edl_imports.specs.Offers.{own, picked}
use Rattle.edl_imports.specs.Conflicts.{Place, type_known, types_known, functions_of, functions_known, is_second, earlier, first_second, first_conflict}
use Rattle.edl_imports.specs.Gathering.{Outcome, ◌>>=◌, fail, fault_at, admitted, reached, taken_from, import_all, gather_within, read_tokens, read_tree, read_source, begun, no_files, root_bytes, gathered, all_of, unless_conflict, gathering}
use Rattle.edl_imports.specs.Laws.{IsRootFile, alone}
use Rattle.edl_imports.proofs.Candidates.{candidates_some}

-- ---- one file has no conflict

none_below : (n : ℕ) → nat_lt n 0 ≡ false
none_below n = grind (arith, nat_tests)

not_second : (k : Known) → k.at.file ≡ 0 → (all : List Known) → is_second all k ≡ false
not_second k zero_file [] = refl
not_second k zero_file (h ∷ all) =
    let low : nat_lt h.at.file k.at.file ≡ false = ap (nat_lt h.at.file) zero_file ∙ none_below h.at.file in
    ap (λ (b : Bool). (b && bytes_eq h.name k.name) || is_second all k) low ∙ not_second k zero_file all

-- all of these stand in the first file
abbrev AreInFirst : List Known → Type 0
AreInFirst [] = Unit {0}
AreInFirst (k ∷ ks) = (k.at.file ≡ 0) × AreInFirst ks

first_kept : (all ks : List Known) (best : Option Place) → AreInFirst ks → first_second all best ks ≡ best
first_kept all [] best h = refl
first_kept all (k ∷ ks) best (zero_file, h) =
    ap (λ (b : Bool). first_second all (if b then Some (earlier best k.at) else best) ks) (not_second k zero_file all) ∙ first_kept all ks best h

first_append : (ks more : List Known) → AreInFirst ks → AreInFirst more → AreInFirst (ks ++ more)
first_append [] more h m = m
first_append (k ∷ ks) more (zero_file, h) m = (zero_file, first_append ks more h m)

module _ {X : Type 0} (at : X → Place) (name : X → List ℕ) (first : (x : X) → (at x).file ≡ 0) where
  put_first : (o : Option X) (ks : List Known) → AreInFirst ks → AreInFirst (cons_option (option_map (λ x. record { at = at x; name = name x }) o) ks)
  put_first None ks h = h
  put_first (Some x) ks h = (first x, h)

types_first : (ts : List TypeDecl) → AreInFirst (filter_map (type_known 0) ts)
types_first [] = tt
types_first (t ∷ ts) = put_first (λ (name : List ℕ). record { file = 0; token = token_of t }) (λ name. name) (λ _. refl) (name_of t) (filter_map (type_known 0) ts) (types_first ts)

functions_first : (files : List SourceFile) (is_trusted : Bool) (is : List ℕ) → AreInFirst (functions_of files is_trusted (map (λ index. record { file = 0; index = index }) is))
functions_first files is_trusted [] = tt
functions_first files is_trusted (i ∷ is) =
    put_first (λ (f : FuncDecl). record { file = 0; token = f.token }) (λ f. f.name) (λ _. refl) (picked files is_trusted (record { file = 0; index = i }))
    (functions_of files is_trusted (map (λ index. record { file = 0; index = index }) is)) (functions_first files is_trusted is)

no_conflict_alone : (source : SourceFile) → first_conflict (alone source) ≡ None
no_conflict_alone source =
    let g = alone source in
    first_kept (functions_known g) (functions_known g) (first_second (types_known g) None (types_known g))
    (first_append (functions_of g.files true g.trusted) (functions_of g.files false g.untrusted)
    (functions_first g.files true (range_with_len 0 (length source.tree.trusted))) (functions_first g.files false (range_with_len 0 (length source.tree.untrusted))))
    ∙ first_kept (types_known g) (types_known g) None (first_append (filter_map (type_known 0) source.tree.types) [] (types_first source.tree.types) tt)

-- ---- the root is read

module _ (store : Store) (paths : List (List ℕ)) (root : List ℕ) (source : SourceFile) (r : IsRootFile store root source) where
  source_is : read_source 0 (record { name = root; bytes = r.bytes }) ≡ Ok source
  source_is =
      ap (read_tokens 0 (record { name = root; bytes = r.bytes })) r.lexed ∙ ap (read_tree root source.tokens) r.parsed
      ∙ ap (λ (name : List ℕ). Ok (record { name = name; tokens = source.tokens; tree = source.tree })) (sym r.named)

  abbrev Rest : List Import → Outcome (Progress × Offer)
  Rest is = import_all store paths (gather_within store paths 63) 0 source (begun no_files source) (own 0 source.tree) is

  opened : all_of store paths root ≡ (Rest source.tree.imports >>= (λ done. Ok (gathered done.0 done.1)))
  opened =
      ap (λ (o : Option (List ℕ)). root_bytes root o >>= (λ f. gather_within store paths 64 no_files f >>= (λ done. Ok (gathered done.0 done.1)))) r.found
      ∙ ap (λ (s : Outcome SourceFile). (s >>= (λ s. import_all store paths (gather_within store paths 63) 0 s (begun no_files s) (own 0 s.tree) s.tree.imports)) >>= (λ done. Ok (gathered done.0 done.1))) source_is

  pub is_alone : source.tree.imports ≡ [] → gathering store paths root ≡ Ok (alone source)
  is_alone none =
      ap (λ (g : Outcome Gathered). g >>= (λ g. unless_conflict g (first_conflict g))) (opened ∙ ap (λ (is : List Import). Rest is >>= (λ done. Ok (gathered done.0 done.1))) none)
      ∙ ap (unless_conflict (alone source)) (no_conflict_alone source)

  known_again : (text : List ℕ) → text ≡ root → number_of (source ∷ []) text ≡ Some 0
  known_again text same =
      let is : bytes_eq source.name text ≡ true = (bytes_eq-Decides source.name text).1 (r.named ∙ sym same) in
      let at : position_or_len (λ (f : SourceFile). bytes_eq f.name text) (source ∷ []) ≡ 0 = simp is refl in
      ap (λ (k : ℕ). cond (nat_lt k 1) (Some k) None) at

  pub own_import : (i : Import) (is : List Import) → IsUtf8 root → source.tree.imports ≡ i ∷ is → i.text ≡ root
      → gathering store paths root ≡ fail root (causes.Cycle (fault_at 0 source i.token 8))
  own_import i is u imports same =
      let text : IsUtf8 i.text = subst IsUtf8 (sym same) u in
      let found : first_file store (source ∷ []) (candidates paths i.text) ≡ Some (is_known 0) =
      ap (first_file store (source ∷ [])) (candidates_some paths i.text text)
      ∙ ap (λ (n : Option ℕ). option_or (known_or_new i.text n (store i.text)) (first_file store (source ∷ []) (in_directories paths i.text))) (known_again i.text same) in
      ap (λ (g : Outcome Gathered). g >>= (λ g. unless_conflict g (first_conflict g)))
      (opened ∙ ap (λ (is : List Import). Rest is >>= (λ done. Ok (gathered done.0 done.1))) imports
      ∙ ap (λ (o : Option Found). ((admitted 0 source (source ∷ []) i o >>= reached store paths (gather_within store paths 63) 0 source (begun no_files source))
      >>= (λ after. taken_from 0 source after.0 i (own 0 source.tree) after.1 >>= (λ more. import_all store paths (gather_within store paths 63) 0 source after.0 more is)))
      >>= (λ done. Ok (gathered done.0 done.1))) found)
      ∙ ap (λ (name : List ℕ). fail name (causes.Cycle (fault_at 0 source i.token 8))) r.named
