-- A cycle of imports is refused, whatever its length.
use Rattle.std.proofs.Common.{ℕ, zero, suc, ◌≡◌, ◌+◌, ◌≤◌, ◌<◌, ◌==◌, Bool, false, List, [], ◌∷◌, ◌++◌, length, length-append, Option, Some, Ok, Err, sym, ap, ◌∙◌, arith}
use Rattle.std.specs.Prelude.{if◌then◌else◌}
use Rattle.std.proofs.lemmas.Bool.Decides.{nat_tests}
use Rattle.sgx_base.specs.Stores.{Store}
use Rattle.edl_grammar.specs.declared.Import.{Import}
use Rattle.edl_grammar.specs.declared.SourceFile.{SourceFile}
use Rattle.edl_imports.specs.Conflicts.{first_conflict}
use Rattle.edl_imports.specs.Gathering.{Outcome, ◌>>=◌, fail, fault_at, admitted, reached, taken_from, import_all, gather_within, read_source, begun, finished, no_files, root_bytes, gathered, unless_conflict}
use Rattle.edl_imports.specs.Laws.{LeadsBack, CycleIsRefused}
use Rattle.edl_imports.specs.Offers.{own}
use Rattle.edl_imports.specs.Search.{candidates, first_file}
use Rattle.edl_imports.specs.declared.faults.ImportCause.TheVariants as causes
use Rattle.edl_imports.specs.declared.faults.ImportFault.{ImportFault}
use Rattle.edl_imports.specs.declared.gathering.Progress.{Progress}
use Rattle.edl_imports.specs.declared.offers.Offer.{Offer}
use Rattle.edl_imports.specs.declared.search.Found.{Found}
use Rattle.edl_imports.specs.declared.search.Found.TheVariants.{Known, New}
use Rattle.edl_imports.specs.declared.search.NewFile.{NewFile}

module _ (store : Store) (paths : List (List ℕ)) where
  -- the files so far, of which none is finished
  abbrev Open : List SourceFile → Progress
  Open files = record { files = files; finished = [] }

  module _ (depth : ℕ) (files : List SourceFile) (f : NewFile) (source : SourceFile) (i : Import) (is : List Import) (found : Found)
      (read : read_source (length files) f ≡ Ok source) (imports : source.tree.imports ≡ i ∷ is) (first : first_file store (files ++ source ∷ []) (candidates paths i.text) ≡ Some found) where
    abbrev After : Outcome Found → Outcome (Progress × Offer)
    After o = (o >>= reached store paths (gather_within store paths depth) (length files) source (Open (files ++ source ∷ [])))
        >>= (λ after. taken_from (length files) source after.0 i (own (length files) source.tree) after.1
        >>= (λ more. import_all store paths (gather_within store paths depth) (length files) source after.0 more is))

    -- the file is read, and its first import finds this
    opened : gather_within store paths (suc depth) (Open files) f ≡ After (admitted (length files) source (files ++ source ∷ []) i (Some found))
    opened =
        ap (λ (s : Outcome SourceFile). s >>= (λ s. import_all store paths (gather_within store paths depth) (length files) s (begun (Open files) s) (own (length files) s.tree) s.tree.imports)) read
        ∙ ap (λ (is : List Import). import_all store paths (gather_within store paths depth) (length files) source (Open (files ++ source ∷ [])) (own (length files) source.tree) is) imports
        ∙ ap (λ (o : Option Found). After (admitted (length files) source (files ++ source ∷ []) i o)) first

  abbrev Finish : List SourceFile → Progress × Offer → Outcome (Progress × ℕ)
  Finish files done = Ok (finished (length files) done.0 done.1, length files)

  not_full : (n : ℕ) → n < 64 → (n == 64) ≡ false
  not_full n lt = grind (arith, nat_tests, lt)

  refused : (more depth : ℕ) (files : List SourceFile) (f : NewFile) (e : ImportFault) → 64 ≤ depth + length files → length files < 64 → LeadsBack store paths more files f e
      → gather_within store paths depth (Open files) f ≡ Err e
  refused more zero files f e deep room h = absurd (omega arith)
  refused zero (suc depth) files f e deep room (n, h, fault) =
      opened depth files f h.source h.«import» h.more (Known n) h.read h.first h.finds ∙ ap (λ (e : ImportFault). Err e) (sym fault)
  refused (suc more) (suc depth) files f e deep room (next, h, less, rest) =
      let longer : length (files ++ h.source ∷ []) ≡ length files + 1 = length-append files (h.source ∷ []) in
      let fits : (length (files ++ h.source ∷ []) == 64) ≡ false = not_full (length (files ++ h.source ∷ [])) (omega (arith, longer, less)) in
      opened depth files f h.source h.«import» h.more (New next) h.read h.first h.finds
      ∙ ap (λ (b : Bool). After depth files f h.source h.«import» h.more (New next) h.read h.first h.finds (if b then fail h.source.name (causes.TooManyFiles (fault_at (length files) h.source h.«import».token 11)) else Ok (New next))) fits
      ∙ ap (λ (o : Outcome (Progress × Offer)). ((o >>= Finish (files ++ h.source ∷ []))
      >>= (λ after. taken_from (length files) h.source after.0 h.«import» (own (length files) h.source.tree) after.1
      >>= (λ offer. import_all store paths (gather_within store paths depth) (length files) h.source after.0 offer h.more))))
      (refused more depth (files ++ h.source ∷ []) next e (omega (arith, longer)) (omega (arith, longer, less)) rest)

pub cycle_refused : CycleIsRefused
cycle_refused store paths root bytes more e there h =
    ap (λ (o : Option (List ℕ)). (root_bytes root o >>= (λ f. gather_within store paths 64 no_files f >>= (λ done. Ok (gathered done.0 done.1)))) >>= (λ g. unless_conflict g (first_conflict g))) there
    ∙ ap (λ (o : Outcome (Progress × Offer)). (o >>= (λ done. Ok (gathered done.0 done.1))) >>= (λ g. unless_conflict g (first_conflict g)))
    (refused store paths more 64 [] (record { name = root; bytes = bytes }) e (omega arith) (omega arith) h)
