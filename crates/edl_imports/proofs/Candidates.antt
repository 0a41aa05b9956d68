-- The candidates of a text, and the first of them that has a file.
use Rattle.std.proofs.Common.{ℕ, ◌≡◌, Bool, true, false, List, [], ◌∷◌, Option, Some, None, is_some, Result, Ok, Err, sym, ap, ◌∙◌, cond}
use Rattle.std.specs.Prelude.{IfSome, IfOk}
use Rattle.std.specs.Option.{option_or}
use Rattle.std.specs.Str.{is_utf8, IsUtf8}
use Rattle.std.proofs.lemmas.Str.{IsUtf8-from_is_utf8, is_utf8-from_IsUtf8}
use Rattle.std.proofs.lemmas.Bool.{false_from_ne_true}
use Rattle.sgx_base.specs.Stores.{Store, FilesState, AreOnlyRead}
use Rattle.edl_grammar.specs.declared.SourceFile.{SourceFile}
use Rattle.edl_imports.specs.declared.search.Found.{Found}
use Rattle.edl_imports.specs.Search.{candidates, in_directories, file_of, first_file}
use Rattle.edl_imports.specs.declared.faults.Stop.{Stop}
use Rattle.edl_imports.proofs.Steps.{always, one, both, told_before}

pub candidates_none : (paths : List (List ℕ)) (text : List ℕ) → (IsUtf8 text → ⊥) → candidates paths text ≡ []
candidates_none paths text h =
    ap (λ (b : Bool). cond b (text ∷ in_directories paths text) []) (false_from_ne_true (is_utf8 text) (λ e. h (IsUtf8-from_is_utf8 text e)))

pub candidates_some : (paths : List (List ℕ)) (text : List ℕ) → IsUtf8 text → candidates paths text ≡ text ∷ in_directories paths text
candidates_some paths text h = ap (λ (b : Bool). cond b (text ∷ in_directories paths text) []) (is_utf8-from_IsUtf8 text h)

module _ (contents : Option Store) (read : List SourceFile) (paths : List (List ℕ)) (bytes text : List ℕ) where
  -- a text that is not UTF-8 finds nothing
  pub none_found : (IsUtf8 bytes → ⊥) → IfSome contents (λ store. first_file store read (candidates paths bytes) ≡ None)
  none_found h = always contents (λ store. ap (first_file store read) (candidates_none paths bytes h))

  first_some : (found : Option Found) (a b : Option Found) → is_some found ≡ true → a ≡ found → option_or a b ≡ found
  first_some None a b some e = absurd cc
  first_some (Some f) a b some e = ap (λ (o : Option Found). option_or o b) e

  first_none : (found rest : Option Found) (a b : Option Found) → is_some found ≡ false → a ≡ found → b ≡ rest → option_or a b ≡ rest
  first_none None rest a b none e r = ap (λ (o : Option Found). option_or o b) e ∙ r
  first_none (Some f) rest a b none e r = absurd cc

  -- the text itself has a file
  pub found_itself : (found : Option Found) → text ≡ bytes → IsUtf8 bytes → is_some found ≡ true
      → IfSome contents (λ store. file_of store read text ≡ found) → IfSome contents (λ store. first_file store read (candidates paths bytes) ≡ found)
  found_itself found same u some =
      one contents (λ store e.
      ap (first_file store read) (candidates_some paths bytes u)
      ∙ first_some found (file_of store read bytes) (first_file store read (in_directories paths bytes)) some (ap (file_of store read) (sym same) ∙ e))

  -- it has none, and this is what the directories have
  pub found_under : (found rest : Option Found) → text ≡ bytes → IsUtf8 bytes → is_some found ≡ false
      → IfSome contents (λ store. file_of store read text ≡ found)
      → IfSome contents (λ store. first_file store read (in_directories paths text) ≡ rest)
      → IfSome contents (λ store. first_file store read (candidates paths bytes) ≡ rest)
  found_under found rest same u none =
      both contents (λ store e r.
      ap (first_file store read) (candidates_some paths bytes u)
      ∙ first_none found rest (file_of store read bytes) (first_file store read (in_directories paths bytes)) none (ap (file_of store read) (sym same) ∙ e)
      (ap (λ (t : List ℕ). first_file store read (in_directories paths t)) (sym same) ∙ r))

-- the same of a result, where the directories were looked into afterwards
pub found_in : (before middle : FilesState) (read : List SourceFile) (paths : List (List ℕ)) (bytes text : List ℕ) (found : Option Found) (result : Result (Option Found) Stop) → AreOnlyRead before middle
    → text ≡ bytes → IsUtf8 bytes → is_some found ≡ false
    → IfSome before.contents (λ store. file_of store read text ≡ found)
    → IfOk result (λ rest. IfSome middle.contents (λ store. first_file store read (in_directories paths text) ≡ rest))
    → IfOk result (λ rest. IfSome before.contents (λ store. first_file store read (candidates paths bytes) ≡ rest))
found_in before middle read paths bytes text found (Err stop) kept same u none itself h = tt
found_in before middle read paths bytes text found (Ok rest) kept same u none itself h =
    found_under before.contents read paths bytes text found rest same u none itself
    (told_before (λ store. first_file store read (in_directories paths text) ≡ rest) before middle kept h)
