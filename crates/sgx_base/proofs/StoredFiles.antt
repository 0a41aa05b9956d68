-- What the files of a store hold after one is written.
use Rattle.std.proofs.Common.{ℕ, suc, ◌+◌, ◌<◌, ◌≤◌, not, ◌≡◌, ◌≢◌, Bool, true, false, cond, nat_lt, List, [], ◌∷◌, ◌++◌, length, Some, None, refl, ap, sym, ◌∙◌, arith, subst, slice_set}
use Rattle.std.specs.List.{position, position_or_len}
use Rattle.std.specs.Str.{bytes_eq}
use Rattle.std.proofs.lemmas.Slice.Eq.{bytes_eq-Decides}
use Rattle.std.proofs.lemmas.Bool.{false_from_ne_true}
use Rattle.std.proofs.lemmas.List.Sums.{prefix_len-le-length}
use Rattle.sgx_base.specs.Stores.{IsWritten}
use Rattle.sgx_base.specs.MemStores.{stored, with_file}
use Rattle.sgx_base.specs.declared.mem_files.StoredFile.{StoredFile}

-- where the file of the name stands, or how many files there are
abbrev place_of : List ℕ → List StoredFile → ℕ
place_of name files = position_or_len (λ file. bytes_eq file.name name) files

-- a file of the name is replaced where it stands
set_first : (file : StoredFile) (files : List StoredFile) → place_of file.name files < length files → slice_set files (place_of file.name files) file ≡ with_file file files
set_first file [] h = grind arith
set_first file (f ∷ files) h = by_name (bytes_eq f.name file.name) refl (set_first file files)
  where
    by_name : (b : Bool) → bytes_eq f.name file.name ≡ b
        → (place_of file.name files < length files → slice_set files (place_of file.name files) file ≡ with_file file files)
        → slice_set (f ∷ files) (place_of file.name (f ∷ files)) file ≡ with_file file (f ∷ files)
    by_name true e before = simp e refl
    by_name false e before =
        let more : place_of file.name (f ∷ files) ≡ suc (place_of file.name files) = simp e (omega arith) in
        let moved : slice_set (f ∷ files) (place_of file.name (f ∷ files)) file ≡ f ∷ slice_set files (place_of file.name files) file = rw more refl in
        moved ∙ simp e (ap (λ all. f ∷ all) (before (omega (arith, more, h))))

-- with no file of the name, it is the last
push_last : (file : StoredFile) (files : List StoredFile) → place_of file.name files ≡ length files → files ++ file ∷ [] ≡ with_file file files
push_last file [] h = refl
push_last file (f ∷ files) h = by_name (bytes_eq f.name file.name) refl (push_last file files)
  where
    by_name : (b : Bool) → bytes_eq f.name file.name ≡ b
        → (place_of file.name files ≡ length files → files ++ file ∷ [] ≡ with_file file files)
        → (f ∷ files) ++ file ∷ [] ≡ with_file file (f ∷ files)
    by_name true e before = let none : place_of file.name (f ∷ files) ≡ 0 = simp e refl in absurd (omega (arith, none, h))
    by_name false e before =
        let more : place_of file.name (f ∷ files) ≡ 1 + place_of file.name files = simp e refl in
        simp e (ap (λ all. f ∷ all) (before (omega (arith, more, h))))

some_below : (k n at : ℕ) → Some at ≡ cond (nat_lt k n) (Some k) None → (k ≡ at) × (k < n)
some_below k n at h = (grind arith, grind arith)

none_below : (k n : ℕ) → None ≡ cond (nat_lt k n) (Some k) None → n ≤ k
none_below k n h = grind arith

-- the place of the file of the name, where there is one
pub with_file_at : (file : StoredFile) (files : List StoredFile) (at : ℕ) → Some at ≡ position (λ f. bytes_eq f.name file.name) files → slice_set files at file ≡ with_file file files
with_file_at file files at h =
    let found : (place_of file.name files ≡ at) × (place_of file.name files < length files) = some_below _ _ at h in
    subst (λ k. slice_set files k file ≡ with_file file files) found.0 (set_first file files found.1)

-- the end, where there is none
pub with_file_last : (file : StoredFile) (files : List StoredFile) → None ≡ position (λ f. bytes_eq f.name file.name) files → files ++ file ∷ [] ≡ with_file file files
with_file_last file files h = push_last file files (omega (arith, none_below _ _ h, prefix_len-le-length (λ f. not (bytes_eq f.name file.name)) files))

-- the file that was written has its bytes
pub stored_here : (file : StoredFile) (files : List StoredFile) → stored (with_file file files) file.name ≡ Some file.bytes
stored_here file [] = let same : bytes_eq file.name file.name ≡ true = (bytes_eq-Decides file.name file.name).1 refl in rw same refl
stored_here file (f ∷ files) = by_name (bytes_eq f.name file.name) refl (stored_here file files)
  where
    by_name : (b : Bool) → bytes_eq f.name file.name ≡ b → stored (with_file file files) file.name ≡ Some file.bytes → stored (with_file file (f ∷ files)) file.name ≡ Some file.bytes
    by_name true e before = let same : bytes_eq file.name file.name ≡ true = (bytes_eq-Decides file.name file.name).1 refl in simp (e, same) refl
    by_name false e before = simp e before

-- texts that differ are told apart
differ : (name other : List ℕ) → other ≢ name → bytes_eq name other ≡ false
differ name other h = false_from_ne_true _ (λ e. h (sym ((bytes_eq-Decides name other).0 e)))

-- the other files are as before
pub stored_others : (file : StoredFile) (files : List StoredFile) (other : List ℕ) → other ≢ file.name → stored (with_file file files) other ≡ stored files other
stored_others file [] other h = let apart : bytes_eq file.name other ≡ false = differ file.name other h in simp apart refl
stored_others file (f ∷ files) other h = by_name (bytes_eq f.name file.name) refl (stored_others file files other h)
  where
    by_name : (b : Bool) → bytes_eq f.name file.name ≡ b → stored (with_file file files) other ≡ stored files other
        → stored (with_file file (f ∷ files)) other ≡ stored (f ∷ files) other
    by_name true e before =
        let same : f.name ≡ file.name = (bytes_eq-Decides f.name file.name).0 e in
        let apart : bytes_eq file.name other ≡ false = differ file.name other h in
        let here : bytes_eq f.name other ≡ false = rw same apart in
        simp (e, apart, here) refl
    by_name false e before = either (bytes_eq f.name other) refl
      where
        either : (b : Bool) → bytes_eq f.name other ≡ b → stored (with_file file (f ∷ files)) other ≡ stored (f ∷ files) other
        either true e' = simp (e, e') refl
        either false e' = simp (e, e') before

-- the write as a whole
pub writes : (name bytes : List ℕ) (files : List StoredFile) → IsWritten name bytes (stored files) (stored (with_file (record { name = name; bytes = bytes }) files))
writes name bytes files =
    let file : StoredFile = record { name = name; bytes = bytes } in
    record { here = stored_here file files; others = stored_others file files }
