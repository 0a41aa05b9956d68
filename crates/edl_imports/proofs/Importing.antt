-- One import: its place, and the faults of what it takes.
use Rattle.std.proofs.Common.{ℕ, zero, suc, ◌≡◌, ◌+◌, ◌<◌, List, [], ◌∷◌, ◌++◌, length, drop, Option, Some, None, Result, Ok, Err, refl, sym, ap, ◌∙◌, subst, arith, append_assoc, length-append, add-one}
use Rattle.std.specs.Prelude.{IfErr, slice_get}
use Rattle.edl_grammar.specs.declared.Import.{Import}
use Rattle.edl_grammar.specs.declared.NameAt.{NameAt}
use Rattle.edl_grammar.specs.declared.SourceFile.{SourceFile}
use Rattle.edl_imports.specs.declared.faults.ImportFault.{ImportFault}
use Rattle.edl_imports.specs.declared.faults.ImportCause.TheVariants as causes
use Rattle.edl_imports.specs.declared.faults.Stop.{Stop}
use Rattle.edl_imports.specs.declared.faults.Stop.TheVariants as stops
use Rattle.edl_imports.specs.declared.gathering.Finished.{Finished}
use Rattle.edl_imports.specs.declared.gathering.ImportAt.{ImportAt}
use Rattle.edl_imports.specs.declared.gathering.Progress.{Progress}
use Rattle.edl_imports.specs.declared.offers.Offer.{Offer}
use Rattle.edl_imports.specs.Offers.{own, first_missing, with_names}
use Rattle.edl_imports.specs.Gathering.{Outcome, ◌>>=◌, IsImport, IsThere, IsFront, fault_at, offered_by, unless_missing, with_taken, taken_from, offer_of}
use Rattle.edl_imports.specs.Causes.{IsStopOf}
use Rattle.edl_imports.proofs.Steps.{IsPlain, ArePlain}

-- ---- places

there : {X : Type 0} (xs : List X) (n : ℕ) → n < length xs → (x : X) × (slice_get xs n ≡ Some x)
there [] n h = absurd (omega arith)
there (x ∷ xs) zero h = (x, refl)
there (x ∷ xs) (suc n) h = there xs n (omega arith)

there_still : {X : Type 0} (xs more : List X) (n : ℕ) (x : X) → slice_get xs n ≡ Some x → slice_get (xs ++ more) n ≡ Some x
there_still [] more n x h = absurd cc
there_still (y ∷ xs) more zero x h = h
there_still (y ∷ xs) more (suc n) x h = there_still xs more n x h

there_last : {X : Type 0} (xs : List X) (x : X) → slice_get (xs ++ x ∷ []) (length xs) ≡ Some x
there_last [] x = refl
there_last (y ∷ xs) x = there_last xs x

drop_next : {X : Type 0} (xs : List X) (n : ℕ) (x : X) → slice_get xs n ≡ Some x → drop n xs ≡ x ∷ drop (suc n) xs
drop_next [] n x h = absurd cc
drop_next (y ∷ xs) zero x h = let same : y ≡ x = cc in ap (λ z. z ∷ xs) same
drop_next (y ∷ xs) (suc n) x h = drop_next xs n x h

pub drop_there : {X : Type 0} (xs : List X) (n : ℕ) (x : X) → slice_get xs n ≡ Some x → drop n xs ≡ x ∷ drop (n + 1) xs
drop_there xs n x h = drop_next xs n x h ∙ ap (λ k. x ∷ drop k xs) (sym (add-one n))

-- files in front stay where they are
pub in_front : (front files : List SourceFile) (n : ℕ) (source : SourceFile) → IsFront front files → slice_get front n ≡ Some source → slice_get files n ≡ Some source
in_front front files n source (more, is) h = ap (λ (fs : List SourceFile). slice_get fs n) is ∙ there_still front more n source h

pub front_then : (a b c : List SourceFile) → IsFront a b → IsFront b c → IsFront a c
front_then a b c (m, p) (n, q) = (m ++ n, q ∙ ap (λ fs. fs ++ n) p ∙ append_assoc a m n)

pub there_pushed : (files pushed : List SourceFile) (source : SourceFile) (n : ℕ) → pushed ≡ files ++ source ∷ [] → n ≡ length files → slice_get pushed n ≡ Some source
there_pushed files pushed source n is l = ap (λ (fs : List SourceFile). slice_get fs n) is ∙ ap (λ k. slice_get (files ++ source ∷ []) k) l ∙ there_last files source

pub front_more : (a b : List SourceFile) → IsFront a b → length a < length b + 1
front_more a b (m, p) = let l = ap length p ∙ length-append a m in omega arith

-- what the file of this number says of its imports
abbrev pub IsBegun : List SourceFile → ℕ → ℕ → Offer → Type 0
IsBegun files number count offer = (source : SourceFile) → slice_get files number ≡ Some source → (count ≡ length source.tree.imports) × (offer ≡ own number source.tree)

pub import_there : (front files : List SourceFile) (number index count : ℕ) (offer : Offer) → IsFront front files → number < length front → IsBegun front number count offer → index < count
    → IsThere files (record { file = number; index = index })
import_there front files number index count offer f n begun i =
    let source = there front number n in
    let b = begun source.0 source.1 in
    let found = there source.0.tree.imports index (omega (arith, b.0)) in
    record { source = source.0; «import» = found.0; is = record { file = in_front front files number source.0 f source.1; «import» = found.1 } }

pub import_here : (front files : List SourceFile) (number index count : ℕ) (source : SourceFile) → IsFront front files → slice_get front number ≡ Some source → count ≡ length source.tree.imports → index < count
    → (i : Import) × IsImport files (record { file = number; index = index }) source i
import_here front files number index count source f n l h =
    let found = there source.tree.imports index (omega (arith, l)) in
    (found.0, record { file = in_front front files number source f n; «import» = found.1 })

pub import_still : (front files : List SourceFile) (at : ImportAt) (source : SourceFile) (i : Import) → IsFront front files → IsImport front at source i → IsImport files at source i
import_still front files at source i f is = record { file = in_front front files at.file source f is.file; «import» = is.«import» }

-- a place has one import
same_source : (files : List SourceFile) (at : ImportAt) (s t : SourceFile) (i j : Import) → IsImport files at s i → IsImport files at t j → s ≡ t
same_source files at s t i j p q = let a = p.file in let b = q.file in cc

same_import : (files : List SourceFile) (at : ImportAt) (s t : SourceFile) (i j : Import) → IsImport files at s i → IsImport files at t j → i ≡ j
same_import files at s t i j p q = let e = same_source files at s t i j p q in let a = p.«import» in let b = q.«import» in cc

-- ---- what is taken

module _ (p : Progress) (at : ImportAt) (file : ℕ) (offer : Offer) (n : ℕ) (s t : SourceFile) (i j : Import) (o : Option Finished) where
  same_offered : n ≡ at.file → IsImport p.files at t j → IsImport p.files at s i → o ≡ offer_of p file → offered_by n t j o ≡ offered_by at.file s i (offer_of p file)
  same_offered number q is found = let a = same_source p.files at t s j i q is in let b = same_import p.files at t s j i q is in cc

  pub offered_stops : (stop : Stop) → n ≡ at.file → IsImport p.files at t j → IsImport p.files at s i → o ≡ offer_of p file → IsStopOf (offered_by n t j o) stop
      → IsStopOf (taken_from at.file s p i offer file) stop
  offered_stops stops.Memory number q is found h = tt
  offered_stops (stops.Fault e) number q is found h =
      ap (λ (x : Outcome Offer). x >>= (λ offered. with_taken at.file s p.files offered offer i.names)) (sym (same_offered number q is found) ∙ h)

  pub taken_stops : (files : List SourceFile) (offered : Offer) (result : Result (Unit {0}) Stop) → files ≡ p.files → n ≡ at.file → IsImport p.files at t j → IsImport p.files at s i → o ≡ offer_of p file
      → offered_by n t j o ≡ Ok offered → IfErr result (IsStopOf (with_taken n t files offered offer j.names)) → IfErr result (IsStopOf (taken_from at.file s p i offer file))
  taken_stops files offered (Ok u) f number q is found got h = tt
  taken_stops files offered (Err stops.Memory) f number q is found got h = tt
  taken_stops files offered (Err (stops.Fault e)) f number q is found got h =
      let a = same_source p.files at t s j i q is in
      let b = same_import p.files at t s j i q is in
      let same : with_taken at.file s p.files offered offer i.names ≡ with_taken n t files offered offer j.names = cc in
      ap (λ (x : Outcome Offer). x >>= (λ z. with_taken at.file s p.files z offer i.names)) (sym (same_offered number q is found) ∙ got)
      ∙ same ∙ h

pub taken_plain : (number : ℕ) (s : SourceFile) (p : Progress) (i : Import) (offer : Offer) (file : ℕ) → ArePlain (taken_from number s p i offer file)
taken_plain number s p i offer file e = by (offer_of p file)
  where
    by_missing : (x : Option NameAt) (o : Offer) → unless_missing number s x o ≡ Err e → IsPlain e.cause
    by_missing None o h = absurd cc
    by_missing (Some x) o h =
        let same : record { name = s.name; cause = causes.NoSuchName (fault_at number s x.token 9) } ≡ e = cc in
        subst (λ (z : ImportFault). IsPlain z.cause) same tt

    by_names : (offered : Offer) (names : Option (List NameAt)) → with_taken number s p.files offered offer names ≡ Err e → IsPlain e.cause
    by_names offered None h = absurd cc
    by_names offered (Some names) h = by_missing (first_missing p.files offered names) (with_names p.files offered offer names) h

    by : (o : Option Finished) → (offered_by number s i o >>= (λ offered. with_taken number s p.files offered offer i.names)) ≡ Err e → IsPlain e.cause
    by None h =
        let same : record { name = s.name; cause = causes.Cycle (fault_at number s i.token 8) } ≡ e = cc in
        subst (λ (z : ImportFault). IsPlain z.cause) same tt
    by (Some f) h = by_names f.offer i.names h
