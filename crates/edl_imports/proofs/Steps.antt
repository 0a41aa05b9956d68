-- Steps that read files, and what stops them.
use Rattle.std.proofs.Common.{ℕ, ◌≡◌, inl, inr, ◌≤◌, List, Option, Some, None, Err, refl, ◌∙◌, subst, arith}
use Rattle.std.specs.Prelude.{IfSome}
use Rattle.sgx_base.specs.Counts.{Rose}
use Rattle.sgx_base.specs.Stores.{Store, FilesState, AreOnlyRead}
use Rattle.edl_imports.specs.declared.faults.ImportFault.{ImportFault}
use Rattle.edl_imports.specs.declared.faults.ImportCause.{ImportCause}
use Rattle.edl_imports.specs.declared.faults.ImportCause.TheVariants as causes
use Rattle.edl_imports.specs.declared.faults.Stop.{Stop}
use Rattle.edl_imports.specs.declared.faults.Stop.TheVariants as stops
use Rattle.edl_imports.specs.Gathering.{Outcome}
use Rattle.edl_imports.specs.Causes.{IsStated, IsBy, IsStop, IsStopOf}

-- where the contents are told, one fact follows from others
pub always : {R : Store → Type 0} (contents : Option Store) → ((store : Store) → R store) → IfSome contents R
always None step = tt
always (Some store) step = step store

pub one : {P R : Store → Type 0} (contents : Option Store) → ((store : Store) → P store → R store) → IfSome contents P → IfSome contents R
one None step p = tt
one (Some store) step p = step store p

pub both : {P Q R : Store → Type 0} (contents : Option Store) → ((store : Store) → P store → Q store → R store) → IfSome contents P → IfSome contents Q → IfSome contents R
both None step p q = tt
both (Some store) step p q = step store p q

pub three : {P Q R S : Store → Type 0} (contents : Option Store) → ((store : Store) → P store → Q store → R store → S store)
    → IfSome contents P → IfSome contents Q → IfSome contents R → IfSome contents S
three None step p q r = tt
three (Some store) step p q r = step store p q r

-- files that are read not at all, or twice, are only read
pub unread : (files : FilesState) → AreOnlyRead files files
unread files = record { contents = refl; write_faults = refl; read_faults = omega arith; misses = omega arith }

pub read_twice : (before middle after : FilesState) → AreOnlyRead before middle → AreOnlyRead middle after → AreOnlyRead before after
read_twice before middle after first second = record {
  contents = second.contents ∙ first.contents;
  write_faults = second.write_faults ∙ first.write_faults;
  read_faults = let a = first.read_faults in let b = second.read_faults in omega arith;
  misses = let a = first.misses in let b = second.misses in omega arith;
}

-- what is told of contents that stayed
pub told_before : (P : Store → Type 0) (before after : FilesState) → AreOnlyRead before after → IfSome after.contents P → IfSome before.contents P
told_before P before after kept h = subst (λ (c : Option Store). IfSome c P) kept.contents h

rose_later : (a b c : ℕ) → a ≤ b → Rose b c → Rose a c
rose_later a b c le (inl h) = inl (omega arith)
rose_later a b c le (inr h) = inr h

-- a fault of one thing stated is one of another
abbrev pub Carries : {A B : Type 0} → FilesState → (Store → Outcome A) → (Store → Outcome B) → Type 0
Carries files s t = IfSome files.contents (λ store. (e : ImportFault) → s store ≡ Err e → t store ≡ Err e)

module _ {A B : Type 0} (paths : List (List ℕ)) (before middle after : FilesState) (s : Store → Outcome A) (t : Store → Outcome B) where
  stated : (e : ImportFault) → AreOnlyRead before middle → Carries before s t → IsStated middle s e → IsStated before t e
  stated e kept step h = both before.contents (λ store f g. f e g) step (told_before (λ store. s store ≡ Err e) before middle kept h)

  by_cause : (e : ImportFault) (cause : ImportCause) → AreOnlyRead before middle → Carries before s t
      → IsBy paths middle after e.name (IsStated middle s e) cause → IsBy paths before after e.name (IsStated before t e) cause
  by_cause e causes.NotFound kept step (inl m, h) = (inl (rose_later before.misses middle.misses after.misses kept.misses m), stated e kept step h)
  by_cause e causes.NotFound kept step (inr n, h) = (inr n, stated e kept step h)
  by_cause e causes.ReadFault kept step h = rose_later before.read_faults middle.read_faults after.read_faults kept.read_faults h
  by_cause e causes.Memory kept step h = h
  by_cause e (causes.Cycle f) kept step h = stated e kept step h
  by_cause e (causes.NoSuchName f) kept step h = stated e kept step h
  by_cause e (causes.Conflict f) kept step h = stated e kept step h
  by_cause e (causes.TooManyFiles f) kept step h = stated e kept step h
  by_cause e (causes.Lex f) kept step h = stated e kept step h
  by_cause e (causes.Parse f) kept step h = stated e kept step h

  -- a step that stops behind others
  pub stops_as : (stop : Stop) → AreOnlyRead before middle → Carries before s t → IsStop paths middle after s stop → IsStop paths before after t stop
  stops_as stops.Memory kept step h = tt
  stops_as (stops.Fault e) kept step h = by_cause e e.cause kept step h

-- a cause that no read has
abbrev pub IsPlain : ImportCause → Type 0
IsPlain causes.NotFound = ⊥
IsPlain causes.ReadFault = ⊥
IsPlain causes.Memory = ⊥
IsPlain (causes.Cycle f) = Unit {0}
IsPlain (causes.NoSuchName f) = Unit {0}
IsPlain (causes.Conflict f) = Unit {0}
IsPlain (causes.TooManyFiles f) = Unit {0}
IsPlain (causes.Lex f) = Unit {0}
IsPlain (causes.Parse f) = Unit {0}

-- the faults of a step that looks at no files have such causes
abbrev pub ArePlain : {A : Type 0} → Outcome A → Type 0
ArePlain x = (e : ImportFault) → x ≡ Err e → IsPlain e.cause

module _ {A B : Type 0} (paths : List (List ℕ)) (before after : FilesState) (x : Outcome A) (t : Store → Outcome B) where
  by_plain : (e : ImportFault) (cause : ImportCause) → IsPlain cause → IsStated before t e → IsBy paths before after e.name (IsStated before t e) cause
  by_plain e causes.NotFound p h = absurd p
  by_plain e causes.ReadFault p h = absurd p
  by_plain e causes.Memory p h = absurd p
  by_plain e (causes.Cycle f) p h = h
  by_plain e (causes.NoSuchName f) p h = h
  by_plain e (causes.Conflict f) p h = h
  by_plain e (causes.TooManyFiles f) p h = h
  by_plain e (causes.Lex f) p h = h
  by_plain e (causes.Parse f) p h = h

  -- a step that looks at no files stops behind others
  pub stops_plainly : (stop : Stop) → ArePlain x → Carries before (λ store. x) t → IsStopOf x stop → IsStop paths before after t stop
  stops_plainly stops.Memory plain step h = tt
  stops_plainly (stops.Fault e) plain step h = by_plain e e.cause (plain e h) (one before.contents (λ store f. f e h) step)
