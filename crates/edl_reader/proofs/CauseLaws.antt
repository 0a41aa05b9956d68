-- How the causes at which an interface is not given are told.
use Rattle.std.proofs.Common.{ℕ, ◌≡◌, ◌⊎◌, inl, inr, List, Option, Some, None, IfSome, Err, refl, sym, ◌∙◌, subst}
use Rattle.sgx_base.specs.Outcome.{OrMemory}
use Rattle.sgx_base.specs.Stores.{Store, FilesState}
use Rattle.sgx_base.specs.declared.Fault.{Fault}
use Rattle.edl_grammar.specs.declared.SourceFile.{SourceFile}
use Rattle.edl_imports.specs.declared.faults.ImportFault.{ImportFault}
use Rattle.edl_imports.specs.declared.faults.ImportCause.{ImportCause}
use Rattle.edl_imports.specs.declared.faults.ImportCause.TheVariants as causes
use Rattle.edl_imports.specs.Causes.{IsFault, IsStated}
use Rattle.edl_imports.specs.ComeTo.{IsComeTo, IsNameOf}
use Rattle.edl_imports.specs.Gathering.{gathering}
use Rattle.attr_rules.specs.declared.RuleFault.{RuleFault}
use Rattle.attr_rules.specs.declared.RuleFault.TheVariants as rule
use Rattle.edl_reader.specs.declared.faults.SourceFault.{SourceFault}
use Rattle.edl_reader.specs.declared.faults.SourceFault.TheVariants.{Edl, NotFound, ReadFault, Memory}
use Rattle.edl_reader.specs.Told.{Told, of_lexer, of_parser, of_file, of_cause}
use Rattle.edl_reader.specs.Sources.{IsNoRoot, GivesNoRoot, IsUngathered, IsEdlFault}

one : {P R : Store → Type 0} (contents : Option Store) → ((store : Store) → P store → R store) → IfSome contents P → IfSome contents R
one None step p = tt
one (Some store) step p = step store p

-- what follows from the fault, also where memory may have run out
or_memory : {M P Q : Type 0} → (P → Q) → M ⊎ P → M ⊎ Q
or_memory step (inl m) = inl m
or_memory step (inr h) = inr (step h)

-- a fault that is told of gathered files
pub edl_fault : (Is : Fault → Type 0) (files : List SourceFile) (e : RuleFault) (fault : SourceFault) → OrMemory rule.Memory (Told Is) e
    → OrMemory Memory (IsEdlFault files (λ f. e ≡ rule.Rule f)) fault → OrMemory Memory (IsEdlFault files Is) fault
edl_fault Is files e fault t = or_memory (is_so fault)
  where
    told : (f : Fault) → e ≡ rule.Rule f → OrMemory rule.Memory (Told Is) e → Is f
    told f is (inl m) = let clash : rule.Rule f ≡ rule.Memory = sym is ∙ m in absurd cc
    told f is (inr h) = subst (Told Is) is h

    is_so : (fault : SourceFault) → IsEdlFault files (λ f. e ≡ rule.Rule f) fault → IsEdlFault files Is fault
    is_so (Edl name f) h = (h.0, told f h.1 t)
    is_so (NotFound name) h = absurd h
    is_so (ReadFault name) h = absurd h
    is_so Memory h = absurd h

-- ---- the gathering

module _ (paths : List (List ℕ)) (edl : List ℕ) (before after : FilesState) where
  abbrev Tells : SourceFault → Type 0
  Tells = OrMemory Memory (IsUngathered paths edl before after)

  abbrev Stated : List ℕ → ImportCause → Type 0
  Stated name cause = IsStated before (λ store. gathering store paths edl) (record { name = name; cause = cause })

  given : (name : List ℕ) (cause : ImportCause) → Stated name cause → GivesNoRoot before paths edl (of_cause name cause)
  given name cause = one {P = λ store. gathering store paths edl ≡ Err (record { name = name; cause = cause })} {R = λ store. IsNoRoot store paths edl (of_cause name cause)} before.contents
      (λ store is. record { fault = record { name = name; cause = cause }; gathered = is; is_told = refl })

  -- a fault of a file, or want of memory
  in_file : (name : List ℕ) (e : RuleFault) → IsComeTo before.contents paths edl name → GivesNoRoot before paths edl (of_file name e) → Tells (of_file name e)
  in_file name (rule.Rule f) come h = inr (come, h)
  in_file name rule.Memory come h = inl refl

  by_cause : (name : List ℕ) (cause : ImportCause) → IsFault paths before after (λ store. gathering store paths edl) (record { name = name; cause = cause })
      → IsNameOf before.contents paths edl cause name → Tells (of_cause name cause)
  by_cause name causes.NotFound h named = inr (h.0, named, given name causes.NotFound h.1)
  by_cause name (causes.Cycle f) h named = inr (named, given name (causes.Cycle f) h)
  by_cause name (causes.NoSuchName f) h named = inr (named, given name (causes.NoSuchName f) h)
  by_cause name (causes.Conflict f) h named = inr (named, given name (causes.Conflict f) h)
  by_cause name (causes.TooManyFiles f) h named = inr (named, given name (causes.TooManyFiles f) h)
  by_cause name (causes.Lex e) h named = in_file name (of_lexer e) named (given name (causes.Lex e) h)
  by_cause name (causes.Parse e) h named = in_file name (of_parser e) named (given name (causes.Parse e) h)
  by_cause name causes.ReadFault h named = inr (h, named)
  by_cause name causes.Memory h named = inl refl

  -- the files were not gathered
  pub not_gathered : (e : ImportFault) (fault : SourceFault) → IsFault paths before after (λ store. gathering store paths edl) e
      → IsNameOf before.contents paths edl e.cause e.name → OrMemory Memory (λ told. told ≡ of_cause e.name e.cause) fault → Tells fault
  not_gathered e fault h named (inl m) = inl m
  not_gathered e fault h named (inr is) = subst Tells (sym is) (by_cause e.name e.cause h named)
