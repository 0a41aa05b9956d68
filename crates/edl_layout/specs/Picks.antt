-- The functions that an interface takes, and what a check of things in order says.
use Rattle.std.specs.Prelude.{◌≡◌, Bool, true, false, List, All, Option, MatchOption}
use Rattle.edl_grammar.specs.declared.Gathered.{Gathered}
use Rattle.edl_grammar.specs.declared.Pick.{Pick}
use Rattle.edl_grammar.specs.Files.{FunctionIn, trusted_pick, untrusted_pick}
use Rattle.edl_layout.specs.declared.ForeignTypes.{ForeignTypes}
use Rattle.edl_layout.specs.declared.LayoutFault.{LayoutFault}
use Rattle.edl_layout.specs.Faults.{FaultAmong, is_unknown, IsCleanParam, IsCleanFunction, FunctionFault}

abbrev pub pick_of : Gathered → Bool → Pick → Option FunctionIn
pick_of g true p = trusted_pick g p
pick_of g false p = untrusted_pick g p

-- all are clean, or this is the fault of the first that is not
abbrev pub Checked : {U F : Type 0} → (U → Type 0) → (U → F → Type 0) → List U → Option F → Type 0
Checked IsClean HasFault us found = MatchOption found (All IsClean us) (FaultAmong IsClean HasFault us)

module _ (g : Gathered) (foreign : ForeignTypes) where
  abbrev pub IsFunctionFault : FunctionIn → Option LayoutFault → Type 0
  IsFunctionFault f found = MatchOption found (IsCleanFunction g foreign f) (FunctionFault g foreign f)

  -- the fault of a frame, where nothing before it has one
  abbrev pub IsFrameFault : FunctionIn → Option LayoutFault → Type 0
  IsFrameFault f found = is_unknown g foreign f.decl.result ≡ false → All (IsCleanParam g foreign) f.decl.params → IsFunctionFault f found

  abbrev pub AreCheckedFunctions : List FunctionIn → Option LayoutFault → Type 0
  AreCheckedFunctions = Checked (IsCleanFunction g foreign) (FunctionFault g foreign)
