-- What an author may rely on in a printed bridge.
use Rattle.std.specs.Prelude.{ℕ, ◌≡◌, Bool, true, false, if◌then◌else◌, List, [], ◌∷◌, ◌++◌, slice_get, Some, codes}
use Rattle.std.specs.List.{list_any}
use Rattle.edl_grammar.specs.declared.Declared.{Declared}
use Rattle.edl_grammar.specs.declared.FuncDecl.{FuncDecl}
use Rattle.edl_interface.specs.declared.Param.{Param}
use Rattle.edl_interface.specs.declared.Function.{Function}
use Rattle.edl_interface.specs.Parameters.{is_marshalled, is_out}
use Rattle.bridge_program.specs.declared.Instr.{Instr}
use Rattle.bridge_program.specs.declared.Instr.TheVariants.{Call, PutReturn, CopyOut}
use Rattle.bridge_program.specs.Lists.{ecall_list}
use Rattle.bridge_text.specs.Bridges.{of_param, of_function, begin_templates, frame_templates, put_return_templates, outside_templates, copy_out_lines, call_lines, list_text}
use Rattle.stub_laws.specs.Words.{names}

-- these lines stand among those
pub record Stands (part text : List ℕ) : Type 0 where
  pub before : List ℕ
  pub after : List ℕ
  pub is : text ≡ before ++ part ++ after

-- the first lines of a bridge, of which the last is `memcpy(&ms, pms, sizeof(ms));`
abbrev pub copies_frame : FuncDecl → List ℕ
copies_frame f = of_function f begin_templates ++ of_function f frame_templates

-- `((ms_F_t*)pms)->ms_retval = ret;`
abbrev pub puts_return : FuncDecl → List ℕ
puts_return f = of_function f put_return_templates

-- The frame is read once: behind the line that copies it no line names `pms`, but the one that puts the return. So each
-- address in it is named by its copy, `ms.ms_P`.
pub record ReadsFrameOnce (returns : Bool) (f : FuncDecl) (bridge : List ℕ) : Type 0 where
  pub before : List ℕ
  pub after : List ℕ
  pub lines : bridge ≡ copies_frame f ++ before ++ (if returns then puts_return f else []) ++ after
  pub not_before : names (codes "pms") before ≡ false
  pub not_after : names (codes "pms") after ≡ false

-- the parameter of a number, and how it is declared
pub record IsAt (params : List Param) (declared : List Declared) (n : ℕ) (q : Param) (p : Declared) : Type 0 where
  pub param : slice_get params n ≡ Some q
  pub declared_as : slice_get declared n ≡ Some p

-- `if (ms.ms_P != NULL && !sgx_is_outside_enclave(ms.ms_P, len_P)) return ..;`
abbrev pub checks_pointer : Declared → List ℕ
checks_pointer p = of_param p outside_templates

-- Each pointer is checked before it is followed: between the copy of the frame and whatever reads a byte, which is done
-- by `memcpy`, `strlen` and `wcslen` alone, stands the check of each marshalled parameter.
pub record ChecksPointersFirst (function : Function) (f : FuncDecl) (bridge : List ℕ) : Type 0 where
  pub checks : List ℕ
  pub rest : List ℕ
  pub lines : bridge ≡ copies_frame f ++ checks ++ rest
  pub no_copy : names (codes "memcpy") checks ≡ false
  pub no_narrow_length : names (codes "strlen") checks ≡ false
  pub no_wide_length : names (codes "wcslen") checks ≡ false
  pub each : (n : ℕ) (q : Param) (p : Declared) → IsAt function.params f.params n q p → is_marshalled q.class ≡ true
      → Stands (checks_pointer p) checks

-- what writes to the host
abbrev pub writes_back : Instr → Bool
writes_back (CopyOut n) = true
writes_back PutReturn = true
writes_back _ = false

-- Everything that is copied back is copied behind the call: the instructions before it write nothing to the host, and
-- the lines of each `out` parameter stand behind it.
pub record CopiesBackAfterCall (function : Function) (f : FuncDecl) (ordinal : ℕ) (bridge : List ℕ) : Type 0 where
  pub before : List Instr
  pub after : List Instr
  pub list : ecall_list function ≡ before ++ Call ∷ after
  pub none_before : list_any writes_back before ≡ false
  pub lines : bridge ≡ list_text f ordinal before ++ call_lines f ++ list_text f ordinal after
  pub each : (n : ℕ) (q : Param) (p : Declared) → IsAt function.params f.params n q p → is_out q.class ≡ true
      → Stands (copy_out_lines p) (list_text f ordinal after)
