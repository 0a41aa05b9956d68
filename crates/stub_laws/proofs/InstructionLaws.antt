-- The lines that instructions print do not name a word that their author does not.
use Rattle.std.proofs.Common.{ℕ, zero, suc, ◌≡◌, Bool, true, false, List, [], ◌∷◌, ◌++◌, refl, arith}
use Rattle.std.specs.Prelude.{◌||◌, if◌then◌else◌, map, option_map, unwrap_or, slice_get, codes}
use Rattle.std.specs.List.{list_any}
use Prim.Native.String.{String}
use Rattle.edl_grammar.specs.declared.Declared.{Declared}
use Rattle.edl_grammar.specs.declared.FuncDecl.{FuncDecl}
use Rattle.edl_layout.specs.Frame.{has, is_returning}
use Rattle.bridge_program.specs.declared.Instr.{Instr}
use Rattle.bridge_program.specs.declared.Instr.TheVariants.{Length, Outside, Fence, Divide, Alloc, CopyIn, Zero, TextEnd, Call, CopyOut, End}
use Rattle.bridge_text.specs.Template.{Place, at, lines}
use Rattle.bridge_text.specs.Bridges.{is_marshalled, named, named_function, of_param, of_function, instr_text, length_places, length_lines, length_templates, outside_templates, divide_lines, divide_templates, alloc_templates, copy_in_templates, zero_templates, text_end_lines, text_end_templates, end_lines, end_templates, copy_out_lines, copy_out_templates, returning_call_lines, returning_call_places, plain_call_lines, plain_call_places, call_lines, free_lines, free_templates, frees, bridge_end_lines, end_of_bridge, fence_templates, element_text}
use Rattle.stub_laws.specs.Words.{names, param_names, author_names}
use Rattle.stub_laws.proofs.WordLaws.{first_not, second_not}
use Rattle.stub_laws.proofs.TemplateLaws.{IsSilent, AreSilent, are_clear, silent_none, silent_both, silent_lines}
use Rattle.stub_laws.proofs.ExpressionLaws.{IsApart, name_silent, type_silent, size_silent, count_silent, element_silent, arguments_silent}

-- lines by their templates
pub silent_by : (w : List ℕ) (places : List Place) (templates : List String) → IsApart w → AreSilent w places
    → are_clear w (map codes templates) ≡ true → IsSilent w (lines places templates)
silent_by w places templates a s h = silent_lines w places (map codes templates) a.some s h

pub silent_either : (w : List ℕ) (t : Bool) (x y : List ℕ) → IsSilent w x → IsSilent w y → IsSilent w (if t then x else y)
silent_either w true x y s u = s
silent_either w false x y s u = u

-- what is printed of one of the parameters
pub silent_param : (w : List ℕ) (text : Declared → List ℕ) (params : List Declared) (n : ℕ)
    → ((p : Declared) → param_names w p ≡ false → IsSilent w (text p)) → list_any (param_names w) params ≡ false
    → IsSilent w (unwrap_or (option_map text (slice_get params n)) [])
silent_param w text [] n s h = silent_none w
silent_param w text (p ∷ params) zero s h = s p (first_not (param_names w p) (list_any (param_names w) params) h)
silent_param w text (p ∷ params) (suc n) s h = silent_param w text params n s (second_not (param_names w p) (list_any (param_names w) params) h)

-- ---- a parameter's lines

module _ (w : List ℕ) (a : IsApart w) (p : Declared) (h : param_names w p ≡ false) where
  pub silent_of_param : (templates : List String) → are_clear w (map codes templates) ≡ true → IsSilent w (of_param p templates)
  silent_of_param templates k = silent_by w (named p) templates a (name_silent w p a h, tt) k

  pub silent_length : IsSilent w (length_lines p)
  silent_length = silent_by w (length_places p) length_templates a (name_silent w p a h, (size_silent w p a h, (count_silent w p a h, tt))) a.lengths

  pub silent_outside : IsSilent w (of_param p outside_templates)
  silent_outside = silent_of_param outside_templates a.outside

  pub silent_divide : are_clear w (map codes divide_templates) ≡ true → IsSilent w (divide_lines p)
  silent_divide k = silent_by w (at "P" p.name ∷ at "E" (element_text true p) ∷ []) divide_templates a (name_silent w p a h, (element_silent w p a h, tt)) k

  pub silent_text_end : are_clear w (map codes (text_end_templates true)) ≡ true → are_clear w (map codes (text_end_templates false)) ≡ true
      → IsSilent w (text_end_lines p)
  silent_text_end k l =
      silent_either w (has "wstring" p) (of_param p (text_end_templates true)) (of_param p (text_end_templates false))
      (silent_of_param (text_end_templates true) k) (silent_of_param (text_end_templates false) l)

  pub silent_end : are_clear w (map codes (end_templates true)) ≡ true → are_clear w (map codes (end_templates false)) ≡ true → IsSilent w (end_lines p)
  unfolding end_lines
  silent_end k l =
      silent_either w (has "wstring" p) (of_param p (end_templates true)) _ (silent_of_param (end_templates true) k)
      (silent_either w (has "string" p) (of_param p (end_templates false)) [] (silent_of_param (end_templates false) l) (silent_none w))

  pub silent_free : are_clear w (map codes free_templates) ≡ true → IsSilent w (free_lines p)
  silent_free k = silent_either w (is_marshalled p) (of_param p free_templates) [] (silent_of_param free_templates k) (silent_none w)

-- ---- a function's lines

pub silent_frees : (w : List ℕ) (params : List Declared) → IsApart w → are_clear w (map codes free_templates) ≡ true
    → list_any (param_names w) params ≡ false → IsSilent w (frees params)
silent_frees w [] a k h = silent_none w
silent_frees w (p ∷ params) a k h =
    silent_both w (frees params) (free_lines p)
    (silent_frees w params a k (second_not (param_names w p) (list_any (param_names w) params) h))
    (silent_free w a p (first_not (param_names w p) (list_any (param_names w) params) h) k)

module _ (w : List ℕ) (a : IsApart w) (f : FuncDecl) (h : author_names w f ≡ false) where
  two : names w f.name || list_any (names w) f.result.words ≡ false
  two = first_not (names w f.name || list_any (names w) f.result.words) (list_any (param_names w) f.params) h

  name : names w f.name ≡ false
  name = first_not (names w f.name) (list_any (names w) f.result.words) two

  result : list_any (names w) f.result.words ≡ false
  result = second_not (names w f.name) (list_any (names w) f.result.words) two

  pub params : list_any (param_names w) f.params ≡ false
  params = second_not (names w f.name || list_any (names w) f.result.words) (list_any (param_names w) f.params) h

  pub silent_of_function : (templates : List String) → are_clear w (map codes templates) ≡ true → IsSilent w (of_function f templates)
  silent_of_function templates k = silent_by w (named_function f) templates a (name, tt) k

  pub silent_call : are_clear w (map codes ("    $R ret = $F($A);" ∷ [])) ≡ true → are_clear w (map codes ("    $F($A);" ∷ [])) ≡ true
      → IsSilent w (call_lines f)
  silent_call k l =
      silent_either w (is_returning f.result) (returning_call_lines f) (plain_call_lines f)
      (silent_by w (returning_call_places f) ("    $R ret = $F($A);" ∷ []) a (type_silent w f.result a result, (name, (arguments_silent w f.params a params, tt))) k)
      (silent_by w (plain_call_places f) ("    $F($A);" ∷ []) a (name, (arguments_silent w f.params a params, tt)) l)

  pub silent_bridge_end : are_clear w (map codes ("end:" ∷ [])) ≡ true → are_clear w (map codes free_templates) ≡ true
      → are_clear w (map codes end_of_bridge) ≡ true → IsSilent w (bridge_end_lines f)
  silent_bridge_end k l m =
      silent_both w (of_function f ("end:" ∷ []) ++ frees f.params) (of_function f end_of_bridge)
      (silent_both w (of_function f ("end:" ∷ [])) (frees f.params) (silent_of_function ("end:" ∷ []) k) (silent_frees w f.params a l params))
      (silent_of_function end_of_bridge m)

-- ---- instructions

-- whether it is one up to the checks
abbrev pub is_check : Instr → Bool
is_check (Length n) = true
is_check (Outside n) = true
is_check _ = false

-- whether it is one behind the copy of the frame that does not put the return
abbrev pub is_quiet : Instr → Bool
is_quiet (Length n) = true
is_quiet (Outside n) = true
is_quiet Fence = true
is_quiet (Divide n) = true
is_quiet (Alloc n) = true
is_quiet (CopyIn n) = true
is_quiet (Zero n) = true
is_quiet (TextEnd n) = true
is_quiet Call = true
is_quiet (CopyOut n) = true
is_quiet End = true
is_quiet _ = false

pub silent_check : (w : List ℕ) (f : FuncDecl) (ordinal : ℕ) (instr : Instr) → IsApart w → author_names w f ≡ false → is_check instr ≡ true
    → IsSilent w (instr_text f ordinal instr)
silent_check w f ordinal (Length n) a h k = silent_param w length_lines f.params n (λ p i. silent_length w a p i) (params w a f h)
silent_check w f ordinal (Outside n) a h k = silent_param w (λ p. of_param p outside_templates) f.params n (λ p i. silent_outside w a p i) (params w a f h)
silent_check w f ordinal _ a h k = absurd (cc)

pub pms_is_apart : IsApart (codes "pms")
pms_is_apart = record { some = refl; first = 112; others = 109 ∷ 115 ∷ []; is = refl; letter = omega arith; size_of = refl; cast = refl; frame = refl; field = refl; copy = refl; text_length = refl; lengths = refl; outside = refl }

pub memcpy_is_apart : IsApart (codes "memcpy")
memcpy_is_apart = record { some = refl; first = 109; others = codes "emcpy"; is = refl; letter = omega arith; size_of = refl; cast = refl; frame = refl; field = refl; copy = refl; text_length = refl; lengths = refl; outside = refl }

pub strlen_is_apart : IsApart (codes "strlen")
strlen_is_apart = record { some = refl; first = 115; others = codes "trlen"; is = refl; letter = omega arith; size_of = refl; cast = refl; frame = refl; field = refl; copy = refl; text_length = refl; lengths = refl; outside = refl }

pub wcslen_is_apart : IsApart (codes "wcslen")
wcslen_is_apart = record { some = refl; first = 119; others = codes "cslen"; is = refl; letter = omega arith; size_of = refl; cast = refl; frame = refl; field = refl; copy = refl; text_length = refl; lengths = refl; outside = refl }

pub silent_quiet : (f : FuncDecl) (ordinal : ℕ) (instr : Instr) → author_names (codes "pms") f ≡ false → is_quiet instr ≡ true
    → IsSilent (codes "pms") (instr_text f ordinal instr)
silent_quiet f ordinal (Length n) h k = silent_check (codes "pms") f ordinal (Length n) pms_is_apart h refl
silent_quiet f ordinal (Outside n) h k = silent_check (codes "pms") f ordinal (Outside n) pms_is_apart h refl
silent_quiet f ordinal Fence h k = silent_of_function (codes "pms") pms_is_apart f h fence_templates refl
silent_quiet f ordinal (Divide n) h k =
    silent_param (codes "pms") divide_lines f.params n (λ p i. silent_divide (codes "pms") pms_is_apart p i refl) (params (codes "pms") pms_is_apart f h)
silent_quiet f ordinal (Alloc n) h k =
    silent_param (codes "pms") (λ p. of_param p alloc_templates) f.params n
    (λ p i. silent_of_param (codes "pms") pms_is_apart p i alloc_templates refl) (params (codes "pms") pms_is_apart f h)
silent_quiet f ordinal (CopyIn n) h k =
    silent_param (codes "pms") (λ p. of_param p copy_in_templates) f.params n
    (λ p i. silent_of_param (codes "pms") pms_is_apart p i copy_in_templates refl) (params (codes "pms") pms_is_apart f h)
silent_quiet f ordinal (Zero n) h k =
    silent_param (codes "pms") (λ p. of_param p zero_templates) f.params n
    (λ p i. silent_of_param (codes "pms") pms_is_apart p i zero_templates refl) (params (codes "pms") pms_is_apart f h)
silent_quiet f ordinal (TextEnd n) h k =
    silent_param (codes "pms") text_end_lines f.params n (λ p i. silent_text_end (codes "pms") pms_is_apart p i refl refl) (params (codes "pms") pms_is_apart f h)
silent_quiet f ordinal Call h k = silent_call (codes "pms") pms_is_apart f h refl refl
silent_quiet f ordinal (CopyOut n) h k =
    silent_param (codes "pms") copy_out_lines f.params n
    (λ p i. silent_both (codes "pms") (end_lines p) (of_param p copy_out_templates)
    (silent_end (codes "pms") pms_is_apart p i refl refl) (silent_of_param (codes "pms") pms_is_apart p i copy_out_templates refl))
    (params (codes "pms") pms_is_apart f h)
silent_quiet f ordinal End h k = silent_bridge_end (codes "pms") pms_is_apart f h refl refl refl
silent_quiet f ordinal _ h k = absurd (cc)
