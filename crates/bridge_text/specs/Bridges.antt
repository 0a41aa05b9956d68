-- The text of bridges and proxies, an instruction at a time.
use Rattle.std.specs.Prelude.{ℕ, ◌-◌, Bool, true, false, ◌&&◌, ◌||◌, if◌then◌else◌, ◌==◌, nat_lt, List, [], ◌∷◌, ◌++◌, map, flat_map, length, slice_get, Option, Some, None, option_map, option_and_then, unwrap_or, decimal, codes}
use Prim.Native.String.{String}
use Rattle.edl_grammar.specs.declared.AttrValue.{AttrValue}
use Rattle.edl_grammar.specs.declared.AttrValue.TheVariants as value
use Rattle.edl_grammar.specs.declared.Declared.{Declared}
use Rattle.edl_grammar.specs.declared.Written.{Written}
use Rattle.edl_grammar.specs.declared.FuncDecl.{FuncDecl}
use Rattle.edl_layout.specs.Frame.{has, is_array, is_pointer, is_by_address, is_void, is_returning}
use Rattle.attr_terms.specs.Attributes.{has_direction, is_string, is_foreign_passed}
use Rattle.attr_terms.specs.Accepted.{value_behind}
use Rattle.bridge_program.specs.declared.Instr.{Instr}
use Rattle.bridge_program.specs.declared.Instr.TheVariants.{Begin, NoFrame, Frame, Length, Outside, Fence, Divide, Alloc, CopyIn, Zero, TextEnd, Call, PutReturn, CopyOut, End, OBegin, OLength, OWithin, OTotal, OAdd, OTake, OField, OBuffer, OCopy, OEnter, OReturn, OBack, OEnd}
use Rattle.bridge_text.specs.Template.{Place, at, fill, lines, filled_lines, with_commas}
use Rattle.bridge_text.specs.Declarations.{spelled, type_text, bare_text, declaration}
use Rattle.bridge_text.specs.Products.{product_text}

-- whether a parameter is copied between host and enclave
abbrev pub is_marshalled : Declared → Bool
is_marshalled p = has_direction p && (is_by_address p || is_foreign_passed p)

-- a function has a frame where it has a parameter or a return
abbrev pub has_frame : FuncDecl → Bool
has_frame f = is_returning f.result || nat_lt 0 (length f.params)

abbrev pub named : Declared → List Place
named p = at "P" p.name ∷ []

abbrev pub named_function : FuncDecl → List Place
named_function f = at "F" f.name ∷ []

-- lines that name a parameter, and lines that name a function
abbrev pub param_lines : Declared → List (List ℕ) → List ℕ
param_lines p templates = filled_lines (named p) templates

abbrev pub function_lines : FuncDecl → List (List ℕ) → List ℕ
function_lines f templates = filled_lines (named_function f) templates

abbrev pub of_param : Declared → List String → List ℕ
of_param p templates = param_lines p (map codes templates)

abbrev pub of_function : FuncDecl → List String → List ℕ
of_function f templates = function_lines f (map codes templates)

-- ---- lengths

-- where a parameter's value is found: in the copy of the frame, or as it was passed
abbrev pub value_text : Bool → List ℕ → List ℕ
value_text is_ecall name = if is_ecall then codes "ms.ms_" ++ name else name

abbrev pub amount_text : Bool → AttrValue → List ℕ
amount_text is_ecall (value.Number n) = decimal n
amount_text is_ecall (value.Named x) = codes "(size_t)" ++ value_text is_ecall x.name

-- what is written behind `size` or `count`
abbrev pub written_amount : List ℕ → Declared → Option AttrValue
written_amount attr p = option_and_then (λ v. v) (value_behind attr p)

abbrev pub size_of : List ℕ → List ℕ
size_of text = codes "sizeof(" ++ text ++ codes ")"

-- what a pointer points to
abbrev pub pointee_text : Written → List ℕ
pointee_text w = spelled w.words (w.stars - 1)

-- the size of the element: of an array, of what a pointer points to, of a foreign value
abbrev pub element_text : Bool → Declared → List ℕ
element_text is_ecall p =
    if has "isptr" p then size_of (codes "*" ++ value_text is_ecall p.name)
    else (if has "isary" p || is_array p then size_of (type_text p.written)
    else (if is_void p.written.base && p.written.stars == 1 then codes "1"
    else size_of (pointee_text p.written)))

-- the bytes of a string that is passed to a proxy
abbrev pub string_size : Declared → List ℕ
string_size p =
    if has "wstring" p then fill (named p) (codes "$P != NULL ? (wcslen($P) + 1) * sizeof(wchar_t) : 0")
    else fill (named p) (codes "$P != NULL ? strlen($P) + 1 : 0")

abbrev pub text_size : Bool → Declared → List ℕ
text_size is_ecall p = if is_ecall then fill (named p) (codes "ms.ms_$P_len") else string_size p

-- the amount that is written, or else this text
abbrev pub written_or : Bool → Option AttrValue → List ℕ → List ℕ
written_or is_ecall None default = default
written_or is_ecall (Some v) default = amount_text is_ecall v

abbrev pub size_text : Bool → Declared → List ℕ
size_text is_ecall p =
    if is_string p then text_size is_ecall p else written_or is_ecall (written_amount (codes "size") p) (element_text is_ecall p)

abbrev pub count_text : Bool → Declared → List ℕ
count_text is_ecall p =
    if is_string p then codes "1"
    else (if is_array p then product_text p.dims
    else written_or is_ecall (written_amount (codes "count") p) (codes "1"))

-- ---- parameters and arguments

-- the arguments of a bridge's call: copies, and the others from the copy of the frame
abbrev pub argument : Declared → List ℕ
argument p = if is_marshalled p then codes "in_" ++ p.name else codes "ms.ms_" ++ p.name

abbrev pub arguments : FuncDecl → List ℕ
arguments f = with_commas (map argument f.params)

-- the parameters as declared, with one for the return before them where there is one
abbrev pub return_text : Written → List ℕ
return_text w = type_text w ++ codes "* retval"

abbrev pub return_param : Written → List (List ℕ)
return_param w = if is_returning w then return_text w ∷ [] else []

abbrev pub plain_params : FuncDecl → List (List ℕ)
plain_params f = map declaration f.params

abbrev pub all_params : FuncDecl → List (List ℕ)
all_params f = return_param f.result ++ plain_params f

abbrev pub params_or_void : List (List ℕ) → List ℕ
params_or_void [] = codes "void"
params_or_void (p ∷ ps) = with_commas (p ∷ ps)

-- ---- templates of bridges

abbrev pub begin_templates : List String
begin_templates = "static sgx_status_t sgx_$F(void* pms)" ∷ "{" ∷ "    sgx_status_t status = SGX_SUCCESS;" ∷ []

-- the test of the frame, and its copy
abbrev pub frame_templates : List String
frame_templates =
    "    ms_$F_t ms;"
    ∷ "    if (pms == NULL || !sgx_is_outside_enclave(pms, sizeof(ms))) return SGX_ERROR_INVALID_PARAMETER;"
    ∷ "    sgx_lfence();"
    ∷ "    memcpy(&ms, pms, sizeof(ms));" ∷ []

abbrev pub fence_templates : List String
fence_templates = "    sgx_lfence();" ∷ []

abbrev pub put_return_templates : List String
put_return_templates = "    ((ms_$F_t*)pms)->ms_retval = ret;" ∷ []

abbrev pub length_templates : List String
length_templates =
    "    size_t size_$P = $S;"
    ∷ "    size_t count_$P = $C;"
    ∷ "    size_t len_$P = size_$P * count_$P;"
    ∷ "    void* in_$P = NULL;"
    ∷ "    if (count_$P != 0 && size_$P > SIZE_MAX / count_$P) return SGX_ERROR_INVALID_PARAMETER;" ∷ []

abbrev pub length_places : Declared → List Place
length_places p = at "P" p.name ∷ at "S" (size_text true p) ∷ at "C" (count_text true p) ∷ []

abbrev pub length_lines : Declared → List ℕ
length_lines p = lines (length_places p) length_templates

-- the test that a pointer leads out of the enclave
abbrev pub outside_templates : List String
outside_templates =
    "    if (ms.ms_$P != NULL && !sgx_is_outside_enclave(ms.ms_$P, len_$P)) return SGX_ERROR_INVALID_PARAMETER;" ∷ []

abbrev pub divide_templates : List String
divide_templates =
    "    if (ms.ms_$P != NULL && len_$P != 0 && len_$P % $E != 0) { status = SGX_ERROR_INVALID_PARAMETER; goto end; }" ∷ []

abbrev pub divide_lines : Declared → List ℕ
divide_lines p = lines (at "P" p.name ∷ at "E" (element_text true p) ∷ []) divide_templates

abbrev pub alloc_templates : List String
alloc_templates =
    "    if (ms.ms_$P != NULL && len_$P != 0 && (in_$P = malloc(len_$P)) == NULL) { status = SGX_ERROR_OUT_OF_MEMORY; goto end; }" ∷ []

abbrev pub copy_in_templates : List String
copy_in_templates = "    if (in_$P != NULL) memcpy(in_$P, ms.ms_$P, len_$P);" ∷ []

abbrev pub zero_templates : List String
zero_templates = "    if (in_$P != NULL) memset(in_$P, 0, len_$P);" ∷ []

-- the end of a string's copy, wide or narrow, and the test that it is its first
abbrev pub text_end_templates : Bool → List String
text_end_templates true =
    "    if (in_$P != NULL) {"
    ∷ "        ((wchar_t*)in_$P)[len_$P / sizeof(wchar_t) - 1] = 0;"
    ∷ "        if (wcslen(in_$P) + 1 != len_$P / sizeof(wchar_t)) { status = SGX_ERROR_UNEXPECTED; goto end; }"
    ∷ "    }" ∷ []
text_end_templates false =
    "    if (in_$P != NULL) {"
    ∷ "        ((char*)in_$P)[len_$P - 1] = 0;"
    ∷ "        if (strlen(in_$P) + 1 != len_$P) { status = SGX_ERROR_UNEXPECTED; goto end; }"
    ∷ "    }" ∷ []

abbrev pub text_end_lines : Declared → List ℕ
text_end_lines p = if has "wstring" p then of_param p (text_end_templates true) else of_param p (text_end_templates false)

-- the end of a string that is copied back
abbrev pub end_templates : Bool → List String
end_templates true =
    "    if (in_$P != NULL) ((wchar_t*)in_$P)[len_$P / sizeof(wchar_t) - 1] = 0;"
    ∷ "    if (in_$P != NULL) len_$P = (wcslen(in_$P) + 1) * sizeof(wchar_t);" ∷ []
end_templates false =
    "    if (in_$P != NULL) ((char*)in_$P)[len_$P - 1] = 0;" ∷ "    if (in_$P != NULL) len_$P = strlen(in_$P) + 1;" ∷ []

unfoldable pub end_lines : Declared → List ℕ
end_lines p =
    if has "wstring" p then of_param p (end_templates true)
    else (if has "string" p then of_param p (end_templates false)
    else [])

abbrev pub copy_out_templates : List String
copy_out_templates = "    if (in_$P != NULL) memcpy(ms.ms_$P, in_$P, len_$P);" ∷ []

abbrev pub copy_out_lines : Declared → List ℕ
copy_out_lines p = end_lines p ++ of_param p copy_out_templates

-- the call of a function that returns, and of another one
abbrev pub returning_call_places : FuncDecl → List Place
returning_call_places f = at "R" (type_text f.result) ∷ at "F" f.name ∷ at "A" (arguments f) ∷ []

abbrev pub returning_call_lines : FuncDecl → List ℕ
returning_call_lines f = lines (returning_call_places f) ("    $R ret = $F($A);" ∷ [])

abbrev pub plain_call_places : FuncDecl → List Place
plain_call_places f = at "F" f.name ∷ at "A" (arguments f) ∷ []

abbrev pub plain_call_lines : FuncDecl → List ℕ
plain_call_lines f = lines (plain_call_places f) ("    $F($A);" ∷ [])

abbrev pub call_lines : FuncDecl → List ℕ
call_lines f = if is_returning f.result then returning_call_lines f else plain_call_lines f

abbrev pub free_templates : List String
free_templates = "    free(in_$P);" ∷ []

abbrev pub free_lines : Declared → List ℕ
free_lines p = if is_marshalled p then of_param p free_templates else []

-- the frees, last first
abbrev pub frees : List Declared → List ℕ
frees [] = []
frees (p ∷ ps) = frees ps ++ free_lines p

abbrev pub end_of_bridge : List String
end_of_bridge = "    return status;" ∷ "}" ∷ []

abbrev pub bridge_end_lines : FuncDecl → List ℕ
bridge_end_lines f = of_function f ("end:" ∷ []) ++ frees f.params ++ of_function f end_of_bridge

-- ---- templates of proxies

abbrev pub begin_lines : FuncDecl → List ℕ
begin_lines f =
    lines (at "F" f.name ∷ at "A" (params_or_void (all_params f)) ∷ [])
    ("sgx_status_t $F($A)" ∷ "{" ∷ "    sgx_status_t status = SGX_SUCCESS;" ∷ [])

abbrev pub proxy_length_lines : Declared → List ℕ
proxy_length_lines p =
    lines (at "P" p.name ∷ at "S" (size_text false p) ∷ at "C" (count_text false p) ∷ [])
    ("    size_t size_$P = $S;"
    ∷ "    size_t count_$P = $C;"
    ∷ "    size_t len_$P = size_$P * count_$P;"
    ∷ "    if (count_$P != 0 && size_$P > SIZE_MAX / count_$P) return SGX_ERROR_INVALID_PARAMETER;" ∷ [])

abbrev pub field_lines : Declared → List ℕ
field_lines p =
    if has "user_check" p then of_param p ("    ms->ms_$P = (void*)$P;" ∷ []) else of_param p ("    ms->ms_$P = $P;" ∷ [])

-- the end of a string that came back
unfoldable pub back_end_lines : Declared → List ℕ
back_end_lines p =
    if has "wstring" p
    then of_param p ("    if (status == SGX_SUCCESS && at_$P != NULL) ((wchar_t*)$P)[len_$P / sizeof(wchar_t) - 1] = 0;" ∷ [])
    else (if has "string" p
    then of_param p ("    if (status == SGX_SUCCESS && at_$P != NULL) ((char*)$P)[len_$P - 1] = 0;" ∷ [])
    else [])

abbrev pub back_lines : Declared → List ℕ
back_lines p =
    of_param p ("    if (status == SGX_SUCCESS && at_$P != NULL) memcpy((void*)$P, at_$P, len_$P);" ∷ [])
    ++ back_end_lines p

-- the call into the host, with the frame or without one
abbrev pub enter_template : Bool → Bool → List ℕ
enter_template true true = codes "    status = sgx_ocall_switchless($O, ms);"
enter_template true false = codes "    status = sgx_ocall($O, ms);"
enter_template false true = codes "    status = sgx_ocall_switchless($O, NULL);"
enter_template false false = codes "    status = sgx_ocall($O, NULL);"

abbrev pub enter_lines : FuncDecl → ℕ → List ℕ
enter_lines f ordinal = filled_lines (at "O" (decimal ordinal) ∷ []) (enter_template (has_frame f) f.switchless ∷ [])

abbrev pub proxy_end_lines : FuncDecl → List ℕ
proxy_end_lines f =
    if has_frame f
    then of_function f ("    sgx_ocfree();" ∷ "    return status;" ∷ "}" ∷ [])
    else of_function f ("    return status;" ∷ "}" ∷ [])

-- ---- instructions

-- the number of the parameter that an instruction is of
abbrev pub param_of : Instr → Option ℕ
param_of (Length n) = Some n
param_of (Outside n) = Some n
param_of (Divide n) = Some n
param_of (Alloc n) = Some n
param_of (CopyIn n) = Some n
param_of (Zero n) = Some n
param_of (TextEnd n) = Some n
param_of (CopyOut n) = Some n
param_of (OLength n) = Some n
param_of (OWithin n) = Some n
param_of (OAdd n) = Some n
param_of (OField n) = Some n
param_of (OBuffer n) = Some n
param_of (OCopy n) = Some n
param_of (OBack n) = Some n
param_of _ = None

-- the text of an instruction of a parameter
abbrev pub param_text : Declared → Instr → List ℕ
param_text p (Length n) = length_lines p
param_text p (Outside n) = of_param p outside_templates
param_text p (Divide n) = divide_lines p
param_text p (Alloc n) = of_param p alloc_templates
param_text p (CopyIn n) = of_param p copy_in_templates
param_text p (Zero n) = of_param p zero_templates
param_text p (TextEnd n) = text_end_lines p
param_text p (CopyOut n) = copy_out_lines p
param_text p (OLength n) = proxy_length_lines p
param_text p (OWithin n) =
    of_param p ("    if ($P != NULL && !sgx_is_within_enclave($P, len_$P)) return SGX_ERROR_INVALID_PARAMETER;" ∷ [])
param_text p (OAdd n) =
    of_param p
    ("    if ($P != NULL) { if (total > SIZE_MAX - len_$P) return SGX_ERROR_INVALID_PARAMETER; total += len_$P; }" ∷ [])
param_text p (OField n) = field_lines p
param_text p (OBuffer n) =
    of_param p
    ("    uint8_t* at_$P = NULL;"
    ∷ "    if ($P != NULL && len_$P != 0) { at_$P = next; next += len_$P; }"
    ∷ "    ms->ms_$P = (void*)at_$P;" ∷ [])
param_text p (OCopy n) = of_param p ("    if (at_$P != NULL) memcpy(at_$P, $P, len_$P);" ∷ [])
param_text p (OBack n) = back_lines p
param_text p _ = []

-- the text of an instruction of the function with this ordinal
abbrev pub function_text : FuncDecl → ℕ → Instr → List ℕ
function_text f ordinal Begin = of_function f begin_templates
function_text f ordinal NoFrame = of_function f ("    if (pms != NULL) return SGX_ERROR_INVALID_PARAMETER;" ∷ [])
function_text f ordinal Frame = of_function f frame_templates
function_text f ordinal Fence = of_function f fence_templates
function_text f ordinal Call = call_lines f
function_text f ordinal PutReturn = of_function f put_return_templates
function_text f ordinal End = bridge_end_lines f
function_text f ordinal OBegin = begin_lines f
function_text f ordinal OTotal = of_function f ("    size_t total = sizeof(ms_$F_t);" ∷ [])
function_text f ordinal OTake =
    of_function f
    ("    ms_$F_t* ms = sgx_ocalloc(total);"
    ∷ "    if (ms == NULL) { sgx_ocfree(); return SGX_ERROR_UNEXPECTED; }"
    ∷ "    memset(ms, 0, total);"
    ∷ "    uint8_t* next = (uint8_t*)(ms + 1);" ∷ [])
function_text f ordinal OEnter = enter_lines f ordinal
function_text f ordinal OReturn = of_function f ("    if (status == SGX_SUCCESS && retval != NULL) *retval = ms->ms_retval;" ∷ [])
function_text f ordinal OEnd = proxy_end_lines f
function_text f ordinal _ = []

-- the text of an instruction of a parameter, where there is one of its number
abbrev pub numbered_text : FuncDecl → Instr → Option ℕ → ℕ → List ℕ
numbered_text f instr None ordinal = function_text f ordinal instr
numbered_text f instr (Some n) ordinal = unwrap_or (option_map (λ p. param_text p instr) (slice_get f.params n)) []

-- the text of an instruction
abbrev pub instr_text : FuncDecl → ℕ → Instr → List ℕ
instr_text f ordinal instr = numbered_text f instr (param_of instr) ordinal

-- the text of a list
abbrev pub list_text : FuncDecl → ℕ → List Instr → List ℕ
list_text f ordinal list = flat_map (instr_text f ordinal) list

-- ---- the marshalling structure

-- the fields of foreign arrays and of arrays are addresses
abbrev pub foreign_array_type : Declared → List ℕ
foreign_array_type p = type_text p.written ++ codes "*"

abbrev pub array_type : Declared → List ℕ
array_type p = bare_text p.written p.written.stars ++ codes "*"

abbrev pub field_type : Declared → List ℕ
field_type p =
    if has "isary" p then foreign_array_type p
    else (if is_array p then array_type p
    else (if is_pointer p then bare_text p.written p.written.stars
    else type_text p.written))

-- the length of a string of an ECALL, behind its field
abbrev pub text_field_lines : Bool → Declared → List ℕ
text_field_lines is_trusted p = if is_trusted && is_string p then of_param p ("size_t ms_$P_len;" ∷ []) else []

-- the field of a parameter
abbrev pub field_text : Bool → Declared → List ℕ
field_text is_trusted p = lines (at "T" (field_type p) ∷ at "P" p.name ∷ []) ("$T ms_$P;" ∷ []) ++ text_field_lines is_trusted p

abbrev pub return_field : FuncDecl → List ℕ
return_field f = if is_returning f.result then lines (at "R" (type_text f.result) ∷ []) ("$R ms_retval;" ∷ []) else []

-- the first and the last line
unfoldable pub frame_head : FuncDecl → List ℕ
frame_head f = of_function f ("typedef struct ms_$F_t {" ∷ [])

unfoldable pub frame_foot : FuncDecl → List ℕ
frame_foot f = of_function f ("} ms_$F_t;" ∷ [])

abbrev pub frame_text : Bool → FuncDecl → List ℕ
frame_text is_trusted f = frame_head f ++ return_field f ++ flat_map (field_text is_trusted) f.params ++ frame_foot f

abbrev pub frame_if_any : Bool → FuncDecl → List ℕ
frame_if_any is_trusted f = if has_frame f then frame_text is_trusted f else []
