-- The four files of an interface.
use Rattle.std.specs.Prelude.{ℕ, ◌≡◌, ◌<◌, ◌+◌, Bool, true, false, not, ◌||◌, if◌then◌else◌, ◌==◌, List, [], ◌∷◌, ◌++◌, map, filter, flat_map, length, get_or, is_some, option_map, unwrap_or, decimal, codes}
use Rattle.std.specs.List.{list_any}
use Rattle.std.specs.Char.{is_ascii_alphanumeric, to_ascii_uppercase}
use Prim.Native.String.{String}
use Rattle.edl_grammar.specs.declared.Gathered.{Gathered}
use Rattle.edl_grammar.specs.declared.SourceFile.{SourceFile}
use Rattle.edl_grammar.specs.declared.IncludePlace.{IncludePlace}
use Rattle.edl_grammar.specs.declared.IncludePlace.TheVariants as place
use Rattle.edl_grammar.specs.declared.Declared.{Declared}
use Rattle.edl_grammar.specs.declared.FuncDecl.{FuncDecl}
use Rattle.edl_grammar.specs.declared.Written.{Written}
use Rattle.edl_grammar.specs.Files.{trusted_of, untrusted_of}
use Rattle.edl_layout.specs.Frame.{is_by_address, is_returning}
use Rattle.edl_interface.specs.declared.Interface.{Interface}
use Rattle.edl_interface.specs.declared.Function.{Function}
use Rattle.attr_terms.specs.Attributes.{is_string}
use Rattle.attr_terms.specs.Places.{place_in}
use Rattle.bridge_program.specs.declared.bridges.Bridges.{Bridges}
use Rattle.bridge_program.specs.Tables.{bridges_of, list_of}
use Rattle.stub_printer.specs.declared.Which.{Which}
use Rattle.stub_printer.specs.declared.Which.TheVariants as which
use Rattle.stub_printer.specs.declared.Options.{Options}
use Rattle.bridge_text.specs.Template.{at, lines, filled_lines, with_commas}
use Rattle.bridge_text.specs.Declarations.{declarations, type_text}
use Rattle.bridge_text.specs.Types.{all_types}
use Rattle.bridge_text.specs.Bridges.{has_frame, string_size, param_lines, of_function, return_text, params_or_void, all_params, plain_params, list_text, frame_if_any}

-- ---- includes

-- whether an include of this place is one of the side's file
abbrev pub stands_in : Bool → IncludePlace → Bool
stands_in is_trusted place.Outside = true
stands_in is_trusted place.Trusted = is_trusted
stands_in is_trusted place.Untrusted = not is_trusted

-- the texts of a side's includes, of a file and in order of reading
unfoldable pub file_texts : Bool → SourceFile → List (List ℕ)
file_texts is_trusted f = map (λ i. i.text) (filter (λ i. stands_in is_trusted i.place) f.tree.includes)

abbrev pub include_texts : Bool → Gathered → List (List ℕ)
include_texts is_trusted g = flat_map (file_texts is_trusted) g.files

-- an include, which is printed where its text is none of those before it
unfoldable pub include_line : List (List ℕ) → List ℕ → List ℕ
include_line before text = if is_some (place_in text before) then [] else lines (at "X" text ∷ []) ("#include \"$X\"" ∷ [])

abbrev pub include_lines : List (List ℕ) → List (List ℕ) → List ℕ
include_lines before [] = []
include_lines before (t ∷ texts) = include_line before t ++ include_lines (before ++ t ∷ []) texts

-- ---- prototypes

-- `$R $F(PARAMS without retval);`
abbrev pub plain_prototype : FuncDecl → List ℕ
plain_prototype f =
    lines (at "R" (type_text f.result) ∷ at "F" f.name ∷ at "A" (params_or_void (plain_params f)) ∷ []) ("$R $F($A);" ∷ [])

-- the trusted proxy of an OCALL
abbrev pub proxy_prototype : FuncDecl → List ℕ
proxy_prototype f = lines (at "F" f.name ∷ at "A" (params_or_void (all_params f)) ∷ []) ("sgx_status_t $F($A);" ∷ [])

-- the name of the untrusted proxy of an ECALL
abbrev pub entry_name : Options → FuncDecl → List ℕ
entry_name o f = if o.prefix then o.name ++ codes "_" ++ f.name else f.name

-- parameters behind another one
abbrev pub params_behind : List Declared → List ℕ
params_behind [] = []
params_behind (p ∷ ps) = codes ", " ++ declarations (p ∷ ps)

-- the parameter for the return behind the enclave, where there is one
abbrev pub return_behind : Written → List ℕ
return_behind w = if is_returning w then codes ", " ++ return_text w else []

abbrev pub entry_params : FuncDecl → List ℕ
entry_params f = codes "sgx_enclave_id_t eid" ++ return_behind f.result ++ params_behind f.params

-- the untrusted proxy of an ECALL, by a template that ends with or without a semicolon
unfoldable pub entry_head : Options → FuncDecl → List ℕ → List ℕ
entry_head o f template = filled_lines (at "X" (entry_name o f) ∷ at "A" (entry_params f) ∷ []) (template ∷ [])

abbrev pub entry_prototype : Options → FuncDecl → List ℕ
entry_prototype o f = entry_head o f (codes "sgx_status_t $X($A);")

-- ---- functions

-- the text of each function, by its ordinal
abbrev pub each_from : ℕ → (ℕ → FuncDecl → List ℕ) → List FuncDecl → List ℕ
each_from n text [] = []
each_from n text (f ∷ fs) = text n f ++ each_from (n + 1) text fs

abbrev pub ecalls_of : Gathered → List FuncDecl
ecalls_of g = map (λ f. f.decl) (trusted_of g)

abbrev pub ocalls_of : Gathered → List FuncDecl
ocalls_of g = map (λ f. f.decl) (untrusted_of g)

-- ---- headers

-- lines without a place, and lines that name the files
abbrev pub plain_lines : List (List ℕ) → List ℕ
plain_lines templates = filled_lines [] templates

abbrev pub file_lines : Options → List (List ℕ) → List ℕ
file_lines o templates = filled_lines (at "N" o.name ∷ []) templates

abbrev pub plain : List String → List ℕ
plain templates = plain_lines (map codes templates)

abbrev pub of_files : Options → List String → List ℕ
of_files o templates = file_lines o (map codes templates)

-- in capitals, with `_` for each byte that is no letter or digit
abbrev pub guard_byte : ℕ → ℕ
guard_byte b = if is_ascii_alphanumeric b then to_ascii_uppercase b else 95

abbrev pub guard_name : List ℕ → List ℕ
guard_name name = map guard_byte name

-- the lines that guard a header
abbrev pub guard_lines : Options → List (List ℕ) → List ℕ
guard_lines o templates = filled_lines (at "G" (guard_name o.name) ∷ []) templates

unfoldable pub standard_includes : List ℕ
standard_includes =
    plain ("#include <stdint.h>" ∷ "#include <stddef.h>" ∷ "#include <wchar.h>" ∷ "#include \"sgx_edger8r.h\"" ∷ [])

unfoldable pub trusted_guard : Options → List ℕ
trusted_guard o = guard_lines o (map codes ("#ifndef $G_T_H" ∷ "#define $G_T_H" ∷ []))

unfoldable pub untrusted_guard : Options → List ℕ
untrusted_guard o = guard_lines o (map codes ("#ifndef $G_U_H" ∷ "#define $G_U_H" ∷ []))

unfoldable pub header_foot : List ℕ
header_foot = plain ("#endif" ∷ [])

-- the last line of a table
unfoldable pub table_foot : List ℕ
table_foot = plain ("} };" ∷ [])

-- what both headers have between their guards and their prototypes
abbrev pub header_front : Bool → Gathered → List ℕ
header_front is_trusted g = standard_includes ++ include_lines [] (include_texts is_trusted g) ++ all_types g

-- by the functions of both sides
module _ (g : Gathered) (ecalls ocalls : List FuncDecl) (o : Options) where
  abbrev pub trusted_header_of : List ℕ
  trusted_header_of =
      trusted_guard o
      ++ header_front true g
      ++ flat_map plain_prototype ecalls
      ++ flat_map proxy_prototype ocalls
      ++ header_foot

  abbrev pub untrusted_header_of : List ℕ
  untrusted_header_of =
      untrusted_guard o
      ++ header_front false g
      ++ flat_map (entry_prototype o) ecalls
      ++ flat_map plain_prototype ocalls
      ++ header_foot

abbrev pub trusted_header : Gathered → Options → List ℕ
trusted_header g o = trusted_header_of g (ecalls_of g) (ocalls_of g) o

abbrev pub untrusted_header : Gathered → Options → List ℕ
untrusted_header g o = untrusted_header_of g (ecalls_of g) (ocalls_of g) o

-- the marshalling structures of ECALLs, and then of OCALLs
abbrev pub frames : List FuncDecl → List FuncDecl → List ℕ
frames ecalls ocalls = flat_map (frame_if_any true) ecalls ++ flat_map (frame_if_any false) ocalls

-- ---- the trusted source

-- the functions that an interface has on a side
abbrev pub side : Interface → Bool → List Function
side i is_trusted = if is_trusted then i.ecalls else i.ocalls

-- the bridge of a function by its instructions, which the tables have at its ordinal
abbrev pub listed_text : Bridges → Bool → ℕ → FuncDecl → List ℕ
listed_text bridges is_trusted ordinal f = unwrap_or (option_map (list_text f ordinal) (list_of bridges is_trusted ordinal)) []

unfoldable pub flag : Bool → List ℕ
flag b = if b then codes "1" else codes "0"

abbrev pub call_row : FuncDecl → List ℕ
call_row f =
    lines (at "F" f.name ∷ at "p" (flag (not f.is_public)) ∷ at "s" (flag f.switchless) ∷ []) ("    { (void*)sgx_$F, $p, $s }," ∷ [])

-- how many functions there are on a side
abbrev pub counted : List FuncDecl → List ℕ
counted fs = decimal (length fs)

unfoldable pub call_table_head : List FuncDecl → List ℕ
call_table_head ecalls =
    lines (at "n" (counted ecalls) ∷ [])
    ("const struct { size_t nr_ecall; struct { void* call; uint8_t is_priv; uint8_t is_switchless; } table[$n]; } g_ecall_table = { $n, {" ∷ [])

abbrev pub full_call_table : List FuncDecl → List ℕ
full_call_table ecalls = call_table_head ecalls ++ flat_map call_row ecalls ++ table_foot

abbrev pub call_table : List FuncDecl → List ℕ
call_table ecalls =
    if length ecalls == 0 then plain ("const struct { size_t nr_ecall; } g_ecall_table = { 0 };" ∷ []) else full_call_table ecalls

abbrev pub flag_text : Bool → List ℕ
flag_text b = flag b ++ codes ", "

-- whether an OCALL allows the ECALL of an ordinal
abbrev pub allow_flag : List ℕ → ℕ → List ℕ
allow_flag allow ordinal = flag_text (list_any (λ k. k == ordinal) allow)

-- the row tells of each of so many ordinals whether it is among those that are allowed
pub record TellsAllowed (count : ℕ) (allow : List ℕ) (row : List Bool) : Type 0 where
  pub count_is : length row ≡ count
  pub each : (n : ℕ) → n < count → get_or row n false ≡ list_any (λ k. k == n) allow

abbrev pub allow_flags : List ℕ → List FuncDecl → List ℕ
allow_flags allow ecalls = each_from 0 (λ ordinal f. allow_flag allow ordinal) ecalls

abbrev pub entry_row : List FuncDecl → Function → List ℕ
entry_row ecalls f = lines (at "X" (allow_flags f.allow ecalls) ∷ []) ("    { $X}," ∷ [])

abbrev pub bare_entry_table : List FuncDecl → List ℕ
bare_entry_table ocalls =
    lines (at "m" (counted ocalls) ∷ []) ("const struct { size_t nr_ocall; } g_dyn_entry_table = { $m };" ∷ [])

unfoldable pub entry_table_head : List FuncDecl → List FuncDecl → List ℕ
entry_table_head ecalls ocalls =
    lines (at "m" (counted ocalls) ∷ at "n" (counted ecalls) ∷ [])
    ("const struct { size_t nr_ocall; uint8_t entry_table[$m][$n]; } g_dyn_entry_table = { $m, {" ∷ [])

abbrev pub full_entry_table : List FuncDecl → List FuncDecl → List Function → List ℕ
full_entry_table ecalls ocalls functions =
    entry_table_head ecalls ocalls ++ flat_map (entry_row ecalls) functions ++ table_foot

-- without ECALLs or without OCALLs the table has no rows
abbrev pub entry_table : List FuncDecl → List FuncDecl → List Function → List ℕ
entry_table ecalls ocalls functions =
    if length ecalls == 0 || length ocalls == 0 then bare_entry_table ocalls else full_entry_table ecalls ocalls functions

unfoldable pub trusted_source_head : Options → List ℕ
trusted_source_head o =
    of_files o
    ("#include \"$N_t.h\"" ∷ "#include <stdlib.h>" ∷ "#include <string.h>" ∷ "#include \"sgx_trts.h\"" ∷ "#include \"sgx_lfence.h\"" ∷ [])

-- by the functions of both sides, and the tables that their bridges stand in
abbrev pub trusted_source_of : List FuncDecl → List FuncDecl → Bridges → List Function → Options → List ℕ
trusted_source_of ecalls ocalls bridges functions o =
    trusted_source_head o
    ++ frames ecalls ocalls
    ++ each_from 0 (listed_text bridges true) ecalls
    ++ call_table ecalls
    ++ entry_table ecalls ocalls functions
    ++ each_from 0 (listed_text bridges false) ocalls

abbrev pub trusted_source : Gathered → Interface → Options → List ℕ
trusted_source g i o = trusted_source_of (ecalls_of g) (ocalls_of g) (bridges_of i) i.ocalls o

-- ---- the untrusted source

abbrev pub host_argument : Declared → List ℕ
host_argument p = codes "ms->ms_" ++ p.name

-- lines that name the files and a function
abbrev pub host_lines : Options → FuncDecl → List (List ℕ) → List ℕ
host_lines o f templates = filled_lines (at "N" o.name ∷ at "F" f.name ∷ []) templates

unfoldable pub host_frame_lines : FuncDecl → List ℕ
host_frame_lines f = if has_frame f then of_function f ("    ms_$F_t* ms = pms;" ∷ []) else []

abbrev pub host_call_template : Bool → List ℕ
host_call_template true = codes "    ms->ms_retval = $F($A);"
host_call_template false = codes "    $F($A);"

unfoldable pub host_call_lines : FuncDecl → List ℕ
host_call_lines f =
    filled_lines (at "F" f.name ∷ at "A" (with_commas (map host_argument f.params)) ∷ []) (host_call_template (is_returning f.result) ∷ [])

unfoldable pub host_bridge_head : Options → FuncDecl → List ℕ
host_bridge_head o f = host_lines o f (map codes ("static sgx_status_t $N_$F(void* pms)" ∷ "{" ∷ []))

unfoldable pub host_bridge_foot : List ℕ
host_bridge_foot = plain ("    return SGX_SUCCESS;" ∷ "}" ∷ [])

abbrev pub host_bridge : Options → FuncDecl → List ℕ
host_bridge o f = host_bridge_head o f ++ host_frame_lines f ++ host_call_lines f ++ host_bridge_foot

abbrev pub host_row : Options → FuncDecl → List ℕ
host_row o f = host_lines o f (map codes ("    (void*)$N_$F," ∷ []))

unfoldable pub ocall_table_head : Options → List FuncDecl → List ℕ
ocall_table_head o ocalls =
    lines (at "m" (counted ocalls) ∷ at "N" o.name ∷ [])
    ("static const struct { size_t nr_ocall; void* table[$m]; } ocall_table_$N = { $m, {" ∷ [])

abbrev pub full_ocall_table : Options → List FuncDecl → List ℕ
full_ocall_table o ocalls = ocall_table_head o ocalls ++ flat_map (host_row o) ocalls ++ table_foot

-- a table without functions has one entry that is none
abbrev pub ocall_table : Options → List FuncDecl → List ℕ
ocall_table o ocalls =
    if length ocalls == 0
    then of_files o ("static const struct { size_t nr_ocall; void* table[1]; } ocall_table_$N = { 0, {" ∷ "    NULL," ∷ "} };" ∷ [])
    else full_ocall_table o ocalls

-- the length of a string that an ECALL is given
abbrev pub text_length_lines : Declared → List ℕ
text_length_lines p = lines (at "P" p.name ∷ at "S" (string_size p) ∷ []) ("    ms.ms_$P_len = $S;" ∷ [])

abbrev pub host_text_lines : Declared → List ℕ
host_text_lines p =
    if is_string p then text_length_lines p else []

abbrev pub host_field_template : Bool → List ℕ
host_field_template true = codes "    ms.ms_$P = (void*)$P;"
host_field_template false = codes "    ms.ms_$P = $P;"

abbrev pub host_field_lines : Declared → List ℕ
host_field_lines p = param_lines p (host_field_template (is_by_address p) ∷ []) ++ host_text_lines p

unfoldable pub local_frame_lines : FuncDecl → List ℕ
local_frame_lines f = if has_frame f then of_function f ("    ms_$F_t ms;" ∷ []) else []

abbrev pub entry_call_template : Bool → Bool → List ℕ
entry_call_template true true = codes "    status = sgx_ecall_switchless(eid, $O, &ocall_table_$N, &ms);"
entry_call_template true false = codes "    status = sgx_ecall(eid, $O, &ocall_table_$N, &ms);"
entry_call_template false true = codes "    status = sgx_ecall_switchless(eid, $O, &ocall_table_$N, NULL);"
entry_call_template false false = codes "    status = sgx_ecall(eid, $O, &ocall_table_$N, NULL);"

unfoldable pub entry_call_lines : Options → ℕ → FuncDecl → List ℕ
entry_call_lines o ordinal f =
    filled_lines (at "O" (decimal ordinal) ∷ at "N" o.name ∷ []) (entry_call_template (has_frame f) f.switchless ∷ [])

unfoldable pub entry_return_lines : FuncDecl → List ℕ
entry_return_lines f =
    if is_returning f.result
    then of_function f ("    if (status == SGX_SUCCESS && retval != NULL) *retval = ms.ms_retval;" ∷ [])
    else []

unfoldable pub entry_definition : Options → FuncDecl → List ℕ
entry_definition o f = entry_head o f (codes "sgx_status_t $X($A)")

unfoldable pub entry_body : FuncDecl → List ℕ
entry_body f = of_function f ("{" ∷ "    sgx_status_t status;" ∷ [])

unfoldable pub entry_foot : FuncDecl → List ℕ
entry_foot f = of_function f ("    return status;" ∷ "}" ∷ [])

abbrev pub entry_proxy : Options → ℕ → FuncDecl → List ℕ
entry_proxy o ordinal f =
    entry_definition o f
    ++ entry_body f
    ++ local_frame_lines f
    ++ flat_map host_field_lines f.params
    ++ entry_call_lines o ordinal f
    ++ entry_return_lines f
    ++ entry_foot f

unfoldable pub untrusted_source_head : Options → List ℕ
untrusted_source_head o = of_files o ("#include \"$N_u.h\"" ∷ "#include <string.h>" ∷ [])

abbrev pub untrusted_source_of : List FuncDecl → List FuncDecl → Options → List ℕ
untrusted_source_of ecalls ocalls o =
    untrusted_source_head o
    ++ frames ecalls ocalls
    ++ flat_map (host_bridge o) ocalls
    ++ ocall_table o ocalls
    ++ each_from 0 (entry_proxy o) ecalls

abbrev pub untrusted_source : Gathered → Options → List ℕ
untrusted_source g o = untrusted_source_of (ecalls_of g) (ocalls_of g) o

-- the text of a file
abbrev pub stub_text : Gathered → Interface → Options → Which → List ℕ
stub_text g i o which.TrustedHeader = trusted_header g o
stub_text g i o which.TrustedSource = trusted_source g i o
stub_text g i o which.UntrustedHeader = untrusted_header g o
stub_text g i o which.UntrustedSource = untrusted_source g o
