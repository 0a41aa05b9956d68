-- Short interfaces and the texts of their files.
use Rattle.std.specs.Prelude.{ℕ, ◌+◌, ◌≡◌, Bool, true, false, List, [], ◌∷◌, ◌++◌, flat_map, Some, None, Result, Ok, Err, codes}
use Prim.Native.String.{String}
use Rattle.sgx_base.specs.declared.Passing.TheVariants as passing
use Rattle.edl_grammar.specs.declared.EdlFile.{EdlFile}
use Rattle.edl_grammar.specs.declared.SourceFile.{SourceFile}
use Rattle.edl_grammar.specs.declared.ParseFault.{ParseFault}
use Rattle.edl_grammar.specs.declared.Gathered.{Gathered}
use Rattle.edl_grammar.specs.declared.Pick.{Pick}
use Rattle.edl_grammar.specs.declared.FuncDecl.{FuncDecl}
use Rattle.edl_grammar.specs.Grammar.{nothing}
use Rattle.edl_grammar.specs.Examples.{parsed}
use Rattle.edl_interface.specs.declared.Interface.{Interface}
use Rattle.edl_interface.specs.declared.Amount.TheVariants as amount
use Rattle.edl_interface.specs.declared.Class.TheVariants as class
use Rattle.stub_printer.specs.declared.Which.{Which}
use Rattle.stub_printer.specs.declared.Which.TheVariants as which
use Rattle.std.specs.List.{list_any}
use Rattle.stub_printer.specs.Stubs.{stub_text, ecalls_of}
use Rattle.stub_laws.specs.Words.{names, author_names}

abbrev tree_or_none : Result EdlFile ParseFault → EdlFile
tree_or_none (Ok tree) = tree
tree_or_none (Err e) = nothing

abbrev file_of : String → String → SourceFile
file_of name text = record { name = codes name; tokens = []; tree = tree_or_none (parsed (codes text)) }

abbrev picks_from : ℕ → ℕ → List FuncDecl → List Pick
picks_from file n [] = []
picks_from file n (f ∷ fs) = record { file = file; index = n } ∷ picks_from file (n + 1) fs

-- files of which each gives all its functions
abbrev picks_of : (SourceFile → List FuncDecl) → ℕ → List SourceFile → List Pick
picks_of functions n [] = []
picks_of functions n (f ∷ files) = picks_from n 0 (functions f) ++ picks_of functions (n + 1) files

abbrev gathered_of : List SourceFile → Gathered
gathered_of files = record {
  files = files;
  trusted = picks_of (λ f. f.tree.trusted) 0 files;
  untrusted = picks_of (λ f. f.tree.untrusted) 0 files;
}

-- a file of an interface, under a name and with or without a prefix
abbrev stub : Which → String → Bool → List SourceFile → Interface → List ℕ
stub file name prefix files interface = stub_text (gathered_of files) interface (record { name = codes name; prefix = prefix }) file

-- lines, each ended by a line feed
abbrev text_of : List String → List ℕ
text_of = flat_map (λ l. codes l ++ 10 ∷ [])

-- ---- an ECALL with a buffer and a return; no OCALLs

abbrev pub buffer_files : List SourceFile
buffer_files =
    file_of "z.edl" "enclave { trusted { public uint64_t f([in, size=len] const uint8_t* buf, size_t len); }; };"
    ∷ []

abbrev pub buffer_interface : Interface
buffer_interface = record {
  ecalls =
      record {
        name = codes "f";
        is_public = true;
        switchless = false;
        ret = Some (record { size = 8; integer = true; signed = false });
        params = record { name = codes "buf"; offset = 8; class = class.Buffer passing.Inward (amount.Param 1) (amount.Number 1) 1 }
            ∷ record { name = codes "len"; offset = 16; class = class.Plain (record { size = 8; integer = true; signed = false }) }
            ∷ [];
        allow = [];
        frame_size = 24;
      }
      ∷ [];
  ocalls =
      [];
}

abbrev pub buffer_trusted_source_text : List String
buffer_trusted_source_text =
    "#include \"z_t.h\""
    ∷ "#include <stdlib.h>"
    ∷ "#include <string.h>"
    ∷ "#include \"sgx_trts.h\""
    ∷ "#include \"sgx_lfence.h\""
    ∷ "typedef struct ms_f_t {"
    ∷ "uint64_t ms_retval;"
    ∷ "uint8_t* ms_buf;"
    ∷ "size_t ms_len;"
    ∷ "} ms_f_t;"
    ∷ "static sgx_status_t sgx_f(void* pms)"
    ∷ "{"
    ∷ "    sgx_status_t status = SGX_SUCCESS;"
    ∷ "    ms_f_t ms;"
    ∷ "    if (pms == NULL || !sgx_is_outside_enclave(pms, sizeof(ms))) return SGX_ERROR_INVALID_PARAMETER;"
    ∷ "    sgx_lfence();"
    ∷ "    memcpy(&ms, pms, sizeof(ms));"
    ∷ "    size_t size_buf = (size_t)ms.ms_len;"
    ∷ "    size_t count_buf = 1;"
    ∷ "    size_t len_buf = size_buf * count_buf;"
    ∷ "    void* in_buf = NULL;"
    ∷ "    if (count_buf != 0 && size_buf > SIZE_MAX / count_buf) return SGX_ERROR_INVALID_PARAMETER;"
    ∷ "    if (ms.ms_buf != NULL && !sgx_is_outside_enclave(ms.ms_buf, len_buf)) return SGX_ERROR_INVALID_PARAMETER;"
    ∷ "    sgx_lfence();"
    ∷ "    if (ms.ms_buf != NULL && len_buf != 0 && len_buf % sizeof(const uint8_t) != 0) { status = SGX_ERROR_INVALID_PARAMETER; goto end; }"
    ∷ "    if (ms.ms_buf != NULL && len_buf != 0 && (in_buf = malloc(len_buf)) == NULL) { status = SGX_ERROR_OUT_OF_MEMORY; goto end; }"
    ∷ "    if (in_buf != NULL) memcpy(in_buf, ms.ms_buf, len_buf);"
    ∷ "    uint64_t ret = f(in_buf, ms.ms_len);"
    ∷ "    ((ms_f_t*)pms)->ms_retval = ret;"
    ∷ "end:"
    ∷ "    free(in_buf);"
    ∷ "    return status;"
    ∷ "}"
    ∷ "const struct { size_t nr_ecall; struct { void* call; uint8_t is_priv; uint8_t is_switchless; } table[1]; } g_ecall_table = { 1, {"
    ∷ "    { (void*)sgx_f, 0, 0 },"
    ∷ "} };"
    ∷ "const struct { size_t nr_ocall; } g_dyn_entry_table = { 0 };"
    ∷ []

abbrev pub buffer_untrusted_source_text : List String
buffer_untrusted_source_text =
    "#include \"z_u.h\""
    ∷ "#include <string.h>"
    ∷ "typedef struct ms_f_t {"
    ∷ "uint64_t ms_retval;"
    ∷ "uint8_t* ms_buf;"
    ∷ "size_t ms_len;"
    ∷ "} ms_f_t;"
    ∷ "static const struct { size_t nr_ocall; void* table[1]; } ocall_table_z = { 0, {"
    ∷ "    NULL,"
    ∷ "} };"
    ∷ "sgx_status_t f(sgx_enclave_id_t eid, uint64_t* retval, const uint8_t* buf, size_t len)"
    ∷ "{"
    ∷ "    sgx_status_t status;"
    ∷ "    ms_f_t ms;"
    ∷ "    ms.ms_buf = (void*)buf;"
    ∷ "    ms.ms_len = len;"
    ∷ "    status = sgx_ecall(eid, 0, &ocall_table_z, &ms);"
    ∷ "    if (status == SGX_SUCCESS && retval != NULL) *retval = ms.ms_retval;"
    ∷ "    return status;"
    ∷ "}"
    ∷ []

-- ---- two files: enumerations, structures, a string, an array, pointers to pointers

abbrev pub events_files : List SourceFile
events_files =
    file_of "Enclave.edl" "enclave { from \"sgx_tstdc.edl\" import *; enum mode { OFF, ON = 5 }; struct pair { int a; long b; }; trusted { public void run([in] struct pair* p, enum mode m); }; untrusted { void ocall_print_string([in, string] const char* str); }; };"
    ∷ file_of "sgx_tstdc.edl" "enclave { untrusted { [cdecl] void sgx_oc_cpuidex([out] int cpuinfo[4], int leaf, int subleaf); int sgx_thread_set_multiple_untrusted_events_ocall([in, count = total] const void **waiters, size_t total); }; };"
    ∷ []

abbrev pub events_interface : Interface
events_interface = record {
  ecalls =
      record {
        name = codes "run";
        is_public = true;
        switchless = false;
        ret = None;
        params = record { name = codes "p"; offset = 0; class = class.Buffer passing.Inward (amount.Number 16) (amount.Number 1) 16 }
            ∷ record { name = codes "m"; offset = 8; class = class.Plain (record { size = 4; integer = false; signed = false }) }
            ∷ [];
        allow = [];
        frame_size = 16;
      }
      ∷ [];
  ocalls =
      record {
        name = codes "ocall_print_string";
        is_public = false;
        switchless = false;
        ret = None;
        params = record { name = codes "str"; offset = 0; class = class.Text passing.Inward 1 }
            ∷ [];
        allow = [];
        frame_size = 8;
      }
      ∷ record {
        name = codes "sgx_oc_cpuidex";
        is_public = false;
        switchless = false;
        ret = None;
        params = record { name = codes "cpuinfo"; offset = 0; class = class.Fixed passing.Outward 16 4 }
            ∷ record { name = codes "leaf"; offset = 8; class = class.Plain (record { size = 4; integer = true; signed = true }) }
            ∷ record { name = codes "subleaf"; offset = 12; class = class.Plain (record { size = 4; integer = true; signed = true }) }
            ∷ [];
        allow = [];
        frame_size = 16;
      }
      ∷ record {
        name = codes "sgx_thread_set_multiple_untrusted_events_ocall";
        is_public = false;
        switchless = false;
        ret = Some (record { size = 4; integer = true; signed = true });
        params = record { name = codes "waiters"; offset = 8; class = class.Buffer passing.Inward (amount.Number 8) (amount.Param 1) 8 }
            ∷ record { name = codes "total"; offset = 16; class = class.Plain (record { size = 8; integer = true; signed = false }) }
            ∷ [];
        allow = [];
        frame_size = 24;
      }
      ∷ [];
}

abbrev pub events_trusted_header_text : List String
events_trusted_header_text =
    "#ifndef ENCLAVE_T_H"
    ∷ "#define ENCLAVE_T_H"
    ∷ "#include <stdint.h>"
    ∷ "#include <stddef.h>"
    ∷ "#include <wchar.h>"
    ∷ "#include \"sgx_edger8r.h\""
    ∷ "typedef enum mode {"
    ∷ "    OFF = 0,"
    ∷ "    ON = 5,"
    ∷ "} mode;"
    ∷ "typedef struct pair {"
    ∷ "    int a;"
    ∷ "    long b;"
    ∷ "} pair;"
    ∷ "void run(struct pair* p, enum mode m);"
    ∷ "sgx_status_t ocall_print_string(const char* str);"
    ∷ "sgx_status_t sgx_oc_cpuidex(int cpuinfo[4], int leaf, int subleaf);"
    ∷ "sgx_status_t sgx_thread_set_multiple_untrusted_events_ocall(int* retval, const void** waiters, size_t total);"
    ∷ "#endif"
    ∷ []

abbrev pub events_trusted_source_text : List String
events_trusted_source_text =
    "#include \"Enclave_t.h\""
    ∷ "#include <stdlib.h>"
    ∷ "#include <string.h>"
    ∷ "#include \"sgx_trts.h\""
    ∷ "#include \"sgx_lfence.h\""
    ∷ "typedef struct ms_run_t {"
    ∷ "struct pair* ms_p;"
    ∷ "enum mode ms_m;"
    ∷ "} ms_run_t;"
    ∷ "typedef struct ms_ocall_print_string_t {"
    ∷ "char* ms_str;"
    ∷ "} ms_ocall_print_string_t;"
    ∷ "typedef struct ms_sgx_oc_cpuidex_t {"
    ∷ "int* ms_cpuinfo;"
    ∷ "int ms_leaf;"
    ∷ "int ms_subleaf;"
    ∷ "} ms_sgx_oc_cpuidex_t;"
    ∷ "typedef struct ms_sgx_thread_set_multiple_untrusted_events_ocall_t {"
    ∷ "int ms_retval;"
    ∷ "void** ms_waiters;"
    ∷ "size_t ms_total;"
    ∷ "} ms_sgx_thread_set_multiple_untrusted_events_ocall_t;"
    ∷ "static sgx_status_t sgx_run(void* pms)"
    ∷ "{"
    ∷ "    sgx_status_t status = SGX_SUCCESS;"
    ∷ "    ms_run_t ms;"
    ∷ "    if (pms == NULL || !sgx_is_outside_enclave(pms, sizeof(ms))) return SGX_ERROR_INVALID_PARAMETER;"
    ∷ "    sgx_lfence();"
    ∷ "    memcpy(&ms, pms, sizeof(ms));"
    ∷ "    size_t size_p = sizeof(struct pair);"
    ∷ "    size_t count_p = 1;"
    ∷ "    size_t len_p = size_p * count_p;"
    ∷ "    void* in_p = NULL;"
    ∷ "    if (count_p != 0 && size_p > SIZE_MAX / count_p) return SGX_ERROR_INVALID_PARAMETER;"
    ∷ "    if (ms.ms_p != NULL && !sgx_is_outside_enclave(ms.ms_p, len_p)) return SGX_ERROR_INVALID_PARAMETER;"
    ∷ "    sgx_lfence();"
    ∷ "    if (ms.ms_p != NULL && len_p != 0 && len_p % sizeof(struct pair) != 0) { status = SGX_ERROR_INVALID_PARAMETER; goto end; }"
    ∷ "    if (ms.ms_p != NULL && len_p != 0 && (in_p = malloc(len_p)) == NULL) { status = SGX_ERROR_OUT_OF_MEMORY; goto end; }"
    ∷ "    if (in_p != NULL) memcpy(in_p, ms.ms_p, len_p);"
    ∷ "    run(in_p, ms.ms_m);"
    ∷ "end:"
    ∷ "    free(in_p);"
    ∷ "    return status;"
    ∷ "}"
    ∷ "const struct { size_t nr_ecall; struct { void* call; uint8_t is_priv; uint8_t is_switchless; } table[1]; } g_ecall_table = { 1, {"
    ∷ "    { (void*)sgx_run, 0, 0 },"
    ∷ "} };"
    ∷ "const struct { size_t nr_ocall; uint8_t entry_table[3][1]; } g_dyn_entry_table = { 3, {"
    ∷ "    { 0, },"
    ∷ "    { 0, },"
    ∷ "    { 0, },"
    ∷ "} };"
    ∷ "sgx_status_t ocall_print_string(const char* str)"
    ∷ "{"
    ∷ "    sgx_status_t status = SGX_SUCCESS;"
    ∷ "    size_t size_str = str != NULL ? strlen(str) + 1 : 0;"
    ∷ "    size_t count_str = 1;"
    ∷ "    size_t len_str = size_str * count_str;"
    ∷ "    if (count_str != 0 && size_str > SIZE_MAX / count_str) return SGX_ERROR_INVALID_PARAMETER;"
    ∷ "    if (str != NULL && !sgx_is_within_enclave(str, len_str)) return SGX_ERROR_INVALID_PARAMETER;"
    ∷ "    size_t total = sizeof(ms_ocall_print_string_t);"
    ∷ "    if (str != NULL) { if (total > SIZE_MAX - len_str) return SGX_ERROR_INVALID_PARAMETER; total += len_str; }"
    ∷ "    ms_ocall_print_string_t* ms = sgx_ocalloc(total);"
    ∷ "    if (ms == NULL) { sgx_ocfree(); return SGX_ERROR_UNEXPECTED; }"
    ∷ "    memset(ms, 0, total);"
    ∷ "    uint8_t* next = (uint8_t*)(ms + 1);"
    ∷ "    uint8_t* at_str = NULL;"
    ∷ "    if (str != NULL && len_str != 0) { at_str = next; next += len_str; }"
    ∷ "    ms->ms_str = (void*)at_str;"
    ∷ "    if (at_str != NULL) memcpy(at_str, str, len_str);"
    ∷ "    status = sgx_ocall(0, ms);"
    ∷ "    sgx_ocfree();"
    ∷ "    return status;"
    ∷ "}"
    ∷ "sgx_status_t sgx_oc_cpuidex(int cpuinfo[4], int leaf, int subleaf)"
    ∷ "{"
    ∷ "    sgx_status_t status = SGX_SUCCESS;"
    ∷ "    size_t size_cpuinfo = sizeof(int);"
    ∷ "    size_t count_cpuinfo = 4;"
    ∷ "    size_t len_cpuinfo = size_cpuinfo * count_cpuinfo;"
    ∷ "    if (count_cpuinfo != 0 && size_cpuinfo > SIZE_MAX / count_cpuinfo) return SGX_ERROR_INVALID_PARAMETER;"
    ∷ "    if (cpuinfo != NULL && !sgx_is_within_enclave(cpuinfo, len_cpuinfo)) return SGX_ERROR_INVALID_PARAMETER;"
    ∷ "    size_t total = sizeof(ms_sgx_oc_cpuidex_t);"
    ∷ "    if (cpuinfo != NULL) { if (total > SIZE_MAX - len_cpuinfo) return SGX_ERROR_INVALID_PARAMETER; total += len_cpuinfo; }"
    ∷ "    ms_sgx_oc_cpuidex_t* ms = sgx_ocalloc(total);"
    ∷ "    if (ms == NULL) { sgx_ocfree(); return SGX_ERROR_UNEXPECTED; }"
    ∷ "    memset(ms, 0, total);"
    ∷ "    uint8_t* next = (uint8_t*)(ms + 1);"
    ∷ "    uint8_t* at_cpuinfo = NULL;"
    ∷ "    if (cpuinfo != NULL && len_cpuinfo != 0) { at_cpuinfo = next; next += len_cpuinfo; }"
    ∷ "    ms->ms_cpuinfo = (void*)at_cpuinfo;"
    ∷ "    ms->ms_leaf = leaf;"
    ∷ "    ms->ms_subleaf = subleaf;"
    ∷ "    status = sgx_ocall(1, ms);"
    ∷ "    if (status == SGX_SUCCESS && at_cpuinfo != NULL) memcpy((void*)cpuinfo, at_cpuinfo, len_cpuinfo);"
    ∷ "    sgx_ocfree();"
    ∷ "    return status;"
    ∷ "}"
    ∷ "sgx_status_t sgx_thread_set_multiple_untrusted_events_ocall(int* retval, const void** waiters, size_t total)"
    ∷ "{"
    ∷ "    sgx_status_t status = SGX_SUCCESS;"
    ∷ "    size_t size_waiters = sizeof(const void*);"
    ∷ "    size_t count_waiters = (size_t)total;"
    ∷ "    size_t len_waiters = size_waiters * count_waiters;"
    ∷ "    if (count_waiters != 0 && size_waiters > SIZE_MAX / count_waiters) return SGX_ERROR_INVALID_PARAMETER;"
    ∷ "    if (waiters != NULL && !sgx_is_within_enclave(waiters, len_waiters)) return SGX_ERROR_INVALID_PARAMETER;"
    ∷ "    size_t total = sizeof(ms_sgx_thread_set_multiple_untrusted_events_ocall_t);"
    ∷ "    if (waiters != NULL) { if (total > SIZE_MAX - len_waiters) return SGX_ERROR_INVALID_PARAMETER; total += len_waiters; }"
    ∷ "    ms_sgx_thread_set_multiple_untrusted_events_ocall_t* ms = sgx_ocalloc(total);"
    ∷ "    if (ms == NULL) { sgx_ocfree(); return SGX_ERROR_UNEXPECTED; }"
    ∷ "    memset(ms, 0, total);"
    ∷ "    uint8_t* next = (uint8_t*)(ms + 1);"
    ∷ "    uint8_t* at_waiters = NULL;"
    ∷ "    if (waiters != NULL && len_waiters != 0) { at_waiters = next; next += len_waiters; }"
    ∷ "    ms->ms_waiters = (void*)at_waiters;"
    ∷ "    ms->ms_total = total;"
    ∷ "    if (at_waiters != NULL) memcpy(at_waiters, waiters, len_waiters);"
    ∷ "    status = sgx_ocall(2, ms);"
    ∷ "    if (status == SGX_SUCCESS && retval != NULL) *retval = ms->ms_retval;"
    ∷ "    sgx_ocfree();"
    ∷ "    return status;"
    ∷ "}"
    ∷ []

abbrev pub events_untrusted_header_text : List String
events_untrusted_header_text =
    "#ifndef ENCLAVE_U_H"
    ∷ "#define ENCLAVE_U_H"
    ∷ "#include <stdint.h>"
    ∷ "#include <stddef.h>"
    ∷ "#include <wchar.h>"
    ∷ "#include \"sgx_edger8r.h\""
    ∷ "typedef enum mode {"
    ∷ "    OFF = 0,"
    ∷ "    ON = 5,"
    ∷ "} mode;"
    ∷ "typedef struct pair {"
    ∷ "    int a;"
    ∷ "    long b;"
    ∷ "} pair;"
    ∷ "sgx_status_t run(sgx_enclave_id_t eid, struct pair* p, enum mode m);"
    ∷ "void ocall_print_string(const char* str);"
    ∷ "void sgx_oc_cpuidex(int cpuinfo[4], int leaf, int subleaf);"
    ∷ "int sgx_thread_set_multiple_untrusted_events_ocall(const void** waiters, size_t total);"
    ∷ "#endif"
    ∷ []

abbrev pub events_untrusted_source_text : List String
events_untrusted_source_text =
    "#include \"Enclave_u.h\""
    ∷ "#include <string.h>"
    ∷ "typedef struct ms_run_t {"
    ∷ "struct pair* ms_p;"
    ∷ "enum mode ms_m;"
    ∷ "} ms_run_t;"
    ∷ "typedef struct ms_ocall_print_string_t {"
    ∷ "char* ms_str;"
    ∷ "} ms_ocall_print_string_t;"
    ∷ "typedef struct ms_sgx_oc_cpuidex_t {"
    ∷ "int* ms_cpuinfo;"
    ∷ "int ms_leaf;"
    ∷ "int ms_subleaf;"
    ∷ "} ms_sgx_oc_cpuidex_t;"
    ∷ "typedef struct ms_sgx_thread_set_multiple_untrusted_events_ocall_t {"
    ∷ "int ms_retval;"
    ∷ "void** ms_waiters;"
    ∷ "size_t ms_total;"
    ∷ "} ms_sgx_thread_set_multiple_untrusted_events_ocall_t;"
    ∷ "static sgx_status_t Enclave_ocall_print_string(void* pms)"
    ∷ "{"
    ∷ "    ms_ocall_print_string_t* ms = pms;"
    ∷ "    ocall_print_string(ms->ms_str);"
    ∷ "    return SGX_SUCCESS;"
    ∷ "}"
    ∷ "static sgx_status_t Enclave_sgx_oc_cpuidex(void* pms)"
    ∷ "{"
    ∷ "    ms_sgx_oc_cpuidex_t* ms = pms;"
    ∷ "    sgx_oc_cpuidex(ms->ms_cpuinfo, ms->ms_leaf, ms->ms_subleaf);"
    ∷ "    return SGX_SUCCESS;"
    ∷ "}"
    ∷ "static sgx_status_t Enclave_sgx_thread_set_multiple_untrusted_events_ocall(void* pms)"
    ∷ "{"
    ∷ "    ms_sgx_thread_set_multiple_untrusted_events_ocall_t* ms = pms;"
    ∷ "    ms->ms_retval = sgx_thread_set_multiple_untrusted_events_ocall(ms->ms_waiters, ms->ms_total);"
    ∷ "    return SGX_SUCCESS;"
    ∷ "}"
    ∷ "static const struct { size_t nr_ocall; void* table[3]; } ocall_table_Enclave = { 3, {"
    ∷ "    (void*)Enclave_ocall_print_string,"
    ∷ "    (void*)Enclave_sgx_oc_cpuidex,"
    ∷ "    (void*)Enclave_sgx_thread_set_multiple_untrusted_events_ocall,"
    ∷ "} };"
    ∷ "sgx_status_t run(sgx_enclave_id_t eid, struct pair* p, enum mode m)"
    ∷ "{"
    ∷ "    sgx_status_t status;"
    ∷ "    ms_run_t ms;"
    ∷ "    ms.ms_p = (void*)p;"
    ∷ "    ms.ms_m = m;"
    ∷ "    status = sgx_ecall(eid, 0, &ocall_table_Enclave, &ms);"
    ∷ "    return status;"
    ∷ "}"
    ∷ []

-- ---- a function without parameters, with and without a prefix

abbrev pub bare_files : List SourceFile
bare_files =
    file_of "z.edl" "enclave { trusted { public void z(); }; };"
    ∷ []

abbrev pub bare_interface : Interface
bare_interface = record {
  ecalls =
      record {
        name = codes "z";
        is_public = true;
        switchless = false;
        ret = None;
        params = [];
        allow = [];
        frame_size = 0;
      }
      ∷ [];
  ocalls =
      [];
}

abbrev pub bare_trusted_header_text : List String
bare_trusted_header_text =
    "#ifndef Z_T_H"
    ∷ "#define Z_T_H"
    ∷ "#include <stdint.h>"
    ∷ "#include <stddef.h>"
    ∷ "#include <wchar.h>"
    ∷ "#include \"sgx_edger8r.h\""
    ∷ "void z(void);"
    ∷ "#endif"
    ∷ []

abbrev pub bare_untrusted_header_text : List String
bare_untrusted_header_text =
    "#ifndef Z_U_H"
    ∷ "#define Z_U_H"
    ∷ "#include <stdint.h>"
    ∷ "#include <stddef.h>"
    ∷ "#include <wchar.h>"
    ∷ "#include \"sgx_edger8r.h\""
    ∷ "sgx_status_t z(sgx_enclave_id_t eid);"
    ∷ "#endif"
    ∷ []

abbrev pub bare_prefixed_header_text : List String
bare_prefixed_header_text =
    "#ifndef Z_U_H"
    ∷ "#define Z_U_H"
    ∷ "#include <stdint.h>"
    ∷ "#include <stddef.h>"
    ∷ "#include <wchar.h>"
    ∷ "#include \"sgx_edger8r.h\""
    ∷ "sgx_status_t z_z(sgx_enclave_id_t eid);"
    ∷ "#endif"
    ∷ []

-- ---- no functions, in files whose name has a dash and a dot

abbrev pub none_files : List SourceFile
none_files =
    file_of "none.edl" "enclave { };"
    ∷ []

abbrev pub none_interface : Interface
none_interface = record {
  ecalls =
      [];
  ocalls =
      [];
}

abbrev pub none_trusted_header_text : List String
none_trusted_header_text =
    "#ifndef NO_FUNCTIONS_V2_T_H"
    ∷ "#define NO_FUNCTIONS_V2_T_H"
    ∷ "#include <stdint.h>"
    ∷ "#include <stddef.h>"
    ∷ "#include <wchar.h>"
    ∷ "#include \"sgx_edger8r.h\""
    ∷ "#endif"
    ∷ []

abbrev pub none_trusted_source_text : List String
none_trusted_source_text =
    "#include \"no-functions.v2_t.h\""
    ∷ "#include <stdlib.h>"
    ∷ "#include <string.h>"
    ∷ "#include \"sgx_trts.h\""
    ∷ "#include \"sgx_lfence.h\""
    ∷ "const struct { size_t nr_ecall; } g_ecall_table = { 0 };"
    ∷ "const struct { size_t nr_ocall; } g_dyn_entry_table = { 0 };"
    ∷ []

abbrev pub none_untrusted_header_text : List String
none_untrusted_header_text =
    "#ifndef NO_FUNCTIONS_V2_U_H"
    ∷ "#define NO_FUNCTIONS_V2_U_H"
    ∷ "#include <stdint.h>"
    ∷ "#include <stddef.h>"
    ∷ "#include <wchar.h>"
    ∷ "#include \"sgx_edger8r.h\""
    ∷ "#endif"
    ∷ []

abbrev pub none_untrusted_source_text : List String
none_untrusted_source_text =
    "#include \"no-functions.v2_u.h\""
    ∷ "#include <string.h>"
    ∷ "static const struct { size_t nr_ocall; void* table[1]; } ocall_table_no-functions.v2 = { 0, {"
    ∷ "    NULL,"
    ∷ "} };"
    ∷ []

-- ---- OCALLs without ECALLs

abbrev pub outward_files : List SourceFile
outward_files =
    file_of "z.edl" "enclave { untrusted { void o(); int p(); }; };"
    ∷ []

abbrev pub outward_interface : Interface
outward_interface = record {
  ecalls =
      [];
  ocalls =
      record {
        name = codes "o";
        is_public = false;
        switchless = false;
        ret = None;
        params = [];
        allow = [];
        frame_size = 0;
      }
      ∷ record {
        name = codes "p";
        is_public = false;
        switchless = false;
        ret = Some (record { size = 4; integer = true; signed = true });
        params = [];
        allow = [];
        frame_size = 4;
      }
      ∷ [];
}

abbrev pub outward_trusted_source_text : List String
outward_trusted_source_text =
    "#include \"z_t.h\""
    ∷ "#include <stdlib.h>"
    ∷ "#include <string.h>"
    ∷ "#include \"sgx_trts.h\""
    ∷ "#include \"sgx_lfence.h\""
    ∷ "typedef struct ms_p_t {"
    ∷ "int ms_retval;"
    ∷ "} ms_p_t;"
    ∷ "const struct { size_t nr_ecall; } g_ecall_table = { 0 };"
    ∷ "const struct { size_t nr_ocall; } g_dyn_entry_table = { 2 };"
    ∷ "sgx_status_t o(void)"
    ∷ "{"
    ∷ "    sgx_status_t status = SGX_SUCCESS;"
    ∷ "    status = sgx_ocall(0, NULL);"
    ∷ "    return status;"
    ∷ "}"
    ∷ "sgx_status_t p(int* retval)"
    ∷ "{"
    ∷ "    sgx_status_t status = SGX_SUCCESS;"
    ∷ "    size_t total = sizeof(ms_p_t);"
    ∷ "    ms_p_t* ms = sgx_ocalloc(total);"
    ∷ "    if (ms == NULL) { sgx_ocfree(); return SGX_ERROR_UNEXPECTED; }"
    ∷ "    memset(ms, 0, total);"
    ∷ "    uint8_t* next = (uint8_t*)(ms + 1);"
    ∷ "    status = sgx_ocall(1, ms);"
    ∷ "    if (status == SGX_SUCCESS && retval != NULL) *retval = ms->ms_retval;"
    ∷ "    sgx_ocfree();"
    ∷ "    return status;"
    ∷ "}"
    ∷ []

abbrev pub outward_untrusted_source_text : List String
outward_untrusted_source_text =
    "#include \"z_u.h\""
    ∷ "#include <string.h>"
    ∷ "typedef struct ms_p_t {"
    ∷ "int ms_retval;"
    ∷ "} ms_p_t;"
    ∷ "static sgx_status_t z_o(void* pms)"
    ∷ "{"
    ∷ "    o();"
    ∷ "    return SGX_SUCCESS;"
    ∷ "}"
    ∷ "static sgx_status_t z_p(void* pms)"
    ∷ "{"
    ∷ "    ms_p_t* ms = pms;"
    ∷ "    ms->ms_retval = p();"
    ∷ "    return SGX_SUCCESS;"
    ∷ "}"
    ∷ "static const struct { size_t nr_ocall; void* table[2]; } ocall_table_z = { 2, {"
    ∷ "    (void*)z_o,"
    ∷ "    (void*)z_p,"
    ∷ "} };"
    ∷ []

-- ---- every kind of parameter in both directions, types and includes

abbrev pub every_files : List SourceFile
every_files =
    file_of "all-kinds.v2.edl" "enclave { enum mode { OFF, ON = 5, LAST }; enum { LEFT = -2, RIGHT }; struct pair { int a; long b[2]; }; union word { uint64_t all; uint8_t bytes[8]; }; include \"a.h\" trusted { include \"t.h\" include \"a.h\" public int every([in, size=n] const void* v, [out, count=n] wchar_t** w, [in, out, size=4, count=n] uint8_t* u, [in] struct pair* p, [out] int grid[2][3], [in] const uint8_t key[16], [in, string] const char* name, [in, out, string] char* line, [in, out, wstring] wchar_t* wide, [user_check] void* c, size_t n, struct pair q, unsigned long int k, [isptr, in] handle h, [isary, in, out] block b, [isptr, readonly] handle r); void bare(); public void quick(enum mode m, union word x) transition_using_threads; }; untrusted { include \"u.h\" uint64_t every_out([in, size=n] const void* v, [out, count=n] wchar_t** w, [in, out, size=4, count=n] uint8_t* u, [in] struct pair* p, [out] int grid[2][3], [in] const uint8_t key[16], [in, string] const char* name, [in, out, string] char* line, [in, out, wstring] wchar_t* wide, [user_check] void* c, size_t n, struct pair q, unsigned long int k, [isptr, in] handle h, [isary, in, out] block b, [isptr, readonly] handle r) allow(bare, quick); [cdecl] void none() allow(every); void fast([out] long a[4]) transition_using_threads; }; };"
    ∷ []

abbrev pub every_interface : Interface
every_interface = record {
  ecalls =
      record {
        name = codes "every";
        is_public = true;
        switchless = false;
        ret = Some (record { size = 4; integer = true; signed = true });
        params = record { name = codes "v"; offset = 8; class = class.Buffer passing.Inward (amount.Param 10) (amount.Number 1) 1 }
            ∷ record { name = codes "w"; offset = 16; class = class.Buffer passing.Outward (amount.Number 8) (amount.Param 10) 8 }
            ∷ record { name = codes "u"; offset = 24; class = class.Buffer passing.Both (amount.Number 4) (amount.Param 10) 1 }
            ∷ record { name = codes "p"; offset = 32; class = class.Buffer passing.Inward (amount.Number 24) (amount.Number 1) 24 }
            ∷ record { name = codes "grid"; offset = 40; class = class.Fixed passing.Outward 24 4 }
            ∷ record { name = codes "key"; offset = 48; class = class.Fixed passing.Inward 16 1 }
            ∷ record { name = codes "name"; offset = 56; class = class.Text passing.Inward 1 }
            ∷ record { name = codes "line"; offset = 72; class = class.Text passing.Both 1 }
            ∷ record { name = codes "wide"; offset = 88; class = class.Text passing.Both 4 }
            ∷ record { name = codes "c"; offset = 104; class = class.UserCheck }
            ∷ record { name = codes "n"; offset = 112; class = class.Plain (record { size = 8; integer = true; signed = false }) }
            ∷ record { name = codes "q"; offset = 120; class = class.Plain (record { size = 24; integer = false; signed = false }) }
            ∷ record { name = codes "k"; offset = 144; class = class.Plain (record { size = 8; integer = true; signed = false }) }
            ∷ record { name = codes "h"; offset = 152; class = class.Foreign (Some passing.Inward) }
            ∷ record { name = codes "b"; offset = 160; class = class.Foreign (Some passing.Both) }
            ∷ record { name = codes "r"; offset = 168; class = class.Foreign None }
            ∷ [];
        allow = [];
        frame_size = 176;
      }
      ∷ record {
        name = codes "bare";
        is_public = false;
        switchless = false;
        ret = None;
        params = [];
        allow = [];
        frame_size = 0;
      }
      ∷ record {
        name = codes "quick";
        is_public = true;
        switchless = true;
        ret = None;
        params = record { name = codes "m"; offset = 0; class = class.Plain (record { size = 4; integer = false; signed = false }) }
            ∷ record { name = codes "x"; offset = 8; class = class.Plain (record { size = 8; integer = false; signed = false }) }
            ∷ [];
        allow = [];
        frame_size = 16;
      }
      ∷ [];
  ocalls =
      record {
        name = codes "every_out";
        is_public = false;
        switchless = false;
        ret = Some (record { size = 8; integer = true; signed = false });
        params = record { name = codes "v"; offset = 8; class = class.Buffer passing.Inward (amount.Param 10) (amount.Number 1) 1 }
            ∷ record { name = codes "w"; offset = 16; class = class.Buffer passing.Outward (amount.Number 8) (amount.Param 10) 8 }
            ∷ record { name = codes "u"; offset = 24; class = class.Buffer passing.Both (amount.Number 4) (amount.Param 10) 1 }
            ∷ record { name = codes "p"; offset = 32; class = class.Buffer passing.Inward (amount.Number 24) (amount.Number 1) 24 }
            ∷ record { name = codes "grid"; offset = 40; class = class.Fixed passing.Outward 24 4 }
            ∷ record { name = codes "key"; offset = 48; class = class.Fixed passing.Inward 16 1 }
            ∷ record { name = codes "name"; offset = 56; class = class.Text passing.Inward 1 }
            ∷ record { name = codes "line"; offset = 64; class = class.Text passing.Both 1 }
            ∷ record { name = codes "wide"; offset = 72; class = class.Text passing.Both 4 }
            ∷ record { name = codes "c"; offset = 80; class = class.UserCheck }
            ∷ record { name = codes "n"; offset = 88; class = class.Plain (record { size = 8; integer = true; signed = false }) }
            ∷ record { name = codes "q"; offset = 96; class = class.Plain (record { size = 24; integer = false; signed = false }) }
            ∷ record { name = codes "k"; offset = 120; class = class.Plain (record { size = 8; integer = true; signed = false }) }
            ∷ record { name = codes "h"; offset = 128; class = class.Foreign (Some passing.Inward) }
            ∷ record { name = codes "b"; offset = 136; class = class.Foreign (Some passing.Both) }
            ∷ record { name = codes "r"; offset = 144; class = class.Foreign None }
            ∷ [];
        allow = 1 ∷ 2 ∷ [];
        frame_size = 152;
      }
      ∷ record {
        name = codes "none";
        is_public = false;
        switchless = false;
        ret = None;
        params = [];
        allow = 0 ∷ [];
        frame_size = 0;
      }
      ∷ record {
        name = codes "fast";
        is_public = false;
        switchless = true;
        ret = None;
        params = record { name = codes "a"; offset = 0; class = class.Fixed passing.Outward 32 8 }
            ∷ [];
        allow = [];
        frame_size = 8;
      }
      ∷ [];
}

abbrev pub every_trusted_header_text : List String
every_trusted_header_text =
    "#ifndef ALL_KINDS_V2_T_H"
    ∷ "#define ALL_KINDS_V2_T_H"
    ∷ "#include <stdint.h>"
    ∷ "#include <stddef.h>"
    ∷ "#include <wchar.h>"
    ∷ "#include \"sgx_edger8r.h\""
    ∷ "#include \"a.h\""
    ∷ "#include \"t.h\""
    ∷ "typedef enum mode {"
    ∷ "    OFF = 0,"
    ∷ "    ON = 5,"
    ∷ "    LAST = 6,"
    ∷ "} mode;"
    ∷ "enum {"
    ∷ "    LEFT = -2,"
    ∷ "    RIGHT = -1,"
    ∷ "};"
    ∷ "typedef struct pair {"
    ∷ "    int a;"
    ∷ "    long b[2];"
    ∷ "} pair;"
    ∷ "typedef union word {"
    ∷ "    uint64_t all;"
    ∷ "    uint8_t bytes[8];"
    ∷ "} word;"
    ∷ "int every(const void* v, wchar_t** w, uint8_t* u, struct pair* p, int grid[2][3], const uint8_t key[16], const char* name, char* line, wchar_t* wide, void* c, size_t n, struct pair q, unsigned long int k, handle h, block b, handle r);"
    ∷ "void bare(void);"
    ∷ "void quick(enum mode m, union word x);"
    ∷ "sgx_status_t every_out(uint64_t* retval, const void* v, wchar_t** w, uint8_t* u, struct pair* p, int grid[2][3], const uint8_t key[16], const char* name, char* line, wchar_t* wide, void* c, size_t n, struct pair q, unsigned long int k, handle h, block b, handle r);"
    ∷ "sgx_status_t none(void);"
    ∷ "sgx_status_t fast(long a[4]);"
    ∷ "#endif"
    ∷ []

abbrev pub every_trusted_source_text : List String
every_trusted_source_text =
    "#include \"all-kinds.v2_t.h\""
    ∷ "#include <stdlib.h>"
    ∷ "#include <string.h>"
    ∷ "#include \"sgx_trts.h\""
    ∷ "#include \"sgx_lfence.h\""
    ∷ "typedef struct ms_every_t {"
    ∷ "int ms_retval;"
    ∷ "void* ms_v;"
    ∷ "wchar_t** ms_w;"
    ∷ "uint8_t* ms_u;"
    ∷ "struct pair* ms_p;"
    ∷ "int* ms_grid;"
    ∷ "uint8_t* ms_key;"
    ∷ "char* ms_name;"
    ∷ "size_t ms_name_len;"
    ∷ "char* ms_line;"
    ∷ "size_t ms_line_len;"
    ∷ "wchar_t* ms_wide;"
    ∷ "size_t ms_wide_len;"
    ∷ "void* ms_c;"
    ∷ "size_t ms_n;"
    ∷ "struct pair ms_q;"
    ∷ "unsigned long int ms_k;"
    ∷ "handle ms_h;"
    ∷ "block* ms_b;"
    ∷ "handle ms_r;"
    ∷ "} ms_every_t;"
    ∷ "typedef struct ms_quick_t {"
    ∷ "enum mode ms_m;"
    ∷ "union word ms_x;"
    ∷ "} ms_quick_t;"
    ∷ "typedef struct ms_every_out_t {"
    ∷ "uint64_t ms_retval;"
    ∷ "void* ms_v;"
    ∷ "wchar_t** ms_w;"
    ∷ "uint8_t* ms_u;"
    ∷ "struct pair* ms_p;"
    ∷ "int* ms_grid;"
    ∷ "uint8_t* ms_key;"
    ∷ "char* ms_name;"
    ∷ "char* ms_line;"
    ∷ "wchar_t* ms_wide;"
    ∷ "void* ms_c;"
    ∷ "size_t ms_n;"
    ∷ "struct pair ms_q;"
    ∷ "unsigned long int ms_k;"
    ∷ "handle ms_h;"
    ∷ "block* ms_b;"
    ∷ "handle ms_r;"
    ∷ "} ms_every_out_t;"
    ∷ "typedef struct ms_fast_t {"
    ∷ "long* ms_a;"
    ∷ "} ms_fast_t;"
    ∷ "static sgx_status_t sgx_every(void* pms)"
    ∷ "{"
    ∷ "    sgx_status_t status = SGX_SUCCESS;"
    ∷ "    ms_every_t ms;"
    ∷ "    if (pms == NULL || !sgx_is_outside_enclave(pms, sizeof(ms))) return SGX_ERROR_INVALID_PARAMETER;"
    ∷ "    sgx_lfence();"
    ∷ "    memcpy(&ms, pms, sizeof(ms));"
    ∷ "    size_t size_v = (size_t)ms.ms_n;"
    ∷ "    size_t count_v = 1;"
    ∷ "    size_t len_v = size_v * count_v;"
    ∷ "    void* in_v = NULL;"
    ∷ "    if (count_v != 0 && size_v > SIZE_MAX / count_v) return SGX_ERROR_INVALID_PARAMETER;"
    ∷ "    size_t size_w = sizeof(wchar_t*);"
    ∷ "    size_t count_w = (size_t)ms.ms_n;"
    ∷ "    size_t len_w = size_w * count_w;"
    ∷ "    void* in_w = NULL;"
    ∷ "    if (count_w != 0 && size_w > SIZE_MAX / count_w) return SGX_ERROR_INVALID_PARAMETER;"
    ∷ "    size_t size_u = 4;"
    ∷ "    size_t count_u = (size_t)ms.ms_n;"
    ∷ "    size_t len_u = size_u * count_u;"
    ∷ "    void* in_u = NULL;"
    ∷ "    if (count_u != 0 && size_u > SIZE_MAX / count_u) return SGX_ERROR_INVALID_PARAMETER;"
    ∷ "    size_t size_p = sizeof(struct pair);"
    ∷ "    size_t count_p = 1;"
    ∷ "    size_t len_p = size_p * count_p;"
    ∷ "    void* in_p = NULL;"
    ∷ "    if (count_p != 0 && size_p > SIZE_MAX / count_p) return SGX_ERROR_INVALID_PARAMETER;"
    ∷ "    size_t size_grid = sizeof(int);"
    ∷ "    size_t count_grid = 6;"
    ∷ "    size_t len_grid = size_grid * count_grid;"
    ∷ "    void* in_grid = NULL;"
    ∷ "    if (count_grid != 0 && size_grid > SIZE_MAX / count_grid) return SGX_ERROR_INVALID_PARAMETER;"
    ∷ "    size_t size_key = sizeof(const uint8_t);"
    ∷ "    size_t count_key = 16;"
    ∷ "    size_t len_key = size_key * count_key;"
    ∷ "    void* in_key = NULL;"
    ∷ "    if (count_key != 0 && size_key > SIZE_MAX / count_key) return SGX_ERROR_INVALID_PARAMETER;"
    ∷ "    size_t size_name = ms.ms_name_len;"
    ∷ "    size_t count_name = 1;"
    ∷ "    size_t len_name = size_name * count_name;"
    ∷ "    void* in_name = NULL;"
    ∷ "    if (count_name != 0 && size_name > SIZE_MAX / count_name) return SGX_ERROR_INVALID_PARAMETER;"
    ∷ "    size_t size_line = ms.ms_line_len;"
    ∷ "    size_t count_line = 1;"
    ∷ "    size_t len_line = size_line * count_line;"
    ∷ "    void* in_line = NULL;"
    ∷ "    if (count_line != 0 && size_line > SIZE_MAX / count_line) return SGX_ERROR_INVALID_PARAMETER;"
    ∷ "    size_t size_wide = ms.ms_wide_len;"
    ∷ "    size_t count_wide = 1;"
    ∷ "    size_t len_wide = size_wide * count_wide;"
    ∷ "    void* in_wide = NULL;"
    ∷ "    if (count_wide != 0 && size_wide > SIZE_MAX / count_wide) return SGX_ERROR_INVALID_PARAMETER;"
    ∷ "    size_t size_h = sizeof(*ms.ms_h);"
    ∷ "    size_t count_h = 1;"
    ∷ "    size_t len_h = size_h * count_h;"
    ∷ "    void* in_h = NULL;"
    ∷ "    if (count_h != 0 && size_h > SIZE_MAX / count_h) return SGX_ERROR_INVALID_PARAMETER;"
    ∷ "    size_t size_b = sizeof(block);"
    ∷ "    size_t count_b = 1;"
    ∷ "    size_t len_b = size_b * count_b;"
    ∷ "    void* in_b = NULL;"
    ∷ "    if (count_b != 0 && size_b > SIZE_MAX / count_b) return SGX_ERROR_INVALID_PARAMETER;"
    ∷ "    if (ms.ms_v != NULL && !sgx_is_outside_enclave(ms.ms_v, len_v)) return SGX_ERROR_INVALID_PARAMETER;"
    ∷ "    if (ms.ms_w != NULL && !sgx_is_outside_enclave(ms.ms_w, len_w)) return SGX_ERROR_INVALID_PARAMETER;"
    ∷ "    if (ms.ms_u != NULL && !sgx_is_outside_enclave(ms.ms_u, len_u)) return SGX_ERROR_INVALID_PARAMETER;"
    ∷ "    if (ms.ms_p != NULL && !sgx_is_outside_enclave(ms.ms_p, len_p)) return SGX_ERROR_INVALID_PARAMETER;"
    ∷ "    if (ms.ms_grid != NULL && !sgx_is_outside_enclave(ms.ms_grid, len_grid)) return SGX_ERROR_INVALID_PARAMETER;"
    ∷ "    if (ms.ms_key != NULL && !sgx_is_outside_enclave(ms.ms_key, len_key)) return SGX_ERROR_INVALID_PARAMETER;"
    ∷ "    if (ms.ms_name != NULL && !sgx_is_outside_enclave(ms.ms_name, len_name)) return SGX_ERROR_INVALID_PARAMETER;"
    ∷ "    if (ms.ms_line != NULL && !sgx_is_outside_enclave(ms.ms_line, len_line)) return SGX_ERROR_INVALID_PARAMETER;"
    ∷ "    if (ms.ms_wide != NULL && !sgx_is_outside_enclave(ms.ms_wide, len_wide)) return SGX_ERROR_INVALID_PARAMETER;"
    ∷ "    if (ms.ms_h != NULL && !sgx_is_outside_enclave(ms.ms_h, len_h)) return SGX_ERROR_INVALID_PARAMETER;"
    ∷ "    if (ms.ms_b != NULL && !sgx_is_outside_enclave(ms.ms_b, len_b)) return SGX_ERROR_INVALID_PARAMETER;"
    ∷ "    sgx_lfence();"
    ∷ "    if (ms.ms_v != NULL && len_v != 0 && len_v % 1 != 0) { status = SGX_ERROR_INVALID_PARAMETER; goto end; }"
    ∷ "    if (ms.ms_v != NULL && len_v != 0 && (in_v = malloc(len_v)) == NULL) { status = SGX_ERROR_OUT_OF_MEMORY; goto end; }"
    ∷ "    if (in_v != NULL) memcpy(in_v, ms.ms_v, len_v);"
    ∷ "    if (ms.ms_w != NULL && len_w != 0 && len_w % sizeof(wchar_t*) != 0) { status = SGX_ERROR_INVALID_PARAMETER; goto end; }"
    ∷ "    if (ms.ms_w != NULL && len_w != 0 && (in_w = malloc(len_w)) == NULL) { status = SGX_ERROR_OUT_OF_MEMORY; goto end; }"
    ∷ "    if (in_w != NULL) memset(in_w, 0, len_w);"
    ∷ "    if (ms.ms_u != NULL && len_u != 0 && len_u % sizeof(uint8_t) != 0) { status = SGX_ERROR_INVALID_PARAMETER; goto end; }"
    ∷ "    if (ms.ms_u != NULL && len_u != 0 && (in_u = malloc(len_u)) == NULL) { status = SGX_ERROR_OUT_OF_MEMORY; goto end; }"
    ∷ "    if (in_u != NULL) memcpy(in_u, ms.ms_u, len_u);"
    ∷ "    if (ms.ms_p != NULL && len_p != 0 && len_p % sizeof(struct pair) != 0) { status = SGX_ERROR_INVALID_PARAMETER; goto end; }"
    ∷ "    if (ms.ms_p != NULL && len_p != 0 && (in_p = malloc(len_p)) == NULL) { status = SGX_ERROR_OUT_OF_MEMORY; goto end; }"
    ∷ "    if (in_p != NULL) memcpy(in_p, ms.ms_p, len_p);"
    ∷ "    if (ms.ms_grid != NULL && len_grid != 0 && len_grid % sizeof(int) != 0) { status = SGX_ERROR_INVALID_PARAMETER; goto end; }"
    ∷ "    if (ms.ms_grid != NULL && len_grid != 0 && (in_grid = malloc(len_grid)) == NULL) { status = SGX_ERROR_OUT_OF_MEMORY; goto end; }"
    ∷ "    if (in_grid != NULL) memset(in_grid, 0, len_grid);"
    ∷ "    if (ms.ms_key != NULL && len_key != 0 && len_key % sizeof(const uint8_t) != 0) { status = SGX_ERROR_INVALID_PARAMETER; goto end; }"
    ∷ "    if (ms.ms_key != NULL && len_key != 0 && (in_key = malloc(len_key)) == NULL) { status = SGX_ERROR_OUT_OF_MEMORY; goto end; }"
    ∷ "    if (in_key != NULL) memcpy(in_key, ms.ms_key, len_key);"
    ∷ "    if (ms.ms_name != NULL && len_name != 0 && len_name % sizeof(const char) != 0) { status = SGX_ERROR_INVALID_PARAMETER; goto end; }"
    ∷ "    if (ms.ms_name != NULL && len_name != 0 && (in_name = malloc(len_name)) == NULL) { status = SGX_ERROR_OUT_OF_MEMORY; goto end; }"
    ∷ "    if (in_name != NULL) memcpy(in_name, ms.ms_name, len_name);"
    ∷ "    if (in_name != NULL) {"
    ∷ "        ((char*)in_name)[len_name - 1] = 0;"
    ∷ "        if (strlen(in_name) + 1 != len_name) { status = SGX_ERROR_UNEXPECTED; goto end; }"
    ∷ "    }"
    ∷ "    if (ms.ms_line != NULL && len_line != 0 && len_line % sizeof(char) != 0) { status = SGX_ERROR_INVALID_PARAMETER; goto end; }"
    ∷ "    if (ms.ms_line != NULL && len_line != 0 && (in_line = malloc(len_line)) == NULL) { status = SGX_ERROR_OUT_OF_MEMORY; goto end; }"
    ∷ "    if (in_line != NULL) memcpy(in_line, ms.ms_line, len_line);"
    ∷ "    if (in_line != NULL) {"
    ∷ "        ((char*)in_line)[len_line - 1] = 0;"
    ∷ "        if (strlen(in_line) + 1 != len_line) { status = SGX_ERROR_UNEXPECTED; goto end; }"
    ∷ "    }"
    ∷ "    if (ms.ms_wide != NULL && len_wide != 0 && len_wide % sizeof(wchar_t) != 0) { status = SGX_ERROR_INVALID_PARAMETER; goto end; }"
    ∷ "    if (ms.ms_wide != NULL && len_wide != 0 && (in_wide = malloc(len_wide)) == NULL) { status = SGX_ERROR_OUT_OF_MEMORY; goto end; }"
    ∷ "    if (in_wide != NULL) memcpy(in_wide, ms.ms_wide, len_wide);"
    ∷ "    if (in_wide != NULL) {"
    ∷ "        ((wchar_t*)in_wide)[len_wide / sizeof(wchar_t) - 1] = 0;"
    ∷ "        if (wcslen(in_wide) + 1 != len_wide / sizeof(wchar_t)) { status = SGX_ERROR_UNEXPECTED; goto end; }"
    ∷ "    }"
    ∷ "    if (ms.ms_h != NULL && len_h != 0 && len_h % sizeof(*ms.ms_h) != 0) { status = SGX_ERROR_INVALID_PARAMETER; goto end; }"
    ∷ "    if (ms.ms_h != NULL && len_h != 0 && (in_h = malloc(len_h)) == NULL) { status = SGX_ERROR_OUT_OF_MEMORY; goto end; }"
    ∷ "    if (in_h != NULL) memcpy(in_h, ms.ms_h, len_h);"
    ∷ "    if (ms.ms_b != NULL && len_b != 0 && len_b % sizeof(block) != 0) { status = SGX_ERROR_INVALID_PARAMETER; goto end; }"
    ∷ "    if (ms.ms_b != NULL && len_b != 0 && (in_b = malloc(len_b)) == NULL) { status = SGX_ERROR_OUT_OF_MEMORY; goto end; }"
    ∷ "    if (in_b != NULL) memcpy(in_b, ms.ms_b, len_b);"
    ∷ "    int ret = every(in_v, in_w, in_u, in_p, in_grid, in_key, in_name, in_line, in_wide, ms.ms_c, ms.ms_n, ms.ms_q, ms.ms_k, in_h, in_b, ms.ms_r);"
    ∷ "    ((ms_every_t*)pms)->ms_retval = ret;"
    ∷ "    if (in_w != NULL) memcpy(ms.ms_w, in_w, len_w);"
    ∷ "    if (in_u != NULL) memcpy(ms.ms_u, in_u, len_u);"
    ∷ "    if (in_grid != NULL) memcpy(ms.ms_grid, in_grid, len_grid);"
    ∷ "    if (in_line != NULL) ((char*)in_line)[len_line - 1] = 0;"
    ∷ "    if (in_line != NULL) len_line = strlen(in_line) + 1;"
    ∷ "    if (in_line != NULL) memcpy(ms.ms_line, in_line, len_line);"
    ∷ "    if (in_wide != NULL) ((wchar_t*)in_wide)[len_wide / sizeof(wchar_t) - 1] = 0;"
    ∷ "    if (in_wide != NULL) len_wide = (wcslen(in_wide) + 1) * sizeof(wchar_t);"
    ∷ "    if (in_wide != NULL) memcpy(ms.ms_wide, in_wide, len_wide);"
    ∷ "    if (in_b != NULL) memcpy(ms.ms_b, in_b, len_b);"
    ∷ "end:"
    ∷ "    free(in_b);"
    ∷ "    free(in_h);"
    ∷ "    free(in_wide);"
    ∷ "    free(in_line);"
    ∷ "    free(in_name);"
    ∷ "    free(in_key);"
    ∷ "    free(in_grid);"
    ∷ "    free(in_p);"
    ∷ "    free(in_u);"
    ∷ "    free(in_w);"
    ∷ "    free(in_v);"
    ∷ "    return status;"
    ∷ "}"
    ∷ "static sgx_status_t sgx_bare(void* pms)"
    ∷ "{"
    ∷ "    sgx_status_t status = SGX_SUCCESS;"
    ∷ "    if (pms != NULL) return SGX_ERROR_INVALID_PARAMETER;"
    ∷ "    bare();"
    ∷ "end:"
    ∷ "    return status;"
    ∷ "}"
    ∷ "static sgx_status_t sgx_quick(void* pms)"
    ∷ "{"
    ∷ "    sgx_status_t status = SGX_SUCCESS;"
    ∷ "    ms_quick_t ms;"
    ∷ "    if (pms == NULL || !sgx_is_outside_enclave(pms, sizeof(ms))) return SGX_ERROR_INVALID_PARAMETER;"
    ∷ "    sgx_lfence();"
    ∷ "    memcpy(&ms, pms, sizeof(ms));"
    ∷ "    quick(ms.ms_m, ms.ms_x);"
    ∷ "end:"
    ∷ "    return status;"
    ∷ "}"
    ∷ "const struct { size_t nr_ecall; struct { void* call; uint8_t is_priv; uint8_t is_switchless; } table[3]; } g_ecall_table = { 3, {"
    ∷ "    { (void*)sgx_every, 0, 0 },"
    ∷ "    { (void*)sgx_bare, 1, 0 },"
    ∷ "    { (void*)sgx_quick, 0, 1 },"
    ∷ "} };"
    ∷ "const struct { size_t nr_ocall; uint8_t entry_table[3][3]; } g_dyn_entry_table = { 3, {"
    ∷ "    { 0, 1, 1, },"
    ∷ "    { 1, 0, 0, },"
    ∷ "    { 0, 0, 0, },"
    ∷ "} };"
    ∷ "sgx_status_t every_out(uint64_t* retval, const void* v, wchar_t** w, uint8_t* u, struct pair* p, int grid[2][3], const uint8_t key[16], const char* name, char* line, wchar_t* wide, void* c, size_t n, struct pair q, unsigned long int k, handle h, block b, handle r)"
    ∷ "{"
    ∷ "    sgx_status_t status = SGX_SUCCESS;"
    ∷ "    size_t size_v = (size_t)n;"
    ∷ "    size_t count_v = 1;"
    ∷ "    size_t len_v = size_v * count_v;"
    ∷ "    if (count_v != 0 && size_v > SIZE_MAX / count_v) return SGX_ERROR_INVALID_PARAMETER;"
    ∷ "    size_t size_w = sizeof(wchar_t*);"
    ∷ "    size_t count_w = (size_t)n;"
    ∷ "    size_t len_w = size_w * count_w;"
    ∷ "    if (count_w != 0 && size_w > SIZE_MAX / count_w) return SGX_ERROR_INVALID_PARAMETER;"
    ∷ "    size_t size_u = 4;"
    ∷ "    size_t count_u = (size_t)n;"
    ∷ "    size_t len_u = size_u * count_u;"
    ∷ "    if (count_u != 0 && size_u > SIZE_MAX / count_u) return SGX_ERROR_INVALID_PARAMETER;"
    ∷ "    size_t size_p = sizeof(struct pair);"
    ∷ "    size_t count_p = 1;"
    ∷ "    size_t len_p = size_p * count_p;"
    ∷ "    if (count_p != 0 && size_p > SIZE_MAX / count_p) return SGX_ERROR_INVALID_PARAMETER;"
    ∷ "    size_t size_grid = sizeof(int);"
    ∷ "    size_t count_grid = 6;"
    ∷ "    size_t len_grid = size_grid * count_grid;"
    ∷ "    if (count_grid != 0 && size_grid > SIZE_MAX / count_grid) return SGX_ERROR_INVALID_PARAMETER;"
    ∷ "    size_t size_key = sizeof(const uint8_t);"
    ∷ "    size_t count_key = 16;"
    ∷ "    size_t len_key = size_key * count_key;"
    ∷ "    if (count_key != 0 && size_key > SIZE_MAX / count_key) return SGX_ERROR_INVALID_PARAMETER;"
    ∷ "    size_t size_name = name != NULL ? strlen(name) + 1 : 0;"
    ∷ "    size_t count_name = 1;"
    ∷ "    size_t len_name = size_name * count_name;"
    ∷ "    if (count_name != 0 && size_name > SIZE_MAX / count_name) return SGX_ERROR_INVALID_PARAMETER;"
    ∷ "    size_t size_line = line != NULL ? strlen(line) + 1 : 0;"
    ∷ "    size_t count_line = 1;"
    ∷ "    size_t len_line = size_line * count_line;"
    ∷ "    if (count_line != 0 && size_line > SIZE_MAX / count_line) return SGX_ERROR_INVALID_PARAMETER;"
    ∷ "    size_t size_wide = wide != NULL ? (wcslen(wide) + 1) * sizeof(wchar_t) : 0;"
    ∷ "    size_t count_wide = 1;"
    ∷ "    size_t len_wide = size_wide * count_wide;"
    ∷ "    if (count_wide != 0 && size_wide > SIZE_MAX / count_wide) return SGX_ERROR_INVALID_PARAMETER;"
    ∷ "    size_t size_h = sizeof(*h);"
    ∷ "    size_t count_h = 1;"
    ∷ "    size_t len_h = size_h * count_h;"
    ∷ "    if (count_h != 0 && size_h > SIZE_MAX / count_h) return SGX_ERROR_INVALID_PARAMETER;"
    ∷ "    size_t size_b = sizeof(block);"
    ∷ "    size_t count_b = 1;"
    ∷ "    size_t len_b = size_b * count_b;"
    ∷ "    if (count_b != 0 && size_b > SIZE_MAX / count_b) return SGX_ERROR_INVALID_PARAMETER;"
    ∷ "    if (v != NULL && !sgx_is_within_enclave(v, len_v)) return SGX_ERROR_INVALID_PARAMETER;"
    ∷ "    if (w != NULL && !sgx_is_within_enclave(w, len_w)) return SGX_ERROR_INVALID_PARAMETER;"
    ∷ "    if (u != NULL && !sgx_is_within_enclave(u, len_u)) return SGX_ERROR_INVALID_PARAMETER;"
    ∷ "    if (p != NULL && !sgx_is_within_enclave(p, len_p)) return SGX_ERROR_INVALID_PARAMETER;"
    ∷ "    if (grid != NULL && !sgx_is_within_enclave(grid, len_grid)) return SGX_ERROR_INVALID_PARAMETER;"
    ∷ "    if (key != NULL && !sgx_is_within_enclave(key, len_key)) return SGX_ERROR_INVALID_PARAMETER;"
    ∷ "    if (name != NULL && !sgx_is_within_enclave(name, len_name)) return SGX_ERROR_INVALID_PARAMETER;"
    ∷ "    if (line != NULL && !sgx_is_within_enclave(line, len_line)) return SGX_ERROR_INVALID_PARAMETER;"
    ∷ "    if (wide != NULL && !sgx_is_within_enclave(wide, len_wide)) return SGX_ERROR_INVALID_PARAMETER;"
    ∷ "    if (h != NULL && !sgx_is_within_enclave(h, len_h)) return SGX_ERROR_INVALID_PARAMETER;"
    ∷ "    if (b != NULL && !sgx_is_within_enclave(b, len_b)) return SGX_ERROR_INVALID_PARAMETER;"
    ∷ "    size_t total = sizeof(ms_every_out_t);"
    ∷ "    if (v != NULL) { if (total > SIZE_MAX - len_v) return SGX_ERROR_INVALID_PARAMETER; total += len_v; }"
    ∷ "    if (w != NULL) { if (total > SIZE_MAX - len_w) return SGX_ERROR_INVALID_PARAMETER; total += len_w; }"
    ∷ "    if (u != NULL) { if (total > SIZE_MAX - len_u) return SGX_ERROR_INVALID_PARAMETER; total += len_u; }"
    ∷ "    if (p != NULL) { if (total > SIZE_MAX - len_p) return SGX_ERROR_INVALID_PARAMETER; total += len_p; }"
    ∷ "    if (grid != NULL) { if (total > SIZE_MAX - len_grid) return SGX_ERROR_INVALID_PARAMETER; total += len_grid; }"
    ∷ "    if (key != NULL) { if (total > SIZE_MAX - len_key) return SGX_ERROR_INVALID_PARAMETER; total += len_key; }"
    ∷ "    if (name != NULL) { if (total > SIZE_MAX - len_name) return SGX_ERROR_INVALID_PARAMETER; total += len_name; }"
    ∷ "    if (line != NULL) { if (total > SIZE_MAX - len_line) return SGX_ERROR_INVALID_PARAMETER; total += len_line; }"
    ∷ "    if (wide != NULL) { if (total > SIZE_MAX - len_wide) return SGX_ERROR_INVALID_PARAMETER; total += len_wide; }"
    ∷ "    if (h != NULL) { if (total > SIZE_MAX - len_h) return SGX_ERROR_INVALID_PARAMETER; total += len_h; }"
    ∷ "    if (b != NULL) { if (total > SIZE_MAX - len_b) return SGX_ERROR_INVALID_PARAMETER; total += len_b; }"
    ∷ "    ms_every_out_t* ms = sgx_ocalloc(total);"
    ∷ "    if (ms == NULL) { sgx_ocfree(); return SGX_ERROR_UNEXPECTED; }"
    ∷ "    memset(ms, 0, total);"
    ∷ "    uint8_t* next = (uint8_t*)(ms + 1);"
    ∷ "    uint8_t* at_v = NULL;"
    ∷ "    if (v != NULL && len_v != 0) { at_v = next; next += len_v; }"
    ∷ "    ms->ms_v = (void*)at_v;"
    ∷ "    uint8_t* at_w = NULL;"
    ∷ "    if (w != NULL && len_w != 0) { at_w = next; next += len_w; }"
    ∷ "    ms->ms_w = (void*)at_w;"
    ∷ "    uint8_t* at_u = NULL;"
    ∷ "    if (u != NULL && len_u != 0) { at_u = next; next += len_u; }"
    ∷ "    ms->ms_u = (void*)at_u;"
    ∷ "    uint8_t* at_p = NULL;"
    ∷ "    if (p != NULL && len_p != 0) { at_p = next; next += len_p; }"
    ∷ "    ms->ms_p = (void*)at_p;"
    ∷ "    uint8_t* at_grid = NULL;"
    ∷ "    if (grid != NULL && len_grid != 0) { at_grid = next; next += len_grid; }"
    ∷ "    ms->ms_grid = (void*)at_grid;"
    ∷ "    uint8_t* at_key = NULL;"
    ∷ "    if (key != NULL && len_key != 0) { at_key = next; next += len_key; }"
    ∷ "    ms->ms_key = (void*)at_key;"
    ∷ "    uint8_t* at_name = NULL;"
    ∷ "    if (name != NULL && len_name != 0) { at_name = next; next += len_name; }"
    ∷ "    ms->ms_name = (void*)at_name;"
    ∷ "    uint8_t* at_line = NULL;"
    ∷ "    if (line != NULL && len_line != 0) { at_line = next; next += len_line; }"
    ∷ "    ms->ms_line = (void*)at_line;"
    ∷ "    uint8_t* at_wide = NULL;"
    ∷ "    if (wide != NULL && len_wide != 0) { at_wide = next; next += len_wide; }"
    ∷ "    ms->ms_wide = (void*)at_wide;"
    ∷ "    ms->ms_c = (void*)c;"
    ∷ "    ms->ms_n = n;"
    ∷ "    ms->ms_q = q;"
    ∷ "    ms->ms_k = k;"
    ∷ "    uint8_t* at_h = NULL;"
    ∷ "    if (h != NULL && len_h != 0) { at_h = next; next += len_h; }"
    ∷ "    ms->ms_h = (void*)at_h;"
    ∷ "    uint8_t* at_b = NULL;"
    ∷ "    if (b != NULL && len_b != 0) { at_b = next; next += len_b; }"
    ∷ "    ms->ms_b = (void*)at_b;"
    ∷ "    ms->ms_r = r;"
    ∷ "    if (at_v != NULL) memcpy(at_v, v, len_v);"
    ∷ "    if (at_u != NULL) memcpy(at_u, u, len_u);"
    ∷ "    if (at_p != NULL) memcpy(at_p, p, len_p);"
    ∷ "    if (at_key != NULL) memcpy(at_key, key, len_key);"
    ∷ "    if (at_name != NULL) memcpy(at_name, name, len_name);"
    ∷ "    if (at_line != NULL) memcpy(at_line, line, len_line);"
    ∷ "    if (at_wide != NULL) memcpy(at_wide, wide, len_wide);"
    ∷ "    if (at_h != NULL) memcpy(at_h, h, len_h);"
    ∷ "    if (at_b != NULL) memcpy(at_b, b, len_b);"
    ∷ "    status = sgx_ocall(0, ms);"
    ∷ "    if (status == SGX_SUCCESS && retval != NULL) *retval = ms->ms_retval;"
    ∷ "    if (status == SGX_SUCCESS && at_w != NULL) memcpy((void*)w, at_w, len_w);"
    ∷ "    if (status == SGX_SUCCESS && at_u != NULL) memcpy((void*)u, at_u, len_u);"
    ∷ "    if (status == SGX_SUCCESS && at_grid != NULL) memcpy((void*)grid, at_grid, len_grid);"
    ∷ "    if (status == SGX_SUCCESS && at_line != NULL) memcpy((void*)line, at_line, len_line);"
    ∷ "    if (status == SGX_SUCCESS && at_line != NULL) ((char*)line)[len_line - 1] = 0;"
    ∷ "    if (status == SGX_SUCCESS && at_wide != NULL) memcpy((void*)wide, at_wide, len_wide);"
    ∷ "    if (status == SGX_SUCCESS && at_wide != NULL) ((wchar_t*)wide)[len_wide / sizeof(wchar_t) - 1] = 0;"
    ∷ "    if (status == SGX_SUCCESS && at_b != NULL) memcpy((void*)b, at_b, len_b);"
    ∷ "    sgx_ocfree();"
    ∷ "    return status;"
    ∷ "}"
    ∷ "sgx_status_t none(void)"
    ∷ "{"
    ∷ "    sgx_status_t status = SGX_SUCCESS;"
    ∷ "    status = sgx_ocall(1, NULL);"
    ∷ "    return status;"
    ∷ "}"
    ∷ "sgx_status_t fast(long a[4])"
    ∷ "{"
    ∷ "    sgx_status_t status = SGX_SUCCESS;"
    ∷ "    size_t size_a = sizeof(long);"
    ∷ "    size_t count_a = 4;"
    ∷ "    size_t len_a = size_a * count_a;"
    ∷ "    if (count_a != 0 && size_a > SIZE_MAX / count_a) return SGX_ERROR_INVALID_PARAMETER;"
    ∷ "    if (a != NULL && !sgx_is_within_enclave(a, len_a)) return SGX_ERROR_INVALID_PARAMETER;"
    ∷ "    size_t total = sizeof(ms_fast_t);"
    ∷ "    if (a != NULL) { if (total > SIZE_MAX - len_a) return SGX_ERROR_INVALID_PARAMETER; total += len_a; }"
    ∷ "    ms_fast_t* ms = sgx_ocalloc(total);"
    ∷ "    if (ms == NULL) { sgx_ocfree(); return SGX_ERROR_UNEXPECTED; }"
    ∷ "    memset(ms, 0, total);"
    ∷ "    uint8_t* next = (uint8_t*)(ms + 1);"
    ∷ "    uint8_t* at_a = NULL;"
    ∷ "    if (a != NULL && len_a != 0) { at_a = next; next += len_a; }"
    ∷ "    ms->ms_a = (void*)at_a;"
    ∷ "    status = sgx_ocall_switchless(2, ms);"
    ∷ "    if (status == SGX_SUCCESS && at_a != NULL) memcpy((void*)a, at_a, len_a);"
    ∷ "    sgx_ocfree();"
    ∷ "    return status;"
    ∷ "}"
    ∷ []

abbrev pub every_untrusted_header_text : List String
every_untrusted_header_text =
    "#ifndef ALL_KINDS_V2_U_H"
    ∷ "#define ALL_KINDS_V2_U_H"
    ∷ "#include <stdint.h>"
    ∷ "#include <stddef.h>"
    ∷ "#include <wchar.h>"
    ∷ "#include \"sgx_edger8r.h\""
    ∷ "#include \"a.h\""
    ∷ "#include \"u.h\""
    ∷ "typedef enum mode {"
    ∷ "    OFF = 0,"
    ∷ "    ON = 5,"
    ∷ "    LAST = 6,"
    ∷ "} mode;"
    ∷ "enum {"
    ∷ "    LEFT = -2,"
    ∷ "    RIGHT = -1,"
    ∷ "};"
    ∷ "typedef struct pair {"
    ∷ "    int a;"
    ∷ "    long b[2];"
    ∷ "} pair;"
    ∷ "typedef union word {"
    ∷ "    uint64_t all;"
    ∷ "    uint8_t bytes[8];"
    ∷ "} word;"
    ∷ "sgx_status_t all-kinds.v2_every(sgx_enclave_id_t eid, int* retval, const void* v, wchar_t** w, uint8_t* u, struct pair* p, int grid[2][3], const uint8_t key[16], const char* name, char* line, wchar_t* wide, void* c, size_t n, struct pair q, unsigned long int k, handle h, block b, handle r);"
    ∷ "sgx_status_t all-kinds.v2_bare(sgx_enclave_id_t eid);"
    ∷ "sgx_status_t all-kinds.v2_quick(sgx_enclave_id_t eid, enum mode m, union word x);"
    ∷ "uint64_t every_out(const void* v, wchar_t** w, uint8_t* u, struct pair* p, int grid[2][3], const uint8_t key[16], const char* name, char* line, wchar_t* wide, void* c, size_t n, struct pair q, unsigned long int k, handle h, block b, handle r);"
    ∷ "void none(void);"
    ∷ "void fast(long a[4]);"
    ∷ "#endif"
    ∷ []

abbrev pub every_untrusted_source_text : List String
every_untrusted_source_text =
    "#include \"all-kinds.v2_u.h\""
    ∷ "#include <string.h>"
    ∷ "typedef struct ms_every_t {"
    ∷ "int ms_retval;"
    ∷ "void* ms_v;"
    ∷ "wchar_t** ms_w;"
    ∷ "uint8_t* ms_u;"
    ∷ "struct pair* ms_p;"
    ∷ "int* ms_grid;"
    ∷ "uint8_t* ms_key;"
    ∷ "char* ms_name;"
    ∷ "size_t ms_name_len;"
    ∷ "char* ms_line;"
    ∷ "size_t ms_line_len;"
    ∷ "wchar_t* ms_wide;"
    ∷ "size_t ms_wide_len;"
    ∷ "void* ms_c;"
    ∷ "size_t ms_n;"
    ∷ "struct pair ms_q;"
    ∷ "unsigned long int ms_k;"
    ∷ "handle ms_h;"
    ∷ "block* ms_b;"
    ∷ "handle ms_r;"
    ∷ "} ms_every_t;"
    ∷ "typedef struct ms_quick_t {"
    ∷ "enum mode ms_m;"
    ∷ "union word ms_x;"
    ∷ "} ms_quick_t;"
    ∷ "typedef struct ms_every_out_t {"
    ∷ "uint64_t ms_retval;"
    ∷ "void* ms_v;"
    ∷ "wchar_t** ms_w;"
    ∷ "uint8_t* ms_u;"
    ∷ "struct pair* ms_p;"
    ∷ "int* ms_grid;"
    ∷ "uint8_t* ms_key;"
    ∷ "char* ms_name;"
    ∷ "char* ms_line;"
    ∷ "wchar_t* ms_wide;"
    ∷ "void* ms_c;"
    ∷ "size_t ms_n;"
    ∷ "struct pair ms_q;"
    ∷ "unsigned long int ms_k;"
    ∷ "handle ms_h;"
    ∷ "block* ms_b;"
    ∷ "handle ms_r;"
    ∷ "} ms_every_out_t;"
    ∷ "typedef struct ms_fast_t {"
    ∷ "long* ms_a;"
    ∷ "} ms_fast_t;"
    ∷ "static sgx_status_t all-kinds.v2_every_out(void* pms)"
    ∷ "{"
    ∷ "    ms_every_out_t* ms = pms;"
    ∷ "    ms->ms_retval = every_out(ms->ms_v, ms->ms_w, ms->ms_u, ms->ms_p, ms->ms_grid, ms->ms_key, ms->ms_name, ms->ms_line, ms->ms_wide, ms->ms_c, ms->ms_n, ms->ms_q, ms->ms_k, ms->ms_h, ms->ms_b, ms->ms_r);"
    ∷ "    return SGX_SUCCESS;"
    ∷ "}"
    ∷ "static sgx_status_t all-kinds.v2_none(void* pms)"
    ∷ "{"
    ∷ "    none();"
    ∷ "    return SGX_SUCCESS;"
    ∷ "}"
    ∷ "static sgx_status_t all-kinds.v2_fast(void* pms)"
    ∷ "{"
    ∷ "    ms_fast_t* ms = pms;"
    ∷ "    fast(ms->ms_a);"
    ∷ "    return SGX_SUCCESS;"
    ∷ "}"
    ∷ "static const struct { size_t nr_ocall; void* table[3]; } ocall_table_all-kinds.v2 = { 3, {"
    ∷ "    (void*)all-kinds.v2_every_out,"
    ∷ "    (void*)all-kinds.v2_none,"
    ∷ "    (void*)all-kinds.v2_fast,"
    ∷ "} };"
    ∷ "sgx_status_t all-kinds.v2_every(sgx_enclave_id_t eid, int* retval, const void* v, wchar_t** w, uint8_t* u, struct pair* p, int grid[2][3], const uint8_t key[16], const char* name, char* line, wchar_t* wide, void* c, size_t n, struct pair q, unsigned long int k, handle h, block b, handle r)"
    ∷ "{"
    ∷ "    sgx_status_t status;"
    ∷ "    ms_every_t ms;"
    ∷ "    ms.ms_v = (void*)v;"
    ∷ "    ms.ms_w = (void*)w;"
    ∷ "    ms.ms_u = (void*)u;"
    ∷ "    ms.ms_p = (void*)p;"
    ∷ "    ms.ms_grid = (void*)grid;"
    ∷ "    ms.ms_key = (void*)key;"
    ∷ "    ms.ms_name = (void*)name;"
    ∷ "    ms.ms_name_len = name != NULL ? strlen(name) + 1 : 0;"
    ∷ "    ms.ms_line = (void*)line;"
    ∷ "    ms.ms_line_len = line != NULL ? strlen(line) + 1 : 0;"
    ∷ "    ms.ms_wide = (void*)wide;"
    ∷ "    ms.ms_wide_len = wide != NULL ? (wcslen(wide) + 1) * sizeof(wchar_t) : 0;"
    ∷ "    ms.ms_c = (void*)c;"
    ∷ "    ms.ms_n = n;"
    ∷ "    ms.ms_q = q;"
    ∷ "    ms.ms_k = k;"
    ∷ "    ms.ms_h = h;"
    ∷ "    ms.ms_b = b;"
    ∷ "    ms.ms_r = r;"
    ∷ "    status = sgx_ecall(eid, 0, &ocall_table_all-kinds.v2, &ms);"
    ∷ "    if (status == SGX_SUCCESS && retval != NULL) *retval = ms.ms_retval;"
    ∷ "    return status;"
    ∷ "}"
    ∷ "sgx_status_t all-kinds.v2_bare(sgx_enclave_id_t eid)"
    ∷ "{"
    ∷ "    sgx_status_t status;"
    ∷ "    status = sgx_ecall(eid, 1, &ocall_table_all-kinds.v2, NULL);"
    ∷ "    return status;"
    ∷ "}"
    ∷ "sgx_status_t all-kinds.v2_quick(sgx_enclave_id_t eid, enum mode m, union word x)"
    ∷ "{"
    ∷ "    sgx_status_t status;"
    ∷ "    ms_quick_t ms;"
    ∷ "    ms.ms_m = m;"
    ∷ "    ms.ms_x = x;"
    ∷ "    status = sgx_ecall_switchless(eid, 2, &ocall_table_all-kinds.v2, &ms);"
    ∷ "    return status;"
    ∷ "}"
    ∷ []

-- ---- all of them

pub record Examples : Type 0 where
  pub buffer_trusted_source : stub which.TrustedSource "z" false buffer_files buffer_interface ≡ text_of buffer_trusted_source_text
  pub buffer_untrusted_source : stub which.UntrustedSource "z" false buffer_files buffer_interface ≡ text_of buffer_untrusted_source_text
  pub events_trusted_header : stub which.TrustedHeader "Enclave" false events_files events_interface ≡ text_of events_trusted_header_text
  pub events_trusted_source : stub which.TrustedSource "Enclave" false events_files events_interface ≡ text_of events_trusted_source_text
  pub events_untrusted_header : stub which.UntrustedHeader "Enclave" false events_files events_interface ≡ text_of events_untrusted_header_text
  pub events_untrusted_source : stub which.UntrustedSource "Enclave" false events_files events_interface ≡ text_of events_untrusted_source_text
  pub bare_trusted_header : stub which.TrustedHeader "z" false bare_files bare_interface ≡ text_of bare_trusted_header_text
  pub bare_untrusted_header : stub which.UntrustedHeader "z" false bare_files bare_interface ≡ text_of bare_untrusted_header_text
  pub bare_prefixed_header : stub which.UntrustedHeader "z" true bare_files bare_interface ≡ text_of bare_prefixed_header_text
  pub none_trusted_header : stub which.TrustedHeader "no-functions.v2" false none_files none_interface ≡ text_of none_trusted_header_text
  pub none_trusted_source : stub which.TrustedSource "no-functions.v2" false none_files none_interface ≡ text_of none_trusted_source_text
  pub none_untrusted_header : stub which.UntrustedHeader "no-functions.v2" false none_files none_interface ≡ text_of none_untrusted_header_text
  pub none_untrusted_source : stub which.UntrustedSource "no-functions.v2" false none_files none_interface ≡ text_of none_untrusted_source_text
  pub outward_trusted_source : stub which.TrustedSource "z" false outward_files outward_interface ≡ text_of outward_trusted_source_text
  pub outward_untrusted_source : stub which.UntrustedSource "z" false outward_files outward_interface ≡ text_of outward_untrusted_source_text
  pub every_trusted_header : stub which.TrustedHeader "all-kinds.v2" true every_files every_interface ≡ text_of every_trusted_header_text
  pub every_trusted_source : stub which.TrustedSource "all-kinds.v2" true every_files every_interface ≡ text_of every_trusted_source_text
  pub every_untrusted_header : stub which.UntrustedHeader "all-kinds.v2" true every_files every_interface ≡ text_of every_untrusted_header_text
  pub every_untrusted_source : stub which.UntrustedSource "all-kinds.v2" true every_files every_interface ≡ text_of every_untrusted_source_text
  pub no_own_word : list_any (author_names (codes "pms")) (ecalls_of (gathered_of every_files)) ≡ false
  pub own_word : list_any (author_names (codes "n")) (ecalls_of (gathered_of every_files)) ≡ true
  pub word_alone : names (codes "pms") (codes "if (pms != NULL)") ≡ true
  pub word_in_another : names (codes "pms") (codes "ms.ms_pms") ≡ false
