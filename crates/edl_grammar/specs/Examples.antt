-- Short files and their trees, or where they are no sentence.
use Rattle.std.specs.Prelude.{◌≡◌, ℕ, List, [], ◌∷◌, Result, Ok, Err, true, false, Some, None, codes}
use Rattle.sgx_base.specs.declared.Fault.{Fault}
use Rattle.edl_lexer.specs.declared.Token.{Token}
use Rattle.edl_lexer.specs.declared.LexFault.{LexFault}
use Rattle.edl_lexer.specs.Lexing.{lexing}
use Rattle.edl_grammar.specs.declared.EdlFile.{EdlFile}
use Rattle.edl_grammar.specs.declared.ParseFault.{ParseFault}
use Rattle.edl_grammar.specs.declared.ParseFault.TheVariants as faults
use Rattle.edl_grammar.specs.declared.IncludePlace.TheVariants as place
use Rattle.edl_grammar.specs.declared.TypeDecl.TheVariants as decl
use Rattle.edl_grammar.specs.declared.AttrValue.TheVariants as value
use Rattle.edl_grammar.specs.declared.Base.TheVariants as base
use Rattle.edl_grammar.specs.declared.Tag.TheVariants as tag
use Rattle.edl_grammar.specs.Grammar.{nothing}
use Rattle.edl_grammar.specs.Parser.{parsing}

abbrev pub tokens_or_none : Result (List Token) LexFault → List Token
tokens_or_none (Ok ts) = ts
tokens_or_none (Err e) = []

-- what is answered for the text of a file
abbrev pub parsed : List ℕ → Result EdlFile ParseFault
parsed text = parsing 0 text (tokens_or_none (lexing 0 text))

abbrev pub fault : ℕ → ℕ → ℕ → Fault
fault line column code = record { file = 0; line = line; column = column; code = code }

pub record Examples : Type 0 where
  pub empty : parsed (codes "enclave { };") ≡ Ok nothing
  pub cut : parsed (codes "enclave {") ≡ Err (faults.Expected 2 (fault 1 10 6))
  pub nothing_at_all : parsed [] ≡ Err (faults.Expected 0 (fault 1 1 6))
  pub more : parsed (codes "enclave { }; x") ≡ Err (faults.Expected 4 (fault 1 14 6))
  pub void_comma : parsed (codes "enclave { trusted { void f(void, int a); }; };") ≡ Err (faults.Expected 8 (fault 1 32 6))
  pub deep : parsed (codes "enclave { struct s { int ********* x; }; };") ≡ Err (faults.TooDeep (fault 1 36 7))
  pub files : parsed (codes "enclave { include \"a.h\" from \"b.edl\" import f, g; from \"c.edl\" import *; };") ≡ Ok (record { includes = record { token = 3; text = codes "a.h"; place = place.Outside } ∷ []; imports = record { token = 5; text = codes "b.edl"; names = Some (record { token = 7; name = codes "f" } ∷ record { token = 9; name = codes "g" } ∷ []) } ∷ record { token = 12; text = codes "c.edl"; names = None } ∷ []; types = []; trusted = []; untrusted = [] })
  pub enumerations : parsed (codes "enclave { enum e { A = -1, B = 2, C, }; enum { }; enum { D }; };") ≡ Ok (record { includes = []; imports = []; types = decl.Enumeration 3 (Some (codes "e")) (record { token = 5; name = codes "A"; negative = true; number = Some 1 } ∷ record { token = 10; name = codes "B"; negative = false; number = Some 2 } ∷ record { token = 14; name = codes "C"; negative = false; number = None } ∷ []) ∷ decl.Enumeration 18 None [] ∷ decl.Enumeration 22 None (record { token = 24; name = codes "D"; negative = false; number = None } ∷ []) ∷ []; trusted = []; untrusted = [] })
  pub structures : parsed (codes "enclave { struct s { unsigned long long int a; const char const* b[2][]; signed c; struct s* d; }; union u { short int x; float y; double z; enum e w; union u* v; long t; unsigned char k; T q; }; };") ≡ Ok (record { includes = []; imports = []; types = decl.Structure 3 (codes "s") (record { token = 9; name = codes "a"; written = record { token = 8; words = codes "unsigned" ∷ codes "long" ∷ codes "long" ∷ codes "int" ∷ []; base = (base.Integer 8 false); is_const = false; stars = 0 }; dims = []; attrs = [] } ∷ record { token = 15; name = codes "b"; written = record { token = 12; words = codes "const" ∷ codes "char" ∷ codes "const" ∷ []; base = (base.Integer 1 true); is_const = true; stars = 1 }; dims = Some 2 ∷ None ∷ []; attrs = [] } ∷ record { token = 23; name = codes "c"; written = record { token = 22; words = codes "signed" ∷ []; base = (base.Integer 4 true); is_const = false; stars = 0 }; dims = []; attrs = [] } ∷ record { token = 28; name = codes "d"; written = record { token = 26; words = codes "struct" ∷ codes "s" ∷ []; base = (base.Tagged tag.Struct (codes "s")); is_const = false; stars = 1 }; dims = []; attrs = [] } ∷ []) ∷ decl.Union 33 (codes "u") (record { token = 37; name = codes "x"; written = record { token = 36; words = codes "short" ∷ codes "int" ∷ []; base = (base.Integer 2 true); is_const = false; stars = 0 }; dims = []; attrs = [] } ∷ record { token = 40; name = codes "y"; written = record { token = 39; words = codes "float" ∷ []; base = base.Float; is_const = false; stars = 0 }; dims = []; attrs = [] } ∷ record { token = 43; name = codes "z"; written = record { token = 42; words = codes "double" ∷ []; base = base.Double; is_const = false; stars = 0 }; dims = []; attrs = [] } ∷ record { token = 47; name = codes "w"; written = record { token = 46; words = codes "enum" ∷ codes "e" ∷ []; base = (base.Tagged tag.Enum (codes "e")); is_const = false; stars = 0 }; dims = []; attrs = [] } ∷ record { token = 52; name = codes "v"; written = record { token = 50; words = codes "union" ∷ codes "u" ∷ []; base = (base.Tagged tag.Union (codes "u")); is_const = false; stars = 1 }; dims = []; attrs = [] } ∷ record { token = 55; name = codes "t"; written = record { token = 54; words = codes "long" ∷ []; base = (base.Integer 8 true); is_const = false; stars = 0 }; dims = []; attrs = [] } ∷ record { token = 59; name = codes "k"; written = record { token = 58; words = codes "unsigned" ∷ codes "char" ∷ []; base = (base.Integer 1 false); is_const = false; stars = 0 }; dims = []; attrs = [] } ∷ record { token = 62; name = codes "q"; written = record { token = 61; words = codes "T" ∷ []; base = (base.Bare (codes "T")); is_const = false; stars = 0 }; dims = []; attrs = [] } ∷ []) ∷ []; trusted = []; untrusted = [] })
  pub trusted_side : parsed (codes "enclave { trusted { include \"t.h\" public void f(void); int g() transition_using_threads; }; };") ≡ Ok (record { includes = record { token = 5; text = codes "t.h"; place = place.Trusted } ∷ []; imports = []; types = []; trusted = record { token = 8; name = codes "f"; result = record { token = 7; words = codes "void" ∷ []; base = base.Void; is_const = false; stars = 0 }; params = []; is_public = true; switchless = false; allow = None } ∷ record { token = 14; name = codes "g"; result = record { token = 13; words = codes "int" ∷ []; base = (base.Integer 4 true); is_const = false; stars = 0 }; params = []; is_public = false; switchless = true; allow = None } ∷ []; untrusted = [] })
  pub untrusted_side : parsed (codes "enclave { untrusted { include \"u.h\" [cdecl] long o([in, size=4] void* p, [out, count=n] int q[3], int n) allow(f, g) transition_using_threads; char r(void) transition_using_threads allow(); unsigned s(void x); }; };") ≡ Ok (record { includes = record { token = 5; text = codes "u.h"; place = place.Untrusted } ∷ []; imports = []; types = []; trusted = []; untrusted = record { token = 10; name = codes "o"; result = record { token = 9; words = codes "long" ∷ []; base = (base.Integer 8 true); is_const = false; stars = 0 }; params = record { token = 21; name = codes "p"; written = record { token = 19; words = codes "void" ∷ []; base = base.Void; is_const = false; stars = 1 }; dims = []; attrs = record { token = 13; name = codes "in"; value = None } ∷ record { token = 15; name = codes "size"; value = Some (value.Number 4) } ∷ [] } ∷ record { token = 31; name = codes "q"; written = record { token = 30; words = codes "int" ∷ []; base = (base.Integer 4 true); is_const = false; stars = 0 }; dims = Some 3 ∷ []; attrs = record { token = 24; name = codes "out"; value = None } ∷ record { token = 26; name = codes "count"; value = Some (value.Named (record { token = 28; name = codes "n" })) } ∷ [] } ∷ record { token = 37; name = codes "n"; written = record { token = 36; words = codes "int" ∷ []; base = (base.Integer 4 true); is_const = false; stars = 0 }; dims = []; attrs = [] } ∷ []; is_public = false; switchless = true; allow = Some (record { token = 41; name = codes "f" } ∷ record { token = 43; name = codes "g" } ∷ []) } ∷ record { token = 48; name = codes "r"; result = record { token = 47; words = codes "char" ∷ []; base = (base.Integer 1 true); is_const = false; stars = 0 }; params = []; is_public = false; switchless = true; allow = Some [] } ∷ record { token = 58; name = codes "s"; result = record { token = 57; words = codes "unsigned" ∷ []; base = (base.Integer 4 false); is_const = false; stars = 0 }; params = record { token = 61; name = codes "x"; written = record { token = 60; words = codes "void" ∷ []; base = base.Void; is_const = false; stars = 0 }; dims = []; attrs = [] } ∷ []; is_public = false; switchless = false; allow = None } ∷ [] })
  pub with_ocalls : parsed (codes "enclave { untrusted { [cdecl] void sgx_oc_cpuidex([out] int cpuinfo[4], int leaf, int subleaf); int sgx_thread_set_multiple_untrusted_events_ocall([in, count = total] const void **waiters, size_t total); }; };") ≡ Ok (record { includes = []; imports = []; types = []; trusted = []; untrusted = record { token = 8; name = codes "sgx_oc_cpuidex"; result = record { token = 7; words = codes "void" ∷ []; base = base.Void; is_const = false; stars = 0 }; params = record { token = 14; name = codes "cpuinfo"; written = record { token = 13; words = codes "int" ∷ []; base = (base.Integer 4 true); is_const = false; stars = 0 }; dims = Some 4 ∷ []; attrs = record { token = 11; name = codes "out"; value = None } ∷ [] } ∷ record { token = 20; name = codes "leaf"; written = record { token = 19; words = codes "int" ∷ []; base = (base.Integer 4 true); is_const = false; stars = 0 }; dims = []; attrs = [] } ∷ record { token = 23; name = codes "subleaf"; written = record { token = 22; words = codes "int" ∷ []; base = (base.Integer 4 true); is_const = false; stars = 0 }; dims = []; attrs = [] } ∷ []; is_public = false; switchless = false; allow = None } ∷ record { token = 27; name = codes "sgx_thread_set_multiple_untrusted_events_ocall"; result = record { token = 26; words = codes "int" ∷ []; base = (base.Integer 4 true); is_const = false; stars = 0 }; params = record { token = 40; name = codes "waiters"; written = record { token = 37; words = codes "const" ∷ codes "void" ∷ []; base = base.Void; is_const = true; stars = 2 }; dims = []; attrs = record { token = 30; name = codes "in"; value = None } ∷ record { token = 32; name = codes "count"; value = Some (value.Named (record { token = 34; name = codes "total" })) } ∷ [] } ∷ record { token = 43; name = codes "total"; written = record { token = 42; words = codes "size_t" ∷ []; base = (base.Bare (codes "size_t")); is_const = false; stars = 0 }; dims = []; attrs = [] } ∷ []; is_public = false; switchless = false; allow = None } ∷ [] })
  pub whole : parsed (codes "enclave { from \"sgx_tstdc.edl\" import *; enum mode { OFF, ON = 5 }; struct pair { int a; long b; }; trusted { public void run([in] struct pair* p, enum mode m); }; untrusted { void ocall_print_string([in, string] const char* str); }; };") ≡ Ok (record { includes = []; imports = record { token = 3; text = codes "sgx_tstdc.edl"; names = None } ∷ []; types = decl.Enumeration 8 (Some (codes "mode")) (record { token = 10; name = codes "OFF"; negative = false; number = None } ∷ record { token = 12; name = codes "ON"; negative = false; number = Some 5 } ∷ []) ∷ decl.Structure 18 (codes "pair") (record { token = 21; name = codes "a"; written = record { token = 20; words = codes "int" ∷ []; base = (base.Integer 4 true); is_const = false; stars = 0 }; dims = []; attrs = [] } ∷ record { token = 24; name = codes "b"; written = record { token = 23; words = codes "long" ∷ []; base = (base.Integer 8 true); is_const = false; stars = 0 }; dims = []; attrs = [] } ∷ []) ∷ []; trusted = record { token = 32; name = codes "run"; result = record { token = 31; words = codes "void" ∷ []; base = base.Void; is_const = false; stars = 0 }; params = record { token = 40; name = codes "p"; written = record { token = 38; words = codes "struct" ∷ codes "pair" ∷ []; base = (base.Tagged tag.Struct (codes "pair")); is_const = false; stars = 1 }; dims = []; attrs = record { token = 35; name = codes "in"; value = None } ∷ [] } ∷ record { token = 44; name = codes "m"; written = record { token = 43; words = codes "enum" ∷ codes "mode" ∷ []; base = (base.Tagged tag.Enum (codes "mode")); is_const = false; stars = 0 }; dims = []; attrs = [] } ∷ []; is_public = true; switchless = false; allow = None } ∷ []; untrusted = record { token = 52; name = codes "ocall_print_string"; result = record { token = 51; words = codes "void" ∷ []; base = base.Void; is_const = false; stars = 0 }; params = record { token = 62; name = codes "str"; written = record { token = 60; words = codes "const" ∷ codes "char" ∷ []; base = (base.Integer 1 true); is_const = true; stars = 1 }; dims = []; attrs = record { token = 55; name = codes "in"; value = None } ∷ record { token = 57; name = codes "string"; value = None } ∷ [] } ∷ []; is_public = false; switchless = false; allow = None } ∷ [] })
