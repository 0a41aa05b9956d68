-- Names of interface files, and the stub files that they give.
use Rattle.std.specs.Prelude.{◌≡◌, ℕ, true, false, List, [], ◌∷◌, None, Some, codes}
use Rattle.stub_printer.specs.declared.Which.TheVariants.{TrustedHeader, TrustedSource, UntrustedHeader, UntrustedSource}
use Rattle.tool_words.specs.declared.Choices.{Choices}
use Rattle.stub_files.specs.declared.StubFile.{StubFile}
use Rattle.stub_files.specs.StubFiles.{stem, stub_files}

-- no choices
abbrev pub plain : Choices
plain = record {
  use_prefix = false;
  header_only = false;
  search_path = [];
  untrusted = false;
  trusted = false;
  untrusted_dir = None;
  trusted_dir = None;
  files = [];
}

abbrev pub trusted_header : List ℕ → StubFile
trusted_header name = record { which = TrustedHeader; name = name }

abbrev pub trusted_source : List ℕ → StubFile
trusted_source name = record { which = TrustedSource; name = name }

abbrev pub untrusted_header : List ℕ → StubFile
untrusted_header name = record { which = UntrustedHeader; name = name }

abbrev pub untrusted_source : List ℕ → StubFile
untrusted_source name = record { which = UntrustedSource; name = name }

pub record Examples : Type 0 where
  pub plain_name : stem (codes "Enclave.edl") ≡ codes "Enclave"
  pub in_a_folder : stem (codes "a.edl/b-c.v2.edl") ≡ codes "b-c.v2"
  pub without_end : stem (codes "../z") ≡ codes "z"
  pub one_end : stem (codes "a.edl.edl") ≡ codes "a.edl"
  pub end_alone : stem (codes "d/.edl") ≡ []
  pub all : stub_files plain (codes "d/z.edl")
      ≡ trusted_header (codes "z_t.h") ∷ trusted_source (codes "z_t.c")
      ∷ untrusted_header (codes "z_u.h") ∷ untrusted_source (codes "z_u.c") ∷ []
  pub both_sides : stub_files (record plain { trusted = true; untrusted = true; header_only = true }) (codes "z.edl")
      ≡ trusted_header (codes "z_t.h") ∷ untrusted_header (codes "z_u.h") ∷ []
  -- an empty directory is one
  pub directories : stub_files (record plain { trusted = true; trusted_dir = Some []; untrusted_dir = Some (codes "u") })
      (codes "z.edl") ≡ trusted_header (codes "/z_t.h") ∷ trusted_source (codes "/z_t.c") ∷ []
  pub untrusted_side : stub_files (record plain { untrusted = true; trusted_dir = Some []; untrusted_dir = Some (codes "u") })
      (codes "z") ≡ untrusted_header (codes "u/z_u.h") ∷ untrusted_source (codes "u/z_u.c") ∷ []
