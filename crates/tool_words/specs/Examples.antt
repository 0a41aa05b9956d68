-- Command lines, and what they ask for.
use Rattle.std.specs.Prelude.{◌≡◌, ℕ, true, false, List, [], ◌∷◌, Some, None, codes}
use Rattle.tool_words.specs.Words.{request_of}
use Rattle.tool_words.specs.declared.Choices.{Choices}
use Rattle.tool_words.specs.declared.Request.TheVariants.{Help, Stubs}

-- all files of these, here
abbrev pub plain : List (List ℕ) → Choices
plain files = record {
  use_prefix = false;
  header_only = false;
  search_path = [];
  untrusted = false;
  trusted = false;
  untrusted_dir = None;
  trusted_dir = None;
  files = files;
}

pub record Examples : Type 0 where
  pub no_words : request_of [] ≡ None
  pub no_file : request_of (codes "--trusted" ∷ []) ≡ None
  pub two_files : request_of (codes "a.edl" ∷ codes "b.edl" ∷ []) ≡ Some (Stubs (plain (codes "a.edl" ∷ codes "b.edl" ∷ [])))
  -- options stand before, behind and between files
  pub mixed : request_of (codes "a" ∷ codes "--use-prefix" ∷ codes "b" ∷ codes "--header-only" ∷ [])
      ≡ Some (Stubs (record (plain (codes "a" ∷ codes "b" ∷ [])) { use_prefix = true; header_only = true }))
  pub search_path : request_of (codes "--search-path" ∷ codes "p::q" ∷ codes "a" ∷ [])
      ≡ Some (Stubs (record (plain (codes "a" ∷ [])) { search_path = codes "p" ∷ [] ∷ codes "q" ∷ [] }))
  pub attached : request_of (codes "--trusted-dir=t" ∷ codes "--untrusted-dir=" ∷ codes "a" ∷ [])
      ≡ Some (Stubs (record (plain (codes "a" ∷ [])) { trusted_dir = Some (codes "t"); untrusted_dir = Some [] }))
  -- behind two hyphens a word is a file
  pub hyphens : request_of (codes "--trusted" ∷ codes "--" ∷ codes "--untrusted" ∷ [])
      ≡ Some (Stubs (record (plain (codes "--untrusted" ∷ [])) { trusted = true }))
  pub help : request_of (codes "--help" ∷ []) ≡ Some Help
  pub help_beside_a_file : request_of (codes "a" ∷ codes "--help" ∷ []) ≡ Some Help
  -- a faulty word is one beside help too
  pub help_beside_a_faulty_word : request_of (codes "--help" ∷ codes "--nope" ∷ []) ≡ None
  pub flag_twice : request_of (codes "--trusted" ∷ codes "a" ∷ codes "--trusted" ∷ []) ≡ None
  pub option_twice : request_of (codes "--search-path=p" ∷ codes "--search-path=q" ∷ codes "a" ∷ []) ≡ None
  pub flag_with_a_value : request_of (codes "--trusted=yes" ∷ codes "a" ∷ []) ≡ None
  pub option_without_a_value : request_of (codes "a" ∷ codes "--search-path" ∷ []) ≡ None
  -- there are no short options, and no abbreviations
  pub short : request_of (codes "-h" ∷ []) ≡ None
  pub abbreviated : request_of (codes "--trust" ∷ codes "a" ∷ []) ≡ None
