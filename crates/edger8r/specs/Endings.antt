-- How a call of the tool ends, why, and what it writes to the sink then.
use Rattle.std.specs.Prelude.{ℕ, ◌≡◌, List, [], Some, None, codes}
use Rattle.sgx_base.specs.Lines.{edl_line, unread_line, missing_line}
use Rattle.sgx_base.specs.Stores.{FilesState}
use Rattle.tool_words.specs.declared.Choices.{Choices}
use Rattle.tool_words.specs.declared.Request.TheVariants as request
use Rattle.tool_words.specs.Words.{request_of}
use Rattle.edger8r.specs.declared.ending.Ending.{Ending}
use Rattle.edger8r.specs.declared.ending.Ending.TheVariants.{Usage, Help, Made, Edl, Unread, Missing, Unwritten, Memory}
use Rattle.edger8r.specs.Made.{MakesAll}

-- why a call with these words ends so, where the files were so before and are so after
pub data Ends (words : List (List ℕ)) (before : FilesState) : FilesState → Ending → Type 0 where
  faulty_words : request_of words ≡ None → Ends words before before Usage
  helped : request_of words ≡ Some request.Help → Ends words before before Help
  no_memory : Ends words before before Memory
  making : (c : Choices) (after : FilesState) (ending : Ending) → request_of words ≡ Some (request.Stubs c)
      → MakesAll c c.files before after ending → Ends words before after ending

-- ---- what is written

-- the status of an ending
abbrev pub status_of : Ending → ℕ
status_of Made = 0
status_of Help = 0
status_of Usage = 1
status_of (Edl name fault) = 2
status_of (Unread name) = 4
status_of Unwritten = 5
status_of Memory = 6
status_of (Missing name) = 7

-- the line of words that ask for help, or for nothing
abbrev pub usage_line : List ℕ
usage_line = codes "usage: sgx_edger8r [--use-prefix] [--header-only] [--search-path P] [--untrusted] [--trusted] [--untrusted-dir D] [--trusted-dir D] [--help] FILE ..\n"

-- what is to be written at an ending
abbrev pub text_of : Ending → List ℕ
text_of Made = []
text_of Help = usage_line
text_of Usage = usage_line
text_of (Edl name fault) = edl_line name fault
text_of (Unread name) = unread_line name
text_of Unwritten = []
text_of Memory = []
text_of (Missing name) = missing_line name
