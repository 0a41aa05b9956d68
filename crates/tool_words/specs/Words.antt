-- What the words of the tool ask for. They are read by clap's rules, for a command of flags, options with a value and
-- files.
use Rattle.std.specs.Prelude.{Bool, true, false, List, [], ◌∷◌, Option, Some, None, codes}
use Rattle.std.specs.Prelude.{if◌then◌else◌, find, option_and_then, option_map, unwrap_or}
use Rattle.command_line.specs.SearchPath.{directories}
use Rattle.std.specs.Prelude.{◌==◌}
use Rattle.std.specs.Str.{bytes_eq}
use Rattle.clap.specs.Lexer.{usize_max}
use Rattle.clap.specs.Walk.{Row, Rule, Text, is_empty, first_of, all_of}
use Rattle.clap.specs.Simple.{App, new_rule, new_shape, matches_of}
use Rattle.clap.specs.Faults.{fault_of}
use Rattle.clap.specs.declared.builder.action.ArgAction.TheVariants.{Set, SetTrue, Append}
use Rattle.clap.specs.declared.parser.matches.ValueSource.{ValueSource}
use Rattle.clap.specs.declared.parser.matches.ValueSource.TheVariants.{CommandLine, DefaultValue}
use Rattle.clap.specs.declared.error.kind.ErrorKind.{ErrorKind}
use Rattle.clap.specs.declared.error.kind.ErrorKind.TheVariants.{OutOfMemory}
use Rattle.tool_words.specs.declared.WordsFault.{WordsFault}
use Rattle.tool_words.specs.declared.WordsFault.TheVariants.{Usage, Memory}
use Rattle.tool_words.specs.declared.Choices.{Choices}
use Rattle.tool_words.specs.declared.Request.{Request}
use Rattle.tool_words.specs.declared.Request.TheVariants.{Help, Stubs}

-- ---- the command

-- a flag, which is given or not
abbrev pub flag : Text → Rule
flag name = record (new_rule name) { long = Some name; action = Some SetTrue }

-- an option with one value
abbrev pub option : Text → Rule
option name = record (new_rule name) { long = Some name; action = Some Set }

-- the files, as many as there are
abbrev pub files : Rule
files = record (new_rule (codes "FILE")) {
  action = Some Append;
  range = Some (record { start_inclusive = 0; end_inclusive = usize_max });
}

abbrev pub rules : List Rule
rules = flag (codes "use-prefix") ∷ flag (codes "header-only") ∷ option (codes "search-path")
    ∷ flag (codes "untrusted") ∷ flag (codes "trusted")
    ∷ option (codes "untrusted-dir") ∷ option (codes "trusted-dir") ∷ flag (codes "help") ∷ files ∷ []

-- the tool's command, without clap's own help and version
abbrev pub tool : App
tool = record {
  top = record (new_shape (codes "sgx_edger8r")) {
    rules = rules;
    no_binary_name = true;
    disable_help_flag = true;
    disable_version_flag = true;
  };
  subs = [];
}

-- ---- what the words give

-- whether a source is the command line, and not a default
abbrev pub is_typed : Option ValueSource → Bool
is_typed (Some CommandLine) = true
is_typed (Some DefaultValue) = false
is_typed None = false

-- whether the words give the flag
abbrev pub is_given : Text → List Row → Bool
is_given name rows = is_typed (option_and_then (λ r. r.source) (find (λ r. bytes_eq r.id name) rows))

abbrev pub chosen : List Row → Choices
chosen rows = record {
  use_prefix = is_given (codes "use-prefix") rows;
  header_only = is_given (codes "header-only") rows;
  search_path = unwrap_or (option_map directories (first_of (codes "search-path") rows)) [];
  untrusted = is_given (codes "untrusted") rows;
  trusted = is_given (codes "trusted") rows;
  untrusted_dir = first_of (codes "untrusted-dir") rows;
  trusted_dir = first_of (codes "trusted-dir") rows;
  files = unwrap_or (all_of (codes "FILE") rows) [];
}

-- help where it is asked for, else the stubs of one file or more
abbrev pub asked : List Row → Option Request
asked rows =
    if is_given (codes "help") rows then Some Help
    else (if is_empty (chosen rows).files then None else Some (Stubs (chosen rows)))

-- what the words ask for, where clap takes them for the tool's
abbrev pub request_of : List Text → Option Request
request_of words = if is_empty (fault_of tool words) then asked (matches_of tool words) else None

-- an error of clap's is want of memory, or tells that the words are faulty
abbrev pub of_kind : ErrorKind → WordsFault
of_kind OutOfMemory = Memory
of_kind _ = Usage
