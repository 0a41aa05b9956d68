-- A file and all that it imports, each file once, and the functions that the interface takes.
use Rattle.std.specs.Prelude.{ℕ, zero, suc, ◌≡◌, ◌<◌, if◌then◌else◌, ◌==◌, List, [], ◌∷◌, ◌++◌, find, length, slice_get, Option, Some, None, Result, Ok, Err}
use Rattle.sgx_base.specs.declared.Fault.{Fault}
use Rattle.sgx_base.specs.Stores.{Store}
use Rattle.edl_lexer.specs.declared.Token.{Token}
use Rattle.edl_lexer.specs.declared.LexFault.{LexFault}
use Rattle.edl_lexer.specs.Lexing.{lexing}
use Rattle.edl_grammar.specs.declared.EdlFile.{EdlFile}
use Rattle.edl_grammar.specs.declared.Import.{Import}
use Rattle.edl_grammar.specs.declared.NameAt.{NameAt}
use Rattle.edl_grammar.specs.declared.SourceFile.{SourceFile}
use Rattle.edl_grammar.specs.declared.Gathered.{Gathered}
use Rattle.edl_grammar.specs.declared.ParseFault.{ParseFault}
use Rattle.edl_grammar.specs.Files.{fault_by}
use Rattle.edl_grammar.specs.Parser.{parsing}
use Rattle.edl_imports.specs.declared.faults.ImportFault.{ImportFault}
use Rattle.edl_imports.specs.declared.faults.ImportCause.{ImportCause}
use Rattle.edl_imports.specs.declared.faults.ImportCause.TheVariants as causes
use Rattle.edl_imports.specs.declared.offers.Offer.{Offer}
use Rattle.edl_imports.specs.declared.search.Found.{Found}
use Rattle.edl_imports.specs.declared.search.Found.TheVariants.{Known, New}
use Rattle.edl_imports.specs.declared.search.NewFile.{NewFile}
use Rattle.edl_imports.specs.declared.gathering.Progress.{Progress}
use Rattle.edl_imports.specs.declared.gathering.Finished.{Finished}
use Rattle.edl_imports.specs.declared.gathering.ImportAt.{ImportAt}
use Rattle.edl_imports.specs.Search.{candidates, first_file}
use Rattle.edl_imports.specs.Offers.{own, both, first_missing, with_names}
use Rattle.edl_imports.specs.Conflicts.{Place, first_conflict}

abbrev pub Outcome : Type 0 → Type 0
Outcome A = Result A ImportFault

infixl 10 ◌>>=◌
abbrev pub ◌>>=◌ : {A B : Type 0} → Outcome A → (A → Outcome B) → Outcome B
(Ok a) >>= f = f a
(Err e) >>= f = Err e

abbrev pub fail : {A : Type 0} → List ℕ → ImportCause → Outcome A
fail name cause = Err (record { name = name; cause = cause })

-- the most files that are gathered
abbrev pub max_files : ℕ
max_files = 64

-- ---- one file

abbrev pub read_tree : List ℕ → List Token → Result EdlFile ParseFault → Outcome SourceFile
read_tree name tokens (Ok tree) = Ok (record { name = name; tokens = tokens; tree = tree })
read_tree name tokens (Err e) = fail name (causes.Parse e)

abbrev pub read_tokens : ℕ → NewFile → Result (List Token) LexFault → Outcome SourceFile
read_tokens number f (Ok tokens) = read_tree f.name tokens (parsing number f.bytes tokens)
read_tokens number f (Err e) = fail f.name (causes.Lex e)

-- the file of this number, lexed and parsed
abbrev pub read_source : ℕ → NewFile → Outcome SourceFile
read_source number f = read_tokens number f (lexing number f.bytes)

-- ---- the files so far

-- the file is begun: it has its number, and no offer yet
abbrev pub begun : Progress → SourceFile → Progress
begun p source = record p { files = p.files ++ source ∷ [] }

-- the file of this number is finished, and offers this
abbrev pub finished : ℕ → Progress → Offer → Progress
finished number p offer = record p { finished = p.finished ++ record { file = number; offer = offer } ∷ [] }

-- what the file of this number offers, once it is finished
abbrev pub offer_of : Progress → ℕ → Option Finished
offer_of p number = find (λ f. f.file == number) p.finished

-- the import of this place, and the file that has it
pub record IsImport (files : List SourceFile) (at : ImportAt) (source : SourceFile) (i : Import) : Type 0 where
  pub file : slice_get files at.file ≡ Some source
  pub «import» : slice_get source.tree.imports at.index ≡ Some i

pub record IsThere (files : List SourceFile) (at : ImportAt) : Type 0 where
  pub source : SourceFile
  pub «import» : Import
  pub is : IsImport files at source «import»

-- files, and others behind them
abbrev pub IsFront : List SourceFile → List SourceFile → Type 0
IsFront front files = (more : List SourceFile) × (files ≡ front ++ more)

-- a new file is not one too many
abbrev pub HasRoom : List SourceFile → Found → Type 0
HasRoom read (New f) = length read < max_files
HasRoom read (Known n) = Unit {0}

-- ---- an import

module _ (number : ℕ) (source : SourceFile) where
  -- the fault with this code at a token of the file
  abbrev pub fault_at : ℕ → ℕ → Fault
  fault_at token code = fault_by number code (slice_get source.tokens token)

  -- the file that was found, unless none was, or it is new and one too many
  abbrev pub admitted : List SourceFile → Import → Option Found → Outcome Found
  admitted read i None = fail i.text causes.NotFound
  admitted read i (Some (Known n)) = Ok (Known n)
  admitted read i (Some (New f)) =
      if length read == max_files then fail source.name (causes.TooManyFiles (fault_at i.token 11)) else Ok (New f)

  -- what a file offers: nothing yet, where its own imports are still gathered
  abbrev pub offered_by : Import → Option Finished → Outcome Offer
  offered_by i None = fail source.name (causes.Cycle (fault_at i.token 8))
  offered_by i (Some f) = Ok f.offer

  abbrev pub unless_missing : Option NameAt → Offer → Outcome Offer
  unless_missing None offer = Ok offer
  unless_missing (Some x) offer = fail source.name (causes.NoSuchName (fault_at x.token 9))

  -- an offer with what an import takes of another: all, or the functions of its names
  abbrev pub with_taken : List SourceFile → Offer → Offer → Option (List NameAt) → Outcome Offer
  with_taken files offered offer None = Ok (both offer offered)
  with_taken files offered offer (Some names) =
      unless_missing (first_missing files offered names) (with_names files offered offer names)

  -- the same, where the file of this number is the one that is imported
  abbrev pub taken_from : Progress → Import → Offer → ℕ → Outcome Offer
  taken_from p i offer file = do
    offered ← offered_by i (offer_of p file)
    with_taken p.files offered offer i.names

-- gathers one more file, and tells what it offers
abbrev pub Gather : Type 0
Gather = Progress → NewFile → Outcome (Progress × Offer)

module _ (store : Store) (paths : List (List ℕ)) where
  -- the file that an import stands for
  abbrev pub wanted : ℕ → SourceFile → List SourceFile → Import → Outcome Found
  wanted number source read i = admitted number source read i (first_file store read (candidates paths i.text))

  module _ (gather : Gather) (number : ℕ) (source : SourceFile) where
    -- the number of the file that was found, which is gathered first where it is new
    abbrev pub reached : Progress → Found → Outcome (Progress × ℕ)
    reached p (Known file) = Ok (p, file)
    reached p (New f) = do
      after ← gather p f
      Ok (finished (length p.files) after.0 after.1, length p.files)

    -- the number of the file that an import stands for
    abbrev pub imported : Progress → Import → Outcome (Progress × ℕ)
    imported p i = do
      found ← wanted number source p.files i
      reached p found

    -- the imports in order, each wholly before the next; its names are looked up once its file is gathered
    abbrev pub import_all : Progress → Offer → List Import → Outcome (Progress × Offer)
    import_all p offer [] = Ok (p, offer)
    import_all p offer (i ∷ is) = do
      after ← imported p i
      more ← taken_from number source after.0 i offer after.1
      import_all after.0 more is

  -- Files nest at most as deep as there may be files, so the number that bounds the nesting is never used up.
  abbrev pub gather_within : ℕ → Gather
  gather_within zero p f = fail [] causes.Memory
  gather_within (suc depth) p f = do
    source ← read_source (length p.files) f
    import_all (gather_within depth) (length p.files) source (begun p source) (own (length p.files) source.tree) source.tree.imports

-- ---- the answer

abbrev pub no_files : Progress
no_files = record { files = []; finished = [] }

-- the only candidate of a root is its own name
abbrev pub root_bytes : List ℕ → Option (List ℕ) → Outcome NewFile
root_bytes root None = fail root causes.NotFound
root_bytes root (Some bytes) = Ok (record { name = root; bytes = bytes })

abbrev pub name_at : List SourceFile → ℕ → List ℕ
name_at files n = elim (slice_get files n) [ Some f ↦ f.name | None ↦ [] ]

abbrev pub tokens_at : List SourceFile → ℕ → List Token
tokens_at files n = elim (slice_get files n) [ Some f ↦ f.tokens | None ↦ [] ]

abbrev pub unless_conflict : Gathered → Option Place → Outcome Gathered
unless_conflict g None = Ok g
unless_conflict g (Some at) =
    fail (name_at g.files at.file) (causes.Conflict (fault_by at.file 10 (slice_get (tokens_at g.files at.file) at.token)))

abbrev pub gathered : Progress → Offer → Gathered
gathered p offer = record { files = p.files; trusted = offer.trusted; untrusted = offer.untrusted }

-- the root and all that it imports
abbrev pub all_of : Store → List (List ℕ) → List ℕ → Outcome Gathered
all_of store paths root = do
  f ← root_bytes root (store root)
  after ← gather_within store paths max_files no_files f
  Ok (gathered after.0 after.1)

-- the same, or the first fault: last come names that two files declare
abbrev pub gathering : Store → List (List ℕ) → List ℕ → Outcome Gathered
gathering store paths root = do
  g ← all_of store paths root
  unless_conflict g (first_conflict g)
