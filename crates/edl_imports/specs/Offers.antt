-- The functions that files offer.
use Rattle.std.specs.Prelude.{ℕ, Bool, true, false, not, ◌&&◌, ◌||◌, if◌then◌else◌, ◌==◌, List, [], ◌∷◌, ◌++◌, map, find, fold, length, slice_get, Option, Some, None, option_and_then}
use Rattle.std.specs.List.{list_any, range_with_len}
use Rattle.std.specs.Str.{bytes_eq}
use Rattle.edl_grammar.specs.declared.EdlFile.{EdlFile}
use Rattle.edl_grammar.specs.declared.FuncDecl.{FuncDecl}
use Rattle.edl_grammar.specs.declared.NameAt.{NameAt}
use Rattle.edl_grammar.specs.declared.SourceFile.{SourceFile}
use Rattle.edl_grammar.specs.declared.Pick.{Pick}
use Rattle.edl_imports.specs.declared.offers.Offer.{Offer}

-- the functions of a side
abbrev pub side : Bool → EdlFile → List FuncDecl
side is_trusted tree = if is_trusted then tree.trusted else tree.untrusted

-- so many functions of a file, in order
abbrev pub picks : ℕ → ℕ → List Pick
picks file count = map (λ index. record { file = file; index = index }) (range_with_len 0 count)

-- a file's own functions
abbrev pub own : ℕ → EdlFile → Offer
own file tree = record { trusted = picks file (length tree.trusted); untrusted = picks file (length tree.untrusted) }

abbrev pub is_same : Pick → Pick → Bool
is_same p q = p.file == q.file && p.index == q.index

abbrev pub has_pick : List Pick → Pick → Bool
has_pick ps q = list_any (λ p. is_same p q) ps

-- the functions, and behind them this one, where it is not among them
abbrev pub with_pick : List Pick → Pick → List Pick
with_pick ps q = if has_pick ps q then ps else ps ++ q ∷ []

-- the functions of a list that pass a test, each behind the first list, where it is not among them
abbrev pub joined_where : (Pick → Bool) → List Pick → List Pick → List Pick
joined_where passes = fold (λ ps q. if passes q then with_pick ps q else ps)

abbrev pub joined : List Pick → List Pick → List Pick
joined = fold with_pick

-- the declaration that a pick of a side stands for
abbrev pub picked : List SourceFile → Bool → Pick → Option FuncDecl
picked files is_trusted p = option_and_then (λ f. slice_get (side is_trusted f.tree) p.index) (slice_get files p.file)

abbrev pub has_name : List ℕ → Option FuncDecl → Bool
has_name name None = false
has_name name (Some f) = bytes_eq f.name name

-- whether the function has this name
abbrev pub is_called : List SourceFile → Bool → List ℕ → Pick → Bool
is_called files is_trusted name p = has_name name (picked files is_trusted p)

-- an offer with another behind it
abbrev pub both : Offer → Offer → Offer
both own more = record {
  trusted = joined own.trusted more.trusted;
  untrusted = joined own.untrusted more.untrusted;
}

module _ (files : List SourceFile) (offered : Offer) where
  -- whether an offered function has this name
  abbrev pub is_offered : List ℕ → Bool
  is_offered name =
      list_any (is_called files true name) offered.trusted || list_any (is_called files false name) offered.untrusted

  -- the first name that is not offered
  abbrev pub first_missing : List NameAt → Option NameAt
  first_missing = find (λ x. not (is_offered x.name))

  -- an offer, and behind it the offered functions of this name
  abbrev pub with_name : Offer → NameAt → Offer
  with_name own x = record {
    trusted = joined_where (is_called files true x.name) own.trusted offered.trusted;
    untrusted = joined_where (is_called files false x.name) own.untrusted offered.untrusted;
  }

  -- the same for each name in order
  abbrev pub with_names : Offer → List NameAt → Offer
  with_names = fold with_name
