-- Names that two files declare.
use Rattle.std.specs.Prelude.{ℕ, suc, Bool, true, false, ◌&&◌, ◌||◌, ◌==◌, nat_lt, if◌then◌else◌, List, [], ◌∷◌, ◌++◌, filter_map, fold, Option, Some, None, option_map}
use Rattle.std.specs.List.{list_any}
use Rattle.std.specs.Str.{bytes_eq}
use Rattle.edl_grammar.specs.declared.SourceFile.{SourceFile}
use Rattle.edl_grammar.specs.declared.Gathered.{Gathered}
use Rattle.edl_grammar.specs.declared.Pick.{Pick}
use Rattle.edl_grammar.specs.declared.TypeDecl.{TypeDecl}
use Rattle.edl_grammar.specs.Files.{name_of, token_of}
use Rattle.edl_imports.specs.Offers.{picked}
use Rattle.edl_imports.specs.declared.conflicts.Place.{Place as PlaceOf}
use Rattle.edl_imports.specs.declared.conflicts.Known.{Known}

abbrev pub Place : Type 0
Place = PlaceOf

-- ---- what is declared

-- the name of a type of this file, where it has one
abbrev pub type_known : ℕ → TypeDecl → Option Known
type_known file t = option_map (λ name. record { at = record { file = file; token = token_of t }; name = name }) (name_of t)

-- the names of the types of files, which are numbered from one on
abbrev pub types_from : ℕ → List SourceFile → List Known
types_from n [] = []
types_from n (f ∷ fs) = filter_map (type_known n) f.tree.types ++ types_from (suc n) fs

-- the name of a function
abbrev pub function_known : List SourceFile → Bool → Pick → Option Known
function_known files is_trusted p =
    option_map (λ f. record { at = record { file = p.file; token = f.token }; name = f.name }) (picked files is_trusted p)

abbrev pub functions_of : List SourceFile → Bool → List Pick → List Known
functions_of files is_trusted = filter_map (function_known files is_trusted)

-- ---- the first conflict

-- whether one of the same name stands in a file that was read before
abbrev pub is_second : List Known → Known → Bool
is_second all k = list_any (λ h. nat_lt h.at.file k.at.file && bytes_eq h.name k.name) all

-- whether it stands before the other, in order of reading and of place
abbrev pub is_before : Place → Place → Bool
is_before a b = nat_lt a.file b.file || (a.file == b.file && nat_lt a.token b.token)

abbrev pub earlier : Option Place → Place → Place
earlier None b = b
earlier (Some a) b = if is_before b a then b else a

-- the first place among those that name a second time
abbrev pub first_second : List Known → Option Place → List Known → Option Place
first_second all = fold (λ best k. if is_second all k then Some (earlier best k.at) else best)

abbrev pub types_known : Gathered → List Known
types_known g = types_from 0 g.files

abbrev pub functions_known : Gathered → List Known
functions_known g = functions_of g.files true g.trusted ++ functions_of g.files false g.untrusted

-- the first declaration, among types and among taken functions, whose name one of its kind has in a file before
abbrev pub first_conflict : Gathered → Option Place
first_conflict g = first_second (functions_known g) (first_second (types_known g) None (types_known g)) (functions_known g)
