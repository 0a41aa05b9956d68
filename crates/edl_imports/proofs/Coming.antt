-- Which names are come to, a step at a time.
use Rattle.std.proofs.Common.{ℕ, zero, suc, ◌≡◌, inl, inr, ◌+◌, ◌==◌, Bool, true, false, List, [], ◌∷◌, ◌++◌, map, drop, length, Option, Some, None, is_some, Result, Ok, Err, refl, sym, ap, ◌∙◌, subst, arith, append_assoc, length-append}
use Rattle.std.specs.Prelude.{IfSome, IfOk, IfErr, All, Contains, filter, not, codes, slice_get, filter_map, option_map, if◌then◌else◌}
use Rattle.std.specs.List.{cons_option}
use Rattle.std.specs.Option.{option_or, option_and_then}
use Rattle.std.specs.Str.{IsUtf8}
use Rattle.std.proofs.lemmas.List.{map-append}
use Rattle.std.proofs.lemmas.List.Elements.{All-contains, All-nil, All-same, All-push, filter-append}
use Rattle.sgx_base.specs.Outcome.{OrMemory}
use Rattle.sgx_base.specs.Stores.{Store, FilesState, AreOnlyRead}
use Rattle.edl_lexer.specs.declared.LexFault.{LexFault}
use Rattle.edl_lexer.specs.declared.Token.{Token}
use Rattle.edl_lexer.specs.Lexing.{lexing}
use Rattle.edl_grammar.specs.Parser.{parsing}
use Rattle.edl_grammar.specs.declared.EdlFile.{EdlFile}
use Rattle.edl_grammar.specs.declared.FuncDecl.{FuncDecl}
use Rattle.edl_grammar.specs.declared.Gathered.{Gathered}
use Rattle.edl_grammar.specs.declared.Import.{Import}
use Rattle.edl_grammar.specs.declared.NameAt.{NameAt}
use Rattle.edl_grammar.specs.declared.ParseFault.{ParseFault}
use Rattle.edl_grammar.specs.declared.Pick.{Pick}
use Rattle.edl_grammar.specs.declared.SourceFile.{SourceFile}
use Rattle.edl_grammar.specs.declared.TypeDecl.{TypeDecl}
use Rattle.edl_grammar.specs.Files.{name_of, token_of, fault_by}
use Rattle.edl_imports.specs.Causes.{IsReadStop, IsStopOf, IsNamed}
use Rattle.edl_imports.specs.ComeTo.{IsAskedOf, IsComeTo, is_root, is_asked, IsReached, IsWanted, root_wanted, text_wanted, IsNameOf, IsStopNamed, IsAnswer, Asks, IsNameIn, Finds}
use Rattle.edl_imports.specs.Conflicts.{Place, type_known, types_from, types_known, functions_of, functions_known, is_second, earlier, is_before, first_second, first_conflict}
use Rattle.edl_imports.specs.Gathering.{Outcome, ◌>>=◌, IsImport, IsThere, offered_by, unless_missing, with_taken, offer_of, fail, fault_at, admitted, taken_from, read_tree, read_tokens, read_source, name_at, tokens_at, unless_conflict}
use Rattle.edl_imports.specs.Offers.{side, first_missing, with_names}
use Rattle.edl_imports.specs.Search.{candidates, in_directories, file_of, first_file, number_of, known_or_new}
use Rattle.edl_imports.specs.declared.conflicts.Known.{Known}
use Rattle.edl_imports.specs.declared.faults.ImportCause.{ImportCause}
use Rattle.edl_imports.specs.declared.faults.ImportCause.TheVariants as causes
use Rattle.edl_imports.specs.declared.faults.ImportFault.{ImportFault}
use Rattle.edl_imports.specs.declared.faults.Stop.{Stop}
use Rattle.edl_imports.specs.declared.faults.Stop.TheVariants as stops
use Rattle.edl_imports.specs.declared.gathering.Finished.{Finished}
use Rattle.edl_imports.specs.declared.gathering.ImportAt.{ImportAt}
use Rattle.edl_imports.specs.declared.gathering.Progress.{Progress}
use Rattle.edl_imports.specs.declared.offers.Offer.{Offer}
use Rattle.edl_imports.specs.declared.search.Found.{Found}
use Rattle.edl_imports.specs.declared.search.Found.TheVariants.{Known as is_known, New}
use Rattle.edl_imports.specs.declared.search.NewFile.{NewFile}
use Rattle.edl_imports.proofs.Candidates.{candidates_some}
use Rattle.edl_imports.proofs.Importing.{taken_plain}
use Rattle.edl_imports.proofs.Reading.{read_plain}
use Rattle.edl_imports.proofs.Steps.{IsPlain, ArePlain, one}

-- ---- the names of a text

module _ (contents : Option Store) where
  -- by the first names of more
  widen : (names more : List (List ℕ)) (name : List ℕ) → IsAskedOf contents names name → IsAskedOf contents (names ++ more) name
  widen [] more name h = absurd h
  widen (first ∷ names) more name (inl h) = inl h
  widen (first ∷ names) more name (inr (none, h)) = inr (none, widen names more name h)

  module _ (read : List SourceFile) where
    parts : (o rest : Option Found) → option_or o rest ≡ None → (o ≡ None) × (rest ≡ None)
    parts None rest h = (refl, h)
    parts (Some f) rest h = absurd cc

    missing : (name : List ℕ) (n : Option ℕ) (bytes : Option (List ℕ)) → known_or_new name n bytes ≡ None → bytes ≡ None
    missing name (Some n) bytes h = absurd cc
    missing name None None h = refl
    missing name None (Some b) h = absurd cc

    -- behind names that no file has
    behind : (names more : List (List ℕ)) (name : List ℕ) → IfSome contents (λ store. first_file store read names ≡ None) → IsAskedOf contents more name → IsAskedOf contents (names ++ more) name
    behind [] more name none h = h
    behind (first ∷ names) more name none h = inr (
      one contents (λ store e. missing first (number_of read first) (store first) (parts (file_of store read first) (first_file store read names) e).0) none,
      behind names more name (one contents (λ store e. (parts (file_of store read first) (first_file store read names) e).1) none) h,
    )

  asks_by : (names others : List (List ℕ)) (result : Result (Option Found) Stop) → ((name : List ℕ) → IsAskedOf contents names name → IsAskedOf contents others name)
      → Asks contents names result → Asks contents others result
  asks_by names others (Err stops.Memory) step h = tt
  asks_by names others (Err (stops.Fault e)) step h = step e.name h
  asks_by names others (Ok None) step h = tt
  asks_by names others (Ok (Some (is_known n))) step h = tt
  asks_by names others (Ok (Some (New f))) step (asked, held) = (step f.name asked, held)

-- what was asked for by the one name
pub asked_itself : (contents : Option Store) (name : List ℕ) (f : NewFile) → f.name ≡ name → IfSome contents (λ store. store name ≡ Some f.bytes) → Asks contents (name ∷ []) (Ok (Some (New f)))
asked_itself contents name f same held = (inl (sym same), subst (λ (n : List ℕ). IfSome contents (λ store. store n ≡ Some f.bytes)) (sym same) held)

pub unread_itself : (contents : Option Store) (name : List ℕ) (stop : Stop) → IsNamed name stop → Asks contents (name ∷ []) (Err stop)
unread_itself contents name stops.Memory named = tt
unread_itself contents name (stops.Fault e) named = inl (sym named)

-- contents that stayed
pub asks_before : (before middle : FilesState) (names : List (List ℕ)) (result : Result (Option Found) Stop) → AreOnlyRead before middle → Asks middle.contents names result → Asks before.contents names result
asks_before before middle names result kept h = subst (λ (c : Option Store). Asks c names result) kept.contents h

-- ---- directories

directories_parted : (path : List ℕ) (paths : List (List ℕ)) (text : List ℕ) → in_directories (path ∷ paths) text ≡ in_directories (path ∷ []) text ++ in_directories paths text
directories_parted path paths text =
    ap (map (λ (p : List ℕ). p ++ codes "/" ++ text)) (filter-append (λ (p : List ℕ). not (length p == 0)) (path ∷ []) paths)
    ∙ map-append (λ (p : List ℕ). p ++ codes "/" ++ text) (filter (λ (p : List ℕ). not (length p == 0)) (path ∷ [])) (filter (λ (p : List ℕ). not (length p == 0)) paths)

module _ (contents : Option Store) (read : List SourceFile) (paths : List (List ℕ)) (text path : List ℕ) (k : ℕ) (here : drop k paths ≡ path ∷ drop (k + 1) paths) where
  here_parted : in_directories (path ∷ []) text ++ in_directories (drop (k + 1) paths) text ≡ in_directories (drop k paths) text
  here_parted = sym (directories_parted path (drop (k + 1) paths) text) ∙ ap (λ (ps : List (List ℕ)). in_directories ps text) (sym here)

  -- in this directory
  pub asked_here : (result : Result (Option Found) Stop) → Asks contents (in_directories (path ∷ []) text) result → Asks contents (in_directories (drop k paths) text) result
  asked_here result =
      asks_by contents (in_directories (path ∷ []) text) (in_directories (drop k paths) text) result (λ name a.
      subst (λ (ns : List (List ℕ)). IsAskedOf contents ns name) here_parted (widen contents (in_directories (path ∷ []) text) (in_directories (drop (k + 1) paths) text) name a))

  -- in those behind it, where it has none
  pub asked_later : IfSome contents (λ store. first_file store read (in_directories (path ∷ []) text) ≡ None) → (result : Result (Option Found) Stop)
      → Asks contents (in_directories (drop (k + 1) paths) text) result → Asks contents (in_directories (drop k paths) text) result
  asked_later none result =
      asks_by contents (in_directories (drop (k + 1) paths) text) (in_directories (drop k paths) text) result (λ name a.
      subst (λ (ns : List (List ℕ)). IsAskedOf contents ns name) here_parted (behind contents read (in_directories (path ∷ []) text) (in_directories (drop (k + 1) paths) text) name none a))

pub none_here : (contents : Option Store) (read : List SourceFile) (names : List (List ℕ)) (found : Option Found) → is_some found ≡ false → IfSome contents (λ store. first_file store read names ≡ found)
    → IfSome contents (λ store. first_file store read names ≡ None)
none_here contents read names None none h = h
none_here contents read names (Some f) none h = absurd cc

-- ---- candidates

module _ (contents : Option Store) (read : List SourceFile) (paths : List (List ℕ)) (bytes text : List ℕ) (same : text ≡ bytes) (u : IsUtf8 bytes) where
  all_candidates : text ∷ in_directories paths text ≡ candidates paths bytes
  all_candidates = ap (λ (t : List ℕ). t ∷ in_directories paths t) same ∙ sym (candidates_some paths bytes u)

  -- by the text itself
  pub asked_first : (result : Result (Option Found) Stop) → Asks contents (text ∷ []) result → Asks contents (candidates paths bytes) result
  asked_first result =
      asks_by contents (text ∷ []) (candidates paths bytes) result (λ name a.
      subst (λ (ns : List (List ℕ)). IsAskedOf contents ns name) all_candidates (widen contents (text ∷ []) (in_directories paths text) name a))

  -- in a directory, where no file has the text itself
  pub asked_under : (found : Option Found) → is_some found ≡ false → IfSome contents (λ store. file_of store read text ≡ found) → (result : Result (Option Found) Stop)
      → Asks contents (in_directories paths text) result → Asks contents (candidates paths bytes) result
  asked_under None none itself result h =
      asks_by contents (in_directories paths text) (candidates paths bytes) result (λ name a.
      subst (λ (ns : List (List ℕ)). IsAskedOf contents ns name) all_candidates
      (behind contents read (text ∷ []) (in_directories paths text) name
      (one {P = λ store. file_of store read text ≡ None} {R = λ store. first_file store read (text ∷ []) ≡ None} contents (λ store e. ap (λ (o : Option Found). option_or o None) e) itself) a)) h
  asked_under (Some f) none itself result h = absurd cc

-- ---- one import

pub finds_unread : (contents : Option Store) (paths : List (List ℕ)) (file text : List ℕ) (before after : FilesState) (stop : Stop) → IsReadStop before after stop
    → Asks contents (candidates paths text) (Err stop) → Finds contents paths file text (Err stop)
finds_unread contents paths file text before after stops.Memory read h = tt
finds_unread contents paths file text before after (stops.Fault e) read h = subst (λ (cause : ImportCause). IsNameIn contents paths file text cause e.name) (sym read.0) h

module _ (contents : Option Store) (paths : List (List ℕ)) (number : ℕ) (s : SourceFile) (read : List SourceFile) (i : Import) where
  admits : (found : Option Found) (result : Result Found Stop) → Asks contents (candidates paths i.text) (Ok found)
      → IfOk result (λ f. admitted number s read i found ≡ Ok f) → IfErr result (IsStopOf (admitted number s read i found)) → Finds contents paths s.name i.text result
  admits found (Err stops.Memory) asked ok err = tt
  admits None (Ok f) asked ok err = absurd cc
  admits None (Err (stops.Fault e)) asked ok err =
      let same : record { name = i.text; cause = causes.NotFound } ≡ e = cc in
      subst (λ (z : ImportFault). IsNameIn contents paths s.name i.text z.cause z.name) same refl
  admits (Some (is_known n)) (Ok f) asked ok err = let same : is_known n ≡ f = cc in subst (IsAnswer contents (candidates paths i.text)) same tt
  admits (Some (is_known n)) (Err (stops.Fault e)) asked ok err = absurd cc
  admits (Some (New g)) (Ok f) asked ok err = by (length read == 64) ok
    where
      by : (b : Bool) → (if b then fail s.name (causes.TooManyFiles (fault_at number s i.token 11)) else Ok (New g)) ≡ Ok f → IsAnswer contents (candidates paths i.text) f
      by true h = absurd cc
      by false h = let same : New g ≡ f = cc in subst (IsAnswer contents (candidates paths i.text)) same asked
  admits (Some (New g)) (Err (stops.Fault e)) asked ok err = by (length read == 64) err
    where
      by : (b : Bool) → ◌≡◌ {A = Outcome Found} (if b then fail s.name (causes.TooManyFiles (fault_at number s i.token 11)) else Ok (New g)) (Err e) → IsNameIn contents paths s.name i.text e.cause e.name
      by false h = absurd cc
      by true h =
          let same : record { name = s.name; cause = causes.TooManyFiles (fault_at number s i.token 11) } ≡ e = cc in
          subst (λ (z : ImportFault). IsNameIn contents paths s.name i.text z.cause z.name) same refl

  pub finds_admitted : (found : Option Found) (result : Result Found Stop) → Asks contents (candidates paths i.text) (Ok found)
      → IfOk result (λ f. admitted number s read i found ≡ Ok f) → IfErr result (IsStopOf (admitted number s read i found)) → Finds contents paths s.name i.text result
  finds_admitted found result asked ok err = admits found result asked ok err

-- ---- files that were reached

contains_there : {X : Type 0} (xs : List X) (n : ℕ) (x : X) → slice_get xs n ≡ Some x → Contains xs x
contains_there [] n x h = absurd cc
contains_there (y ∷ xs) zero x h = (0, omega arith, cc)
contains_there (y ∷ xs) (suc n) x h = let rest = contains_there xs n x h in (suc rest.0, omega arith, rest.2)

read_in : (number : ℕ) (f : NewFile) (e : ImportFault) → read_source number f ≡ Err e → e.name ≡ f.name
read_in number f e = by (lexing number f.bytes)
  where
    by_tree : (tokens : List Token) (r : Result EdlFile ParseFault) → read_tree f.name tokens r ≡ Err e → e.name ≡ f.name
    by_tree tokens (Ok tree) h = absurd cc
    by_tree tokens (Err x) h = let same : record { name = f.name; cause = causes.Parse x } ≡ e = cc in sym (ap (λ (z : ImportFault). z.name) same)

    by : (r : Result (List Token) LexFault) → read_tokens number f r ≡ Err e → e.name ≡ f.name
    by (Ok tokens) h = by_tree tokens (parsing number f.bytes tokens) h
    by (Err x) h = let same : record { name = f.name; cause = causes.Lex x } ≡ e = cc in sym (ap (λ (z : ImportFault). z.name) same)

taken_in : (number : ℕ) (s : SourceFile) (p : Progress) (i : Import) (offer : Offer) (file : ℕ) (e : ImportFault) → taken_from number s p i offer file ≡ Err e → e.name ≡ s.name
taken_in number s p i offer file e = by (offer_of p file)
  where
    by_missing : (x : Option NameAt) (o : Offer) → unless_missing number s x o ≡ Err e → e.name ≡ s.name
    by_missing None o h = absurd cc
    by_missing (Some x) o h = let same : record { name = s.name; cause = causes.NoSuchName (fault_at number s x.token 9) } ≡ e = cc in sym (ap (λ (z : ImportFault). z.name) same)

    by_names : (offered : Offer) (names : Option (List NameAt)) → with_taken number s p.files offered offer names ≡ Err e → e.name ≡ s.name
    by_names offered None h = absurd cc
    by_names offered (Some names) h = by_missing (first_missing p.files offered names) (with_names p.files offered offer names) h

    by : (o : Option Finished) → (offered_by number s i o >>= (λ offered. with_taken number s p.files offered offer i.names)) ≡ Err e → e.name ≡ s.name
    by None h = let same : record { name = s.name; cause = causes.Cycle (fault_at number s i.token 8) } ≡ e = cc in sym (ap (λ (z : ImportFault). z.name) same)
    by (Some f) h = by_names f.offer i.names h

-- ---- the place of a conflict

module _ (files : List SourceFile) where
  -- the place is in a file of these
  abbrev IsIn : Place → Type 0
  IsIn at = (f : SourceFile) × (slice_get files at.file ≡ Some f)

  abbrev AreIn : List Known → Type 0
  AreIn [] = Unit {0}
  AreIn (k ∷ ks) = IsIn k.at × AreIn ks

  in_earlier : (best : Option Place) (at : Place) → IfSome best IsIn → IsIn at → IsIn (earlier best at)
  in_earlier None at b h = h
  in_earlier (Some a) at b h = by (is_before at a)
    where
      by : (t : Bool) → IsIn (if t then at else a)
      by true = h
      by false = b

  in_best : (b : Bool) (best : Option Place) (at : Place) → IfSome best IsIn → IsIn at → IfSome (if b then Some (earlier best at) else best) IsIn
  in_best true best at b h = in_earlier best at b h
  in_best false best at b h = b

  second_in : (all ks : List Known) (best : Option Place) → IfSome best IsIn → AreIn ks → IfSome (first_second all best ks) IsIn
  second_in all [] best b h = b
  second_in all (k ∷ ks) best b h = second_in all ks (if is_second all k then Some (earlier best k.at) else best) (in_best (is_second all k) best k.at b h.0) h.1

  in_both : (ks more : List Known) → AreIn ks → AreIn more → AreIn (ks ++ more)
  in_both [] more h m = m
  in_both (k ∷ ks) more h m = (h.0, in_both ks more h.1 m)

  type_in : (n : ℕ) (f : SourceFile) (t : TypeDecl) (name : Option (List ℕ)) (ks : List Known) → slice_get files n ≡ Some f → AreIn ks
      → AreIn (cons_option (option_map (λ name. record { at = record { file = n; token = token_of t }; name = name }) name) ks)
  type_in n f t None ks here h = h
  type_in n f t (Some name) ks here h = ((f, here), h)

  types_in : (n : ℕ) (f : SourceFile) (ts : List TypeDecl) → slice_get files n ≡ Some f → AreIn (filter_map (type_known n) ts)
  types_in n f [] here = tt
  types_in n f (t ∷ ts) here = type_in n f t (name_of t) (filter_map (type_known n) ts) here (types_in n f ts here)

  function_in : (is_trusted : Bool) (p : Pick) (f : Option SourceFile) (ks : List Known) → slice_get files p.file ≡ f → AreIn ks
      → AreIn (cons_option (option_map (λ x. record { at = record { file = p.file; token = x.token }; name = x.name }) (option_and_then (λ f. slice_get (side is_trusted f.tree) p.index) f)) ks)
  function_in is_trusted p None ks here h = h
  function_in is_trusted p (Some f) ks here h = by (slice_get (side is_trusted f.tree) p.index)
    where
      by : (x : Option FuncDecl) → AreIn (cons_option (option_map (λ x. record { at = record { file = p.file; token = x.token }; name = x.name }) x) ks)
      by None = h
      by (Some x) = ((f, here), h)

  functions_in : (is_trusted : Bool) (ps : List Pick) → AreIn (functions_of files is_trusted ps)
  functions_in is_trusted [] = tt
  functions_in is_trusted (p ∷ ps) = function_in is_trusted p (slice_get files p.file) (functions_of files is_trusted ps) refl (functions_in is_trusted ps)

-- files behind others stand at their numbers
all_types_in : (files before rest : List SourceFile) → files ≡ before ++ rest → AreIn files (types_from (length before) rest)
all_types_in files before [] is = tt
all_types_in files before (f ∷ rest) is =
    let next : length (before ++ f ∷ []) ≡ suc (length before) = omega (arith, length-append before (f ∷ [])) in
    in_both files (filter_map (type_known (length before)) f.tree.types) (types_from (suc (length before)) rest)
    (types_in files (length before) f f.tree.types (ap (λ (fs : List SourceFile). slice_get fs (length before)) is ∙ get_behind before rest f))
    (subst (λ (n : ℕ). AreIn files (types_from n rest)) next (all_types_in files (before ++ f ∷ []) rest (is ∙ sym (append_assoc before (f ∷ []) rest))))
  where
    get_behind : (before rest : List SourceFile) (f : SourceFile) → slice_get (before ++ f ∷ rest) (length before) ≡ Some f
    get_behind [] rest f = refl
    get_behind (x ∷ before) rest f = get_behind before rest f

conflict_there : (g : Gathered) (at : Place) → first_conflict g ≡ Some at → (f : SourceFile) × (slice_get g.files at.file ≡ Some f)
conflict_there g at h =
    let types = second_in g.files (types_known g) (types_known g) None tt (all_types_in g.files [] g.files refl) in
    let functions = in_both g.files (functions_of g.files true g.trusted) (functions_of g.files false g.untrusted) (functions_in g.files true g.trusted) (functions_in g.files false g.untrusted) in
    subst (λ (o : Option Place). IfSome o (IsIn g.files)) h
    (second_in g.files (functions_known g) (functions_known g) (first_second (types_known g) None (types_known g)) types functions)

module _ (contents : Option Store) (paths : List (List ℕ)) (root : List ℕ) where
  -- a cause that no read has names a file that is come to
  plain_named : (cause : ImportCause) (name : List ℕ) → IsPlain cause → IsComeTo contents paths root name → IsNameOf contents paths root cause name
  plain_named causes.NotFound name p h = absurd p
  plain_named causes.ReadFault name p h = absurd p
  plain_named causes.Memory name p h = absurd p
  plain_named (causes.Cycle f) name p h = h
  plain_named (causes.NoSuchName f) name p h = h
  plain_named (causes.Conflict f) name p h = h
  plain_named (causes.TooManyFiles f) name p h = h
  plain_named (causes.Lex f) name p h = h
  plain_named (causes.Parse f) name p h = h

  plainly : {A : Type 0} (x : Outcome A) (name : List ℕ) (stop : Stop) → ArePlain x → ((e : ImportFault) → x ≡ Err e → e.name ≡ name) → IsComeTo contents paths root name
      → IsStopOf x stop → IsStopNamed contents paths root stop
  plainly x name stops.Memory plain named come h = tt
  plainly x name (stops.Fault e) plain named come h = plain_named e.cause e.name (plain e h) (subst (IsComeTo contents paths root) (sym (named e h)) come)

  -- the file was not read
  pub source_stops : (number : ℕ) (f : NewFile) (stop : Stop) → IsComeTo contents paths root f.name → IsStopOf (read_source number f) stop → IsStopNamed contents paths root stop
  source_stops number f stop come h = plainly (read_source number f) f.name stop (read_plain number f) (read_in number f) come h

  reached_source : (number : ℕ) (f : NewFile) (source : SourceFile) → read_source number f ≡ Ok source → IsComeTo contents paths root f.name
      → IfSome contents (λ store. store f.name ≡ Some f.bytes) → IsReached contents paths root source
  reached_source number f source h come held = by (lexing number f.bytes) refl h
    where
      by_tree : (tokens : List Token) → lexing number f.bytes ≡ Ok tokens → (r : Result EdlFile ParseFault) → parsing number f.bytes tokens ≡ r → read_tree f.name tokens r ≡ Ok source → IsReached contents paths root source
      by_tree tokens l (Err e) p h = absurd cc
      by_tree tokens l (Ok tree) p h =
          let same : record { name = f.name; tokens = tokens; tree = tree } ≡ source = cc in
          subst (IsReached contents paths root) same (record { come = come; source = record { number = number; bytes = f.bytes; held = held; lexed = l; parsed = p } })

      by : (r : Result (List Token) LexFault) → lexing number f.bytes ≡ r → read_tokens number f r ≡ Ok source → IsReached contents paths root source
      by (Err e) l h = absurd cc
      by (Ok tokens) l h = by_tree tokens l (parsing number f.bytes tokens) refl h

  -- the file was read, and stands behind the others
  pub reached_more : (files pushed : List SourceFile) (number : ℕ) (f : NewFile) (source : SourceFile) → pushed ≡ files ++ source ∷ [] → read_source number f ≡ Ok source
      → All (IsReached contents paths root) files → IsComeTo contents paths root f.name → IfSome contents (λ store. store f.name ≡ Some f.bytes) → All (IsReached contents paths root) pushed
  reached_more files pushed number f source is read all come held =
      All-same (IsReached contents paths root) pushed (files ++ source ∷ []) is (All-push (IsReached contents paths root) files source all (reached_source number f source read come held))

  module _ (files : List SourceFile) (all : All (IsReached contents paths root) files) where
    file_reached : (n : ℕ) (source : SourceFile) → slice_get files n ≡ Some source → IsReached contents paths root source
    file_reached n source h = All-contains (IsReached contents paths root) files source all (contains_there files n source h)

    module _ (at : ImportAt) (source : SourceFile) (i : Import) (is : IsImport files at source i) where
      here : IsReached contents paths root source
      here = file_reached at.file source is.file

      among : Contains source.tree.imports i
      among = contains_there source.tree.imports at.index i is.«import»

      asked : (name : List ℕ) → IsAskedOf contents (candidates paths i.text) name → IsComeTo contents paths root name
      asked name h = is_asked source i name here.come here.source among h

      -- the import finds a new file
      pub new_come : (f : NewFile) → Finds contents paths source.name i.text (Ok (New f)) → IsComeTo contents paths root f.name × IfSome contents (λ store. store f.name ≡ Some f.bytes)
      new_come f h = (asked f.name h.0, h.1)

      name_here : (cause : ImportCause) (name : List ℕ) → IsNameIn contents paths source.name i.text cause name → IsNameOf contents paths root cause name
      name_here causes.NotFound name h = subst (IsWanted contents paths root) (sym h) (text_wanted source i here among)
      name_here causes.ReadFault name h = asked name h
      name_here causes.Memory name h = h
      name_here (causes.Cycle f) name h = subst (IsComeTo contents paths root) (sym h) here.come
      name_here (causes.NoSuchName f) name h = subst (IsComeTo contents paths root) (sym h) here.come
      name_here (causes.Conflict f) name h = subst (IsComeTo contents paths root) (sym h) here.come
      name_here (causes.TooManyFiles f) name h = subst (IsComeTo contents paths root) (sym h) here.come
      name_here (causes.Lex f) name h = subst (IsComeTo contents paths root) (sym h) here.come
      name_here (causes.Parse f) name h = subst (IsComeTo contents paths root) (sym h) here.come

      -- it finds none
      pub import_stops : (stop : Stop) → Finds contents paths source.name i.text (Err stop) → IsStopNamed contents paths root stop
      import_stops stops.Memory h = tt
      import_stops (stops.Fault e) h = name_here e.cause e.name h

      -- what it takes is not offered
      pub take_stops : (p : Progress) (offer : Offer) (file : ℕ) (stop : Stop) → IsStopOf (taken_from at.file source p i offer file) stop → IsStopNamed contents paths root stop
      take_stops p offer file stop h = plainly (taken_from at.file source p i offer file) source.name stop (taken_plain at.file source p i offer file) (taken_in at.file source p i offer file) here.come h

  -- ---- conflicts

  pub conflict_named : (g : Gathered) (stop : Stop) → All (IsReached contents paths root) g.files → IsStopOf (unless_conflict g (first_conflict g)) stop → IsStopNamed contents paths root stop
  conflict_named g stops.Memory all h = tt
  conflict_named g (stops.Fault e) all h = by (first_conflict g) refl h
    where
      by : (o : Option Place) → first_conflict g ≡ o → unless_conflict g o ≡ Err e → IsNameOf contents paths root e.cause e.name
      by None is h = absurd cc
      by (Some at) is h =
          let there = conflict_there g at is in
          let named : name_at g.files at.file ≡ there.0.name = ap (λ (o : Option SourceFile). elim o [ Some f ↦ f.name | None ↦ [] ]) there.1 in
          let same : record { name = name_at g.files at.file; cause = causes.Conflict (fault_by at.file 10 (slice_get (tokens_at g.files at.file) at.token)) } ≡ e = cc in
          subst (λ (z : ImportFault). IsNameOf contents paths root z.cause z.name) same
          (subst (IsComeTo contents paths root) (sym named) (file_reached g.files all at.file there.0 there.1).come)

  -- ---- the root

  pub root_named : (before after : FilesState) (stop : Stop) → IsReadStop before after stop → IsNamed root stop → IsStopNamed contents paths root stop
  root_named before after stops.Memory read named = tt
  root_named before after (stops.Fault e) read named =
      subst (λ (cause : ImportCause). IsNameOf contents paths root cause e.name) (sym read.0) (subst (IsComeTo contents paths root) (sym named) is_root)

  -- the root is read first
  pub root_come : (f : NewFile) → f.name ≡ root → IfSome contents (λ store. store root ≡ Some f.bytes) → IsComeTo contents paths root f.name × IfSome contents (λ store. store f.name ≡ Some f.bytes)
  root_come f named held = (subst (IsComeTo contents paths root) (sym named) is_root, subst (λ (n : List ℕ). IfSome contents (λ store. store n ≡ Some f.bytes)) (sym named) held)

  pub none_reached : (files : List SourceFile) → files ≡ [] → All (IsReached contents paths root) files
  none_reached files none = All-same (IsReached contents paths root) files [] none (All-nil (IsReached contents paths root))

  pub conflict_result : (g : Gathered) (result : Result Gathered Stop) → All (IsReached contents paths root) g.files → IfErr result (IsStopOf (unless_conflict g (first_conflict g))) → IfErr result (IsStopNamed contents paths root)
  conflict_result g (Ok k) all h = tt
  conflict_result g (Err stop) all h = conflict_named g stop all h

  pub root_missing : (name : List ℕ) (stop : Stop) → name ≡ root → OrMemory stops.Memory (λ s. s ≡ stops.Fault (record { name = name; cause = causes.NotFound })) stop → IsStopNamed contents paths root stop
  root_missing name stop same (inl m) = subst (IsStopNamed contents paths root) (sym m) tt
  root_missing name stop same (inr is) = subst (IsStopNamed contents paths root) (sym is) (subst (IsWanted contents paths root) (sym same) root_wanted)

-- ---- the import of a place, where other names stand for the contents and for the files

module _ (paths : List (List ℕ)) (root : List ℕ) (before contents : Option Store) (same : before ≡ contents) (files read : List SourceFile) (is_read : read ≡ files)
    (all : All (IsReached contents paths root) files) (at : ImportAt) (there : IsThere files at) where
  -- what holds of the import of this place
  abbrev Of : (List ℕ → List ℕ → Type 0) → Type 0
  Of Is = (source : SourceFile) (i : Import) → IsImport read at source i → Is source.name i.text

  of_there : (Is : List ℕ → List ℕ → Type 0) → Of Is → Is there.source.name there.«import».text
  of_there Is h = h there.source there.«import» (record { file = ap (λ (fs : List SourceFile). slice_get fs at.file) is_read ∙ there.is.file; «import» = there.is.«import» })

  pub reach_stops : (stop : Stop) → Of (λ file text. Finds before paths file text (Err stop)) → IsStopNamed contents paths root stop
  reach_stops stop h =
      import_stops contents paths root files all at there.source there.«import» there.is stop
      (subst (λ (c : Option Store). Finds c paths there.source.name there.«import».text (Err stop)) same (of_there (λ file text. Finds before paths file text (Err stop)) h))

  pub reach_new : (found : Found) (f : NewFile) → found ≡ New f → Of (λ file text. Finds before paths file text (Ok found)) → IsComeTo contents paths root f.name × IfSome contents (λ store. store f.name ≡ Some f.bytes)
  reach_new found f is h =
      new_come contents paths root files all at there.source there.«import» there.is f
      (subst (λ (x : Found). Finds contents paths there.source.name there.«import».text (Ok x)) is
      (subst (λ (c : Option Store). Finds c paths there.source.name there.«import».text (Ok found)) same (of_there (λ file text. Finds before paths file text (Ok found)) h)))
