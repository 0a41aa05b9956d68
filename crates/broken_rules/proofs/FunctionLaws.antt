-- The functions of an interface: their tables, and the first of a list of them.
use Rattle.std.proofs.Common.{ℕ, zero, suc, ◌≡◌, ◌+◌, ◌<◌, Bool, ◌||◌, List, [], ◌∷◌, ◌++◌, map, length, take, drop, get_or, Some, None, refl, sym, ◌∙◌, ap, subst, add-one}
use Rattle.std.specs.Prelude.{slice_get, option_map}
use Rattle.std.specs.List.{list_any}
use Rattle.std.proofs.Math.Seq.{take-suc}
use Rattle.edl_grammar.specs.declared.SourceFile.{SourceFile}
use Rattle.attr_terms.specs.declared.functions.Taken.{Taken}
use Rattle.broken_rules.specs.declared.names.Names.{Names}
use Rattle.attr_terms.specs.declared.Broken.{Broken}
use Rattle.broken_rules.specs.Names.{TellsNames}
use Rattle.attr_terms.specs.Rules.{function_names, first_function}
use Rattle.attr_terms.specs.Taken.{function_in}
use Rattle.broken_rules.specs.Names.{TellEach}

-- one file more
pub push_each : (ns : List Names) (fs : List SourceFile) (n : Names) (f : SourceFile) → TellEach ns fs → TellsNames n (function_names f.tree) → TellEach (ns ++ n ∷ []) (fs ++ f ∷ [])
push_each [] [] n f h t = (t, tt)
push_each [] (g ∷ fs) n f h t = absurd h
push_each (m ∷ ns) [] n f h t = absurd h
push_each (m ∷ ns) (g ∷ fs) n f h t = (h.0, push_each ns fs n f h.1 t)

pub take_more : {X : Type 0} (xs : List X) (i : ℕ) (x : X) → i < length xs → x ≡ get_or xs i x → take (i + 1) xs ≡ take i xs ++ x ∷ []
take_more xs i x h e = ap (λ n. take n xs) (add-one i) ∙ take-suc xs i x h ∙ ap (λ y. take i xs ++ y ∷ []) (sym e)

-- the table of a file, and the file
pub each_some : (ns : List Names) (fs : List SourceFile) (i : ℕ) (n : Names) → TellEach ns fs → Some n ≡ slice_get ns i
    → (f : SourceFile) × (slice_get fs i ≡ Some f) × TellsNames n (function_names f.tree)
each_some [] fs i n h e = absurd cc
each_some (m ∷ ns) [] i n h e = absurd h
each_some (m ∷ ns) (f ∷ fs) zero n h e = let q : n ≡ m = cc in (f, refl, subst (λ z. TellsNames z (function_names f.tree)) (sym q) h.0)
each_some (m ∷ ns) (f ∷ fs) (suc i) n h e = each_some ns fs i n h.1 e

pub each_none : (ns : List Names) (fs : List SourceFile) (i : ℕ) → TellEach ns fs → None ≡ slice_get ns i → slice_get fs i ≡ None
each_none [] [] i h e = refl
each_none [] (f ∷ fs) i h e = absurd h
each_none (m ∷ ns) [] i h e = absurd h
each_none (m ∷ ns) (f ∷ fs) zero h e = absurd cc
each_none (m ∷ ns) (f ∷ fs) (suc i) h e = each_none ns fs i h.1 e

abbrev pub at_taken : ℕ → Taken → Broken
at_taken code t = record { file = t.file; token = t.decl.now.token; code = code }

-- the first of some functions
pub first_taken : (code : ℕ) (ts : List Taken) → option_map (at_taken code) (slice_get ts 0) ≡ slice_get (first_function code (map function_in ts)) 0
first_taken code [] = refl
first_taken code (t ∷ ts) = refl

pub public_taken : (ts : List Taken) → list_any (λ t. t.decl.now.is_public) ts ≡ list_any (λ f. f.decl.is_public) (map function_in ts)
public_taken [] = refl
public_taken (t ∷ ts) = ap (λ (b : Bool). t.decl.now.is_public || b) (public_taken ts)

-- the function at a place, and the first behind those before it
pub taken_at : (code n : ℕ) (ts : List Taken) → option_map (at_taken code) (slice_get ts n) ≡ slice_get (first_function code (drop n (map function_in ts))) 0
taken_at code zero ts = first_taken code ts
taken_at code (suc n) [] = refl
taken_at code (suc n) (t ∷ ts) = taken_at code n ts
