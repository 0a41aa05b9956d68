-- The names that lines give, one line later.
use Rattle.std.proofs.Common.{ℕ, ◌≡◌, Bool, true, false, refl, List, [], ◌∷◌, ◌++◌, Option, sym, ◌∙◌, ap}
use Rattle.std.specs.Prelude.{◌||◌, if◌then◌else◌, filter_map}
use Rattle.std.specs.List.{list_any}
use Rattle.std.specs.Str.{bytes_eq}
use Rattle.std.specs.Borrow.{Bor}
use Rattle.std.proofs.lemmas.List.Folds.{list_any-append}
use Rattle.std.proofs.lemmas.Slice.Eq.{bytes_eq-Decides}
use Rattle.indexmap.specs.IndexSet.{insert_key}
use Rattle.call_script.specs.Spelling.{Word}
use Rattle.call_script.specs.Line.{Line}
use Rattle.call_script.specs.Standing.{is_named_in}
use Rattle.script_faults.specs.Names.{listed}
use Rattle.script_faults.proofs.ListLaws.{filter_map-behind}

pub named-behind : (name_of : Line → Option Word) (ls : List Line) (l : Line) (o : Option Word) (old new : Word → Bool)
    → ((w : Word) → old w ≡ is_named_in name_of ls w) → o ≡ name_of l
    → ((w : Word) → new w ≡ (old w || list_any (bytes_eq w) (listed o)))
    → (w : Word) → new w ≡ is_named_in name_of (ls ++ l ∷ []) w
named-behind name_of ls l o old new h e k w =
    k w
    ∙ ap (λ t. t || list_any (bytes_eq w) (listed o)) (h w)
    ∙ ap (λ x. is_named_in name_of ls w || list_any (bytes_eq w) (listed x)) e
    ∙ sym (ap (list_any (bytes_eq w)) (filter_map-behind name_of ls l)
    ∙ list_any-append (bytes_eq w) (filter_map name_of ls) (listed (name_of l)))

abbrev Key : Type 0
Key = Bor (List ℕ)

abbrev same : Key → Key → Bool
same a b = bytes_eq a.now b.now

or-none : (t : Bool) → (t || false) ≡ t
or-none true = refl
or-none false = refl

-- a word that a table has is told already
told-already : (keys : List Key) (key : Key) (w : Word) → list_any (same key) keys ≡ true
    → list_any (λ k. bytes_eq w k.now) keys ≡ (list_any (λ k. bytes_eq w k.now) keys || bytes_eq w key.now)
told-already keys key w among = go (bytes_eq w key.now) refl
  where
    go : (t : Bool) → bytes_eq w key.now ≡ t
        → list_any (λ k. bytes_eq w k.now) keys ≡ (list_any (λ k. bytes_eq w k.now) keys || t)
    go false e = sym (or-none (list_any (λ k. bytes_eq w k.now) keys))
    go true e =
        let is : w ≡ key.now = (bytes_eq-Decides w key.now).0 e in
        let told : list_any (λ k. bytes_eq w k.now) keys ≡ true = ap (λ v. list_any (λ k. bytes_eq v k.now) keys) is ∙ among in
        told ∙ sym (ap (λ t. t || true) told)

-- the words that a table tells with one name more
pub told-more : (keys new : List Key) (key : Key) (w : Word) → new ≡ insert_key same keys key
    → list_any (λ k. bytes_eq w k.now) new
    ≡ (list_any (λ k. bytes_eq w k.now) keys || list_any (bytes_eq w) (key.now ∷ []))
told-more keys new key w e =
    ap (list_any (λ k. bytes_eq w k.now)) e ∙ go (list_any (same key) keys) refl
    ∙ ap (λ t. list_any (λ k. bytes_eq w k.now) keys || t) (sym (or-none (bytes_eq w key.now)))
  where
    go : (t : Bool) → list_any (same key) keys ≡ t
        → list_any (λ k. bytes_eq w k.now) (if t then keys else keys ++ key ∷ [])
        ≡ (list_any (λ k. bytes_eq w k.now) keys || bytes_eq w key.now)
    go true k = told-already keys key w k
    go false k =
        list_any-append (λ x. bytes_eq w x.now) keys (key ∷ [])
        ∙ ap (λ t. list_any (λ x. bytes_eq w x.now) keys || t) (or-none (bytes_eq w key.now))

pub told-same : (t : Bool) → t ≡ (t || false)
told-same t = sym (or-none t)
