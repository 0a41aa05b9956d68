-- The least token of lists in parts.
use Rattle.std.proofs.Common.{arith, ◌≡◌, ◌<◌, ◌+◌, ℕ, List, [], ◌∷◌, ◌++◌, length, take, get_or, refl, sym, ◌∙◌, ap, append-nil, append_assoc, Option, Some, None, add-one}
use Rattle.std.specs.Prelude.{min, map, filter}
use Rattle.std.proofs.lemmas.List.Elements.{filter-append}
use Rattle.std.proofs.lemmas.List.{map-append}
use Rattle.std.specs.List.{flat_map}
use Rattle.std.proofs.lemmas.Grind.{flat_map-append}
use Rattle.std.proofs.Math.Seq.{take-suc}
use Rattle.edl_grammar.specs.Sentence.{least, is_deep, deep_among}
use Rattle.edl_parser.specs.Depth.{earlier}
use Rattle.edl_grammar.specs.declared.Declared.{Declared}

min_assoc : (a b c : ℕ) → min a (min b c) ≡ min (min a b) c
min_assoc a b c = omega arith

earlier_assoc : (a b c : Option ℕ) → earlier a (earlier b c) ≡ earlier (earlier a b) c
earlier_assoc None b c = refl
earlier_assoc (Some n) None c = refl
earlier_assoc (Some n) (Some m) None = refl
earlier_assoc (Some n) (Some m) (Some k) = ap Some (min_assoc n m k)

pub least_append : (xs ys : List ℕ) → least (xs ++ ys) ≡ earlier (least xs) (least ys)
least_append [] ys = refl
least_append (x ∷ xs) ys = ap (λ o. earlier (Some x) o) (least_append xs ys) ∙ earlier_assoc (Some x) (least xs) (least ys)

-- one more element
pub least_take : {X : Type 0} (g : X → List ℕ) (xs : List X) (i : ℕ) (d : X) → i < length xs → least (flat_map g (take (i + 1) xs)) ≡ earlier (least (flat_map g (take i xs))) (least (g (get_or xs i d)))
least_take g xs i d h =
    ap (λ ys. least (flat_map g ys)) (ap (λ n. take n xs) (add-one i) ∙ take-suc xs i d h)
    ∙ ap least (flat_map-append g (take i xs) (get_or xs i d ∷ []))
    ∙ least_append (flat_map g (take i xs)) (g (get_or xs i d) ++ [])
    ∙ ap (λ ys. earlier (least (flat_map g (take i xs))) (least ys)) (append-nil (g (get_or xs i d)))

deep_append : (xs ys : List Declared) → deep_among (xs ++ ys) ≡ deep_among xs ++ deep_among ys
deep_append xs ys = ap (λ (ds : List Declared). map (λ (d : Declared). d.token) ds) (filter-append is_deep xs ys) ∙ map-append (λ (d : Declared). d.token) (filter is_deep xs) (filter is_deep ys)

-- one more declaration
pub deep_take : (ds : List Declared) (i : ℕ) (d : Declared) → i < length ds → least (deep_among (take (i + 1) ds)) ≡ earlier (least (deep_among (take i ds))) (least (deep_among (get_or ds i d ∷ [])))
deep_take ds i d h =
    ap (λ (xs : List Declared). least (deep_among xs)) (ap (λ n. take n ds) (add-one i) ∙ take-suc ds i d h)
    ∙ ap least (deep_append (take i ds) (get_or ds i d ∷ []))
    ∙ least_append (deep_among (take i ds)) (deep_among (get_or ds i d ∷ []))

-- the least of three lists in a row, from the least of each
pub deep_whole : (T U V : List ℕ) (t u v uv r : Option ℕ) → t ≡ least T → u ≡ least U → v ≡ least V → uv ≡ earlier u v → r ≡ earlier t uv → r ≡ least ((T ++ U) ++ V)
deep_whole T U V t u v uv r a b d e f =
    f ∙ ap (λ o. earlier o uv) a ∙ ap (λ o. earlier (least T) o) (e ∙ ap (λ o. earlier o v) b ∙ ap (λ o. earlier (least U) o) d)
    ∙ ap (λ o. earlier (least T) o) (sym (least_append U V)) ∙ sym (least_append T (U ++ V)) ∙ ap least (sym (append_assoc T U V))
