-- The table of layouts, kept by name.
use Rattle.std.proofs.Common.{◌≡◌, ℕ, Bool, true, false, List, [], ◌∷◌, ◌++◌, map, Option, None, Some, option_map, refl, sym, ap, ◌∙◌}
use Rattle.std.proofs.lemmas.Cmp.{nat_list_eq_equiv}
use Rattle.std.proofs.lemmas.Slice.Eq.{bytes_eq-Decides}
use Rattle.std.specs.Map.{lookup}
use Rattle.std.specs.Str.{bytes_eq}
use Rattle.indexmap.specs.IndexMap.{IndexMap, get, insert_entry}
use Rattle.indexmap.proofs.CallerLemmas.{insert_entry-new}
use Rattle.edl_layout.specs.declared.NamedShape.{NamedShape}
use Rattle.edl_layout.specs.Table.{entry}

-- an entry of the map as it is seen
abbrev pub shown : {K X : Type 0} → (K → List ℕ) → (X → ℕ) → (X → ℕ) → (X → List ℕ) → K × X → NamedShape
shown name_of size align offsets e = record { name = name_of e.0; size = size e.1; align = align e.1; offsets = offsets e.1 }

abbrev pub with_name : {X : Type 0} → (X → ℕ) → (X → ℕ) → (X → List ℕ) → List ℕ → X → NamedShape
with_name size align offsets name x = record { name = name; size = size x; align = align x; offsets = offsets x }

-- the entry of a name is what the look-up by this name finds
pub entry-shown : {K X : Type 0} (es : List (K × X)) (name_of : K → List ℕ) (size align : X → ℕ) (offsets : X → List ℕ) (name : List ℕ)
    → entry (map (shown name_of size align offsets) es) name ≡ option_map (with_name size align offsets name) (lookup (λ k. bytes_eq name (name_of k)) es)
entry-shown [] name_of size align offsets name = refl
entry-shown {K} {X} (e ∷ es) name_of size align offsets name = by (bytes_eq name (name_of e.0)) refl (entry-shown es name_of size align offsets name)
  where
    by : (b : Bool) → bytes_eq name (name_of e.0) ≡ b
        → entry (map (shown name_of size align offsets) es) name ≡ option_map (with_name size align offsets name) (lookup (λ k. bytes_eq name (name_of k)) es)
        → entry (map (shown name_of size align offsets) (e ∷ es)) name ≡ option_map (with_name size align offsets name) (lookup (λ k. bytes_eq name (name_of k)) (e ∷ es))
    by true h rest =
        let same : bytes_eq (name_of e.0) name ≡ true = nat_list_eq_equiv.symm (name_of e.0) name ∙ h in
        let known : name_of e.0 ≡ name = sym ((bytes_eq-Decides name (name_of e.0)).0 h) in
        rw (same, h) (ap (λ n. Some (with_name size align offsets n e.1)) known)
    by false h rest =
        let other : bytes_eq (name_of e.0) name ≡ false = nat_list_eq_equiv.symm (name_of e.0) name ∙ h in
        rw (other, h) rest

absent : {X Y : Type 0} (f : X → Y) (o : Option X) → option_map f o ≡ None → o ≡ None
absent f None h = refl
absent f (Some x) h = cc

map-append : {X Y : Type 0} (f : X → Y) (xs ys : List X) → map f (xs ++ ys) ≡ map f xs ++ map f ys
map-append f [] ys = refl
map-append f (x ∷ xs) ys = ap (λ zs. f x ∷ zs) (map-append f xs ys)

-- a name without an entry is put at the end
pub shown-insert : {K X S : Type 0} (m : IndexMap K X S) (eq : K → K → Bool) (name_of : K → List ℕ) (size align : X → ℕ) (offsets : X → List ℕ) (name : List ℕ) (k : K) (x : X)
    → name_of k ≡ name → ((j : K) → eq k j ≡ bytes_eq name (name_of j)) → entry (map (shown name_of size align offsets) m.entries) name ≡ None
    → map (shown name_of size align offsets) (insert_entry eq m.entries k x) ≡ map (shown name_of size align offsets) m.entries ++ with_name size align offsets name x ∷ []
shown-insert m eq name_of size align offsets name k x named tests none =
    let missing : lookup (λ j. bytes_eq name (name_of j)) m.entries ≡ None = absent (with_name size align offsets name) _ (sym (entry-shown m.entries name_of size align offsets name) ∙ none) in
    let fresh : get eq m k ≡ None = ap (λ t. lookup t m.entries) (λ i j. tests j i) ∙ missing in
    ap (map (shown name_of size align offsets)) (insert_entry-new eq m k x fresh)
    ∙ map-append (shown name_of size align offsets) m.entries ((k, x) ∷ [])
    ∙ ap (λ n. map (shown name_of size align offsets) m.entries ++ with_name size align offsets n x ∷ []) named
