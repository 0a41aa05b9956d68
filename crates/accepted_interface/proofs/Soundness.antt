-- The interface of files in which no rule is broken is sound.
use Rattle.std.proofs.Common.{◌≡◌, ℕ, suc, ◌≤◌, ◌<◌, Bool, true, false, not, cond, List, [], ◌∷◌, ◌++◌, map, filter, length, find, get_or, Option, Some, None, unwrap_or, refl, sym, ap, ◌∙◌, subst}
use Rattle.std.specs.Prelude.{All, position, option_and_then, slice_get}
use Rattle.std.specs.List.{list_any}
use Rattle.std.specs.Str.{bytes_eq}
use Rattle.std.proofs.lemmas.Option.{none-some}
use Rattle.std.proofs.lemmas.List.Quantifiers.{position-Some}
use Rattle.std.proofs.lemmas.List.Elements.{All-nil, All-cons, All-map}
use Rattle.edl_grammar.specs.declared.Gathered.{Gathered}
use Rattle.edl_grammar.specs.declared.Declared.{Declared}
use Rattle.edl_grammar.specs.declared.NameAt.{NameAt}
use Rattle.edl_grammar.specs.Files.{FunctionIn, trusted_of, untrusted_of}
use Rattle.edl_layout.specs.declared.NamedShape.{NamedShape}
use Rattle.edl_layout.specs.Shape.{Shape}
use Rattle.edl_layout.specs.Frame.{param_fields, result_fields}
use Rattle.edl_interface.specs.Parameters.{IsWordSized}
use Rattle.edl_interface.specs.Sound.{IsSoundClass, IsSoundFunction, IsSound}
use Rattle.attr_terms.specs.Rules.{function_rows, param_rows, unknown_allowed, allow_names}
use Rattle.attr_terms.specs.Accepted.{size_of, shape_of, params_from, ordinal_of, function_of, interface_of}
use Rattle.accepted_interface.specs.Fitting.{FunctionFits, InterfaceFits}
use Rattle.attr_terms.proofs.PlaceLaws.{found_at}
use Rattle.accepted_interface.proofs.Bounds.{All-front, All-behind}
use Rattle.accepted_interface.proofs.Unbroken.{AreClean, IsUnbroken, nil-map, nil-first, clean-flat}
use Rattle.accepted_interface.proofs.SoundLaws.{found-any, not-true, params-all, class-sound, class-word}

none-passes : {X : Type 0} (p : X → Bool) (xs : List X) → filter p xs ≡ [] → All (λ x. p x ≡ false) xs
none-passes {X} p [] e = All-nil (λ (x : X). p x ≡ false)
none-passes {X} p (x ∷ xs) e = by (p x) refl e (none-passes p xs)
  where
    by : (b : Bool) → p x ≡ b → cond b (x ∷ filter p xs) (filter p xs) ≡ [] → (filter p xs ≡ [] → All (λ x. p x ≡ false) xs) → All (λ x. p x ≡ false) (x ∷ xs)
    by true h e rest = cc
    by false h e rest = All-cons (λ (z : X). p z ≡ false) x xs h (rest e)

length-mapped : {X Y : Type 0} (f : X → Y) (xs : List X) → length (map f xs) ≡ length xs
length-mapped f [] = refl
length-mapped f (x ∷ xs) = ap suc (length-mapped f xs)

-- a function that is there has an ordinal
below-by : {X : Type 0} (p : X → Bool) (xs : List X) (x : X) (o : Option ℕ) → position p xs ≡ o → find p xs ≡ Some x → unwrap_or o 0 < length xs
below-by p xs x None is found = absurd (none-some x (sym (found_at p xs ∙ ap (option_and_then (λ i. slice_get xs i)) is) ∙ found))
below-by p xs x (Some i) is found = (position-Some p xs i x is).0

pub first-below : {X : Type 0} (p : X → Bool) (xs : List X) → list_any p xs ≡ true → unwrap_or (position p xs) 0 < length xs
first-below p xs any = let found = found-any p xs any in below-by p xs found.0 (position p xs) refl found.1

module _ (g : Gathered) (table : List NamedShape) (runner : Bool) where
  length-params : (t : Bool) (all ps : List Declared) (fields : List (Option Shape)) → length (params_from g table t all fields ps) ≡ length ps
  length-params t all [] fields = refl
  length-params t all (p ∷ ps) fields = ap suc (length-params t all ps (fields ++ param_fields (shape_of g table) t p))

  allow-below : (names : List NameAt) → All (λ x. not (list_any (λ h. bytes_eq h.decl.name x.name) (trusted_of g)) ≡ false) names → All (λ o. o < length (trusted_of g)) (map (λ x. ordinal_of g x.name) names)
  allow-below names known =
      All-map (λ o. o < length (trusted_of g)) (λ (x : NameAt). ordinal_of g x.name) names
      (λ k d lt. first-below (λ h. bytes_eq h.decl.name (get_or names k d).name) (trusted_of g) (not-true (list_any (λ h. bytes_eq h.decl.name (get_or names k d).name) (trusted_of g)) (known k d lt)))

  function-sound : (f : FunctionIn) → FunctionFits g table f → AreClean (function_rows g runner (size_of g table) f) → IsSoundFunction (length (trusted_of g)) (function_of g table f)
  function-sound f fits rows =
      let fields = result_fields (shape_of g table) f.decl.result in
      let params : All (λ p. AreClean (param_rows g runner f.decl.params p)) f.decl.params = clean-flat (param_rows g runner f.decl.params) f.decl.params rows.1.1.1.1.1.1 in
      record {
        amounts = params-all g table runner (λ q. IsSoundClass (params_from g table f.is_trusted f.decl.params fields f.decl.params) q.class) (λ p. AreClean (param_rows g runner f.decl.params p)) f.is_trusted f.decl.params f.decl.params fields
            (λ q before clean. class-sound g table runner f.is_trusted f.decl.params fields params q clean) params;
        words = params-all g table runner (λ q. IsWordSized q.class) (λ p. AreClean (param_rows g runner f.decl.params p)) f.is_trusted f.decl.params f.decl.params fields (λ q before clean. class-word g table runner f.decl.params q) params;
        params = subst (λ n. n ≤ 64) (sym (length-params f.is_trusted f.decl.params f.decl.params fields)) fits.params;
        allow = allow-below (allow_names f.decl) (none-passes (λ (x : NameAt). not (list_any (λ h. bytes_eq h.decl.name x.name) (trusted_of g))) (allow_names f.decl) (nil-map (λ (x : NameAt). x.token) _ (nil-first (unknown_allowed (trusted_of g) f.decl) rows.1.0)));
        frame = fits.frame;
      }

  side-sound : (fs : List FunctionIn) → All (FunctionFits g table) fs → All (λ f. AreClean (function_rows g runner (size_of g table) f)) fs → All (IsSoundFunction (length (map (function_of g table) (trusted_of g)))) (map (function_of g table) fs)
  side-sound fs fits rows =
      All-map (IsSoundFunction (length (map (function_of g table) (trusted_of g)))) (function_of g table) fs
      (λ k d lt. subst (λ n. IsSoundFunction n (function_of g table (get_or fs k d))) (sym (length-mapped (function_of g table) (trusted_of g))) (function-sound (get_or fs k d) (fits k d lt) (rows k d lt)))

  pub interface-sound : InterfaceFits g table → IsUnbroken g runner (size_of g table) → IsSound (interface_of g table)
  interface-sound fits u =
      let rows = u.functions in
      record {
        ecalls = side-sound (trusted_of g) fits.trusted (All-front (λ f. AreClean (function_rows g runner (size_of g table) f)) (trusted_of g) (untrusted_of g) rows);
        ocalls = side-sound (untrusted_of g) fits.untrusted (All-behind (λ f. AreClean (function_rows g runner (size_of g table) f)) (trusted_of g) (untrusted_of g) rows);
        few_ecalls = subst (λ n. n ≤ 1024) (sym (length-mapped (function_of g table) (trusted_of g))) fits.few_trusted;
        few_ocalls = subst (λ n. n ≤ 1024) (sym (length-mapped (function_of g table) (untrusted_of g))) fits.few_untrusted;
      }
