-- An interface without a broken rule fits its numbers.
use Rattle.std.proofs.Common.{◌≡◌, Bool, nat_lt, List, [], ◌∷◌, ◌++◌, length, get_or}
use Rattle.std.specs.Prelude.{All}
use Rattle.std.proofs.lemmas.List.Elements.{All-nil, All-cons, All-head, All-tail}
use Rattle.edl_grammar.specs.declared.Gathered.{Gathered}
use Rattle.edl_grammar.specs.Files.{FunctionIn, trusted_of, untrusted_of}
use Rattle.edl_layout.specs.declared.ForeignTypes.{ForeignTypes}
use Rattle.edl_layout.specs.declared.NamedShape.{NamedShape}
use Rattle.edl_layout.specs.Table.{IsTable}
use Rattle.edl_layout.specs.Faults.{HasLayouts, IsCleanFunction}
use Rattle.attr_terms.specs.Rules.{broken, function_rows, max_params}
use Rattle.attr_terms.specs.Accepted.{size_of}
use Rattle.accepted_interface.specs.Fitting.{FunctionFits, InterfaceFits}
use Rattle.accepted_interface.proofs.FrameBounds.{length-fits, frame-fits}
use Rattle.accepted_interface.proofs.Unbroken.{AreClean, IsUnbroken, unbroken, row-clean, few, not-above}

pub All-front : {X : Type 0} (P : X → Type 0) (xs ys : List X) → All P (xs ++ ys) → All P xs
All-front P [] ys h = All-nil P
All-front P (x ∷ xs) ys h = All-cons P x xs (All-head P x (xs ++ ys) h) (All-front P xs ys (All-tail P x (xs ++ ys) h))

pub All-behind : {X : Type 0} (P : X → Type 0) (xs ys : List X) → All P (xs ++ ys) → All P ys
All-behind P [] ys h = h
All-behind P (x ∷ xs) ys h = All-behind P xs ys (All-tail P x (xs ++ ys) h)

module _ (g : Gathered) (foreign : ForeignTypes) (table : List NamedShape) (runner : Bool) where
  function-fits : IsTable g foreign table → (f : FunctionIn) → IsCleanFunction g foreign f → AreClean (function_rows g runner (size_of g table) f) → FunctionFits g table f
  function-fits made f clean rows =
      record {
        params = not-above max_params (length f.decl.params) (row-clean 39 f.decl.token (nat_lt max_params (length f.decl.params)) rows.1.1.1.1.1.0);
        lengths = λ k d lt. length-fits g foreign table made (get_or f.decl.params k d) (clean.params k d lt);
        frame = frame-fits g foreign table made f clean;
      }

  pub interface-fits : HasLayouts g foreign → IsTable g foreign table → broken g runner (size_of g table) ≡ [] → InterfaceFits g table
  interface-fits layouts made e =
      let u : IsUnbroken g runner (size_of g table) = unbroken g runner (size_of g table) e in
      let clean : All (λ f. IsCleanFunction g foreign f × AreClean (function_rows g runner (size_of g table) f)) (trusted_of g ++ untrusted_of g) = λ k d lt. (layouts.functions k d lt, u.functions k d lt) in
      let fits : All (FunctionFits g table) (trusted_of g ++ untrusted_of g) = λ k d lt. function-fits made (get_or (trusted_of g ++ untrusted_of g) k d) (clean k d lt).0 (clean k d lt).1 in
      record {
        trusted = All-front (FunctionFits g table) (trusted_of g) (untrusted_of g) fits;
        untrusted = All-behind (FunctionFits g table) (trusted_of g) (untrusted_of g) fits;
        few_trusted = few (trusted_of g) u.trusted;
        few_untrusted = few (untrusted_of g) u.untrusted;
      }
