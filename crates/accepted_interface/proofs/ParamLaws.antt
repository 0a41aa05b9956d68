-- The parameters of a function, one after the other.
use Rattle.std.proofs.Common.{◌≡◌, Bool, List, [], ◌∷◌, ◌++◌, Option, option_map, refl, sym, ap, ◌∙◌, append_assoc, append-nil, flat_map}
use Rattle.edl_grammar.specs.declared.Gathered.{Gathered}
use Rattle.edl_grammar.specs.declared.Declared.{Declared}
use Rattle.edl_layout.specs.declared.NamedShape.{NamedShape}
use Rattle.edl_layout.specs.Shape.{Shape, all_known}
use Rattle.edl_layout.specs.Ends.{ends_of}
use Rattle.edl_layout.specs.Frame.{param_fields}
use Rattle.edl_interface.specs.declared.Param.{Param}
use Rattle.accepted_interface.specs.declared.fields.Fields.{Fields}
use Rattle.accepted_interface.specs.Fields.{HasFields}
use Rattle.attr_terms.specs.Accepted.{shape_of, param_behind, params_from}

module _ (g : Gathered) (table : List NamedShape) (is_trusted : Bool) (all : List Declared) (before : List (Option Shape)) where
  -- so many parameters are read, and these are left
  pub record IsRead (fields : Fields) (done : List Param) (rest : List Declared) : Type 0 where
    pub so_far : List (Option Shape)
    pub has : HasFields fields so_far
    pub params : done ++ params_from g table is_trusted all so_far rest ≡ params_from g table is_trusted all before all
    pub known : so_far ++ flat_map (param_fields (shape_of g table) is_trusted) rest ≡ before ++ flat_map (param_fields (shape_of g table) is_trusted) all

  pub none-read : (fields : Fields) → HasFields fields before → IsRead fields [] all
  none-read fields has = record { so_far = before; has = has; params = refl; known = refl }

  pub one-read : (fields more : Fields) (done : List Param) (item : Param) (p : Declared) (rest : List Declared) (r : IsRead fields done (p ∷ rest))
      → item ≡ param_behind g table all r.so_far p → HasFields more (r.so_far ++ param_fields (shape_of g table) is_trusted p) → IsRead more (done ++ item ∷ []) rest
  one-read fields more done item p rest r is has =
      record {
        so_far = r.so_far ++ param_fields (shape_of g table) is_trusted p;
        has = has;
        params = append_assoc done (item ∷ []) _ ∙ ap (λ i. done ++ i ∷ params_from g table is_trusted all (r.so_far ++ param_fields (shape_of g table) is_trusted p) rest) is ∙ r.params;
        known = append_assoc r.so_far (param_fields (shape_of g table) is_trusted p) _ ∙ r.known;
      }

  pub all-read : (fields : Fields) (done : List Param) (r : IsRead fields done []) → done ≡ params_from g table is_trusted all before all
  all-read fields done r = sym (append-nil done) ∙ r.params

  pub all-known : (fields : Fields) (done : List Param) (r : IsRead fields done []) → HasFields fields (before ++ flat_map (param_fields (shape_of g table) is_trusted) all)
  all-known fields done r = record { ends = r.has.ends ∙ ap (λ fs. option_map ends_of (all_known fs)) (sym (append-nil r.so_far) ∙ r.known) }
