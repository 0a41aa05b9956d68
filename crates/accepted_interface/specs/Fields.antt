-- The fields of a marshalling structure, as they are put one behind the other.
use Rattle.std.specs.Prelude.{◌≡◌, ℕ, List, Option, Some, None, option_map, unwrap_or}
use Rattle.sgx_base.specs.Bytes.{round_up}
use Rattle.edl_grammar.specs.declared.Gathered.{Gathered}
use Rattle.edl_grammar.specs.Files.{FunctionIn}
use Rattle.edl_layout.specs.declared.NamedShape.{NamedShape}
use Rattle.edl_layout.specs.declared.extents.FieldEnds.{FieldEnds}
use Rattle.edl_layout.specs.Shape.{Shape, all_known, structure_shape}
use Rattle.edl_layout.specs.Ends.{kept, ends_of, ends_after}
use Rattle.edl_layout.specs.Frame.{result_fields}
use Rattle.edl_interface.specs.declared.Param.{Param}
use Rattle.attr_terms.specs.Accepted.{shape_of, params_from}
use Rattle.accepted_interface.specs.declared.fields.Fields.{Fields}

-- they are these so far
pub record HasFields (f : Fields) (fields : List (Option Shape)) : Type 0 where
  pub ends : f.ends ≡ option_map ends_of (all_known fields)

-- the ends with one field more, and its place
abbrev pub ends_with : Option FieldEnds → Option Shape → Option FieldEnds
ends_with (Some e) (Some s) = Some (ends_after e s)
ends_with _ _ = None

abbrev pub place_after : Option FieldEnds → Option Shape → Option ℕ
place_after (Some e) (Some s) = Some (kept (round_up e.end s.align))
place_after _ _ = None

-- the size of a structure of these, 0 where one of them is unknown
abbrev pub size_of_fields : List (Option Shape) → ℕ
size_of_fields fields = unwrap_or (option_map (λ s. s.size) (option_map structure_shape (all_known fields))) 0

-- the parameters of a function, behind the field of what it returns
abbrev pub params_of : Gathered → List NamedShape → FunctionIn → List Param
params_of g table f = params_from g table f.is_trusted f.decl.params (result_fields (shape_of g table) f.decl.result) f.decl.params
