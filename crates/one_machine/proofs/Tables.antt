-- The interface of files rests on what a table of layouts tells of each name, and on no more.
use Rattle.std.proofs.Common.{ℕ, ◌*◌, ◌≡◌, ◌==◌, ◌&&◌, Bool, true, false, List, [], ◌∷◌, ◌++◌, map, Option, Some, None, option_map, unwrap_or, Ok, if◌then◌else◌, refl, ap, sym, ◌∙◌}
use Rattle.std.specs.Prelude.{codes}
use Rattle.edl_grammar.specs.declared.Gathered.{Gathered}
use Rattle.edl_grammar.specs.declared.Declared.{Declared}
use Rattle.edl_grammar.specs.declared.Written.{Written}
use Rattle.edl_grammar.specs.declared.Base.{Base}
use Rattle.edl_grammar.specs.declared.Base.TheVariants as base
use Rattle.edl_grammar.specs.Files.{FunctionIn, trusted_of, untrusted_of}
use Rattle.edl_layout.specs.declared.ForeignTypes.{ForeignTypes}
use Rattle.edl_layout.specs.declared.NamedShape.{NamedShape}
use Rattle.edl_layout.specs.Shape.{Shape, elements}
use Rattle.edl_layout.specs.Meaning.{HasShape, bare_meaning, pointed}
use Rattle.edl_layout.specs.Frame.{has, is_array, is_pointer, is_returning, field_shape, param_fields, result_fields, frame_shape}
use Rattle.edl_layout.specs.Table.{IsTable, shape_in}
use Rattle.edl_interface.specs.declared.Interface.{Interface}
use Rattle.edl_interface.specs.declared.Function.{Function}
use Rattle.edl_interface.specs.declared.Param.{Param}
use Rattle.edl_interface.specs.declared.Class.{Class}
use Rattle.edl_interface.specs.declared.Class.TheVariants as class
use Rattle.edl_interface.specs.declared.Plain.{Plain}
use Rattle.attr_terms.specs.declared.Broken.{Broken}
use Rattle.attr_terms.specs.Attributes.{is_foreign_passed, is_string, meant}
use Rattle.attr_terms.specs.Accepted.{is_first, named_shape, base_shape_by, base_shape, shape_of, size_of, base_size, pointee_size, plain_of, buffer_of, pointer_class, fixed_class, class_of, param_behind, params_from, frame_size, returned, function_of, interface_of, own_size, pointee_by, plain_by, opaque, direction_of, amount_by, value_behind, foreign_class, offset_behind, ordinal_of}
use Rattle.attr_terms.specs.Rules.{broken}
use Rattle.attr_rules.specs.Checked.{answer, checked}
use std.Path.{fun_ext}

-- two tables of the same files tell the same shape of each name
module _ (g : Gathered) (foreign : ForeignTypes) (first second : List NamedShape) (p : IsTable g foreign first) (q : IsTable g foreign second) where
  by_told : (name : List ℕ) (one other : Option Shape) → shape_in first name ≡ one → shape_in second name ≡ other → one ≡ other
  by_told name None None e f = refl
  by_told name (Some s) other e f =
      let told : HasShape g foreign (bare_meaning g foreign name) s = (p.shapes name s).0 e in
      sym ((q.shapes name s).1 told) ∙ f
  by_told name None (Some s) e f =
      let told : HasShape g foreign (bare_meaning g foreign name) s = (q.shapes name s).0 f in
      sym e ∙ (p.shapes name s).1 told

  pub same_shapes : (name : List ℕ) → shape_in first name ≡ shape_in second name
  same_shapes name = by_told name (shape_in first name) (shape_in second name) refl refl

module _ (g : Gathered) (first second : List NamedShape) (same : (name : List ℕ) → shape_in first name ≡ shape_in second name) where
  named_same : (b : Base) → named_shape g first b ≡ named_shape g second b
  named_same (base.Bare name) = same name
  named_same (base.Tagged tag name) = ap (λ (o : Option Shape). if is_first g tag name then o else None) (same name)
  named_same b = refl

  by_same : (own : Option ℕ) (b : Base) → base_shape_by g first own b ≡ base_shape_by g second own b
  by_same (Some size) b = refl
  by_same None b = named_same b

  base_same : (b : Base) → base_shape g first b ≡ base_shape g second b
  base_same b = by_same (own_size (meant g b)) b

  shape_same : shape_of g first ≡ shape_of g second
  shape_same = fun_ext (λ w. ap (λ o. pointed w.stars o) (base_same w.base))

  size_same : size_of g first ≡ size_of g second
  size_same = fun_ext (λ w. ap (λ (sh : Written → Option Shape). unwrap_or (option_map (λ s. s.size) (sh w)) 0) shape_same)

  size_at : (w : Written) → size_of g first w ≡ size_of g second w
  size_at w = ap (λ (f : Written → ℕ). f w) size_same

  base_size_same : (b : Base) → base_size g first b ≡ base_size g second b
  base_size_same b = ap (λ (o : Option Shape). unwrap_or (option_map (λ s. s.size) o) 0) (base_same b)

  pointee_same : (w : Written) → pointee_size g first w ≡ pointee_size g second w
  pointee_same w = ap (λ n. if w.stars == 1 then pointee_by (meant g w.base) n else 8) (base_size_same w.base)

  plain_same : (w : Written) → plain_of g first w ≡ plain_of g second w
  plain_same w = ap (λ n. if w.stars == 0 then plain_by (meant g w.base) n else opaque n) (size_at w)

  buffer_same : (ps : List Declared) (d : Declared) → buffer_of g first ps d ≡ buffer_of g second ps d
  buffer_same ps d = ap (λ n. class.Buffer (direction_of d) (amount_by ps n (value_behind (codes "size") d)) (amount_by ps 1 (value_behind (codes "count") d)) n) (pointee_same d.written)

  pointer_same : (ps : List Declared) (d : Declared) → pointer_class g first ps d ≡ pointer_class g second ps d
  pointer_same ps d =
      ap (λ n. if is_string d then class.Text (direction_of d) n else buffer_of g first ps d) (pointee_same d.written)
      ∙ ap (λ (c : Class). if is_string d then class.Text (direction_of d) (pointee_size g second d.written) else c) (buffer_same ps d)

  fixed_same : (d : Declared) → fixed_class g first d ≡ fixed_class g second d
  fixed_same d = ap (λ n. class.Fixed (direction_of d) (n * elements d.dims) n) (size_at d.written)

  -- by the classes of arrays, of pointers, and of values
  abbrev class_by : Declared → Class → Class → Plain → Class
  class_by d array pointer plain =
      if is_foreign_passed d then foreign_class d
      else (if has "user_check" d then class.UserCheck
      else (if is_array d then array
      else (if is_pointer d then pointer
      else class.Plain plain)))

  class_same : (ps : List Declared) (d : Declared) → class_of g first ps d ≡ class_of g second ps d
  class_same ps d =
      ap (λ c. class_by d c (pointer_class g first ps d) (plain_of g first d.written)) (fixed_same d)
      ∙ ap (λ c. class_by d (fixed_class g second d) c (plain_of g first d.written)) (pointer_same ps d)
      ∙ ap (λ c. class_by d (fixed_class g second d) (pointer_class g second ps d) c) (plain_same d.written)

  param_same : (all : List Declared) (fields : List (Option Shape)) (d : Declared) → param_behind g first all fields d ≡ param_behind g second all fields d
  param_same all fields d =
      ap (λ (sh : Written → Option Shape). record { name = d.name; offset = offset_behind fields (field_shape sh d); class = class_of g first all d }) shape_same
      ∙ ap (λ (c : Class). record { name = d.name; offset = offset_behind fields (field_shape (shape_of g second) d); class = c }) (class_same all d)

  params_same : (is_trusted : Bool) (all : List Declared) (fields : List (Option Shape)) (ps : List Declared)
      → params_from g first is_trusted all fields ps ≡ params_from g second is_trusted all fields ps
  params_same is_trusted all fields [] = refl
  params_same is_trusted all fields (d ∷ ps) =
      ap (λ x. x ∷ params_from g first is_trusted all (fields ++ param_fields (shape_of g first) is_trusted d) ps) (param_same all fields d)
      ∙ ap (λ (sh : Written → Option Shape). param_behind g second all fields d ∷ params_from g first is_trusted all (fields ++ param_fields sh is_trusted d) ps) shape_same
      ∙ ap (λ l. param_behind g second all fields d ∷ l) (params_same is_trusted all (fields ++ param_fields (shape_of g second) is_trusted d) ps)

  -- by what its return is, its parameters and the size of its frame
  abbrev function_by : FunctionIn → Option Plain → List Param → ℕ → Function
  function_by f ret params size = record {
    name = f.decl.name;
    is_public = f.is_trusted && f.decl.is_public;
    switchless = f.decl.switchless;
    ret = ret;
    params = params;
    allow = map (λ x. ordinal_of g x.name) (unwrap_or f.decl.allow []);
    frame_size = size;
  }

  function_same : (f : FunctionIn) → function_of g first f ≡ function_of g second f
  function_same f =
      ap (λ (x : Plain). function_by f (if is_returning f.decl.result then Some x else None) (params_from g first f.is_trusted f.decl.params (result_fields (shape_of g first) f.decl.result) f.decl.params) (frame_size g first f)) (plain_same f.decl.result)
      ∙ ap (λ (sh : Written → Option Shape). function_by f (returned g second f.decl.result) (params_from g first f.is_trusted f.decl.params (result_fields sh f.decl.result) f.decl.params) (frame_size g first f)) shape_same
      ∙ ap (λ (ps : List Param). function_by f (returned g second f.decl.result) ps (frame_size g first f)) (params_same f.is_trusted f.decl.params (result_fields (shape_of g second) f.decl.result) f.decl.params)
      ∙ ap (λ (sh : Written → Option Shape). function_by f (returned g second f.decl.result) (params_from g second f.is_trusted f.decl.params (result_fields (shape_of g second) f.decl.result) f.decl.params) (unwrap_or (option_map (λ s. s.size) (frame_shape sh f)) 0)) shape_same

  interface_same : interface_of g first ≡ interface_of g second
  interface_same = ap (λ (f : FunctionIn → Function). record { ecalls = map f (trusted_of g); ocalls = map f (untrusted_of g) }) (fun_ext function_same)

  answer_same : (rules : List Broken) → answer g first rules ≡ answer g second rules
  answer_same [] = ap (λ (i : Interface). Ok i) interface_same
  answer_same (b ∷ bs) = refl

  pub checked_same : (runner : Bool) → checked g first runner ≡ checked g second runner
  checked_same runner = ap (λ (size : Written → ℕ). answer g first (broken g runner size)) size_same ∙ answer_same (broken g runner (size_of g second))
