-- The fields of a marshalling structure lie one after another.
use Rattle.std.proofs.Common.{◌≡◌, ℕ, ◌+◌, ◌^◌, ◌<◌, ◌≤◌, Bool, true, false, if◌then◌else◌, List, [], ◌∷◌, ◌++◌, map, flat_map, length, get_or, Option, Some, sym, ap, ◌∙◌, subst, append_assoc, arith}
use Rattle.std.specs.Prelude.{All}
use Rattle.std.proofs.lemmas.Bool.{lt-ltb}
use Rattle.std.proofs.lemmas.List.{get_or-map, length-map}
use Rattle.std.proofs.lemmas.List.Elements.{All-head, All-tail, All-map}
use Rattle.sgx_base.specs.Bytes.{round_up}
use Rattle.edl_grammar.specs.declared.Gathered.{Gathered}
use Rattle.edl_grammar.specs.declared.Declared.{Declared}
use Rattle.edl_grammar.specs.declared.Written.{Written}
use Rattle.edl_grammar.specs.Files.{types_of, FunctionIn, trusted_of, untrusted_of}
use Rattle.edl_layout.specs.declared.ForeignTypes.{ForeignTypes}
use Rattle.edl_layout.specs.declared.NamedShape.{NamedShape}
use Rattle.edl_layout.specs.Shape.{Shape, address}
use Rattle.edl_layout.specs.Frame.{is_measured, field_shape, param_fields, result_fields, frame_fields}
use Rattle.edl_layout.specs.Table.{IsTable}
use Rattle.edl_layout.specs.Faults.{HasLayouts, IsCleanParam, IsCleanFunction}
use Rattle.edl_interface.specs.declared.Function.{Function}
use Rattle.edl_interface.specs.Parameters.{field_size}
use Rattle.edl_interface.specs.Sound.{IsSound, IsSoundFunction}
use Rattle.edl_interface.specs.Order.{AreInOrder, HasFieldsInOrder, IsInOrder}
use Rattle.attr_terms.specs.Rules.{broken, function_rows, param_rows}
use Rattle.attr_terms.specs.Accepted.{size_of, shape_of, place_behind, offset_by, offset_behind, class_of, params_from, frame_size, function_of, interface_of}
use Rattle.attr_rules.specs.ForRun.{HasSize, HasSizes, AreForRun}
use Rattle.accepted_interface.proofs.Unbroken.{AreClean, IsUnbroken, unbroken, clean-flat}
use Rattle.accepted_interface.proofs.Bounds.{All-front, All-behind}
use Rattle.attr_rules.proofs.NamesApart.{AreNamedApart, names-apart}
use Rattle.attr_rules.proofs.FieldEnds.{IsFine, AreFine, fine-append, end_by, end-append, le-round_up, le-end, known, within-frame, field-within}
use Rattle.attr_rules.proofs.KnownFields.{param-fine, fields-fine, params-fine, result-fine}
use Rattle.attr_rules.proofs.PassedClasses.{class-held}
use Rattle.attr_rules.proofs.RunnableLaws.{IsOn, trusted-side, untrusted-side}

-- ---- numbers

exact : (n : ℕ) → n < 2 ^ 32 → offset_by (Some n) ≡ n
exact n h = ap (λ b. if b then n else 0) (lt-ltb n (2 ^ 32) h)

le-exact : (from up : ℕ) → from ≤ up → up < 2 ^ 32 → from ≤ offset_by (Some up)
le-exact from up h small = subst (λ n. from ≤ n) (sym (exact up small)) h

le-by : (a b c : ℕ) → a ≤ b → b ≤ c → a ≤ c
le-by a b c h k = omega arith

lt-by : (a b c : ℕ) → a + b ≤ c → c ≤ 1024 → a < 2 ^ 32
lt-by a b c h k = omega arith

place-size : (place own size last end : ℕ) → own ≤ size → place + size + last ≤ end → place + own ≤ end
place-size place own size last end h k = omega arith

before-more : (up size more : ℕ) → up + size ≤ more → up ≤ more
before-more up size more h = omega arith

-- ---- a field behind others

place-above : (from : ℕ) (before : List (Option Shape)) (s : Shape) → AreFine before → 0 < s.align → from ≤ end_by 0 before → round_up (end_by 0 before) s.align < 2 ^ 32
    → from ≤ offset_behind before (Some s)
place-above from before s fine aligned h small =
    let k = known before fine in
    let above : from ≤ round_up (end_by 0 before) s.align = le-by from (end_by 0 before) (round_up (end_by 0 before) s.align) h (le-round_up (end_by 0 before) s.align aligned) in
    subst (λ o. from ≤ offset_by (place_behind o (Some s))) (sym k.1)
    (subst (λ n. from ≤ offset_by (Some (round_up n s.align))) (sym (k.2 0)) (le-exact from (round_up (end_by 0 before) s.align) above small))

-- a field ends before those behind it, in its own place
place-end : (end : ℕ) (s : Shape) (m : Bool) → round_up end s.align + s.size ≤ end_by end (Some s ∷ (if m then Some address ∷ [] else []))
place-end end s true = before-more (round_up end s.align + s.size) 0 (round_up (round_up end s.align + s.size) 8 + 8) (omega (arith, le-round_up (round_up end s.align + s.size) 8 (omega arith)))
place-end end s false = omega arith

module _ (shape_of : Written → Option Shape) (t : Bool) (p : Declared) (before : List (Option Shape)) (s : Shape) (fine : AreFine before) (is : field_shape shape_of p ≡ Some s) where
  -- the end of these fields is that of all up to this parameter's
  end-here : (offset_behind before (field_shape shape_of p) + s.size + (if is_measured t p then 8 else 0)) ≤ end_by 0 (before ++ param_fields shape_of t p)
  end-here =
      subst (λ n. offset_behind before (field_shape shape_of p) + s.size + (if is_measured t p then 8 else 0) ≤ n) (end-append 0 (before ++ param_fields shape_of t p) [])
      (field-within shape_of t p before [] s fine tt is)

  place-within : (rest : List (Option Shape)) → AreFine rest → round_up (end_by 0 before) s.align + s.size ≤ end_by 0 ((before ++ param_fields shape_of t p) ++ rest)
  place-within rest behind =
      let own : round_up (end_by 0 before) s.align + s.size ≤ end_by (end_by 0 before) (param_fields shape_of t p) =
      subst (λ (o : Option Shape). round_up (end_by 0 before) s.align + s.size ≤ end_by (end_by 0 before) (o ∷ (if is_measured t p then Some address ∷ [] else []))) (sym is) (place-end (end_by 0 before) s (is_measured t p)) in
      let all : end_by 0 ((before ++ param_fields shape_of t p) ++ rest) ≡ end_by (end_by (end_by 0 before) (param_fields shape_of t p)) rest =
      end-append 0 (before ++ param_fields shape_of t p) rest ∙ ap (λ n. end_by n rest) (end-append 0 before (param_fields shape_of t p)) in
      subst (λ n. round_up (end_by 0 before) s.align + s.size ≤ n) (sym all)
      (le-by (round_up (end_by 0 before) s.align + s.size) (end_by (end_by 0 before) (param_fields shape_of t p)) (end_by (end_by (end_by 0 before) (param_fields shape_of t p)) rest) own
      (le-end (end_by (end_by 0 before) (param_fields shape_of t p)) rest behind))

  begins : (from frame : ℕ) (rest : List (Option Shape)) → AreFine rest → 0 < s.align → from ≤ end_by 0 before → end_by 0 ((before ++ param_fields shape_of t p) ++ rest) ≤ frame → frame ≤ 1024
      → from ≤ offset_behind before (field_shape shape_of p)
  begins from frame rest behind aligned h within small =
      let fits : round_up (end_by 0 before) s.align + s.size ≤ frame =
      le-by (round_up (end_by 0 before) s.align + s.size) (end_by 0 ((before ++ param_fields shape_of t p) ++ rest)) frame (place-within rest behind) within in
      subst (λ o. from ≤ offset_behind before o) (sym is)
      (place-above from before s fine aligned h (lt-by (round_up (end_by 0 before) s.align) s.size frame fits small))

module _ (g : Gathered) (table : List NamedShape) where
  abbrev shapes : Written → Option Shape
  shapes = shape_of g table

  module _ (foreign : ForeignTypes) (made : IsTable g foreign table) (layouts : HasLayouts g foreign) (run : AreForRun g foreign) (none : broken g true (size_of g table) ≡ []) where
    unbroken_rows : IsUnbroken g true (size_of g table)
    unbroken_rows = unbroken g true (size_of g table) none

    apart : AreNamedApart (types_of g)
    apart = names-apart g run.trees run.names unbroken_rows.types

    params-order : (t : Bool) (all ps : List Declared) (before : List (Option Shape)) (from frame : ℕ) → from ≤ end_by 0 before → AreFine before
        → All (IsCleanParam g foreign) ps → All (λ p. HasSize p.written.base) ps → All (λ p. AreClean (param_rows g true all p)) ps
        → end_by 0 (before ++ flat_map (param_fields shapes t) ps) ≤ frame → frame ≤ 1024 → AreInOrder from frame (params_from g table t all before ps)
    params-order t all [] before from frame h fine clean sizes rows within small = tt
    params-order t all (p ∷ ps) before from frame h fine clean sizes rows within small =
        let rest : List (Option Shape) = flat_map (param_fields shapes t) ps in
        let whole : end_by 0 ((before ++ param_fields shapes t p) ++ rest) ≤ frame = subst (λ os. end_by 0 os ≤ frame) (sym (append_assoc before (param_fields shapes t p) rest)) within in
        let clean_here = All-head (IsCleanParam g foreign) p ps clean in
        let clean_rest = All-tail (IsCleanParam g foreign) p ps clean in
        let size_here = All-head (λ (q : Declared). HasSize q.written.base) p ps sizes in
        let sizes_rest = All-tail (λ (q : Declared). HasSize q.written.base) p ps sizes in
        let here : IsFine (field_shape shapes p) = param-fine g foreign table made layouts.types run apart p clean_here size_here in
        let behind : AreFine rest = params-fine g foreign table made layouts.types run apart t ps clean_rest sizes_rest in
        let up_to : AreFine (before ++ param_fields shapes t p) = fine-append before (param_fields shapes t p) fine (fields-fine g foreign table made layouts.types run apart t p clean_here size_here) in
        let held = class-held g table all p (All-head (λ (q : Declared). AreClean (param_rows g true all q)) p ps rows) t here.0 here.1 in
        let place : ℕ = offset_behind before (field_shape shapes p) in
        let size : ℕ = field_size (class_of g table all p) in
        let next : place + size ≤ end_by 0 (before ++ param_fields shapes t p) =
        place-size place size here.0.size (if is_measured t p then 8 else 0) (end_by 0 (before ++ param_fields shapes t p)) held.size (end-here shapes t p before here.0 fine here.1) in
        let ends : place + size ≤ frame =
        le-by (place + size) (end_by 0 ((before ++ param_fields shapes t p) ++ rest)) frame
        (le-by (place + size) (end_by 0 (before ++ param_fields shapes t p)) (end_by 0 ((before ++ param_fields shapes t p) ++ rest)) next
        (subst (λ n. end_by 0 (before ++ param_fields shapes t p) ≤ n) (sym (end-append 0 (before ++ param_fields shapes t p) rest)) (le-end (end_by 0 (before ++ param_fields shapes t p)) rest behind))) whole in (
          begins shapes t p before here.0 fine here.1 from frame rest behind here.2 h whole small,
          ends,
          params-order t all ps (before ++ param_fields shapes t p) (place + size) frame next up_to clean_rest sizes_rest (All-tail (λ (q : Declared). AreClean (param_rows g true all q)) p ps rows) whole small,
        )

    function-order : (f : FunctionIn) → IsCleanFunction g foreign f → AreClean (function_rows g true (size_of g table) f) → HasSizes f.decl → frame_size g table f ≤ 1024 → HasFieldsInOrder (function_of g table f)
    function-order f clean rows sizes small =
        let t = f.is_trusted in
        let ps = f.decl.params in
        let w = f.decl.result in
        let params : All (λ p. AreClean (param_rows g true ps p)) ps = clean-flat (param_rows g true ps) ps rows.1.1.1.1.1.1 in
        let first : AreFine (result_fields shapes w) = result-fine g foreign table made layouts.types run apart w clean.result sizes.result in
        let behind : AreFine (flat_map (param_fields shapes t) ps) = params-fine g foreign table made layouts.types run apart t ps clean.params sizes.params in
        let within : end_by 0 (result_fields shapes w ++ flat_map (param_fields shapes t) ps) ≤ frame_size g table f = within-frame (frame_fields shapes f) (fine-append (result_fields shapes w) (flat_map (param_fields shapes t) ps) first behind) in
        params-order t ps ps (result_fields shapes w) 0 (frame_size g table f) (omega arith) first clean.params sizes.params params within small

    small-frames : (entries : ℕ) (fs : List FunctionIn) → All (IsSoundFunction entries) (map (function_of g table) fs) → All (λ f. frame_size g table f ≤ 1024) fs
    small-frames entries fs sound = λ k d lt.
        let there : k < length (map (function_of g table) fs) = subst (λ n. k < n) (sym (length-map fs (function_of g table))) lt in
        subst (λ (h : Function). h.frame_size ≤ 1024) (get_or-map (function_of g table) fs k d (function_of g table d) lt) (sound k (function_of g table d) there).frame

    side-order : (t : Bool) (fs : List FunctionIn) → All (IsOn t) fs → All (IsCleanFunction g foreign) fs → All (λ f. AreClean (function_rows g true (size_of g table) f)) fs → All (λ f. frame_size g table f ≤ 1024) fs
        → All HasFieldsInOrder (map (function_of g table) fs)
    side-order t fs side clean rows small =
        All-map HasFieldsInOrder (function_of g table) fs
        (λ k d lt. function-order (get_or fs k d) (clean k d lt) (rows k d lt) (side k d lt).1 (small k d lt))

    pub interface-order : IsSound (interface_of g table) → IsInOrder (interface_of g table)
    interface-order sound =
        let trusted = trusted_of g in
        let untrusted = untrusted_of g in
        record {
          ecalls =
              side-order true trusted (trusted-side g run.trees) (All-front (IsCleanFunction g foreign) trusted untrusted layouts.functions)
              (All-front (λ f. AreClean (function_rows g true (size_of g table) f)) trusted untrusted unbroken_rows.functions) (small-frames _ trusted sound.ecalls);
          ocalls =
              side-order false untrusted (untrusted-side g run.trees) (All-behind (IsCleanFunction g foreign) trusted untrusted layouts.functions)
              (All-behind (λ f. AreClean (function_rows g true (size_of g table) f)) trusted untrusted unbroken_rows.functions) (small-frames _ untrusted sound.ocalls);
        }
