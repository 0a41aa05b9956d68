-- The interface of files in which no rule is broken is one that a run takes.
use Rattle.std.proofs.Common.{◌≡◌, ℕ, suc, ◌+◌, ◌≤◌, Bool, true, false, true≢false, not, ◌&&◌, ◌||◌, ◌==◌, if◌then◌else◌, List, [], ◌∷◌, ◌++◌, map, flat_map, filter_map, length, get_or, Option, Some, None, is_some, option_map, unwrap_or, refl, sym, ap, ◌∙◌, subst, append_assoc, arith}
use Rattle.std.specs.Prelude.{All, option_and_then, slice_get}
use Rattle.std.specs.List.{cons_option}
use Rattle.std.proofs.lemmas.Option.{none-some, same_Some}
use Rattle.std.proofs.lemmas.Bool.Decides.{nat_tests}
use Rattle.std.proofs.lemmas.List.Elements.{All-nil, All-cons, All-head, All-tail, All-map, All-weaker}
use Rattle.edl_grammar.specs.declared.Gathered.{Gathered}
use Rattle.edl_grammar.specs.declared.SourceFile.{SourceFile}
use Rattle.edl_grammar.specs.declared.FuncDecl.{FuncDecl}
use Rattle.edl_grammar.specs.declared.Pick.{Pick}
use Rattle.edl_grammar.specs.declared.Declared.{Declared}
use Rattle.edl_grammar.specs.declared.Written.{Written}
use Rattle.edl_grammar.specs.Files.{types_of, FunctionIn, trusted_pick, untrusted_pick, trusted_of, untrusted_of}
use Rattle.edl_layout.specs.declared.ForeignTypes.{ForeignTypes}
use Rattle.edl_layout.specs.declared.NamedShape.{NamedShape}
use Rattle.edl_layout.specs.Shape.{Shape, all_known, structure_shape}
use Rattle.edl_layout.specs.Frame.{is_returning, is_measured, field_shape, param_fields, result_fields, frame_fields}
use Rattle.edl_layout.specs.Table.{IsTable}
use Rattle.edl_layout.specs.Faults.{HasLayouts, IsCleanParam, IsCleanFunction}
use Rattle.edl_interface.specs.declared.Param.{Param}
use Rattle.edl_interface.specs.Parameters.{field_size, is_text}
use Rattle.edl_interface.specs.Runnable.{IsPassed, IsRunnableFunction, IsRunnable, field_end}
use Rattle.attr_terms.specs.Rules.{broken, function_rows, param_rows}
use Rattle.attr_terms.specs.Accepted.{plain_of, size_of, shape_of, offset_behind, class_of, param_behind, params_from, frame_size, function_of, interface_of}
use Rattle.attr_rules.specs.ForRun.{HasSize, HasSizes, IsRead, AreForRun}
use Rattle.accepted_interface.proofs.Unbroken.{AreClean, IsUnbroken, unbroken, row-clean, clean-flat}
use Rattle.accepted_interface.proofs.Bounds.{All-front, All-behind}
use Rattle.accepted_interface.proofs.SoundLaws.{params-all, get-All}
use Rattle.attr_rules.proofs.NamesApart.{AreNamedApart, names-apart}
use Rattle.attr_rules.proofs.FieldEnds.{IsFine, AreFine, fine-append, end_by, end-append, le-end, within-frame, field-within}
use Rattle.attr_rules.proofs.KnownFields.{param-fine, fields-fine, params-fine, result-fine}
use Rattle.attr_rules.proofs.PassedClasses.{class-passed, class-held, plain-size, small-result}

-- ---- the sides of functions

All-found : {X Y : Type 0} (P : Y → Type 0) (h : X → Option Y) → ((x : X) (y : Y) → h x ≡ Some y → P y) → (xs : List X) → All P (filter_map h xs)
All-found P h each [] = All-nil P
All-found {X} {Y} P h each (x ∷ xs) = by (h x) refl (All-found P h each xs)
  where
    by : (o : Option Y) → h x ≡ o → All P (filter_map h xs) → All P (cons_option o (filter_map h xs))
    by None is rest = rest
    by (Some y) is rest = All-cons P y (filter_map h xs) (each x y is) rest

abbrev picked : Bool → Pick → (SourceFile → List FuncDecl) → Option SourceFile → Option FunctionIn
picked t p side file = option_and_then (λ s. option_map (λ d. record { file = p.file; is_trusted = t; decl = d }) (slice_get (side s) p.index)) file

-- what the files' functions have, those of a side have
picked-has : (P : FuncDecl → Type 0) (t : Bool) (p : Pick) (side : SourceFile → List FuncDecl) (files : List SourceFile) → All (λ s. All P (side s)) files
    → (f : FunctionIn) → picked t p side (slice_get files p.file) ≡ Some f → (f.is_trusted ≡ t) × P f.decl
picked-has P t p side files all f e = by (slice_get files p.file) refl e
  where
    at-place : (s : SourceFile) → All P (side s) → (o : Option FuncDecl) → slice_get (side s) p.index ≡ o → option_map (λ d. record { file = p.file; is_trusted = t; decl = d }) o ≡ Some f → (f.is_trusted ≡ t) × P f.decl
    at-place s here None is e = absurd (none-some f e)
    at-place s here (Some d) is e =
        let same : record { file = p.file; is_trusted = t; decl = d } ≡ f = same_Some (record { file = p.file; is_trusted = t; decl = d }) f e in
        (sym (ap (λ (h : FunctionIn). h.is_trusted) same), subst (λ (h : FunctionIn). P h.decl) same (get-All P (side s) p.index d here is))

    by : (o : Option SourceFile) → slice_get files p.file ≡ o → picked t p side o ≡ Some f → (f.is_trusted ≡ t) × P f.decl
    by None is e = absurd (none-some f e)
    by (Some s) is e = at-place s (get-All (λ (s : SourceFile). All P (side s)) files p.file s all is) (slice_get (side s) p.index) refl e

-- on one side, with sizes
abbrev pub IsOn : Bool → FunctionIn → Type 0
IsOn t f = (f.is_trusted ≡ t) × HasSizes f.decl

pub trusted-side : (g : Gathered) → All (λ f. IsRead f.tree) g.files → All (IsOn true) (trusted_of g)
trusted-side g trees =
    All-found (IsOn true) (trusted_pick g) (λ p f e. picked-has HasSizes true p (λ s. s.tree.trusted) g.files (All-weaker (λ (s : SourceFile). IsRead s.tree) (λ s. All HasSizes s.tree.trusted) (λ s r. r.trusted) g.files trees) f e) g.trusted

pub untrusted-side : (g : Gathered) → All (λ f. IsRead f.tree) g.files → All (IsOn false) (untrusted_of g)
untrusted-side g trees =
    All-found (IsOn false) (untrusted_pick g) (λ p f e. picked-has HasSizes false p (λ s. s.tree.untrusted) g.files (All-weaker (λ (s : SourceFile). IsRead s.tree) (λ s. All HasSizes s.tree.untrusted) (λ s r. r.untrusted) g.files trees) f e) g.untrusted

-- ---- numbers

extra : (t text measured : Bool) → (t ≡ true → text ≡ true → measured ≡ true) → (if t && text then 8 else 0) ≤ (if measured then 8 else 0)
extra true true measured h = subst (λ b. 8 ≤ (if b then 8 else 0)) (sym (h refl refl)) (omega arith)
extra true false measured h = omega arith
extra false text measured h = omega arith

ends : (place size field a b frame : ℕ) → size ≤ field → a ≤ b → place + field + b ≤ frame → place + size + a ≤ frame
ends place size field a b frame h k e = omega arith

le-trans : (a b c : ℕ) → a ≤ b → b ≤ c → a ≤ c
le-trans a b c h k = omega arith

no-param : (n : ℕ) → not (suc n == 0) ≡ true
no-param n = grind (arith, nat_tests)

module _ (g : Gathered) (table : List NamedShape) where
  abbrev shapes : Written → Option Shape
  shapes = shape_of g table

  -- ---- results

  returned-small : (w : Written) → size_of g table w ≤ 8 → unwrap_or (option_map (λ r. r.size) (if is_returning w then Some (plain_of g table w) else None)) 0 ≤ 8
  returned-small w small = by (is_returning w)
    where
      by : (b : Bool) → unwrap_or (option_map (λ r. r.size) (if b then Some (plain_of g table w) else None)) 0 ≤ 8
      by true = subst (λ n. n ≤ 8) (sym (plain-size g table w)) small
      by false = omega arith

  returned-end : (w : Written) → AreFine (result_fields shapes w) → unwrap_or (option_map (λ r. r.size) (if is_returning w then Some (plain_of g table w) else None)) 0 ≤ end_by 0 (result_fields shapes w)
  returned-end w fine = by (is_returning w) fine
    where
      sized : (o : Option Shape) → IsFine o → unwrap_or (option_map (λ s. s.size) o) 0 ≤ end_by 0 (o ∷ [])
      sized None h = omega arith
      sized (Some s) h = omega arith

      by : (b : Bool) → AreFine (if b then shapes w ∷ [] else []) → unwrap_or (option_map (λ r. r.size) (if b then Some (plain_of g table w) else None)) 0 ≤ end_by 0 (if b then shapes w ∷ [] else [])
      by true h = subst (λ n. n ≤ end_by 0 (shapes w ∷ [])) (sym (plain-size g table w)) (sized (shapes w) h.0)
      by false h = omega arith

  -- what has neither parameter nor result has no bytes of a frame
  frameless : (w : Written) (t returns : Bool) (all ps : List Declared) (fields : List (Option Shape))
      → (not (length (params_from g table t all fields ps) == 0) || is_some (if returns then Some (plain_of g table w) else None)) ≡ false
      → unwrap_or (option_map (λ s. s.size) (option_map structure_shape (all_known ((if returns then shapes w ∷ [] else []) ++ flat_map (param_fields shapes t) ps)))) 0 ≡ 0
  frameless w t returns all (p ∷ ps) fields e =
      let rest : List Param = params_from g table t all (fields ++ param_fields shapes t p) ps in
      absurd (true≢false (sym (ap (λ b. b || is_some (if returns then Some (plain_of g table w) else None)) (no-param (length rest))) ∙ e))
  frameless w t true all [] fields e = absurd (true≢false e)
  frameless w t false all [] fields e = refl

  module _ (foreign : ForeignTypes) (made : IsTable g foreign table) (layouts : HasLayouts g foreign) (run : AreForRun g foreign) (none : broken g true (size_of g table) ≡ []) where
    unbroken_rows : IsUnbroken g true (size_of g table)
    unbroken_rows = unbroken g true (size_of g table) none

    apart : AreNamedApart (types_of g)
    apart = names-apart g run.trees run.names unbroken_rows.types

    -- ---- fields

    param-ends : (t : Bool) (all : List Declared) (before rest : List (Option Shape)) (p : Declared) (frame : ℕ) → AreFine before → AreFine rest → IsFine (field_shape shapes p) → AreClean (param_rows g true all p)
        → end_by 0 ((before ++ param_fields shapes t p) ++ rest) ≤ frame → field_end t (param_behind g table all before p) ≤ frame
    param-ends t all before rest p frame h k fine clean within =
        let held = class-held g table all p clean t fine.0 fine.1 in
        ends (offset_behind before (field_shape shapes p)) (field_size (class_of g table all p)) fine.0.size (if t && is_text (class_of g table all p) then 8 else 0) (if is_measured t p then 8 else 0) frame
        held.size (extra t (is_text (class_of g table all p)) (is_measured t p) held.length)
        (le-trans _ (end_by 0 ((before ++ param_fields shapes t p) ++ rest)) frame (field-within shapes t p before rest fine.0 h k fine.1) within)

    params-end : (t : Bool) (all ps : List Declared) (before : List (Option Shape)) (frame : ℕ) → AreFine before → All (IsCleanParam g foreign) ps → All (λ p. HasSize p.written.base) ps → All (λ p. AreClean (param_rows g true all p)) ps
        → end_by 0 (before ++ flat_map (param_fields shapes t) ps) ≤ frame → All (λ q. field_end t q ≤ frame) (params_from g table t all before ps)
    params-end t all [] before frame h clean sizes rows within = All-nil (λ (q : Param). field_end t q ≤ frame)
    params-end t all (p ∷ ps) before frame h clean sizes rows within =
        let rest : List (Option Shape) = flat_map (param_fields shapes t) ps in
        let whole : end_by 0 ((before ++ param_fields shapes t p) ++ rest) ≤ frame = subst (λ os. end_by 0 os ≤ frame) (sym (append_assoc before (param_fields shapes t p) rest)) within in
        let clean_here = All-head (IsCleanParam g foreign) p ps clean in
        let clean_rest = All-tail (IsCleanParam g foreign) p ps clean in
        let size_here = All-head (λ (q : Declared). HasSize q.written.base) p ps sizes in
        let sizes_rest = All-tail (λ (q : Declared). HasSize q.written.base) p ps sizes in
        All-cons (λ (q : Param). field_end t q ≤ frame) (param_behind g table all before p) (params_from g table t all (before ++ param_fields shapes t p) ps)
        (param-ends t all before rest p frame h (params-fine g foreign table made layouts.types run apart t ps clean_rest sizes_rest) (param-fine g foreign table made layouts.types run apart p clean_here size_here)
        (All-head (λ (q : Declared). AreClean (param_rows g true all q)) p ps rows) whole)
        (params-end t all ps (before ++ param_fields shapes t p) frame (fine-append before (param_fields shapes t p) h (fields-fine g foreign table made layouts.types run apart t p clean_here size_here))
        clean_rest sizes_rest (All-tail (λ (q : Declared). AreClean (param_rows g true all q)) p ps rows) whole)

    -- ---- functions

    function-runnable : (f : FunctionIn) → IsCleanFunction g foreign f → AreClean (function_rows g true (size_of g table) f) → HasSizes f.decl → IsRunnableFunction f.is_trusted (function_of g table f)
    function-runnable f clean rows sizes =
        let t = f.is_trusted in
        let ps = f.decl.params in
        let w = f.decl.result in
        let params : All (λ p. AreClean (param_rows g true ps p)) ps = clean-flat (param_rows g true ps) ps rows.1.1.1.1.1.1 in
        let first : AreFine (result_fields shapes w) = result-fine g foreign table made layouts.types run apart w clean.result sizes.result in
        let behind : AreFine (flat_map (param_fields shapes t) ps) = params-fine g foreign table made layouts.types run apart t ps clean.params sizes.params in
        let within : end_by 0 (result_fields shapes w ++ flat_map (param_fields shapes t) ps) ≤ frame_size g table f = within-frame (frame_fields shapes f) (fine-append (result_fields shapes w) (flat_map (param_fields shapes t) ps) first behind) in
        record {
          classes = params-all g table true (λ q. IsPassed q.class) (λ p. AreClean (param_rows g true ps p)) t ps ps (result_fields shapes w) (λ q before rows. class-passed g table ps q rows) params;
          fields = params-end t ps ps (result_fields shapes w) (frame_size g table f) first clean.params sizes.params params within;
          returns = returned-small w (small-result g table w (row-clean 38 f.decl.token _ rows.1.1.1.1.0));
          return_fits =
              le-trans _ (end_by 0 (result_fields shapes w)) (frame_size g table f) (returned-end w first)
              (le-trans (end_by 0 (result_fields shapes w)) (end_by (end_by 0 (result_fields shapes w)) (flat_map (param_fields shapes t) ps)) (frame_size g table f)
              (le-end (end_by 0 (result_fields shapes w)) (flat_map (param_fields shapes t) ps) behind)
              (subst (λ n. n ≤ frame_size g table f) (end-append 0 (result_fields shapes w) (flat_map (param_fields shapes t) ps)) within));
          no_frame = frameless w t (is_returning w) ps ps (result_fields shapes w);
        }

    side-runnable : (t : Bool) (fs : List FunctionIn) → All (IsOn t) fs → All (IsCleanFunction g foreign) fs → All (λ f. AreClean (function_rows g true (size_of g table) f)) fs → All (IsRunnableFunction t) (map (function_of g table) fs)
    side-runnable t fs side clean rows =
        All-map (IsRunnableFunction t) (function_of g table) fs
        (λ k d lt. subst (λ b. IsRunnableFunction b (function_of g table (get_or fs k d))) (side k d lt).0 (function-runnable (get_or fs k d) (clean k d lt) (rows k d lt) (side k d lt).1))

    pub interface-runnable : IsRunnable (interface_of g table)
    interface-runnable =
        let trusted = trusted_of g in
        let untrusted = untrusted_of g in
        record {
          ecalls = side-runnable true trusted (trusted-side g run.trees) (All-front (IsCleanFunction g foreign) trusted untrusted layouts.functions) (All-front (λ f. AreClean (function_rows g true (size_of g table) f)) trusted untrusted unbroken_rows.functions);
          ocalls = side-runnable false untrusted (untrusted-side g run.trees) (All-behind (IsCleanFunction g foreign) trusted untrusted layouts.functions) (All-behind (λ f. AreClean (function_rows g true (size_of g table) f)) trusted untrusted unbroken_rows.functions);
        }
