-- The test of a marshalling structure's size.
use Rattle.std.proofs.Common.{ℕ, ◌≡◌, ◌<◌, ◌≤◌, List, [], Option, Some, None, option_map, sym, ◌∙◌, ap, subst, Bool, true, false, arith, lit<}
use Rattle.std.specs.Prelude.{nat_lt, fold}
use Rattle.std.proofs.lemmas.Bool.{ltb-true, ltb-false}
use Rattle.sgx_base.specs.Bytes.{round_up}
use Rattle.edl_grammar.specs.declared.Gathered.{Gathered}
use Rattle.edl_grammar.specs.Files.{FunctionIn}
use Rattle.edl_layout.specs.declared.ForeignTypes.{ForeignTypes}
use Rattle.edl_layout.specs.declared.extents.FieldEnds.{FieldEnds}
use Rattle.edl_layout.specs.Shape.{Shape, all_known, structure_shape, end_of, align_of}
use Rattle.edl_layout.specs.Ends.{kept, ends_of, ends_after}
use Rattle.edl_layout.specs.Frame.{plain_shape, frame_fields}
use Rattle.edl_layout.specs.Faults.{max_frame, HasFrame}
use Rattle.edl_layout.specs.Settled.{IsUnknownOr, IsSettled, Settles}
use Rattle.edl_layout.specs.Pushed.{Pushes, IsFrameTest}
use Rattle.std.proofs.lemmas.Option.{none-some}
use Rattle.edl_layout.proofs.Growing.{mapped}
use Rattle.edl_layout.proofs.Pushing.{unmapped}
use Rattle.edl_layout.proofs.Kept.{kept-above, kept-below, kept_round-alone}
use Rattle.edl_layout.proofs.FieldLists.{ends-append}

module _ (g : Gathered) (foreign : ForeignTypes) (f : FunctionIn) where
  abbrev fields : ℕ → Option (List Shape)
  fields n = all_known (frame_fields (plain_shape g foreign n) f)

  one_frame : (ss : List Shape) → IsSettled fields ss → (s : Shape) → HasFrame g foreign f s → s ≡ structure_shape ss
  one_frame ss known s h =
      let m = mapped structure_shape (fields h.0) s h.1 in
      let same : m.0 ≡ ss = subst (λ (o : Option (List Shape)). IsUnknownOr ss o) m.1 (known.only h.0) in
      sym m.2 ∙ ap structure_shape same

  test_by : (ss : List Shape) (size : ℕ) (test : Bool) → IsSettled fields ss → size ≡ kept (structure_shape ss).size → test ≡ nat_lt max_frame size → IsFrameTest g foreign f test
  test_by ss size true known e is =
      let large : max_frame < size = ltb-true max_frame size (sym is) in
      (structure_shape ss, (known.from, ap (option_map structure_shape) (known.deep known.from (omega arith))), kept-above max_frame (structure_shape ss).size (subst (λ n. max_frame < n) e large))
  test_by ss size false known e is = λ s h.
      let small : size ≤ max_frame = ltb-false max_frame size (sym is) in
      subst (λ (t : Shape). t.size ≤ max_frame) (sym (one_frame ss known s h)) (kept-below max_frame (structure_shape ss).size (lit< tt) (subst (λ n. n ≤ max_frame) e small))

  pub is_frame_test : (ends : FieldEnds) (size : ℕ) (test : Bool) → Pushes (λ n. frame_fields (plain_shape g foreign n) f) (ends_of []) (Some ends) → size ≡ kept (round_up ends.end ends.align) → test ≡ nat_lt max_frame size → IsFrameTest g foreign f test
  is_frame_test ends size test p e is =
      let m = mapped (fold ends_after (ends_of [])) p.shapes ends (sym p.ends) in
      let known : IsSettled fields m.0 = subst (λ (o : Option (List Shape)). Settles fields o) m.1 p.settled in
      let whole : size ≡ kept (structure_shape m.0).size =
      e ∙ ap (λ (a : FieldEnds). kept (round_up a.end a.align)) (sym m.2 ∙ ends-append [] m.0) ∙ kept_round-alone (end_of 0 m.0) (align_of m.0) in
      test_by m.0 size test known whole is

  pub no_frame : Pushes (λ n. frame_fields (plain_shape g foreign n) f) (ends_of []) None → IsFrameTest g foreign f false
  no_frame p s h =
      let never : (n : ℕ) → fields n ≡ None = subst (λ (o : Option (List Shape)). Settles fields o) (unmapped (fold ends_after (ends_of [])) p.shapes p.ends) p.settled in
      let m = mapped structure_shape (fields h.0) s h.1 in
      absurd (none-some m.0 (sym (never h.0) ∙ m.1))
