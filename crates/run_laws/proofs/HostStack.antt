-- The host stack lies in host memory, and so do the frames on it.
use Rattle.std.proofs.Common.{ℕ, suc, ◌+◌, ◌-◌, ◌*◌, ◌/◌, ◌≡◌, ◌<◌, ◌≤◌, ◌&&◌, ◌||◌, ◌==◌, not, nat_lt, Bool, true, false, if◌then◌else◌, List, [], ◌∷◌, length, zip, Option, Some, None, is_none, refl, ap, sym, ◌∙◌, arith}
use Rattle.std.specs.Prelude.{is_some, unwrap_or, sum_by}
use Rattle.std.proofs.lemmas.Bool.{eqb-true, ltb-false}
use Rattle.std.proofs.Math.Nat.{le-div_iff_mul-le}
use Rattle.sgx_base.specs.Rows.{first_row}
use Rattle.edl_interface.specs.declared.Function.{Function}
use Rattle.edl_interface.specs.declared.Param.{Param}
use Rattle.edl_interface.specs.Parameters.{has_frame}
use Rattle.edl_interface.specs.Runnable.{IsRunnableFunction}
use Rattle.enclave_memory.specs.Arguments.{Argument}
use Rattle.ocall_frames.specs.Stack.{frame_below}
use Rattle.ocall_frames.specs.Frames.{Buffer, numbers_structure, buffers_from, ocall_size}
use Rattle.call_machine.specs.Context.{Context, context_in_ocall}
use Rattle.call_machine.specs.Ocall.{ocall_rows, ocall_frame, handler_context}
use Rattle.call_laws.specs.Within.{IsWordIn}
use Rattle.run_laws.proofs.InHost.{rows_fail}

-- the context's host stack lies in a host memory of this size
abbrev pub IsOnHost : ℕ → Context → Type 0
IsOnHost host cx = (0x10000 ≤ cx.base) × (cx.top ≤ 0x10000 + host)

below : (base top size a : ℕ) (over under : Bool) → nat_lt top size ≡ over → nat_lt ((top - size) / 16 * 16) base ≡ under
    → (if over || under then None else Some ((top - size) / 16 * 16)) ≡ Some a → (base ≤ a) × (a + size ≤ top)
below base top size a true under over_is under_is e = cc
below base top size a false true over_is under_is e = cc
below base top size a false false over_is under_is e =
    let same : (top - size) / 16 * 16 ≡ a = cc in
    let fits : size ≤ top = ltb-false top size over_is in
    let above : base ≤ (top - size) / 16 * 16 = ltb-false ((top - size) / 16 * 16) base under_is in
    let cut : (top - size) / 16 * 16 ≤ top - size = (le-div_iff_mul-le {k = 16} {x = (top - size) / 16} {y = top - size} (omega arith)).0 (omega arith) in
    (omega (arith, same, above), omega (arith, same, fits, cut))

-- a frame that fits
pub frame_fits : (base top size a : ℕ) → frame_below base top size ≡ Some a → (base ≤ a) × (a + size ≤ top)
frame_fits base top size a e = below base top size a (nat_lt top size) (nat_lt ((top - size) / 16 * 16) base) refl refl e

-- the host stack with a frame on it
pub with_frame : (host : ℕ) (cx : Context) (size a : ℕ) → IsOnHost host cx → frame_below cx.base cx.top size ≡ Some a → IsOnHost host (record cx { top = a })
with_frame host cx size a on e =
    let fits : (cx.base ≤ a) × (a + size ≤ cx.top) = frame_fits cx.base cx.top size a e in
    let end : a + size ≤ cx.top = fits.1 in
    let top : cx.top ≤ 0x10000 + host = on.1 in
    (on.0, omega (arith, end, top))

some_frame : (o : Option ℕ) → is_none o ≡ false → (a : ℕ) × (o ≡ Some a)
some_frame None e = cc
some_frame (Some a) e = (a, refl)

is_zero : (b some : Bool) → (not b || some) ≡ false → b ≡ true
is_zero true some e = refl
is_zero false some e = cc

no_params : (params : List Param) (some : Bool) → (not (length params == 0) || some) ≡ false → params ≡ []
no_params [] some e = refl
no_params (p ∷ params) some e = let zero_is : suc (length params) ≡ 0 = eqb-true (suc (length params)) 0 (is_zero (suc (length params) == 0) some e) in absurd (omega (arith, zero_is))

-- the frame of an OCALL that no row refuses
module _ (host : ℕ) (cx : Context) (on : IsOnHost host cx) (f : Function) (arguments : List Argument) (runnable : IsRunnableFunction false f) (allowed : first_row (ocall_rows cx f arguments) ≡ None) where
  fits_row : (has_frame f && is_none (frame_below cx.base cx.top (ocall_size f arguments))) ≡ false
  fits_row = (rows_fail (ocall_rows cx f arguments) allowed).1.1.0

  frame_found : has_frame f ≡ true → (a : ℕ) × (frame_below cx.base cx.top (ocall_size f arguments) ≡ Some a)
  frame_found is = some_frame (frame_below cx.base cx.top (ocall_size f arguments)) (ap (λ b. b && is_none (frame_below cx.base cx.top (ocall_size f arguments))) (sym is) ∙ fits_row)

  frame_is : (b : Bool) → has_frame f ≡ b → (a : ℕ) → frame_below cx.base cx.top (ocall_size f arguments) ≡ Some a → b ≡ true → ocall_frame cx f arguments ≡ a
  frame_is b is a e sure = ap (λ c. if c then unwrap_or (frame_below cx.base cx.top (ocall_size f arguments)) 0 else 0) (is ∙ sure) ∙ ap (λ o. unwrap_or o 0) e

  empty_size : f.params ≡ [] → f.frame_size ≡ 0 → ocall_size f arguments ≡ 0
  empty_size none size =
      let all : ocall_size f arguments ≡ f.frame_size + 0 =
      ap (λ (params : List Param). f.frame_size + sum_by (λ (b : Buffer). length b.content) (buffers_from f (numbers_structure f arguments) (0 + f.frame_size) (zip params arguments))) none in
      omega (arith, all, size)

  by_frame : (b : Bool) → has_frame f ≡ b → (index : ℕ) → IsWordIn (ocall_frame cx f arguments) (ocall_size f arguments) index → index < host
  by_frame true is index (x, inside, e) =
      let found : (a : ℕ) × (frame_below cx.base cx.top (ocall_size f arguments) ≡ Some a) = frame_found is in
      let a : ℕ = found.0 in
      let fits : (cx.base ≤ a) × (a + ocall_size f arguments ≤ cx.top) = frame_fits cx.base cx.top (ocall_size f arguments) a found.1 in
      let at : ocall_frame cx f arguments ≡ a = frame_is true is a found.1 refl in
      let from : 0x10000 ≤ cx.base = on.0 in
      let upto : cx.top ≤ 0x10000 + host = on.1 in
      let low : ocall_frame cx f arguments ≤ x = inside.0 in
      let high : x < ocall_frame cx f arguments + ocall_size f arguments = inside.1 in
      let same : index ≡ x - 0x10000 = e in
      let begin : cx.base ≤ a = fits.0 in
      let end : a + ocall_size f arguments ≤ cx.top = fits.1 in
      omega (arith, at, from, upto, low, high, same, begin, end)
  by_frame false is index (x, inside, e) =
      let none : ocall_size f arguments ≡ 0 = empty_size (no_params f.params (is_some f.ret) is) (runnable.no_frame is) in
      let low : ocall_frame cx f arguments ≤ x = inside.0 in
      let high : x < ocall_frame cx f arguments + ocall_size f arguments = inside.1 in
      absurd (omega (arith, none, low, high))

  -- a word of the frame
  pub frame_word : (index : ℕ) → IsWordIn (ocall_frame cx f arguments) (ocall_size f arguments) index → index < host
  frame_word index w = by_frame (has_frame f) refl index w

  on_by : (ordinal : ℕ) (b : Bool) → has_frame f ≡ b → IsOnHost host (if b then record (context_in_ocall cx ordinal) { top = ocall_frame cx f arguments } else context_in_ocall cx ordinal)
  on_by ordinal true is =
      let found : (a : ℕ) × (frame_below cx.base cx.top (ocall_size f arguments) ≡ Some a) = frame_found is in
      let a : ℕ = found.0 in
      let fits : (cx.base ≤ a) × (a + ocall_size f arguments ≤ cx.top) = frame_fits cx.base cx.top (ocall_size f arguments) a found.1 in
      let at : ocall_frame cx f arguments ≡ a = frame_is true is a found.1 refl in
      let upto : cx.top ≤ 0x10000 + host = on.1 in
      let end : a + ocall_size f arguments ≤ cx.top = fits.1 in
      (on.0, omega (arith, at, upto, end))
  on_by ordinal false is = on

  -- the context of its handler
  pub handler_on : (ordinal : ℕ) → IsOnHost host (handler_context cx ordinal f (ocall_frame cx f arguments))
  handler_on ordinal = on_by ordinal (has_frame f) refl
