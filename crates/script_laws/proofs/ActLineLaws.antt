-- An act without fault is sound.
use Rattle.std.proofs.Common.{arith, ℕ, ◌≡◌, ◌+◌, ◌≤◌, Bool, true, false, List, [], ◌∷◌, length, Option, Some, None, refl, sym, subst, leb-true, ne_eqb}
use Rattle.std.specs.Prelude.{◌==◌, ◌&&◌, ◌||◌, not, unwrap_or, if◌then◌else◌, is_none, is_some, nat_le, map, zip, Result, Ok, Err}
use Rattle.std.specs.List.{AllZip, list_any}
use Rattle.std.proofs.lemmas.Bool.{and_parts, not-false}
use Rattle.hex.specs.Hex.{decode_of}
use Rattle.hex.specs.declared.error.FromHexError.{FromHexError}
use Rattle.sgx_base.specs.Ranges.{is_mapped, host_start}
use Rattle.sgx_base.specs.Numbers.{spelled_number}
use Rattle.edl_interface.specs.declared.Param.{Param}
use Rattle.edl_interface.specs.declared.Function.{Function}
use Rattle.edl_interface.specs.declared.Interface.{Interface}
use Rattle.edl_interface.specs.Parameters.{has_frame}
use Rattle.call_script.specs.Spelling.{Word, some_bytes, is_bad_hex, is_in_frame, is_place, is_place_by, is_place_out, is_place_out_by, is_number, is_wide, is_out_of, frame_offset}
use Rattle.call_script.specs.Block.{Scope, Outside, InBody, InHandler, InThread, InRacer}
use Rattle.call_script.specs.Arguments.{number_of, bytes_of, place_by, place_named, argument_of, is_wrong_argument, is_misfit, is_bad_hex_argument, is_place_argument_out, is_frame_argument}
use Rattle.call_script.specs.Standing.{named, is_function, handled_function}
use Rattle.call_script.specs.Faults.{is_outside_host_by, hex_count, peek_count}
use Rattle.call_script.specs.Sound.{Actor, OfThread, OfHandler, OfRacer, HasFrame, MayPeek, IsReached, IsSoundPoke, IsSoundPeek, IsSoundArgument}
use Rattle.script_laws.proofs.FirstFault.{or-true}
use Rattle.script_laws.proofs.ActionLaws.{there, or-false}
use Rattle.script_laws.proofs.ArgumentLaws.{in-range, hex-are, sound_argument}

-- who acts in a scope
abbrev pub handler_actor : Option Function → Actor
handler_actor None = OfThread
handler_actor (Some f) = OfHandler f

abbrev pub actor_in : Interface → Scope → Actor
actor_in i (InHandler name) = handler_actor (named i.ocalls name)
actor_in i InRacer = OfRacer
actor_in i scope = OfThread

frame-of : (o : Option Function) → is_function has_frame o ≡ true → HasFrame (handler_actor o)
frame-of None e = absurd cc
frame-of (Some f) e = e

-- where the rule on frames finds no fault, there is one
pub has-frame : (i : Interface) (scope : Scope) → is_function has_frame (handled_function i scope) ≡ true
    → HasFrame (actor_in i scope)
has-frame i Outside e = absurd cc
has-frame i (InBody name) e = absurd cc
has-frame i (InHandler name) e = frame-of (named i.ocalls name) e
has-frame i InThread e = absurd cc
has-frame i InRacer e = absurd cc

-- bytes that are spelled are some
pub hex-some : (hex : Word) → is_bad_hex hex ≡ false → 1 ≤ length (bytes_of hex)
hex-some hex e = go (decode_of hex) refl e
  where
    go : (r : Result (List ℕ) FromHexError) → decode_of hex ≡ r → is_none (some_bytes r) ≡ false
        → 1 ≤ length (unwrap_or (some_bytes r) [])
    go (Err x) f e = absurd cc
    go (Ok []) f e = absurd cc
    go (Ok (b ∷ bytes)) f e = omega arith

pub mapped-is : (size a count : ℕ) → 1 ≤ count → is_mapped size a count ≡ true → (host_start ≤ a)
    × (a + count ≤ host_start + size)
mapped-is size a count l e =
    let some : (count == 0) ≡ false = ne_eqb count 0 (λ k. absurd (omega arith)) in
    let both = and_parts (nat_le host_start a) (nat_le (a + count) (host_start + size))
    (subst (λ t. (t || (nat_le host_start a && nat_le (a + count) (host_start + size))) ≡ true) some e) in
    (leb-true host_start a both.0, leb-true (a + count) (host_start + size) both.1)

reached-is : (who : Actor) (size : ℕ) (w : Word) (count : ℕ) → is_place w ≡ true → is_place_out w ≡ false → 1 ≤ count
    → (not (is_in_frame w) && is_outside_host_by size (spelled_number w) count) ≡ false
    → (is_in_frame w ≡ true → HasFrame who) → IsReached who size (place_named w) count
reached-is who size w count p o l h f = go (frame_offset w) p o h f
  where
    address : is_number w ≡ true → is_wide w ≡ false → is_outside_host_by size (spelled_number w) count ≡ false
        → (host_start ≤ number_of w) × (number_of w + count ≤ host_start + size)
    address n o h =
        let a = there (spelled_number w) (subst (λ t. (t && is_none (spelled_number w)) ≡ false) n o) in
        let outside : not (is_mapped size a.0 count) ≡ false = subst (λ x. is_outside_host_by size x count ≡ false) a.1
        h in
        subst (λ x. (host_start ≤ unwrap_or x 0) × (unwrap_or x 0 + count ≤ host_start + size)) (sym a.1)
        (mapped-is size a.0 count l (not-false _ outside))

    go : (x : Option Word) → is_place_by w x ≡ true → is_place_out_by w x ≡ false
        → (not (is_some x && is_place_by w x) && is_outside_host_by size (spelled_number w) count) ≡ false
        → ((is_some x && is_place_by w x) ≡ true → HasFrame who) → IsReached who size (place_by w x) count
    go None p o h f = address p o h
    go (Some offset) p o h f = (f p, let r = in-range 0 65535 offset p o in omega arith)

module _ (i : Interface) (size : ℕ) (scope : Scope) where
  -- a place in a frame is in a handler that has one
  pub frame-here : (framed : Bool) → (framed && not (is_function has_frame (handled_function i scope))) ≡ false
      → framed ≡ true → HasFrame (actor_in i scope)
  frame-here framed e h =
      has-frame i scope
      (not-false _ (subst (λ t. (t && not (is_function has_frame (handled_function i scope))) ≡ false) h e))

  -- by the rules on numbers, addresses, hexadecimal digits and frames
  pub sound_poke : (place hex : Word) → is_place place ≡ true → is_place_out place ≡ false
      → (not (is_in_frame place) && is_outside_host_by size (spelled_number place) (hex_count hex)) ≡ false
      → is_bad_hex hex ≡ false → (is_in_frame place && not (is_function has_frame (handled_function i scope))) ≡ false
      → IsSoundPoke i size (actor_in i scope) (place_named place) (bytes_of hex)
  sound_poke place hex form two four eighteen nineteen = record {
    some = hex-some hex eighteen;
    each = hex-are hex eighteen;
    reached =
        reached-is (actor_in i scope) size place (length (bytes_of hex)) form two (hex-some hex eighteen)
        (subst (λ t. (not (is_in_frame place) && is_outside_host_by size (spelled_number place) (if t then 1
        else length (bytes_of hex))) ≡ false) eighteen four)
        (frame-here (is_in_frame place) nineteen);
  }

  pub sound_peek : MayPeek (actor_in i scope) → (place count : Word) → is_place place ≡ true → is_number count ≡ true
      → is_place_out place ≡ false → is_out_of 1 4096 count ≡ false
      → (not (is_in_frame place) && is_outside_host_by size (spelled_number place) (peek_count count)) ≡ false
      → (is_in_frame place && not (is_function has_frame (handled_function i scope))) ≡ false
      → IsSoundPeek i size (actor_in i scope) (place_named place) (number_of count)
  sound_peek may place count form number two range four nineteen =
      let r = in-range 1 4096 count number range in record {
        from = r.0;
        upto = r.1;
        reached =
            reached-is (actor_in i scope) size place (number_of count) form two r.0
            (subst (λ t. (not (is_in_frame place) && is_outside_host_by size (spelled_number place) (if t then 1
            else number_of count)) ≡ false) range four)
            (frame-here (is_in_frame place) nineteen);
        allowed = may;
      }

  -- ---- the arguments of a call

  pub sound_arguments : (who : Actor) (params : List Param) (args : List Word) → length args ≡ length params
      → list_any (λ p. is_wrong_argument p.0.class p.1) (zip params args) ≡ false
      → list_any (λ p. is_misfit p.0.class p.1) (zip params args) ≡ false
      → list_any (λ p. is_bad_hex_argument p.0.class p.1) (zip params args) ≡ false
      → list_any is_place_argument_out args ≡ false → (list_any is_frame_argument args ≡ true → HasFrame who)
      → AllZip (λ p arg. IsSoundArgument who p.class arg) params
      (map (λ p. argument_of p.0.class p.1) (zip params args))
  sound_arguments who [] args n a b c d e = tt
  sound_arguments who (p ∷ params) [] n a b c d e = absurd (omega arith)
  sound_arguments who (p ∷ params) (w ∷ args) n a b c d e =
      let wrong =
      or-false (is_wrong_argument p.class w) (list_any (λ q. is_wrong_argument q.0.class q.1) (zip params args))
      a in
      let misfit = or-false (is_misfit p.class w) (list_any (λ q. is_misfit q.0.class q.1) (zip params args)) b in
      let hex =
      or-false (is_bad_hex_argument p.class w)
      (list_any (λ q. is_bad_hex_argument q.0.class q.1) (zip params args)) c in
      let out = or-false (is_place_argument_out w) (list_any is_place_argument_out args) d in (
        sound_argument who p.class w wrong.0 misfit.0 hex.0 out.0
            (λ h. e (subst (λ t. (t || list_any is_frame_argument args) ≡ true) (sym h) refl)),
        sound_arguments who params args (omega arith) wrong.1 misfit.1 hex.1 out.1
            (λ h. e (or-true (is_frame_argument w) (list_any is_frame_argument args) h)),
      )
