-- A call with two arguments that fit breaks no rule.
use Rattle.std.proofs.Common.{ℕ, ◌≡◌, Bool, true, false, List, [], ◌∷◌, None, Some, codes, refl}
use Rattle.std.specs.Prelude.{not, ◌&&◌, nat_le, count_by}
use Rattle.edl_interface.specs.declared.Class.{Class}
use Rattle.edl_interface.specs.declared.Class.TheVariants.{Plain as by_value}
use Rattle.call_script.specs.Spelling.{Word}
use Rattle.call_script.specs.Line.{Call}
use Rattle.call_script.specs.Block.{PlacedLine}
use Rattle.call_script.specs.Arguments.{is_wrong_argument, is_misfit, is_bad_hex_argument, is_place_argument_out, is_frame_argument}
use Rattle.call_script.specs.Standing.{is_act, lines_of}
use Rattle.call_script.specs.Faults.{fault_by}
use Rattle.sample_laws.specs.Sampled.{word_type, buffer_class, sample_interface}

-- a word that breaks no rule as an argument of this class
pub record IsFineWord (class : Class) (w : Word) : Type 0 where
  pub place : is_place_argument_out w ≡ false
  pub form : is_wrong_argument class w ≡ false
  pub fits : is_misfit class w ≡ false
  pub hex : is_bad_hex_argument class w ≡ false
  pub frame : is_frame_argument w ≡ false

-- the same as a test
abbrev pub is_fine : Class → Word → Bool
is_fine class w =
    not (is_place_argument_out w) && not (is_wrong_argument class w) && not (is_misfit class w) && not (is_bad_hex_argument class w) && not (is_frame_argument w)

none_of_five : (a b c d e : Bool) → (not a && not b && not c && not d && not e) ≡ true → (a ≡ false) × (b ≡ false) × (c ≡ false) × (d ≡ false) × (e ≡ false)
none_of_five false false false false false h = (refl, refl, refl, refl, refl)
none_of_five true b c d e h = absurd cc
none_of_five false true c d e h = absurd cc
none_of_five false false true d e h = absurd cc
none_of_five false false false true e h = absurd cc
none_of_five false false false false true h = absurd cc

pub fine_word : (class : Class) (w : Word) → is_fine class w ≡ true → IsFineWord class w
fine_word class w h =
    let all = none_of_five (is_place_argument_out w) (is_wrong_argument class w) (is_misfit class w) (is_bad_hex_argument class w) (is_frame_argument w) h in
    record { place = all.0; form = all.1; fits = all.2; hex = all.3; frame = all.4 }

-- the line of a call
abbrev pub call_at : ℕ → Word → Word → PlacedLine
call_at k w d = record { number = k; blocks = []; line = Some (Call (codes "f") (w ∷ d ∷ [])) }

pub call_fine : (left : Bool) (before behind : List PlacedLine) (k : ℕ) (w d : Word) → IsFineWord buffer_class w → IsFineWord (by_value word_type) d
    → nat_le 8192 (count_by is_act (lines_of before)) ≡ false
    → fault_by sample_interface false left (record { before = before; here = call_at k w d; behind = behind }) ≡ None
call_fine left before behind k w d fw fd few =
    rw (fw.place, fd.place, fw.form, fd.form, fd.fits, fw.frame, fd.frame, few) refl
