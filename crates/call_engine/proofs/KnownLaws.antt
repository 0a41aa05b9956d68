-- The foreign types that a script declares are of known size, each with an alignment.
use Rattle.std.proofs.Common.{arith, ℕ, zero, suc, ◌≡◌, ◌<◌, Bool, true, false, List, [], ◌∷◌, ◌++◌, All, Result, Ok, Err, Option, Some, refl, sym, ◌∙◌, subst}
use Rattle.std.specs.Prelude.{not, nat_eq, if◌then◌else◌, codes}
use Rattle.std.specs.List.{list_any}
use Rattle.std.specs.Str.{bytes_eq}
use Rattle.std.proofs.lemmas.Bool.{or_parts}
use Rattle.std.proofs.lemmas.List.Elements.{All-append, All-cons, All-nil}
use Rattle.edl_layout.specs.declared.ForeignType.{ForeignType}
use Rattle.edl_layout.specs.declared.ForeignTypes.{ForeignTypes}
use Rattle.call_script.specs.declared.ScriptFault.TheVariants.{Rule}
use Rattle.call_script.specs.Spelling.{Word, NumberedLine, numbered_lines, is_out_of}
use Rattle.call_script.specs.Line.{Line, Foreign}
use Rattle.call_script.specs.Arguments.{number_of}
use Rattle.call_script.specs.Faults.{Fault, has_number_out_of_range}
use Rattle.script_reader.specs.Foreign.{foreign_types, line_outside, is_declared, declared, types_after, types_behind, only, type_named}
use Rattle.script_reader.proofs.ForeignLaws.{end, turn, stop}
use Rattle.call_engine.specs.Interfaces.{AreKnown}

abbrev AreAligned : List ForeignType → Type 0
AreAligned types = All (λ t. 0 < t.align) types

positive : (n : ℕ) → list_any (nat_eq n) (1 ∷ 2 ∷ 4 ∷ 8 ∷ 16 ∷ []) ≡ true → 0 < n
positive zero e = absurd cc
positive (suc n) e = omega arith

not_not : (b : Bool) → not b ≡ false → b ≡ true
not_not true e = refl
not_not false e = absurd cc

in_range : (name size alignment : Word) → has_number_out_of_range (Foreign name size alignment) ≡ false
    → 0 < number_of alignment
in_range name size alignment e =
    let parts = or_parts (is_out_of 1 65536 size) (not (list_any (nat_eq (number_of alignment)) (1 ∷ 2 ∷ 4 ∷ 8 ∷ 16 ∷ []))) e in
    positive (number_of alignment) (not_not _ parts.1)

module _ (types : List ForeignType) (h : AreAligned types) where
  one_more : (name size alignment : Word) (ts : List ForeignType) → 0 < number_of alignment
      → ◌≡◌ {A = Result (List ForeignType) Fault} (Ok (types ++ type_named name size alignment ∷ [])) (Ok ts) → AreAligned ts
  one_more name size alignment ts positive e =
      let same : types ++ type_named name size alignment ∷ [] ≡ ts = cc in
      subst AreAligned same
      (All-append (λ t. 0 < t.align) types (type_named name size alignment ∷ []) h
      (All-cons (λ t. 0 < t.align) (type_named name size alignment) [] positive (All-nil (λ t. 0 < t.align))))

  line_declared : (n : ℕ) (o : Option Line) (ts : List ForeignType) → declared types n o ≡ Ok ts → AreAligned ts
  line_declared n (Some (Foreign name size alignment)) ts e =
      go (has_number_out_of_range (Foreign name size alignment)) (is_declared types name)
      (in_range name size alignment) e
    where
      go : (out twice : Bool) → (out ≡ false → 0 < number_of alignment)
          → ◌≡◌ {A = Result (List ForeignType) Fault} (
          if out then Err (record { line = n; code = 2 })
          else (if twice then Err (record { line = n; code = 11 }) else Ok (types ++ type_named name size alignment ∷ []))
          ) (Ok ts)
          → AreAligned ts
      go true twice positive e = absurd cc
      go false true positive e = absurd cc
      go false false positive e = one_more name size alignment ts (positive refl) e
  line_declared n _ ts e = absurd cc

  line_behind : (n : ℕ) (ws : List Word) (ts : List ForeignType) → types_after types n ws ≡ Ok ts → AreAligned ts
  line_behind n [] ts e = let same : types ≡ ts = cc in subst AreAligned same h
  line_behind n (w ∷ ws) ts e = go (bytes_eq w (codes "foreign")) e
    where
      go : (t : Bool) → (if t then declared types n (line_outside (w ∷ ws)) else Ok types) ≡ Ok ts → AreAligned ts
      go true e = line_declared n (line_outside (w ∷ ws)) ts e
      go false e = let same : types ≡ ts = cc in subst AreAligned same h

-- the lines that are left
module _ (bytes : List ℕ) (foreign : ForeignTypes) (is : foreign_types bytes ≡ Ok foreign) where
  at_end : (types : List ForeignType) → AreAligned types → types_behind types [] ≡ types_behind [] (numbered_lines bytes)
      → AreKnown foreign
  at_end types h same =
      let ends : foreign_types bytes ≡ Ok (only types) = end bytes types [] same refl in
      let both : ◌≡◌ {A = Result ForeignTypes Fault} (Ok (only types)) (Ok foreign) = sym ends ∙ is in
      let foreign_is : only types ≡ foreign = cc in
      subst AreKnown foreign_is (record { strict = refl; aligned = h })

  not_stopped : (types : List ForeignType) (l : NumberedLine) (lines : List NumberedLine) (fault : Fault)
      → types_behind types (l ∷ lines) ≡ types_behind [] (numbered_lines bytes)
      → types_after types l.number l.words ≡ Err fault → ⊥
  not_stopped types l lines fault same e =
      let stops : foreign_types bytes ≡ Err (record { line = fault.line; code = fault.code }) =
      stop bytes types (l ∷ lines) same l.number l.words lines refl (Rule fault.line fault.code) e in
      let clash : ◌≡◌ {A = Result ForeignTypes Fault} (Ok foreign) (Err (record { line = fault.line; code = fault.code })) =
      sym is ∙ stops in
      cc

  known : (types : List ForeignType) → AreAligned types → (lines : List NumberedLine)
      → types_behind types lines ≡ types_behind [] (numbered_lines bytes) → AreKnown foreign
  known types h [] same = at_end types h same
  known types h (l ∷ lines) same =
      go (types_after types l.number l.words) refl
      (λ ts e. known ts (line_behind types h l.number l.words ts e) lines
      (turn bytes types (l ∷ lines) same l.number l.words lines refl ts e))
    where
      go : (r : Result (List ForeignType) Fault) → types_after types l.number l.words ≡ r
          → ((ts : List ForeignType) → types_after types l.number l.words ≡ Ok ts → AreKnown foreign) → AreKnown foreign
      go (Ok ts) e rest = rest ts e
      go (Err fault) e rest = absurd (not_stopped types l lines fault same e)

pub foreign_known : (bytes : List ℕ) (foreign : ForeignTypes) → foreign_types bytes ≡ Ok foreign → AreKnown foreign
foreign_known bytes foreign is = known bytes foreign is [] (All-nil (λ t. 0 < t.align)) (numbered_lines bytes) refl
