-- The lines under an ECALL, parameter by parameter.
use Rattle.std.proofs.Common.{ℕ, zero, suc, ◌≡◌, ◌+◌, ◌%◌, ◌<◌, ◌≤◌, ◌^◌, ◌==◌, ◌&&◌, Bool, true, false, not, if◌then◌else◌, List, [], ◌∷◌, ◌++◌, length, take, drop, codes, min, Option, Some, None, SomeIff, refl, ap, ◌∙◌, sym, arith, append_assoc, zero-add}
use Rattle.std.proofs.lemmas.List.{drop-drop, take-take, take-map, length-take, length-map}
use Rattle.std.proofs.lemmas.Bool.{ne_eqb}
use Rattle.std.proofs.Math.Dec.{eqb}
use Rattle.std.specs.Option.{option_eq}
use Rattle.edl_interface.specs.declared.Param.{Param}
use Rattle.edl_interface.specs.declared.Function.{Function}
use Rattle.edl_interface.specs.Parameters.{is_marshalled, is_in, is_out, field_of}
use Rattle.edl_interface.specs.Lengths.{copied_length}
use Rattle.word_port.specs.declared.Step.{Step}
use Rattle.call_report.specs.Report.{found_bytes, put_bytes, hex_text, value_line, in_line, out_line, as_copied, put_length, ecall_in_lines, ecall_out_lines}

-- a length that is not told to be 0 is not 0
pub not_zero : (r : Option ℕ) (n : ℕ) → SomeIff r (n < 2 ^ 64) n → option_eq eqb r (Some 0) ≡ false → (n == 0) ≡ false
not_zero (Some x) n h other = ap (λ k. k == 0) (sym h.1) ∙ other
not_zero None zero h other = absurd (h (omega arith))
not_zero None (suc n) h other = ne_eqb (suc n) 0 (λ e. absurd (omega (arith, e)))

-- one line of what was handed in, before the lines of the others, where nothing was loaded or where its bytes were
abbrev in_shape : Function → List ℕ → List Step → Param → List ℕ → List ℕ → List ℕ
in_shape f frame steps p x y =
    if not (is_marshalled p.class) then in_line p.name (hex_text (field_of frame p)) ++ x
    else (if copied_length f frame p == 0 then in_line p.name (codes "null") ++ x
    else (if is_in p.class then in_line p.name (hex_text (as_copied p.class (found_bytes (take (copied_length f frame p) steps)))) ++ y
    else x))

-- the lines rest on the steps from their place on alone
pub in_lines_at : (f : Function) (frame : List ℕ) (log : List Step) (at : ℕ) (ps : List Param) → ecall_in_lines f frame log at ps ≡ ecall_in_lines f frame (drop at log) 0 ps
in_lines_at f frame log at [] = refl
in_lines_at f frame log at (p ∷ ps) =
    let n : ℕ = copied_length f frame p in
    let here = in_lines_at f frame log at ps in
    let later = in_lines_at f frame log (at + n) ps in
    let again = in_lines_at f frame (drop at log) (0 + n) ps in
    let places : at + (0 + n) ≡ at + n = ap (λ k. at + k) (zero-add n) in
    let rest = drop-drop (0 + n) at log ∙ ap (λ k. drop k log) places in
    ap (λ x. in_shape f frame (drop at log) p x (ecall_in_lines f frame log (at + n) ps)) here
    ∙ ap (λ y. in_shape f frame (drop at log) p (ecall_in_lines f frame (drop at log) 0 ps) y) (later ∙ sym (again ∙ ap (λ s. ecall_in_lines f frame s 0 ps) rest))

third : (b c d : Bool) (w x y z : List ℕ) → b ≡ true → c ≡ false → d ≡ true → (if not b then w else (if c then x else (if d then y else z))) ≡ y
third b c d w x y z p q r = rw (p, q, r) refl

-- the line of a parameter that was copied in
pub in_line_step : (f : Function) (frame : List ℕ) (steps loads rest : List Step) (p : Param) (bytes out new : List ℕ)
    → is_marshalled p.class ≡ true → (copied_length f frame p == 0) ≡ false → is_in p.class ≡ true
    → (loads ≡ take (copied_length f frame p) steps) × (rest ≡ drop (copied_length f frame p) steps) → bytes ≡ as_copied p.class (found_bytes loads)
    → new ≡ out ++ value_line (codes "in") p.name (hex_text bytes)
    → (more : List Param) → new ++ ecall_in_lines f frame rest 0 more ≡ out ++ ecall_in_lines f frame steps 0 (p ∷ more)
in_line_step f frame steps loads rest p bytes out new m z i parts b o more =
    let n : ℕ = copied_length f frame p in
    let shown : List ℕ → List ℕ = λ text. value_line (codes "in") p.name (hex_text text) in
    let whole = third (is_marshalled p.class) (n == 0) (is_in p.class) _ _ _ _ m z i in
    let rest_lines = in_lines_at f frame steps (0 + n) more ∙ ap (λ k. ecall_in_lines f frame (drop k steps) 0 more) (zero-add n) in
    ap (λ o. o ++ ecall_in_lines f frame rest 0 more) o
    ∙ append_assoc out (value_line (codes "in") p.name (hex_text bytes)) (ecall_in_lines f frame rest 0 more)
    ∙ ap (λ t. out ++ t)
    (ap (λ b. value_line (codes "in") p.name (hex_text b) ++ ecall_in_lines f frame rest 0 more) (b ∙ ap (λ l. as_copied p.class (found_bytes l)) parts.0)
    ∙ ap (λ r. value_line (codes "in") p.name (hex_text (as_copied p.class (found_bytes (take n steps)))) ++ ecall_in_lines f frame r 0 more) parts.1
    ∙ ap (λ y. value_line (codes "in") p.name (hex_text (as_copied p.class (found_bytes (take n steps)))) ++ y) (sym rest_lines)
    ∙ sym whole)

-- one line of what was put back, before the lines of the others
abbrev out_shape : Function → List ℕ → List Step → Param → List ℕ → List ℕ → List ℕ
out_shape f frame steps p x y =
    if is_out p.class && not (copied_length f frame p == 0)
    then out_line p.name (hex_text (put_bytes (take (put_length p.class (put_bytes (take (copied_length f frame p) steps))) steps))) ++ y
    else x

-- the lines rest on the steps from their place on alone
pub out_lines_at : (f : Function) (frame : List ℕ) (log : List Step) (at : ℕ) (ps : List Param) → ecall_out_lines f frame log at ps ≡ ecall_out_lines f frame (drop at log) 0 ps
out_lines_at f frame log at [] = refl
out_lines_at f frame log at (p ∷ ps) =
    let n : ℕ = put_length p.class (put_bytes (take (copied_length f frame p) (drop at log))) in
    let here = out_lines_at f frame log at ps in
    let later = out_lines_at f frame log (at + n) ps in
    let again = out_lines_at f frame (drop at log) (0 + n) ps in
    let places : at + (0 + n) ≡ at + n = ap (λ k. at + k) (zero-add n) in
    let rest = drop-drop (0 + n) at log ∙ ap (λ k. drop k log) places in
    ap (λ x. out_shape f frame (drop at log) p x (ecall_out_lines f frame log (at + n) ps)) here
    ∙ ap (λ y. out_shape f frame (drop at log) p (ecall_out_lines f frame (drop at log) 0 ps) y) (later ∙ sym (again ∙ ap (λ s. ecall_out_lines f frame s 0 ps) rest))

second : (b c : Bool) (x y : List ℕ) → b ≡ true → c ≡ false → (if b && not c then x else y) ≡ x
second b c x y p q = rw (p, q) refl

-- the line of a parameter that was put back
pub out_line_step : (f : Function) (frame : List ℕ) (steps writes rest : List Step) (p : Param) (count : ℕ) (bytes shown out new : List ℕ)
    → is_out p.class ≡ true → (copied_length f frame p == 0) ≡ false
    → writes ≡ take (copied_length f frame p) steps → bytes ≡ put_bytes writes → count ≡ put_length p.class bytes → count ≤ length bytes
    → shown ≡ take count bytes → rest ≡ drop count steps
    → new ≡ out ++ value_line (codes "out") p.name (hex_text shown)
    → (more : List Param) → new ++ ecall_out_lines f frame rest 0 more ≡ out ++ ecall_out_lines f frame steps 0 (p ∷ more)
out_line_step f frame steps writes rest p count bytes shown out new i z w b k few s r o more =
    let n : ℕ = copied_length f frame p in
    let all : bytes ≡ put_bytes (take n steps) = b ∙ ap put_bytes w in
    let place : count ≡ put_length p.class (put_bytes (take n steps)) = k ∙ ap (put_length p.class) all in
    let size : length bytes ≡ min n (length steps) = ap length all ∙ length-map (take n steps) (λ s. s.first % 256) ∙ length-take n steps in
    let below : count ≤ n = omega arith in
    let front : shown ≡ put_bytes (take count steps) =
    s ∙ ap (take count) all ∙ take-map (λ s. s.first % 256) count (take n steps) ∙ ap put_bytes (take-take count n steps below) in
    let whole = second (is_out p.class) (n == 0) _ _ i z in
    let rest_lines = out_lines_at f frame steps (0 + count) more ∙ ap (λ k. ecall_out_lines f frame (drop k steps) 0 more) (zero-add count) in
    ap (λ o. o ++ ecall_out_lines f frame rest 0 more) o
    ∙ append_assoc out (value_line (codes "out") p.name (hex_text shown)) (ecall_out_lines f frame rest 0 more)
    ∙ ap (λ t. out ++ t)
    (ap (λ b. value_line (codes "out") p.name (hex_text b) ++ ecall_out_lines f frame rest 0 more) front
    ∙ ap (λ r. value_line (codes "out") p.name (hex_text (put_bytes (take count steps))) ++ ecall_out_lines f frame r 0 more) r
    ∙ ap (λ y. value_line (codes "out") p.name (hex_text (put_bytes (take count steps))) ++ y) (sym rest_lines)
    ∙ ap (λ k. out_line p.name (hex_text (put_bytes (take k steps))) ++ ecall_out_lines f frame steps (0 + k) more) place
    ∙ sym whole)
