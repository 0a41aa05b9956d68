-- The lines under an OCALL, parameter by parameter.
use Rattle.std.proofs.Common.{ℕ, ◌≡◌, ◌+◌, ◌==◌, ◌&&◌, Bool, true, false, not, if◌then◌else◌, List, [], ◌∷◌, ◌++◌, take, drop, codes, refl, ap, ◌∙◌, sym, append_assoc, zero-add}
use Rattle.std.proofs.lemmas.List.{drop-drop}
use Rattle.edl_interface.specs.declared.Param.{Param}
use Rattle.edl_interface.specs.declared.Function.{Function}
use Rattle.edl_interface.specs.Parameters.{is_marshalled, is_out}
use Rattle.word_port.specs.declared.Step.{Step}
use Rattle.call_report.specs.Report.{found_bytes, hex_text, value_line, out_line, buffer_length, buffers_after, ocall_out_lines}

-- one line of what came back, before the lines of the others
abbrev out_shape : Function → List ℕ → List ℕ → List Step → Param → List ℕ → List ℕ → List ℕ → List ℕ
out_shape f structure buffers steps p x y z =
    if not (is_marshalled p.class) then x
    else (if is_out p.class && not (buffer_length f structure p buffers == 0)
    then out_line p.name (hex_text (found_bytes (take (buffer_length f structure p buffers) steps))) ++ y
    else z)

-- the lines rest on the steps from their place on alone
pub out_lines_at : (f : Function) (structure buffers : List ℕ) (log : List Step) (at : ℕ) (ps : List Param) → ocall_out_lines f structure buffers log at ps ≡ ocall_out_lines f structure buffers (drop at log) 0 ps
out_lines_at f structure buffers log at [] = refl
out_lines_at f structure buffers log at (p ∷ ps) =
    let n : ℕ = buffer_length f structure p buffers in
    let next : List ℕ = drop n buffers in
    let steps : List Step = drop at log in
    let lines : List ℕ → List Step → ℕ → List ℕ = λ b l k. ocall_out_lines f structure b l k ps in
    let here = out_lines_at f structure buffers log at ps in
    let stay = out_lines_at f structure next log at ps in
    let later = out_lines_at f structure next log (at + n) ps in
    let again = out_lines_at f structure next steps (0 + n) ps in
    let places : at + (0 + n) ≡ at + n = ap (λ k. at + k) (zero-add n) in
    let rest = drop-drop (0 + n) at log ∙ ap (λ k. drop k log) places in
    ap (λ x. out_shape f structure buffers steps p x (lines next log (at + n)) (lines next log at)) here
    ∙ ap (λ y. out_shape f structure buffers steps p (lines buffers steps 0) y (lines next log at)) (later ∙ sym (again ∙ ap (λ s. lines next s 0) rest))
    ∙ ap (λ z. out_shape f structure buffers steps p (lines buffers steps 0) (lines next steps (0 + n)) z) stay

shown : (b c d : Bool) (x y z : List ℕ) → b ≡ true → c ≡ true → d ≡ false → (if not b then x else (if c && not d then y else z)) ≡ y
shown b c d x y z p q r = rw (p, q, r) refl

after_marshalled : (b : Bool) (x y : List ℕ) → b ≡ true → (if b then x else y) ≡ x
after_marshalled b x y p = rw p refl

-- the line of a parameter that came back
pub out_line_step : (f : Function) (structure buffers : List ℕ) (steps loads rest : List Step) (p : Param) (bytes out new : List ℕ)
    → is_marshalled p.class ≡ true → is_out p.class ≡ true → (buffer_length f structure p buffers == 0) ≡ false
    → (loads ≡ take (buffer_length f structure p buffers) steps) × (rest ≡ drop (buffer_length f structure p buffers) steps) → bytes ≡ found_bytes loads
    → new ≡ out ++ value_line (codes "out") p.name (hex_text bytes)
    → (more : List Param) → new ++ ocall_out_lines f structure (buffers_after f structure p buffers) rest 0 more ≡ out ++ ocall_out_lines f structure buffers steps 0 (p ∷ more)
out_line_step f structure buffers steps loads rest p bytes out new m i z parts b o more =
    let n : ℕ = buffer_length f structure p buffers in
    let next : List ℕ = buffers_after f structure p buffers in
    let whole = shown (is_marshalled p.class) (is_out p.class) (n == 0) _ _ _ m i z in
    let later = after_marshalled (is_marshalled p.class) (drop n buffers) buffers m in
    let rest_lines = out_lines_at f structure (drop n buffers) steps (0 + n) more ∙ ap (λ k. ocall_out_lines f structure (drop n buffers) (drop k steps) 0 more) (zero-add n) in
    ap (λ o. o ++ ocall_out_lines f structure next rest 0 more) o
    ∙ append_assoc out (value_line (codes "out") p.name (hex_text bytes)) (ocall_out_lines f structure next rest 0 more)
    ∙ ap (λ t. out ++ t)
    (ap (λ b. value_line (codes "out") p.name (hex_text b) ++ ocall_out_lines f structure next rest 0 more) (b ∙ ap found_bytes parts.0)
    ∙ ap (λ r. value_line (codes "out") p.name (hex_text (found_bytes (take n steps))) ++ ocall_out_lines f structure next r 0 more) parts.1
    ∙ ap (λ k. value_line (codes "out") p.name (hex_text (found_bytes (take n steps))) ++ ocall_out_lines f structure k (drop n steps) 0 more) later
    ∙ ap (λ y. value_line (codes "out") p.name (hex_text (found_bytes (take n steps))) ++ y) (sym rest_lines)
    ∙ sym whole)

-- what is shown where a status is SUCCESS
pub where_answered : (n : ℕ) (text : List ℕ) → n ≡ 0 → (if n == 0 then text else []) ≡ text
where_answered n text z = rw z refl
