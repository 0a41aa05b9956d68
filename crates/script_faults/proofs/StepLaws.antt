-- What is counted in a body, one line later.
use Rattle.std.proofs.Common.{arith, ℕ, ◌≡◌, ◌+◌, ◌-◌, ◌^◌, ◌<◌, true, List, [], ◌∷◌, ◌++◌, length, take, refl, sym, ◌∙◌, ap, length-append, append_assoc}
use Rattle.std.specs.Prelude.{min, cond, filter_map, count_by}
use Rattle.std.proofs.lemmas.List.Elements.{filter_map-append}
use Rattle.std.proofs.lemmas.List.Sums.{sum_by-cons}
use Rattle.std.proofs.Math.Seq.{take-append_seam}
use Rattle.edl_interface.specs.declared.Param.{Param}
use Rattle.call_script.specs.BodyNames.{BodyNames}
use Rattle.call_script.specs.Spelling.{Word}
use Rattle.call_script.specs.Line.{Line, Temp}
use Rattle.call_script.specs.Standing.{is_action, is_temporary, temporary_name}
use Rattle.script_faults.specs.Names.{listed}
use Rattle.script_faults.proofs.ListLaws.{filter_map-behind}

-- the names of the temporaries that lines give
abbrev temporaries : List Line → List Word
temporaries = filter_map temporary_name

one-given : (line : Line) → length (listed (temporary_name line)) ≡ cond (is_temporary line) 1 0
one-given (Temp name size) = refl
one-given line = refl

given-more : (before : List Line) (line : Line)
    → length (temporaries (before ++ line ∷ [])) ≡ length (temporaries before) + cond (is_temporary line) 1 0
given-more before line =
    ap length (filter_map-behind temporary_name before line)
    ∙ length-append (temporaries before) (listed (temporary_name line))
    ∙ ap (λ n. length (temporaries before) + n) (one-given line)

pub all-the-same : (before : List Line) (line : Line) (behind : List Line) (all : List Word)
    → all ≡ temporaries (before ++ line ∷ behind) → all ≡ temporaries ((before ++ line ∷ []) ++ behind)
all-the-same before line behind all e = e ∙ ap temporaries (sym (append_assoc before (line ∷ []) behind))

pub given-behind : (before : List Line) (line : Line) (behind : List Line) (all : List Word) (old new : ℕ)
    → length all < 2 ^ 32 → all ≡ temporaries (before ++ line ∷ behind) → old ≡ length (temporaries before)
    → new ≡ min (old + cond (is_temporary line) 1 0) (2 ^ 64 - 1) → new ≡ length (temporaries (before ++ line ∷ []))
given-behind before line behind all old new few e h k =
    let split : length all ≡ length (temporaries (before ++ line ∷ [])) + length (temporaries behind) =
    ap length (all-the-same before line behind all e
    ∙ filter_map-append temporary_name (before ++ line ∷ []) behind)
    ∙ length-append (temporaries (before ++ line ∷ [])) (temporaries behind) in
    let more = given-more before line in omega (arith, split, more)

action-first : (line : Line) (behind : List Line)
    → count_by is_action (line ∷ behind) ≡ cond (is_action line) 1 0 + count_by is_action behind
action-first line behind = sum_by-cons (λ l. cond (is_action l) 1 0) line behind

pub left-behind : (line : Line) (behind : List Line) (old new : ℕ) → old ≡ count_by is_action (line ∷ behind)
    → new ≡ old - cond (is_action line) 1 0 → new ≡ count_by is_action behind
left-behind line behind old new h e = let k = action-first line behind in omega (arith, k)

pub one-behind : (line : Line) (behind : List Line) (old new : ℕ) → is_action line ≡ true
    → old ≡ count_by is_action (line ∷ behind) → new ≡ old - 1 → new ≡ count_by is_action behind
one-behind line behind old new k h e = left-behind line behind old new h (e ∙ ap (λ t. old - cond t 1 0) (sym k))

-- the first are those of the lines before
pub first-given : (before behind : List Line) (all : List Word) (given : ℕ) → all ≡ temporaries (before ++ behind)
    → given ≡ length (temporaries before) → take given all ≡ temporaries before
first-given before behind all given e h =
    ap (λ n. take n all) h
    ∙ ap (take (length (temporaries before))) (e ∙ filter_map-append temporary_name before behind)
    ∙ take-append_seam (temporaries before) (temporaries behind)

pub same-names : (p q : List Param) (t u : List Word) → p ≡ q → t ≡ u
    → ◌≡◌ {A = BodyNames} (record { params = p; temporaries = t }) (record { params = q; temporaries = u })
same-names p q t u e f =
    ap (λ x. record { params = x; temporaries = t }) e ∙ ap (λ x. record { params = q; temporaries = x }) f
