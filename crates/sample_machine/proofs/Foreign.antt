-- A sample's script declares no foreign types.
use Rattle.std.proofs.Common.{ℕ, zero, suc, ◌≡◌, ◌+◌, ◌%◌, false, if◌then◌else◌, List, [], ◌∷◌, ◌++◌, Ok, codes, refl, arith, ap, ◌∙◌}
use Rattle.std.proofs.lemmas.Nat.{mod_below}
use Rattle.std.specs.Prelude.{filter, map, decimal}
use Rattle.call_script.specs.Spelling.{Word, NumberedLine, words, lines, numbered_from, means_nothing}
use Rattle.call_script.specs.Block.{placed}
use Rattle.call_script.specs.Faults.{line_fault}
use Rattle.call_script.specs.Reading.{unless_fault}
use Rattle.hex.specs.Hex.{encode_with}
use Rattle.script_reader.specs.Foreign.{foreign_types, begins_with, no_interface, only, types_in}
use Rattle.sample_script.specs.Sample.{next_number, first_lines, call_lines, sample}
use Rattle.sample_laws.proofs.Calls.{words_are, call_line_before}
use Rattle.sample_laws.proofs.Words.{address_digits, address_fine, size_fine}
use Rattle.sample_machine.proofs.EdlText.{no_types}

abbrev foreign_among : List NumberedLine → List NumberedLine
foreign_among ls = filter (λ l. begins_with (codes "foreign") l.words) ls

abbrev among_words : ℕ → List (List ℕ) → List Word → List NumberedLine
among_words k ls ws = foreign_among (if means_nothing ws then numbered_from (k + 1) ls else record { number = k; words = ws } ∷ numbered_from (k + 1) ls)

none_in_calls : (k place x n : ℕ) → foreign_among (numbered_from k (lines (call_lines place x n))) ≡ []
unfolding lines
none_in_calls k place x zero = refl
none_in_calls k place x (suc n) =
    let a = address_fine (place % 8) (mod_below place 8 (omega arith)) in
    let d = size_fine (next_number x % 65) (mod_below (next_number x) 65 (omega arith)) in
    let rest : List ℕ = call_lines (place + 1) (next_number x) n in
    ap (λ (ls : List (List ℕ)). foreign_among (numbered_from k ls))
    (call_line_before (address_digits (place % 8)) (decimal (next_number x % 65)) rest a.numeral.one_line d.numeral.one_line)
    ∙ ap (among_words k (lines rest)) (words_are (address_digits (place % 8)) (decimal (next_number x % 65)) a.numeral.one_word d.numeral)
    ∙ none_in_calls (k + 1) (place + 1) (next_number x) n

none_before : (rest : List ℕ) → foreign_among (numbered_from 1 (lines (first_lines ++ rest))) ≡ foreign_among (numbered_from 6 (lines rest))
unfolding lines words encode_with
none_before rest = refl

pub no_foreign : (n : ℕ) → foreign_types (sample n) ≡ Ok no_types
unfolding foreign_types
no_foreign n =
    ap (λ (ls : List NumberedLine). unless_fault (line_fault no_interface false (map (placed []) ls)) (only (types_in (map (placed []) ls))))
    (none_before (call_lines 0 1 n) ∙ none_in_calls 6 0 1 n)
