-- A sample's calls as lines of a script, of which none has a fault.
use Rattle.std.proofs.Common.{ℕ, zero, suc, ◌≡◌, ◌≤◌, ◌+◌, ◌%◌, false, if◌then◌else◌, List, [], ◌∷◌, ◌++◌, Option, Some, None, refl, arith, ap, ◌∙◌}
use Rattle.std.proofs.lemmas.Nat.{mod_below}
use Rattle.std.proofs.lemmas.Bool.{lt-leb}
use Rattle.std.proofs.lemmas.List.Sums.{sum_by-append}
use Rattle.std.proofs.lemmas.List.Elements.{filter_map-append}
use Rattle.std.specs.Prelude.{decimal, filter_map, count_by, nat_le}
use Rattle.call_script.specs.Spelling.{Word, lines, numbered_from}
use Rattle.call_script.specs.Block.{PlacedLine, placed_from, open_after, left_open}
use Rattle.call_script.specs.Standing.{Standing, standings_from, is_act, lines_of}
use Rattle.call_script.specs.Faults.{Fault, fault_at, is_left_open}
use Rattle.sample_script.specs.Sample.{next_number, call_lines}
use Rattle.sample_laws.specs.Sampled.{sample_interface}
use Rattle.sample_laws.proofs.CallRows.{call_at, call_fine}
use Rattle.sample_laws.proofs.Calls.{call_line_before, call_placed}
use Rattle.sample_laws.proofs.Words.{address_digits, address_word, address_fine, size_fine}

-- so many calls, from a line, a place and a number on
abbrev pub placed_calls : ℕ → ℕ → ℕ → ℕ → List PlacedLine
placed_calls k place x zero = []
placed_calls k place x (suc n) =
    call_at k (address_word (place % 8)) (decimal (next_number x % 65)) ∷ placed_calls (k + 1) (place + 1) (next_number x) n

pub calls_placed : (k place x n : ℕ) → placed_from [] (numbered_from k (lines (call_lines place x n))) ≡ placed_calls k place x n
unfolding lines
calls_placed k place x zero = refl
calls_placed k place x (suc n) =
    let a = address_fine (place % 8) (mod_below place 8 (omega arith)) in
    let d = size_fine (next_number x % 65) (mod_below (next_number x) 65 (omega arith)) in
    let rest : List ℕ = call_lines (place + 1) (next_number x) n in
    ap (λ (ls : List (List ℕ)). placed_from [] (numbered_from k ls))
    (call_line_before (address_digits (place % 8)) (decimal (next_number x % 65)) rest a.numeral.one_line d.numeral.one_line)
    ∙ call_placed k (address_digits (place % 8)) (decimal (next_number x % 65)) (lines rest) a.numeral.one_word d.numeral
    ∙ ap (λ (ls : List PlacedLine). call_at k (address_word (place % 8)) (decimal (next_number x % 65)) ∷ ls) (calls_placed (k + 1) (place + 1) (next_number x) n)

-- no block is open behind them
pub none_open : (l : PlacedLine) (k place x n : ℕ) → open_after l ≡ [] → left_open (l ∷ placed_calls k place x n) ≡ []
none_open l k place x zero h = h
none_open l k place x (suc n) h = none_open (call_at k (address_word (place % 8)) (decimal (next_number x % 65))) (k + 1) (place + 1) (next_number x) n refl

-- ---- their faults

-- how many acts there are
abbrev pub acts_in : List PlacedLine → ℕ
acts_in ls = count_by is_act (lines_of ls)

one_more : (before : List PlacedLine) (k : ℕ) (w v : Word) → acts_in (before ++ call_at k w v ∷ []) ≡ acts_in before + 1
one_more before k w v =
    ap (count_by is_act) (filter_map-append (λ l. l.line) before (call_at k w v ∷ []))
    ∙ sum_by-append (λ line. if is_act line then 1 else 0) (lines_of before) (lines_of (call_at k w v ∷ []))

abbrev pub gathered : Option Fault → List Fault → List Fault
gathered None fs = fs
gathered (Some f) fs = f ∷ fs

pub calls_fine : (before : List PlacedLine) (k place x n : ℕ) → acts_in before + n ≤ 8192
    → filter_map (fault_at sample_interface false) (standings_from before (placed_calls k place x n)) ≡ []
calls_fine before k place x zero few = refl
calls_fine before k place x (suc n) few =
    let a = address_fine (place % 8) (mod_below place 8 (omega arith)) in
    let d = size_fine (next_number x % 65) (mod_below (next_number x) 65 (omega arith)) in
    let w : Word = address_word (place % 8) in
    let v : Word = decimal (next_number x % 65) in
    let behind : List PlacedLine = placed_calls (k + 1) (place + 1) (next_number x) n in
    let here : Standing = record { before = before; here = call_at k w v; behind = behind } in
    let limit : nat_le 8192 (acts_in before) ≡ false = lt-leb 8192 (acts_in before) (omega (arith, few)) in
    let none : fault_at sample_interface false here ≡ None = call_fine (is_left_open here) before behind k w v a.fine d.fine limit in
    let more = one_more before k w v in
    ap (λ (f : Option Fault). gathered f (filter_map (fault_at sample_interface false) (standings_from (before ++ call_at k w v ∷ []) behind))) none
    ∙ calls_fine (before ++ call_at k w v ∷ []) (k + 1) (place + 1) (next_number x) n (omega (arith, few, more))
