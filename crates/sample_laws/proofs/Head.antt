-- The lines before a sample's calls, and the whole script.
use Rattle.std.proofs.Common.{ℕ, zero, suc, ◌≡◌, ◌≤◌, ◌+◌, ◌*◌, Bool, false, if◌then◌else◌, List, [], ◌∷◌, ◌++◌, Option, Some, None, Ok, codes, refl, arith, ap, ◌∙◌}
use Rattle.std.specs.Prelude.{filter, filter_map, fold, slice_get, ◌==◌, nat_lt, unwrap_or}
use Rattle.std.specs.List.{list_any}
use Rattle.call_script.specs.Spelling.{Word, words, lines, numbered_from, is_bad_hex}
use Rattle.call_script.specs.Line.{Line, Bytes, Body, Close}
use Rattle.call_script.specs.Settings.{Setting, host, stack}
use Rattle.call_script.specs.Block.{PlacedLine, Block, InBody, line_in, placed_from, placed_lines, left_open, home}
use Rattle.call_script.specs.Standing.{Standing, standings_from, lines_of, set_to, setting_in, is_thread}
use Rattle.call_script.specs.Faults.{Fault, fault_at, fault_by, script_fault, stack_fault, stack_count, is_left_open, hex_count}
use Rattle.call_script.specs.Parser.{or_else}
use Rattle.call_script.specs.Meaning.{script_value}
use Rattle.call_script.specs.Reading.{script_of, unless_fault}
use Rattle.hex.specs.Hex.{encode_lower, encode_with}
use Rattle.hex.proofs.OnLiterals.{hex_on_literals}
use Rattle.sample_script.specs.Sample.{next_number, first_bytes, first_lines, call_lines, sample}
use Rattle.sample_laws.specs.Sampled.{sample_interface}
use Rattle.sample_laws.proofs.Placed.{placed_calls, calls_placed, none_open, gathered, calls_fine, acts_in}

-- ---- the lines

-- the block of the body
abbrev body : Block
body = record { number = 2; opening = Body (codes "f") }

abbrev bytes_line : Word → PlacedLine
bytes_line hex = record { number = 1; blocks = []; line = Some (Bytes (codes "0x10000") hex) }

abbrev body_line : PlacedLine
body_line = record { number = 2; blocks = []; line = Some (Body (codes "f")) }

abbrev sum_line : PlacedLine
sum_line = record { number = 3; blocks = body ∷ []; line = line_in (InBody (codes "f")) (codes "sum" ∷ codes "r0" ∷ codes "buf" ∷ []) }

abbrev return_line : PlacedLine
return_line = record { number = 4; blocks = body ∷ []; line = line_in (InBody (codes "f")) (codes "return" ∷ codes "r0" ∷ []) }

abbrev close_line : PlacedLine
close_line = record { number = 5; blocks = body ∷ []; line = Some Close }

abbrev pub head : Word → List PlacedLine
head hex = bytes_line hex ∷ body_line ∷ sum_line ∷ return_line ∷ close_line ∷ []

-- the digits of the first bytes
abbrev pub first_hex : Word
first_hex = encode_lower first_bytes

head_before : (rest : List ℕ) → placed_from [] (numbered_from 1 (lines (first_lines ++ rest))) ≡ head first_hex ++ placed_from [] (numbered_from 6 (lines rest))
unfolding lines words encode_with
head_before rest = refl

pub all_placed : (n : ℕ) → placed_lines (sample n) ≡ head first_hex ++ placed_calls 6 0 1 n
unfolding placed_lines
all_placed n = head_before (call_lines 0 1 n) ∙ ap (λ ls. head first_hex ++ ls) (calls_placed 6 0 1 n)

-- ---- their faults

bytes_fine : (left : Bool) (hex : Word) (behind : List PlacedLine) → is_bad_hex hex ≡ false → hex_count hex ≡ 512
    → fault_by sample_interface false left (record { before = []; here = bytes_line hex; behind = behind }) ≡ None
bytes_fine left hex behind good count = rw (count, good) refl

body_fine : (hex : Word) (behind : List PlacedLine) → fault_by sample_interface false false (record { before = bytes_line hex ∷ []; here = body_line; behind = behind }) ≡ None
body_fine hex behind = refl

-- the lines of the body
abbrev pub in_body : List PlacedLine → List PlacedLine
in_body ls = filter (λ l. home l == 2) ls

sum_fine : (left : Bool) (hex : Word) (calls : List PlacedLine) → in_body calls ≡ []
    → fault_by sample_interface false left (record { before = bytes_line hex ∷ body_line ∷ []; here = sum_line; behind = return_line ∷ close_line ∷ calls }) ≡ None
sum_fine left hex calls apart = rw apart refl

return_fine : (left : Bool) (hex : Word) (behind : List PlacedLine)
    → fault_by sample_interface false left (record { before = bytes_line hex ∷ body_line ∷ sum_line ∷ []; here = return_line; behind = behind }) ≡ None
return_fine left hex behind = refl

close_fine : (left : Bool) (hex : Word) (behind : List PlacedLine)
    → fault_by sample_interface false left (record { before = bytes_line hex ∷ body_line ∷ sum_line ∷ return_line ∷ []; here = close_line; behind = behind }) ≡ None
close_fine left hex behind = refl

module _ (hex : Word) (calls : List PlacedLine) where
  abbrev s1 : Standing
  s1 = record { before = []; here = bytes_line hex; behind = body_line ∷ sum_line ∷ return_line ∷ close_line ∷ calls }

  abbrev s2 : Standing
  s2 = record { before = bytes_line hex ∷ []; here = body_line; behind = sum_line ∷ return_line ∷ close_line ∷ calls }

  abbrev s3 : Standing
  s3 = record { before = bytes_line hex ∷ body_line ∷ []; here = sum_line; behind = return_line ∷ close_line ∷ calls }

  abbrev s4 : Standing
  s4 = record { before = bytes_line hex ∷ body_line ∷ sum_line ∷ []; here = return_line; behind = close_line ∷ calls }

  abbrev s5 : Standing
  s5 = record { before = bytes_line hex ∷ body_line ∷ sum_line ∷ return_line ∷ []; here = close_line; behind = calls }

  abbrev at : Standing → Option Fault
  at = fault_at sample_interface false

  head_fine : is_bad_hex hex ≡ false → hex_count hex ≡ 512 → left_open (close_line ∷ calls) ≡ [] → in_body calls ≡ []
      → filter_map at (standings_from (head hex) calls) ≡ [] → filter_map at (standings_from [] (head hex ++ calls)) ≡ []
  head_fine good count closed apart fine =
      let rest : List Fault = filter_map at (standings_from (head hex) calls) in
      let f2 : at s2 ≡ None = ap (λ (bs : List Block). fault_by sample_interface false (list_any (λ b. b.number == 2) bs) s2) closed ∙ body_fine hex (sum_line ∷ return_line ∷ close_line ∷ calls) in
      ap (λ f. gathered f (gathered (at s2) (gathered (at s3) (gathered (at s4) (gathered (at s5) rest))))) (bytes_fine (is_left_open s1) hex s1.behind good count)
      ∙ ap (λ f. gathered f (gathered (at s3) (gathered (at s4) (gathered (at s5) rest)))) f2
      ∙ ap (λ f. gathered f (gathered (at s4) (gathered (at s5) rest))) (sum_fine (is_left_open s3) hex calls apart)
      ∙ ap (λ f. gathered f (gathered (at s5) rest)) (return_fine (is_left_open s4) hex s4.behind)
      ∙ ap (λ f. gathered f rest) (close_fine (is_left_open s5) hex s5.behind)
      ∙ fine

first_good : is_bad_hex first_hex ≡ false
unfolding hex_on_literals
first_good = refl

first_count : hex_count first_hex ≡ 512
unfolding hex_on_literals
first_count = refl

none_in_body : (k place x n : ℕ) → in_body (placed_calls k place x n) ≡ []
none_in_body k place x zero = refl
none_in_body k place x (suc n) = none_in_body (k + 1) (place + 1) (next_number x) n

few_acts : (hex : Word) → acts_in (head hex) ≡ 0
few_acts hex = refl

lines_fine : (n : ℕ) → n ≤ 8000 → filter_map (fault_at sample_interface false) (standings_from [] (head first_hex ++ placed_calls 6 0 1 n)) ≡ []
lines_fine n few =
    head_fine first_hex (placed_calls 6 0 1 n) first_good first_count (none_open close_line 6 0 1 n refl) (none_in_body 6 0 1 n)
    (calls_fine (head first_hex) 6 0 1 n (omega (arith, few, few_acts first_hex)))

-- ---- the stacks

no_settings : (s : Setting) (k place x n : ℕ) → filter_map (set_to s) (lines_of (placed_calls k place x n)) ≡ []
no_settings s k place x zero = refl
no_settings s k place x (suc n) = no_settings s (k + 1) (place + 1) (next_number x) n

abbrev counted : ℕ → Line → ℕ
counted a line = a + (if is_thread line then 1 else 0)

no_threads : (k place x n : ℕ) → fold counted 1 (lines_of (placed_calls k place x n)) ≡ 1
no_threads k place x zero = refl
no_threads k place x (suc n) = no_threads (k + 1) (place + 1) (next_number x) n

abbrev fault_of_stacks : ℕ → ℕ → ℕ → Option Fault
fault_of_stacks size count each = if nat_lt size (count * each) then Some (record { line = 0; code = 17 }) else None

stacks_fit : (size count each : ℕ) → size ≡ 4096 → count ≡ 1 → each ≡ 1024 → fault_of_stacks size count each ≡ None
stacks_fit size count each a b c = rw (a, b, c) refl

setting_is : (s : Setting) (hex : Word) (n : ℕ) → setting_in (lines_of (head hex ++ placed_calls 6 0 1 n)) s ≡ s.default
setting_is s hex n = ap (λ (ns : List ℕ). unwrap_or (slice_get ns 0) s.default) (no_settings s 6 0 1 n)

count_is : (hex : Word) (n : ℕ) → stack_count false (lines_of (head hex ++ placed_calls 6 0 1 n)) ≡ 1
count_is hex n = ap (λ (c : ℕ). c + 0) (no_threads 6 0 1 n)

stacks_fine : (hex : Word) (n : ℕ) → stack_fault false (head hex ++ placed_calls 6 0 1 n) ≡ None
stacks_fine hex n =
    let ls : List Line = lines_of (head hex ++ placed_calls 6 0 1 n) in
    stacks_fit (setting_in ls host) (stack_count false ls) (setting_in ls stack) (setting_is host hex n) (count_is hex n) (setting_is stack hex n)

-- ---- the script

abbrev first_of : List Fault → Option Fault
first_of faults = slice_get faults 0

no_fault : (n : ℕ) → n ≤ 8000 → script_fault sample_interface false (placed_lines (sample n)) ≡ None
no_fault n few =
    ap (script_fault sample_interface false) (all_placed n)
    ∙ ap (λ (f : Option Fault). or_else f (stack_fault false (head first_hex ++ placed_calls 6 0 1 n))) (ap first_of (lines_fine n few))
    ∙ stacks_fine first_hex n

pub sample_read : (n : ℕ) → n ≤ 8000 → script_of sample_interface false (sample n) ≡ Ok (script_value sample_interface false (placed_lines (sample n)))
unfolding script_of
sample_read n few = ap (λ (f : Option Fault). unless_fault f (script_value sample_interface false (placed_lines (sample n)))) (no_fault n few)
