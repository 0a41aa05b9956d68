-- Scripts with a fault, each with its line and its code.
use Rattle.std.specs.Prelude.{ℕ, ◌≡◌, Bool, true, false, List, ◌++◌, Some, codes, count_by}
use Rattle.std.proofs.Common.{refl}
use Rattle.std.specs.List.{repeat}
use Prim.Native.String.{String}
use Rattle.hex.specs.Hex.{decode_pairs}
use Rattle.edl_interface.specs.declared.Interface.{Interface}
use Rattle.call_script.specs.Spelling.{Word, words, lines}
use Rattle.call_script.specs.Block.{placed_lines}
use Rattle.call_script.specs.Line.{Poke}
use Rattle.call_script.specs.Standing.{Standing, lines_before, is_act}
use Rattle.call_script.specs.Faults.{script_fault, is_one_too_many}
use Rattle.script_laws.proofs.RowInterfaces.{sum_interface, wide_interface}

abbrev AreRefused : Interface → Bool → List ℕ → ℕ → ℕ → Type 0
AreRefused i racing bytes line code =
    script_fault i racing (placed_lines bytes) ≡ Some (record { line = line; code = code })

abbrev IsRefused : Interface → Bool → String → ℕ → ℕ → Type 0
IsRefused i racing text line code = AreRefused i racing (codes text) line code

-- ---- scripts for one function, each with its fault

setting_out_of_range : IsRefused sum_interface false "host 4097" 1 2
unfolding placed_lines words lines decode_pairs
setting_out_of_range = refl

setting_twice : IsRefused sum_interface false "host 4096\nhost 4096" 2 3
unfolding placed_lines words lines decode_pairs
setting_twice = refl

races_out_of_order : IsRefused sum_interface false "race 2 0x10000 ff\nrace 1 0x10000 ff" 2 13
unfolding placed_lines words lines decode_pairs
races_out_of_order = refl

-- ---- forms of lines

word_too_many : IsRefused wide_interface false "poke 0x11000 00 extra" 1 1
unfolding placed_lines words lines decode_pairs
word_too_many = refl

body_in_repeat : IsRefused wide_interface false "repeat 2 {\nbody f {\n}\n}" 2 1
unfolding placed_lines words lines decode_pairs
body_in_repeat = refl

setting_in_block : IsRefused wide_interface false "handler z {\nhost 4096\n}" 2 20
unfolding placed_lines words lines decode_pairs
setting_in_block = refl

-- ---- blocks

closed_twice : IsRefused wide_interface false "repeat 2 {\n}\n}" 3 12
unfolding placed_lines words lines decode_pairs
closed_twice = refl

outermost_left_open : IsRefused wide_interface false "repeat 2 {\nrepeat 3 {\n}" 1 12
unfolding placed_lines words lines decode_pairs
outermost_left_open = refl

left_open_before_fault : IsRefused wide_interface false "repeat 2 {\nxyz" 1 12
unfolding placed_lines words lines decode_pairs
left_open_before_fault = refl

left_open_for_other_program : IsRefused wide_interface false "thread {" 1 12
unfolding placed_lines words lines decode_pairs
left_open_for_other_program = refl

no_form_opens_nothing : IsRefused wide_interface false "body 5 {\n}" 1 1
unfolding placed_lines words lines decode_pairs
no_form_opens_nothing = refl

-- ---- addresses, names given twice, and programs

bytes_up_to_the_end : IsRefused wide_interface false "bytes 0x10ffe 0000\nbytes 0x10fff 0000" 2 4
unfolding placed_lines words lines decode_pairs
bytes_up_to_the_end = refl

bad_hex_at_the_end : IsRefused wide_interface false "bytes 0x10fff 000" 1 18
unfolding placed_lines words lines decode_pairs
bad_hex_at_the_end = refl

bad_hex_behind_the_end : IsRefused wide_interface false "bytes 0x11000 0" 1 4
unfolding placed_lines words lines decode_pairs
bad_hex_behind_the_end = refl

racer_for_other_program : IsRefused wide_interface false "racer {\n}" 1 14
unfolding placed_lines words lines decode_pairs
racer_for_other_program = refl

-- ---- arguments

pointer_too_wide : IsRefused wide_interface false "call f(18446744073709551616, 1)" 1 6
unfolding placed_lines words lines decode_pairs
pointer_too_wide = refl

hex_at_integer : IsRefused wide_interface false "call f(null, #0)" 1 6
unfolding placed_lines words lines decode_pairs
hex_at_integer = refl

least_and_greatest : IsRefused wide_interface false
    "call g(255, -128, #0000000000000000, null)\ncall g(255, -129, #0000000000000000, null)" 2 7
unfolding placed_lines words lines decode_pairs
least_and_greatest = refl

-- ---- handlers

call_in_switchless_handler : IsRefused wide_interface false "handler w {\npeek 0x10000 1\nrepeat 2 {\nraw 0 0\n}\n}" 4
    15
unfolding placed_lines words lines decode_pairs
call_in_switchless_handler = refl

frame_argument : IsRefused wide_interface false "handler o {\ncall f(@frame+8, 1)\n}\ncall f(@frame+8, 1)" 4 19
unfolding placed_lines words lines decode_pairs
frame_argument = refl

return_outside : IsRefused wide_interface false "return 5" 1 19
unfolding placed_lines words lines decode_pairs
return_outside = refl

unknown_handler : IsRefused wide_interface false "handler f {\nreturn 5\n}" 1 5
unfolding placed_lines words lines decode_pairs
unknown_handler = refl

-- ---- bodies

temporary_before_its_line : IsRefused wide_interface false "body f {\nfill t 1\ntemp t 4\nfill u 1\n}" 4 8
unfolding placed_lines words lines decode_pairs
temporary_before_its_line = refl

temporary_named_like_block : IsRefused wide_interface false "body f {\ntemp len 4\ntemp r0 4\ntemp buf 4\n}" 4 11
unfolding placed_lines words lines decode_pairs
temporary_named_like_block = refl

no_action_to_pass : IsRefused wide_interface false "body f {\nskipz r0 1\nset r0 1\nskipz r0 1\ncload r0 x\n}" 4 9
unfolding placed_lines words lines decode_pairs
no_action_to_pass = refl

no_such_cell_in_body : IsRefused wide_interface false "body f {\ncload r0 15\ncadd r0 16 1\n}" 3 10
unfolding placed_lines words lines decode_pairs
no_such_cell_in_body = refl

unknown_argument : IsRefused wide_interface false "body f {\nocall r0 r1 w(len)\nocall r0 r1 w(nope)\n}" 3 8
unfolding placed_lines words lines decode_pairs
unknown_argument = refl

lowest_code : IsRefused wide_interface false "body f {\nccas r9 16 nope 18446744073709551616\n}" 2 2
unfolding placed_lines words lines decode_pairs
lowest_code = refl

-- ---- limits

repetitions : IsRefused wide_interface false "repeat 1024 {\nrepeat 1024 {\n}\nrepeat 1025 {\n}\n}" 4 16
unfolding placed_lines words lines decode_pairs
repetitions = refl

stacks_of_workers : IsRefused wide_interface true "tworkers 3\nstack 1040" 0 17
unfolding placed_lines words lines decode_pairs
stacks_of_workers = refl

race_bytes : AreRefused wide_interface false (codes "race 1 0x10000 " ++ repeat 4096 (codes "00")
    ++ codes "\nrace 1 0x10000 00") 2 16
unfolding placed_lines words lines decode_pairs
race_bytes = refl

-- the act behind so many
acts : (s : Standing) (place hex : Word) → count_by is_act (lines_before s) ≡ 8192
    → is_one_too_many s (Poke place hex) ≡ true
acts s place hex e = rw e refl
