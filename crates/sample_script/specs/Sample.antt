-- The script of a sample: many calls of one function, over buffers of many lengths.
use Rattle.std.specs.Prelude.{ℕ, zero, suc, ◌+◌, ◌*◌, ◌%◌, ◌^◌, List, [], ◌++◌, map, codes, decimal, false}
use Rattle.std.specs.List.{range_with_len}
use Rattle.std.specs.Fmt.{digits}
use Rattle.hex.specs.Hex.{encode_lower}

-- the number behind this one, in a row of numbers that begins with 1
abbrev pub next_number : ℕ → ℕ
next_number x = (x * 1103515245 + 12345) % 2 ^ 31

-- the first bytes of host memory
abbrev pub first_bytes : List ℕ
first_bytes = map (λ j. j % 256) (range_with_len 0 512)

-- a call with a buffer at this address, of this length
abbrev pub call_of : ℕ → ℕ → List ℕ
call_of address length = codes "call f(@0x" ++ digits 16 false address ++ codes ", " ++ decimal length ++ codes ")\n"

-- the call of this place, by its number
abbrev pub call_line : ℕ → ℕ → List ℕ
call_line place x = call_of (65536 + 64 * (place % 8)) (x % 65)

-- so many calls from a place on, behind a number
abbrev pub call_lines : ℕ → ℕ → ℕ → List ℕ
call_lines place x zero = []
call_lines place x (suc n) = call_line place (next_number x) ++ call_lines (place + 1) (next_number x) n

-- the lines before the calls
abbrev pub first_lines : List ℕ
first_lines =
    codes "bytes 0x10000 " ++ encode_lower first_bytes ++ codes "\nbody f {\nsum r0 buf\nreturn r0\n}\n"

-- a sample of so many calls
abbrev pub sample : ℕ → List ℕ
sample n = first_lines ++ call_lines 0 1 n
