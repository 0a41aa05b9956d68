-- The decimal text of a number of any size.
use Rattle.std.specs.Prelude.{ℕ, ◌+◌, ◌==◌, if◌then◌else◌, List, map, reverse, Option, codes}
use Rattle.std.specs.Int.Digits.{digits_of}
use Rattle.edl_layout.specs.Shape.{elements}

-- the digits of a number, the last first, and none of 0
unfoldable pub low_digits : ℕ → List ℕ
low_digits n = reverse (digits_of 10 n)

-- the digits of a number as bytes, and none of 0
unfoldable pub digit_bytes : ℕ → List ℕ
digit_bytes n = map (λ d. 48 + d) (digits_of 10 n)

abbrev pub decimal_text : ℕ → List ℕ
decimal_text n = if n == 0 then codes "0" else digit_bytes n

-- the number of elements of an array
abbrev pub product_text : List (Option ℕ) → List ℕ
product_text dims = decimal_text (elements dims)
