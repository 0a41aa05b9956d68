-- A name tells its table.
use Rattle.std.proofs.Common.{ℕ, ◌≡◌, List, ap, drop, slice_index}
use Rattle.atomic_table.specs.Seated.{TableId}
use Rattle.shared_words.specs.Seats.{name_of}

abbrev table_named : List ℕ → TableId
table_named l = record { words = slice_index l 0; slots = slice_index l 1; views_name = slice_index l 2; atom = slice_index l 3; block = slice_index l 4; offset = slice_index l 5; slot_names = drop 6 l }

-- two tables of one name are one
pub same_table : (y z : TableId) → name_of y ≡ name_of z → y ≡ z
same_table y z e = ap table_named e
