-- The bytes that hexadecimal digits spell, by their count.
use Rattle.std.proofs.Common.{◌≡◌, ◌/◌, true, false, length, Option, Some, None, refl}
use Rattle.call_script.specs.Spelling.{Word, is_bad_hex, spelled_bytes}
use Rattle.call_script.specs.Arguments.{bytes_of}
use Rattle.script_values.proofs.HexLaws.{byte_count}

pub counted : (w : Word) → is_bad_hex w ≡ false → length (bytes_of w) ≡ length w / 2
counted w e = byte_count w e

pub none_spelled : (w : Word) → is_bad_hex w ≡ true → length (bytes_of w) ≡ 0
none_spelled w e = go (spelled_bytes w) refl
  where
    go : (o : Option Word) → spelled_bytes w ≡ o → length (bytes_of w) ≡ 0
    go None h = rw h refl
    go (Some bytes) h = let z = rw h at e in absurd cc
