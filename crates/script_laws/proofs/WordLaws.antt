-- The initial words of a script without fault: so many as its settings say, and host bytes are bytes.
use Rattle.std.proofs.Common.{arith, ℕ, ◌≡◌, ◌+◌, ◌*◌, ◌<◌, ◌^◌, Bool, List, [], ◌∷◌, ◌++◌, length, take, All, refl, sym, ap, subst, ◌∙◌, length-append, length-set, append_assoc}
use Rattle.std.specs.Prelude.{replicate, drop, fold, slice_set, if◌then◌else◌}
use Rattle.std.specs.List.{AllByRecursion}
use Rattle.std.proofs.lemmas.List.{drop_at, replicate_more, take_at, length-replicate}
use Rattle.std.proofs.lemmas.List.Elements.{All-append, All-replicate, All-set, All-weaker, All-nil, All-cons, All-head, All-tail}
use Rattle.edl_interface.specs.declared.Interface.{Interface}
use Rattle.call_script.specs.Line.{Line, Bytes, Cell}
use Rattle.call_script.specs.Block.{PlacedLine}
use Rattle.call_script.specs.Standing.{Standing, standings, lines_of}
use Rattle.call_script.specs.Arguments.{number_of, bytes_of}
use Rattle.call_script.specs.Meaning.{zeros, written, host_behind, cells_behind, index_of, settings, host_bytes, cell_words, initial_words}
use Rattle.call_script.specs.Sound.{IsByte, AreSoundWords}
use Rattle.script_laws.proofs.ArgumentLaws.{hex-are, number_of-word}
use Rattle.script_laws.proofs.FineLines.{IsFine}
use Rattle.script_laws.proofs.FineForms.{IsFineAs, along}

length-zeros : (n : ℕ) → length (zeros n) ≡ n
unfolding zeros
length-zeros n = length-replicate n 0

zeros-are : (P : ℕ → Type 0) (n : ℕ) → P 0 → All P (zeros n)
unfolding zeros
zeros-are P n h = All-replicate P n 0 h

zeros-more : (n : ℕ) → zeros n ++ 0 ∷ [] ≡ replicate (n + 1) 0
unfolding zeros
zeros-more n = replicate_more n 0

abbrev IsWord : ℕ → Type 0
IsWord w = w < 2 ^ 64

length-written : (host : List ℕ) (at : ℕ) (bytes : List ℕ) → length (written host at bytes) ≡ length host
length-written host at [] = refl
length-written host at (b ∷ bytes) = length-written (slice_set host at b) (at + 1) bytes ∙ length-set host at b

written-are : (host : List ℕ) (at : ℕ) (bytes : List ℕ) → All IsByte host → All IsByte bytes
    → All IsByte (written host at bytes)
written-are host at [] h g = h
written-are host at (b ∷ bytes) h g =
    written-are (slice_set host at b) (at + 1) bytes (All-set IsByte host at b (All-head IsByte b bytes g) h)
    (All-tail IsByte b bytes g)

-- ---- host bytes

abbrev WritesBytes : Line → Type 0
WritesBytes (Bytes address hex) = All IsByte (bytes_of hex)
WritesBytes _ = Unit {0}

line-writes : (i : Interface) (racing : Bool) (script : List PlacedLine) (s : Standing) (line : Line)
    → IsFineAs i racing script s line → WritesBytes line
line-writes i racing script s (Bytes address hex) fine = hex-are hex fine.rules.1.1.1.1.1.1.1.1.1.1.1.1.1.1.1.1.0
line-writes i racing script s line fine = tt

length-behind : (host : List ℕ) (line : Line) → length (host_behind host line) ≡ length host
length-behind host (Bytes address hex) = length-written host (index_of address) (bytes_of hex)
length-behind host line = refl

behind-are : (host : List ℕ) (line : Line) → WritesBytes line → All IsByte host → All IsByte (host_behind host line)
behind-are host (Bytes address hex) w h = written-are host (index_of address) (bytes_of hex) h w
behind-are host line w h = h

length-host : (host : List ℕ) (ls : List Line) → length (fold host_behind host ls) ≡ length host
length-host host [] = refl
length-host host (line ∷ ls) = length-host (host_behind host line) ls ∙ length-behind host line

host-are : (host : List ℕ) (ls : List Line) → AllByRecursion WritesBytes ls → All IsByte host
    → All IsByte (fold host_behind host ls)
host-are host [] w h = h
host-are host (line ∷ ls) w h = host-are (host_behind host line) ls w.1 (behind-are host line w.0 h)

-- ---- cells

length-cell : (cells : List ℕ) (line : Line) → length (cells_behind cells line) ≡ length cells
length-cell cells (Cell cell value) = length-set cells (number_of cell) (number_of value)
length-cell cells line = refl

cell-are : (cells : List ℕ) (line : Line) → All IsWord cells → All IsWord (cells_behind cells line)
cell-are cells (Cell cell value) h = All-set IsWord cells (number_of cell) (number_of value) (number_of-word value) h
cell-are cells line h = h

length-cells : (cells : List ℕ) (ls : List Line) → length (fold cells_behind cells ls) ≡ length cells
length-cells cells [] = refl
length-cells cells (line ∷ ls) = length-cells (cells_behind cells line) ls ∙ length-cell cells line

cells-are : (cells : List ℕ) (ls : List Line) → All IsWord cells → All IsWord (fold cells_behind cells ls)
cells-are cells [] h = h
cells-are cells (line ∷ ls) h = cells-are (cells_behind cells line) ls (cell-are cells line h)

-- ---- all words

module _ (i : Interface) (racing : Bool) (script : List PlacedLine)
    (fine : AllByRecursion (IsFine i racing script) (standings script)) where
  host-count : length (host_bytes i racing script) ≡ (settings i racing script).host
  host-count =
      length-host (zeros (settings i racing script).host) (lines_of script)
      ∙ length-zeros (settings i racing script).host

  cell-count : length (cell_words i racing script) ≡ (settings i racing script).cells
  cell-count =
      length-cells (zeros (settings i racing script).cells) (lines_of script)
      ∙ length-zeros (settings i racing script).cells

  bytes-are : All IsByte (host_bytes i racing script)
  bytes-are =
      host-are (zeros (settings i racing script).host) (lines_of script)
      (along i racing script WritesBytes (line-writes i racing script) [] script fine)
      (zeros-are IsByte (settings i racing script).host (omega arith))

  pub sound-words : AreSoundWords racing (settings i racing script) (initial_words i racing script)
  sound-words = record {
    count =
        let a = host-count in
        let b = cell-count in
        let c = length-zeros (if racing then 2 * (settings i racing script).slots else 0) in
        let d = length-append (host_bytes i racing script) (cell_words i racing script) in
        let e = length-append (host_bytes i racing script ++ cell_words i racing script)
        (zeros (if racing then 2 * (settings i racing script).slots else 0)) in
        let f = length-append (host_bytes i racing script ++ cell_words i racing script
        ++ zeros (if racing then 2 * (settings i racing script).slots else 0)) (0 ∷ []) in
        omega (arith, a, b, c, d, e, f);
    bytes = subst (All IsByte) (sym first) bytes-are;
    numbers =
        All-append IsWord _ _
        (All-append IsWord _ _
        (All-append IsWord _ _ (All-weaker IsByte IsWord (λ b h. omega arith) (host_bytes i racing script)
        bytes-are)
        (cells-are (zeros (settings i racing script).cells) (lines_of script)
        (zeros-are IsWord (settings i racing script).cells (omega arith))))
        (zeros-are IsWord (if racing then 2 * (settings i racing script).slots else 0) (omega arith)))
        (All-cons IsWord 0 [] (omega arith) (All-nil IsWord));
    free = rest;
  }
    where
      tail : List ℕ
      tail = zeros (if racing then 2 * (settings i racing script).slots else 0)

      first : take (settings i racing script).host (initial_words i racing script) ≡ host_bytes i racing script
      first =
          ap (take (settings i racing script).host) (append_assoc (host_bytes i racing script
          ++ cell_words i racing script) tail (0 ∷ [])
          ∙ append_assoc (host_bytes i racing script) (cell_words i racing script) (tail ++ 0 ∷ []))
          ∙ take_at (host_bytes i racing script) (cell_words i racing script ++ (tail ++ 0 ∷ []))
          (settings i racing script).host host-count

      front-count : length (host_bytes i racing script ++ cell_words i racing script) ≡ (settings i racing script).host
          + (settings i racing script).cells
      front-count =
          let a = host-count in let b = cell-count in
          let c = length-append (host_bytes i racing script) (cell_words i racing script) in omega arith

      rest : drop ((settings i racing script).host + (settings i racing script).cells) (initial_words i racing script)
          ≡ replicate ((if racing then 2 * (settings i racing script).slots else 0) + 1) 0
      rest =
          ap (drop ((settings i racing script).host + (settings i racing script).cells))
          (append_assoc (host_bytes i racing script ++ cell_words i racing script) tail (0 ∷ []))
          ∙ drop_at (host_bytes i racing script ++ cell_words i racing script) (tail ++ 0
          ∷ []) ((settings i racing script).host + (settings i racing script).cells) front-count
          ∙ zeros-more (if racing then 2 * (settings i racing script).slots else 0)
