-- Bytes that are written one after another.
use Rattle.std.proofs.Common.{arith, ℕ, ◌*◌, ◌++◌, Bool, ◌≡◌, ◌+◌, ◌≤◌, List, [], ◌∷◌, length, refl, ap, ◌∙◌}
use Rattle.std.specs.Prelude.{fold, if◌then◌else◌}
use Rattle.std.proofs.lemmas.List.{set_past}
use Rattle.call_script.specs.Meaning.{zeros, written, host_behind, cells_behind}
use Rattle.call_script.specs.declared.Settings.{Settings}
use Rattle.call_script.specs.Line.{Line}
use Rattle.script_value.specs.Initial.{words_of}

-- nothing is written behind the end
pub written_past : (host : List ℕ) (at : ℕ) (bytes : List ℕ) → length host ≤ at → written host at bytes ≡ host
written_past host at [] h = refl
written_past host at (b ∷ bytes) h =
    ap (λ xs. written xs (at + 1) bytes) (set_past host at b h) ∙ written_past host (at + 1) bytes (omega arith)

-- the parts, one behind another
pub all_words : (racing : Bool) (settings : Settings) (lines : List Line) (host cells slots one two three : List ℕ) (count : ℕ)
    → host ≡ fold host_behind (zeros settings.host) lines → cells ≡ fold cells_behind (zeros settings.cells) lines
    → count ≡ (if racing then 2 * settings.slots else 0) → slots ≡ zeros count → one ≡ host ++ cells
    → two ≡ one ++ slots → three ≡ two ++ 0 ∷ [] → three ≡ words_of racing settings lines
unfolding words_of
all_words racing settings lines host cells slots one two three count a b c d e f g = rw (g, f, e, d, c, b, a) refl
