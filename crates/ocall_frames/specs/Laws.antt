-- What a frame may show: its stores, and the bytes that it depends on.
use Rattle.std.specs.Prelude.{◌≡◌, ◌≢◌, ℕ, true, List, [], ◌∷◌, length, Option, Some}
use Rattle.sgx_base.specs.Ranges.{IsInRange}
use Rattle.edl_interface.specs.declared.Function.{Function}
use Rattle.edl_interface.specs.declared.Param.{Param}
use Rattle.edl_interface.specs.Parameters.{is_in, is_out}
use Rattle.word_port.specs.declared.Kind.TheVariants.{Swap}
use Rattle.word_port.specs.Requests.{Request}
use Rattle.word_port.specs.Accesses.{word_at}
use Rattle.enclave_memory.specs.Arguments.{Argument, number, bytes}
use Rattle.ocall_frames.specs.Contents.{content_of}

-- a swap of the byte at an address in this range
abbrev pub IsStoreIn : ℕ → ℕ → Request → Type 0
IsStoreIn address count q = (q.kind ≡ Swap) × ((x : ℕ) × IsInRange address count x × (q.index ≡ word_at x))

-- two arguments of which a frame shows the same: one number; or buffers as long, with the same bytes where they are
-- copied in
abbrev pub IsShownAlike : Function → List ℕ → Param → Argument → Argument → Type 0
IsShownAlike f structure p (number m) (number n) = m ≡ n
IsShownAlike f structure p (bytes b) (bytes c) =
    (length (content_of f structure (p, bytes b)) ≡ length (content_of f structure (p, bytes c)))
    × (is_in p.class ≡ true → content_of f structure (p, bytes b) ≡ content_of f structure (p, bytes c))
IsShownAlike f structure p _ _ = ⊥

abbrev pub AreShownAlike : Function → List ℕ → List Param → List Argument → List Argument → Type 0
AreShownAlike f structure [] [] [] = Unit {0}
AreShownAlike f structure (p ∷ params) (a ∷ arguments) (b ∷ others) = IsShownAlike f structure p a b
    × AreShownAlike f structure params arguments others
AreShownAlike f structure _ _ _ = ⊥

-- the block of this number is handed over for none of these marshalled parameters that is copied back
abbrev pub IsNotCopiedBack : ℕ → List Param → List (Option ℕ) → Type 0
IsNotCopiedBack n (p ∷ params) (place ∷ places) = (is_out p.class ≡ true → place ≢ Some n) × IsNotCopiedBack n params places
IsNotCopiedBack n _ _ = Unit {0}
