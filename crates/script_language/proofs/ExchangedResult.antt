-- What becomes of a fault where two lines change places that have faults of their own.
use Rattle.std.proofs.Common.{arith, ℕ, ◌≡◌, ◌+◌, true, false, eqb-true, eq-eqb, Option, Some, None, refl, sym, ap}
use Rattle.std.specs.Prelude.{Result, Err, ◌==◌, option_map, if◌then◌else◌}
use Rattle.call_script.specs.declared.Script.{Script}
use Rattle.call_script.specs.Parser.{or_else}
use Rattle.call_script.specs.Faults.{Fault, Row, fault_of}
use Rattle.call_script.specs.Reading.{unless_fault}
use Rattle.script_laws.proofs.FirstFault.{not_number}
use Rattle.script_language.specs.Said.{exchanged_line, exchanged, is_refused_at}

-- a line that is neither this one nor the next
abbrev pub IsApart : ℕ → ℕ → Type 0
IsApart n m = (m ≡ n → ⊥) × (m ≡ n + 1 → ⊥)

abbrev pub IsElsewhere : ℕ → Option Fault → Type 0
IsElsewhere n o = (found : Fault) → o ≡ Some found → IsApart n found.line

pub either-elsewhere : (n : ℕ) (a b : Option Fault) → IsElsewhere n a → IsElsewhere n b → IsElsewhere n (or_else a b)
either-elsewhere n None b h k = k
either-elsewhere n (Some f) b h k = h

module _ (n : ℕ) where
  itself : (n == n) ≡ true
  itself = eq-eqb n n refl

  next : (n + 1 == n) ≡ false
  next = not_number (n + 1) n (λ e. absurd (omega arith))

  stays : (m : ℕ) → IsApart n m → exchanged_line n m ≡ m
  stays m h = rw (not_number m n h.0, not_number m (n + 1) h.1) refl

  forth : exchanged_line n n ≡ n + 1
  forth = rw itself refl

  back : exchanged_line n (n + 1) ≡ n
  back = rw (next, eq-eqb (n + 1) (n + 1) refl) refl

  abbrev refused : ℕ → Fault → Result Script Fault
  refused m f = Err (record { line = m; code = f.code })

  -- the first fault, where these are those before the two lines, of the one, of the other, and of all else
  abbrev pub first_fault : Option Fault → Option Row → Option Row → Option Fault → Option Fault
  first_fault before one two rest =
      or_else before (or_else (option_map (fault_of n) one) (or_else (option_map (fault_of (n + 1)) two) rest))

  pub fault-kept : (before rest : Option Fault) (one two : Option Row) (s : Script) → IsElsewhere n before
      → IsElsewhere n rest → is_refused_at n (unless_fault (first_fault before one two rest) s) ≡ false
      → unless_fault (first_fault before two one rest) s
      ≡ exchanged n (unless_fault (first_fault before one two rest) s)
  fault-kept (Some f) rest one two s h k e = ap (λ m. refused m f) (sym (stays f.line (h f refl)))
  fault-kept None rest (Some r) two s h k e = let same = itself in absurd cc
  fault-kept None rest None (Some r) s h k e = ap (λ m. refused m (fault_of n r)) (sym back)
  fault-kept None (Some f) None None s h k e = ap (λ m. refused m f) (sym (stays f.line (k f refl)))
  fault-kept None None None None s h k e = refl

  pub fault-taken : (before rest other : Option Fault) (one two : Option Row) (s t : Script) → IsElsewhere n before
      → IsElsewhere n rest → IsElsewhere n other
      → is_refused_at n (unless_fault (first_fault before one two rest) s) ≡ true
      → unless_fault (first_fault before two one rest) s
      ≡ (if is_refused_at n (unless_fault (or_else before (or_else (option_map (fault_of n) two) other)) t)
      then unless_fault (or_else before (or_else (option_map (fault_of n) two) other)) t
      else exchanged n (unless_fault (first_fault before one two rest) s))
  fault-taken (Some f) rest other one two s t h k l e = absurd ((h f refl).0 (eqb-true f.line n e))
  fault-taken None rest other (Some r) (Some q) s t h k l e = rw itself refl
  fault-taken None rest None (Some r) None s t h k l e = ap (λ m. refused m (fault_of n r)) (sym forth)
  fault-taken None rest (Some f) (Some r) None s t h k l e =
      rw (not_number f.line n (l f refl).0) (ap (λ m. refused m (fault_of n r)) (sym forth))
  fault-taken None rest other None (Some r) s t h k l e = let other_line = next in absurd cc
  fault-taken None (Some f) other None None s t h k l e = absurd ((k f refl).0 (eqb-true f.line n e))
  fault-taken None None other None None s t h k l e = absurd cc
