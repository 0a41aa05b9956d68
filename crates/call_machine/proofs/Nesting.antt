-- What ECALLs and OCALLs do, by how many more entries fit the call stack.
use Rattle.std.proofs.Common.{ℕ, zero, suc, ◌-◌, ◌≡◌, ◌<◌, List, length, refl, ap, arith}
use Rattle.call_machine.specs.declared.Machine.{Machine}
use Rattle.call_machine.specs.Context.{Context, context_in_ecall}
use Rattle.call_machine.specs.Ecall.{ecall_by}
use Rattle.call_machine.specs.Thread.{ecalls_to, ocalls_to, entry_ocalls, body_ocalls}

-- an ECALL's OCALLs are those that are counted beside it
pub ecalls_are : (m : Machine) (n : ℕ) → ecalls_to m n ≡ ecall_by m (ocalls_to m n)
ecalls_are m zero = refl
ecalls_are m (suc n) = refl

one_less : (n : ℕ) → n < 16 → 16 - n ≡ suc (16 - suc n)
one_less n h = omega arith

-- the OCALLs of an ECALL that is entered are those of its body
pub inner_ocalls : (m : Machine) (cx : Context) (ordinal room : ℕ) → length cx.stack < 16 → entry_ocalls m cx ≡ body_ocalls m (context_in_ecall cx ordinal room)
inner_ocalls m cx ordinal room h = ap (λ n. ocalls_to m n) (one_less (length cx.stack) h)
