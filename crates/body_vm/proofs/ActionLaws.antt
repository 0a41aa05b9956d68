-- What holds of every action and of every body.
use Rattle.std.proofs.Common.{ℕ, zero, suc, ◌≡◌, ◌≢◌, ◌<◌, ◌≤◌, ◌+◌, ◌-◌, ◌*◌, ◌%◌, ◌^◌, ◌==◌, if◌then◌else◌, nat_le, Bool, true, false, List, [], ◌∷◌, length, replicate, drop, Option, Some, None, option_map, unwrap_or, slice_get, slice_set, refl, ap, sym, ◌∙◌, arith}
use Rattle.std.proofs.lemmas.List.{length-set, length-replicate, get_or_past, set_past}
use Rattle.std.proofs.Math.Dec.{eqb-suc-zero}
use Rattle.sgx_base.specs.Bytes.{rounded_size}
use Rattle.body_vm.specs.declared.Operand.{Operand}
use Rattle.body_vm.specs.declared.Action.{Action}
use Rattle.body_vm.specs.declared.Action.TheVariants.{Set, Add, Sub, Mul, And, Or, Xor, Len, Sum, Get, Put, Fill, Copy, Temp, Cload, Cswap, Cadd, Ccas, Ocall, Skipz, Skipnz, Return}
use Rattle.body_vm.specs.State.{State, operand, register, block, with_new_block, overlay}
use Rattle.body_vm.specs.Execution.{Execution, returned, on_cell, on_ocall, execution_from, execution, first_state}
use Rattle.body_vm.specs.Steps.{computed, changed, block_length, AsksAtMost}
use Rattle.body_vm.proofs.PlaceLaws.{get_set_other}
use Rattle.body_vm.proofs.SkipLaws.{skip_is_drop}
use Rattle.body_vm.proofs.StepLaws.{some_is}
use Rattle.body_vm.proofs.WriteLaws.{length_overlay}

-- a length after a change that keeps it
set_length : (bs : List (Option (List ℕ))) (place other : ℕ) (change : List ℕ → List ℕ) → ((bytes : List ℕ) → length (change bytes) ≡ length bytes)
    → option_map (λ (b : List ℕ). length b) (unwrap_or (slice_get (slice_set bs place (option_map change (unwrap_or (slice_get bs place) None))) other) None) ≡ option_map (λ (b : List ℕ). length b) (unwrap_or (slice_get bs other) None)
set_length [] place other change h = refl
set_length (None ∷ bs) zero zero change h = refl
set_length (Some b ∷ bs) zero zero change h = ap (λ n. Some n) (h b)
set_length (b ∷ bs) zero (suc other) change h = refl
set_length (b ∷ bs) (suc place) zero change h = refl
set_length (b ∷ bs) (suc place) (suc other) change h = set_length bs place other change h

-- a change that leaves the bytes leaves the state
set_nothing : (bs : List (Option (List ℕ))) (place : ℕ) (change : List ℕ → List ℕ) → change (unwrap_or (unwrap_or (slice_get bs place) None) []) ≡ unwrap_or (unwrap_or (slice_get bs place) None) []
    → slice_set bs place (option_map change (unwrap_or (slice_get bs place) None)) ≡ bs
set_nothing [] place change h = refl
set_nothing (None ∷ bs) zero change h = refl
set_nothing (Some b ∷ bs) zero change h = ap (λ x. Some x ∷ bs) h
set_nothing (b ∷ bs) (suc place) change h = ap (λ xs. b ∷ xs) (set_nothing bs place change h)

-- another place of a new block keeps its length
new_length : (s : State) (b n place : ℕ) → place ≢ b → block_length (with_new_block s b n) place ≡ block_length s place
new_length s b n place h = by_room (nat_le (rounded_size n) s.room)
  where
    by_room : (fits : Bool)
        → block_length (if fits then record s { blocks = slice_set s.blocks b (Some (replicate n 0)); room = s.room - rounded_size n } else record s { blocks = slice_set s.blocks b None }) place ≡ block_length s place
    by_room true = ap (λ (x : Option (Option (List ℕ))). option_map (λ (bytes : List ℕ). length bytes) (unwrap_or x None)) (get_set_other s.blocks b place (Some (replicate n 0)) h)
    by_room false = ap (λ (x : Option (Option (List ℕ))). option_map (λ (bytes : List ℕ). length bytes) (unwrap_or x None)) (get_set_other s.blocks b place None h)

new_others : (s : State) (b n other : ℕ) → other ≢ b → slice_get (with_new_block s b n).blocks other ≡ slice_get s.blocks other
new_others s b n other h = by_room (nat_le (rounded_size n) s.room)
  where
    by_room : (fits : Bool)
        → slice_get (if fits then record s { blocks = slice_set s.blocks b (Some (replicate n 0)); room = s.room - rounded_size n } else record s { blocks = slice_set s.blocks b None }).blocks other ≡ slice_get s.blocks other
    by_room true = get_set_other s.blocks b other (Some (replicate n 0)) h
    by_room false = get_set_other s.blocks b other None h

new_registers : (s : State) (b n : ℕ) → (with_new_block s b n).registers ≡ s.registers
new_registers s b n = by_room (nat_le (rounded_size n) s.room)
  where
    by_room : (fits : Bool)
        → (if fits then record s { blocks = slice_set s.blocks b (Some (replicate n 0)); room = s.room - rounded_size n } else record s { blocks = slice_set s.blocks b None }).registers ≡ s.registers
    by_room true = refl
    by_room false = refl

pub lengths_stay : (s : State) (action : Action) (place : ℕ) → ((n : ℕ) → action ≢ Temp place n) → block_length (changed s action) place ≡ block_length s place
lengths_stay s (Set r v) place h = refl
lengths_stay s (Add r v) place h = refl
lengths_stay s (Sub r v) place h = refl
lengths_stay s (Mul r v) place h = refl
lengths_stay s (And r v) place h = refl
lengths_stay s (Or r v) place h = refl
lengths_stay s (Xor r v) place h = refl
lengths_stay s (Len r b) place h = refl
lengths_stay s (Sum r b) place h = refl
lengths_stay s (Get r b v) place h = refl
lengths_stay s (Put b v w) place h = set_length s.blocks b place (λ bytes. slice_set bytes (operand s v) (operand s w % 256)) (λ bytes. length-set bytes (operand s v) (operand s w % 256))
lengths_stay s (Fill b v) place h = set_length s.blocks b place (λ bytes. replicate (length bytes) (operand s v % 256)) (λ bytes. length-replicate (length bytes) (operand s v % 256))
lengths_stay s (Copy b c) place h = set_length s.blocks b place (λ bytes. overlay bytes (block s c)) (λ bytes. length_overlay bytes (block s c))
lengths_stay s (Temp b n) place h = new_length s b n place (λ same. h n (ap (λ i. Temp i n) (sym same)))
lengths_stay s (Cload r cell) place h = refl
lengths_stay s (Cswap r cell v) place h = refl
lengths_stay s (Cadd r cell v) place h = refl
lengths_stay s (Ccas r cell v w) place h = refl
lengths_stay s (Ocall ret status ordinal args) place h = refl
lengths_stay s (Skipz r n) place h = refl
lengths_stay s (Skipnz r n) place h = refl
lengths_stay s (Return v) place h = refl

pub one_place : (s : State) (action : Action) → (place : ℕ) × ((other : ℕ) → other ≢ place → slice_get (changed s action).blocks other ≡ slice_get s.blocks other)
one_place s (Set r v) = (0, λ other h. refl)
one_place s (Add r v) = (0, λ other h. refl)
one_place s (Sub r v) = (0, λ other h. refl)
one_place s (Mul r v) = (0, λ other h. refl)
one_place s (And r v) = (0, λ other h. refl)
one_place s (Or r v) = (0, λ other h. refl)
one_place s (Xor r v) = (0, λ other h. refl)
one_place s (Len r b) = (0, λ other h. refl)
one_place s (Sum r b) = (0, λ other h. refl)
one_place s (Get r b v) = (0, λ other h. refl)
one_place s (Put b v w) = (b, λ other h. get_set_other s.blocks b other _ h)
one_place s (Fill b v) = (b, λ other h. get_set_other s.blocks b other _ h)
one_place s (Copy b c) = (b, λ other h. get_set_other s.blocks b other _ h)
one_place s (Temp b n) = (b, λ other h. new_others s b n other h)
one_place s (Cload r cell) = (0, λ other h. refl)
one_place s (Cswap r cell v) = (0, λ other h. refl)
one_place s (Cadd r cell v) = (0, λ other h. refl)
one_place s (Ccas r cell v w) = (0, λ other h. refl)
one_place s (Ocall ret status ordinal args) = (0, λ other h. refl)
one_place s (Skipz r n) = (0, λ other h. refl)
one_place s (Skipnz r n) = (0, λ other h. refl)
one_place s (Return v) = (0, λ other h. refl)

pub registers_stay : (s : State) (action : Action) → (changed s action).registers ≡ s.registers
registers_stay s (Set r v) = refl
registers_stay s (Add r v) = refl
registers_stay s (Sub r v) = refl
registers_stay s (Mul r v) = refl
registers_stay s (And r v) = refl
registers_stay s (Or r v) = refl
registers_stay s (Xor r v) = refl
registers_stay s (Len r b) = refl
registers_stay s (Sum r b) = refl
registers_stay s (Get r b v) = refl
registers_stay s (Put b v w) = refl
registers_stay s (Fill b v) = refl
registers_stay s (Copy b c) = refl
registers_stay s (Temp b n) = new_registers s b n
registers_stay s (Cload r cell) = refl
registers_stay s (Cswap r cell v) = refl
registers_stay s (Cadd r cell v) = refl
registers_stay s (Ccas r cell v w) = refl
registers_stay s (Ocall ret status ordinal args) = refl
registers_stay s (Skipz r n) = refl
registers_stay s (Skipnz r n) = refl
registers_stay s (Return v) = refl

pub read_past : (s : State) (r b : ℕ) (v : Operand) → length (block s b) ≤ operand s v → computed s (Get r b v) ≡ Some (r, 0)
read_past s r b v h = ap (λ n. Some (r, n)) (get_or_past (block s b) (operand s v) 0 h)

pub write_past : (s : State) (b : ℕ) (v w : Operand) → length (block s b) ≤ operand s v → changed s (Put b v w) ≡ s
write_past s b v w h =
    ap (λ bs. record s { blocks = bs }) (set_nothing s.blocks b (λ bytes. slice_set bytes (operand s v) (operand s w % 256)) (set_past (block s b) (operand s v) (operand s w % 256) h))

some_number : (r n m : ℕ) → ◌≡◌ {A = Option (ℕ × ℕ)} (Some (r, n)) (Some (r, m)) → n ≡ m
some_number r n m e = ap (λ (p : ℕ × ℕ). p.1) (some_is (r, n) (r, m) e)

pub sum_is : (s : State) (r n : ℕ) (v : Operand) → computed s (Add r v) ≡ Some (r, n) → (n < 2 ^ 64) × (n ≡ (register s r + operand s v) % 2 ^ 64)
sum_is s r n v e = let f : (register s r + operand s v) % 2 ^ 64 ≡ n = some_number r _ n e in (omega (arith, f), sym f)

pub product_is : (s : State) (r n : ℕ) (v : Operand) → computed s (Mul r v) ≡ Some (r, n) → (n < 2 ^ 64) × (n ≡ (register s r * operand s v) % 2 ^ 64)
product_is s r n v e = let f : (register s r * operand s v) % 2 ^ 64 ≡ n = some_number r _ n e in (omega (arith, f), sym f)

back : (a b n : ℕ) → a < 18446744073709551616 → b < 18446744073709551616 → (a + 18446744073709551616 - b) % 18446744073709551616 ≡ n → (n < 18446744073709551616) × ((n + b) % 18446744073709551616 ≡ a)
back a b n h i e = (omega (arith, e), omega (arith, h, i, e))

pub difference_is : (s : State) (r n : ℕ) (v : Operand) → register s r < 2 ^ 64 → operand s v < 2 ^ 64 → computed s (Sub r v) ≡ Some (r, n) → (n < 2 ^ 64) × ((n + operand s v) % 2 ^ 64 ≡ register s r)
difference_is s r n v h i e = back (register s r) (operand s v) n h i (some_number r _ n e)

-- one more is allowed too
more : (n : ℕ) (e : Execution) → AsksAtMost n e → AsksAtMost (suc n) e
more n (returned value blocks) h = tt
more zero (on_cell request next) h = absurd h
more (suc n) (on_cell request next) h = λ old. more n (next old) (h old)
more zero (on_ocall request next) h = absurd h
more (suc n) (on_ocall request next) h = λ answer. more n (next answer) (h answer)

asks : (s : State) (skip : ℕ) (actions : List Action) → AsksAtMost (length actions) (execution_from s skip actions)
asks s skip [] = tt
asks s (suc skip) (action ∷ rest) = more (length rest) (execution_from s skip rest) (asks s skip rest)
asks s zero (Set r v ∷ rest) = more (length rest) _ (asks _ zero rest)
asks s zero (Add r v ∷ rest) = more (length rest) _ (asks _ zero rest)
asks s zero (Sub r v ∷ rest) = more (length rest) _ (asks _ zero rest)
asks s zero (Mul r v ∷ rest) = more (length rest) _ (asks _ zero rest)
asks s zero (And r v ∷ rest) = more (length rest) _ (asks _ zero rest)
asks s zero (Or r v ∷ rest) = more (length rest) _ (asks _ zero rest)
asks s zero (Xor r v ∷ rest) = more (length rest) _ (asks _ zero rest)
asks s zero (Len r b ∷ rest) = more (length rest) _ (asks _ zero rest)
asks s zero (Sum r b ∷ rest) = more (length rest) _ (asks _ zero rest)
asks s zero (Get r b v ∷ rest) = more (length rest) _ (asks _ zero rest)
asks s zero (Put b v w ∷ rest) = more (length rest) _ (asks _ zero rest)
asks s zero (Fill b v ∷ rest) = more (length rest) _ (asks _ zero rest)
asks s zero (Copy b c ∷ rest) = more (length rest) _ (asks _ zero rest)
asks s zero (Temp b n ∷ rest) = more (length rest) _ (asks _ zero rest)
asks s zero (Cload r cell ∷ rest) = λ old. asks _ zero rest
asks s zero (Cswap r cell v ∷ rest) = λ old. asks _ zero rest
asks s zero (Cadd r cell v ∷ rest) = λ old. asks _ zero rest
asks s zero (Ccas r cell v w ∷ rest) = λ old. asks _ zero rest
asks s zero (Ocall ret status ordinal args ∷ rest) = λ old. asks _ zero rest
asks s zero (Skipz r n ∷ rest) = more (length rest) _ (asks s _ rest)
asks s zero (Skipnz r n ∷ rest) = more (length rest) _ (asks s _ rest)
asks s zero (Return v ∷ rest) = tt

pub asks_at_most : (actions : List Action) (values : List ℕ) (blocks : List (Option (List ℕ))) (room : ℕ) → AsksAtMost (length actions) (execution actions values blocks room)
unfolding execution
asks_at_most actions values blocks room = asks (first_state values blocks room) zero actions

pub skips_at_zero : (s : State) (r n : ℕ) (rest : List Action) → register s r ≡ 0 → execution_from s zero (Skipz r n ∷ rest) ≡ execution_from s zero (drop n rest)
skips_at_zero s r n rest e = ap (λ (x : ℕ). execution_from s (if x == 0 then n else 0) rest) e ∙ skip_is_drop s n rest

pub stays_at_zero : (s : State) (r n : ℕ) (rest : List Action) → register s r ≡ 0 → execution_from s zero (Skipnz r n ∷ rest) ≡ execution_from s zero rest
stays_at_zero s r n rest e = ap (λ (x : ℕ). execution_from s (if x == 0 then 0 else n) rest) e

not_zero : (x : ℕ) → 0 < x → (x == 0) ≡ false
not_zero zero h = absurd (omega (arith, h))
not_zero (suc x) h = eqb-suc-zero x

pub skips_at_more : (s : State) (r n : ℕ) (rest : List Action) → 0 < register s r → execution_from s zero (Skipnz r n ∷ rest) ≡ execution_from s zero (drop n rest)
skips_at_more s r n rest h = ap (λ (b : Bool). execution_from s (if b then 0 else n) rest) (not_zero (register s r) h) ∙ skip_is_drop s n rest

pub stays_at_more : (s : State) (r n : ℕ) (rest : List Action) → 0 < register s r → execution_from s zero (Skipz r n ∷ rest) ≡ execution_from s zero rest
stays_at_more s r n rest h = ap (λ (b : Bool). execution_from s (if b then n else 0) rest) (not_zero (register s r) h)
