-- Laws of texts in memory.
use Rattle.std.proofs.Common.{ℕ, zero, suc, ◌+◌, ◌-◌, ◌*◌, ◌/◌, ◌%◌, ◌<◌, ◌≤◌, ◌≡◌, Bool, true, false, cond, not, nat_lt, if◌then◌else◌, List, [], ◌++◌, length, take, drop, get_or, replicate, Some, None, Ok, Err, refl, ap, sym, ◌∙◌, subst, arith, slice_set, option_map, inl, inr, length-append}
use Rattle.std.specs.List.{position_or_len}
use Rattle.std.proofs.Math.Nat.{mul-le-mul_right, div-mul-le_self, mod-eq_of_lt}
use borrow.Author.Count.{below_more}
use Rattle.std.proofs.lemmas.Bool.{cases_lt}
use Rattle.std.proofs.lemmas.List.{drop-drop, length-replicate, length-take-le}
use Rattle.std.proofs.lemmas.List.Sums.{position_or_len_is}
use Rattle.sgx_base.specs.Bytes.{is_divisible}
use Rattle.sgx_base.specs.Texts.{units, is_zero_unit, terminated_length, terminated_text, has_early_end}
use Rattle.sgx_base.specs.Rows.{first_row}
use Rattle.sgx_base.specs.declared.TheConstants.Status.{UNEXPECTED}
use Rattle.enclave_memory.specs.declared.Block.{Block}
use Rattle.enclave_memory.specs.Memory.{Memory, IsBlock, IsPush}
use Rattle.enclave_memory.proofs.Blocks.{same_bytes, written_block, pushed_block, push_written}
use Rattle.word_port.specs.Port.{PortState}
use Rattle.word_port.specs.Runs.{Makes}
use Rattle.call_copy.specs.declared.Shape.{Shape}
use Rattle.call_copy.specs.Copies.{block_rows, first_bytes, checked_bytes, copy_in}
use Rattle.call_copy.proofs.CopyLaws.{copied_all}

-- a unit of a text
abbrev pub unit_at : ℕ → List ℕ → ℕ → List ℕ
unit_at unit bytes k = take unit (drop (k * unit) bytes)

length-units : (unit n : ℕ) (bytes : List ℕ) → length (units unit n bytes) ≡ n
length-units unit zero bytes = refl
length-units unit (suc n) bytes = ap (λ k. suc k) (length-units unit n (drop unit bytes))

get-units : (unit n k : ℕ) (bytes d : List ℕ) → k < n → get_or (units unit n bytes) k d ≡ unit_at unit bytes k
get-units unit zero k bytes d h = absurd (omega (arith, h))
get-units unit (suc n) zero bytes d h = let z : 0 ≡ zero * unit = omega arith in ap (λ i. take unit (drop i bytes)) z
get-units unit (suc n) (suc k) bytes d h =
    let w : k < n = omega (arith, h) in
    let e : unit + k * unit ≡ suc k * unit = omega arith in
    get-units unit n k (drop unit bytes) d w ∙ ap (λ l. take unit l) (drop-drop (k * unit) unit bytes) ∙ ap (λ i. take unit (drop i bytes)) e

lt_true : (a b : ℕ) → a < b → nat_lt a b ≡ true
lt_true a b h = grind arith

lt_false : (a b : ℕ) → b ≤ a → nat_lt a b ≡ false
lt_false a b h = grind arith

-- a unit lies within the text
pub unit_within : (unit k n : ℕ) → k < n / unit → k * unit + unit ≤ n
unit_within unit k n h =
    let a : k + 1 ≤ n / unit = omega (arith, h) in
    let b : (k + 1) * unit ≤ (n / unit) * unit = mul-le-mul_right unit a in
    let c : (n / unit) * unit ≤ n = div-mul-le_self n unit in
    omega (arith, b, c)

-- no unit before this place is 0
pub record NoneBefore (unit : ℕ) (bytes : List ℕ) (k : ℕ) : Type 0 where
  pub none : (j : ℕ) → j < k → is_zero_unit (unit_at unit bytes j) ≡ false

pub none_first : (unit : ℕ) (bytes : List ℕ) → NoneBefore unit bytes 0
none_first unit bytes = record { none = λ j h. absurd (omega (arith, h)) }

pub none_more : (unit : ℕ) (bytes : List ℕ) (k : ℕ) → NoneBefore unit bytes k → is_zero_unit (unit_at unit bytes k) ≡ false → NoneBefore unit bytes (k + 1)
none_more unit bytes k p h = record { none = below_more (λ j. is_zero_unit (unit_at unit bytes j) ≡ false) k p.none h }

pub text_found : (unit k : ℕ) (bytes : List ℕ) → k < length bytes / unit → NoneBefore unit bytes k → is_zero_unit (unit_at unit bytes k) ≡ true
    → terminated_length unit bytes ≡ Some ((k + 1) * unit)
text_found unit k bytes h none here =
    let l : length (units unit (length bytes / unit) bytes) ≡ length bytes / unit = length-units unit (length bytes / unit) bytes in
    let m : k ≤ length (units unit (length bytes / unit) bytes) = omega (arith, l, h) in
    let p : position_or_len is_zero_unit (units unit (length bytes / unit) bytes) ≡ k =
    position_or_len_is is_zero_unit (units unit (length bytes / unit) bytes) k [] m
    (λ j w. (let v : j < length bytes / unit = omega (arith, w, h) in ap (λ u. is_zero_unit u) (get-units unit (length bytes / unit) j bytes [] v) ∙ none.none j w))
    (λ w. ap (λ u. is_zero_unit u) (get-units unit (length bytes / unit) k bytes [] h) ∙ here) in
    let w : position_or_len is_zero_unit (units unit (length bytes / unit) bytes) < length (units unit (length bytes / unit) bytes) = omega (arith, p, l, h) in
    let t : nat_lt (position_or_len is_zero_unit (units unit (length bytes / unit) bytes)) (length (units unit (length bytes / unit) bytes)) ≡ true = lt_true _ _ w in
    ap (λ b. option_map (λ i. (i + 1) * unit) (cond b (Some (position_or_len is_zero_unit (units unit (length bytes / unit) bytes))) None)) t ∙ ap (λ i. Some ((i + 1) * unit)) p

pub text_none : (unit k : ℕ) (bytes : List ℕ) → length bytes / unit ≤ k → NoneBefore unit bytes k → terminated_length unit bytes ≡ None
text_none unit k bytes h none =
    let l : length (units unit (length bytes / unit) bytes) ≡ length bytes / unit = length-units unit (length bytes / unit) bytes in
    let m : length bytes / unit ≤ length (units unit (length bytes / unit) bytes) = omega (arith, l) in
    let p : position_or_len is_zero_unit (units unit (length bytes / unit) bytes) ≡ length bytes / unit =
    position_or_len_is is_zero_unit (units unit (length bytes / unit) bytes) (length bytes / unit) [] m
    (λ j w. (let v : j < k = omega (arith, w, h) in ap (λ u. is_zero_unit u) (get-units unit (length bytes / unit) j bytes [] w) ∙ none.none j v))
    (λ w. absurd (omega (arith, w, l))) in
    let w : length (units unit (length bytes / unit) bytes) ≤ position_or_len is_zero_unit (units unit (length bytes / unit) bytes) = omega (arith, p, l) in
    let t : nat_lt (position_or_len is_zero_unit (units unit (length bytes / unit) bytes)) (length (units unit (length bytes / unit) bytes)) ≡ false = lt_false _ _ w in
    ap (λ b. option_map (λ i. (i + 1) * unit) (cond b (Some (position_or_len is_zero_unit (units unit (length bytes / unit) bytes))) None)) t

-- the last unit set to 0 keeps the length
pub length-text : (unit : ℕ) (bytes : List ℕ) → unit ≤ length bytes → length (terminated_text unit bytes) ≡ length bytes
length-text unit bytes h =
    let k : length bytes - unit ≤ length bytes = omega arith in
    let a : length (take (length bytes - unit) bytes) ≡ length bytes - unit = length-take-le (length bytes - unit) bytes k in
    let b : length {A = ℕ} (replicate unit 0) ≡ unit = length-replicate unit 0 in
    let c : length (terminated_text unit bytes) ≡ length (take (length bytes - unit) bytes) + length {A = ℕ} (replicate unit 0) = length-append (take (length bytes - unit) bytes) (replicate unit 0) in
    omega (arith, a, b, c, h)

-- zeros from the last unit on are the last unit set to 0
pub text_set : (unit n : ℕ) (bytes : List ℕ) → n ≡ length bytes → unit ≤ n → take (n - unit) bytes ++ replicate (n - (n - unit)) 0 ≡ terminated_text unit bytes
text_set unit n bytes e h =
    let a : n - unit ≡ length bytes - unit = omega (arith, e) in
    let b : n - (n - unit) ≡ unit = omega (arith, h) in
    ap (λ k. take k bytes ++ replicate (n - (n - unit)) 0) a ∙ ap (λ k. take (length bytes - unit) bytes ++ replicate k 0) b

pub no_rest : (u n : ℕ) → is_divisible n (suc u) ≡ true → n % suc u ≡ 0
no_rest u n d = grind arith

-- a block whose last unit is set to 0
pub zeroed_block : (unit : ℕ) (block : Block) (before after : Memory) (number : ℕ) (old : List ℕ) → IsBlock before block number old → unit ≤ block.length
    → after ≡ record before { blocks = slice_set before.blocks number (take (block.length - unit) old ++ replicate (block.length - (block.length - unit)) 0) } → IsBlock after block number (terminated_text unit old)
zeroed_block unit block before after number old b h e =
    let w : unit ≤ length old = omega (arith, h, b.length_is) in
    written_block before after block number old (terminated_text unit old) b (length-text unit old w)
    (e ∙ ap (λ (l : List ℕ). record before { blocks = slice_set before.blocks number l }) (text_set unit block.length old b.length_is h))

-- units of which a length has a whole number are no longer than it
pub unit_fits : (unit n : ℕ) → is_divisible n unit ≡ true → 0 < n → (0 < unit) × (unit ≤ n)
unit_fits zero n d h = grind arith
unit_fits (suc u) n d h =
    let r : n % suc u ≡ 0 = no_rest u n d in
    elim (cases_lt n (suc u)) as (λ _. (0 < suc u) × (suc u ≤ n)) [
      | inl small ↦ absurd (omega (arith, mod-eq_of_lt small, r, h))
      | inr large ↦ (omega arith, large)
    ]

checked_text : (shape : Shape) (bytes : List ℕ) (early : Bool) → shape.text ≡ true → early ≡ has_early_end shape.unit (terminated_text shape.unit bytes)
    → checked_bytes shape bytes ≡ (if early then Err UNEXPECTED else Ok (terminated_text shape.unit bytes))
checked_text shape bytes early e f =
    ap (λ t. if not t then Ok bytes else (if has_early_end shape.unit (terminated_text shape.unit bytes) then Err UNEXPECTED else Ok (terminated_text shape.unit bytes))) e
    ∙ ap (λ b. if b then Err UNEXPECTED else Ok (terminated_text shape.unit bytes)) (sym f)

-- what the end of a text is set to, and whether an earlier end was found
pub record IsEnded (unit : ℕ) (block : Block) (between after : Memory) (early : Bool) : Type 0 where
  pub set : (number : ℕ) (old : List ℕ) → IsBlock between block number old → after ≡ record between { blocks = slice_set between.blocks number (terminated_text unit old) }
  pub found : (number : ℕ) (old : List ℕ) → IsBlock between block number old → early ≡ has_early_end unit (terminated_text unit old)

pub ended_push : (unit : ℕ) (block : Block) (before between after : Memory) (early : Bool) (bytes : List ℕ) → IsEnded unit block between after early → unit ≤ block.length → IsPush before between block bytes
    → IsPush before after block (terminated_text unit bytes)
ended_push unit block before between after early bytes q h p =
    let w : unit ≤ length bytes = omega (arith, h, p.length_is) in
    push_written before between after block bytes (terminated_text unit bytes) p (p.length_is ∙ sym (length-text unit bytes w))
    (λ number old b.
    let e : old ≡ bytes = same_bytes between block number (length before.blocks) old bytes b (pushed_block before between block bytes p) in
    q.set number old b ∙ ap (λ i. record between { blocks = slice_set between.blocks number (terminated_text unit i) }) e)

pub text_copied : (shape : Shape) (at n room : ℕ) (block : Block) (before between after : Memory) (old new : PortState) (early : Bool) → shape.text ≡ true
    → first_row (block_rows shape n room) ≡ None → (bytes : List ℕ) → Makes (first_bytes shape at n) old new bytes → IsPush before between block bytes → IsEnded shape.unit block between after early
    → Makes (copy_in shape at n room) old new (if early then Err UNEXPECTED else Ok (terminated_text shape.unit bytes))
text_copied shape at n room block before between after old new early e r bytes m p q =
    subst (λ x. Makes (copy_in shape at n room) old new x) (checked_text shape bytes early e (q.found (length before.blocks) bytes (pushed_block before between block bytes p))) (copied_all shape at n room bytes old new r m)
