-- The arguments of an OCALL, one after another.
use Rattle.std.proofs.Common.{ℕ, zero, suc, ◌+◌, ◌<◌, ◌≤◌, ◌≡◌, ◌||◌, ◌==◌, Bool, true, false, if◌then◌else◌, List, [], ◌∷◌, ◌++◌, length, drop, map, fold, zip, sum, Option, Some, None, Ok, Err, option_map, slice_get, get_or, All, refl, ap, sym, ◌∙◌, subst, arith, append_assoc, append-nil}
use Rattle.std.specs.Prelude.{unwrap_or, option_and_then, sum_by}
use Rattle.std.specs.List.{list_any}
use Rattle.std.proofs.lemmas.Option.{slice_get-map, slice_get_within, slice_get-get_or, get_or_from_slice_get}
use Rattle.std.proofs.lemmas.List.Elements.{All-get_or}
use Rattle.std.proofs.lemmas.List.Sums.{sum_by-cons}
use Rattle.sgx_base.specs.Rows.{first_row}
use Rattle.sgx_base.specs.declared.TheConstants.Status.{INVALID_PARAMETER}
use Rattle.edl_interface.specs.declared.Function.{Function}
use Rattle.edl_interface.specs.declared.Param.{Param}
use Rattle.edl_interface.specs.Parameters.{is_marshalled}
use Rattle.enclave_memory.specs.declared.Arg.{Arg}
use Rattle.enclave_memory.specs.declared.Arg.TheVariants.{Value, Bytes}
use Rattle.enclave_memory.specs.Arguments.{Argument, number, bytes, Passed, by_number, by_place, argument_of, IsPassed, ArePassed, arguments_in, blocks_of}
use Rattle.enclave_memory.specs.Memory.{Memory}
use Rattle.ocall_frames.specs.Arguments.{has_place, AreOfKinds, size_unless, checked_size}
use Rattle.ocall_frames.specs.Contents.{IsArgument, AreArguments, IsLiveArgument, content_of, contents_of, measured_argument, measured}
use Rattle.ocall_frames.proofs.StructureLaws.{read_at}
use Rattle.ocall_frames.specs.Frames.{with_number, numbers_structure, argument_length, has_no_length, exceeds_block, argument_rows, Buffer, buffers_from, ocall_size}

-- an argument that names its block, with the block's bytes
passed_is : (m : Memory) (a : Arg) (p : Passed) → IsPassed m a p → IsArgument m a (argument_of (blocks_of m) p)
passed_is m (Value n) (by_number k) h = h
passed_is m (Value n) (by_place place) h = absurd h
passed_is m (Bytes None) (by_number k) h = absurd h
passed_is m (Bytes None) (by_place None) h = tt
passed_is m (Bytes None) (by_place (Some place)) h = absurd h
passed_is m (Bytes (Some b)) (by_number k) h = absurd h
passed_is m (Bytes (Some b)) (by_place None) h = absurd h
passed_is m (Bytes (Some b)) (by_place (Some place)) h =
    let these : List ℕ = h.0 in
    let found : slice_get (blocks_of m) place ≡ Some (Some these) = slice_get-map (λ x. Some x) m.blocks place ∙ ap (λ o. option_map (λ x. Some x) o) h.1.bytes_are in
    subst (λ o. IsArgument m (Bytes (Some b)) (bytes (unwrap_or o None))) (sym found) (place, h.1)

pub passed_are : (m : Memory) (args : List Arg) (passed : List Passed) → ArePassed m args passed → AreArguments m args (arguments_in m passed)
passed_are m [] [] h = tt
passed_are m [] (p ∷ passed) h = absurd h
passed_are m (a ∷ args) [] h = absurd h
passed_are m (a ∷ args) (p ∷ passed) h = (passed_is m a p h.0, passed_are m args passed h.1)

passed_live : (m : Memory) (a : Arg) (p : Passed) → IsPassed m a p → IsLiveArgument m a
passed_live m (Value n) p h = tt
passed_live m (Bytes None) p h = tt
passed_live m (Bytes (Some b)) (by_number k) h = absurd h
passed_live m (Bytes (Some b)) (by_place None) h = absurd h
passed_live m (Bytes (Some b)) (by_place (Some place)) h = (place, h.0, h.1)

-- the block of each argument is live
pub live_at : (m : Memory) (args : List Arg) (passed : List Passed) (i : ℕ) (arg : Arg) → ArePassed m args passed → slice_get args i ≡ Some arg → IsLiveArgument m arg
live_at m [] passed i arg h e = cc
live_at m (a ∷ args) [] i arg h e = absurd h
live_at m (a ∷ args) (p ∷ passed) zero arg h e = let same : a ≡ arg = cc in subst (λ x. IsLiveArgument m x) same (passed_live m a p h.0)
live_at m (a ∷ args) (p ∷ passed) (suc i) arg h e = live_at m args passed i arg h.1 e

pub kinds_count : (ps : List Param) (args : List Arg) → AreOfKinds ps args → length args ≡ length ps
kinds_count [] [] h = refl
kinds_count [] (a ∷ args) h = absurd h
kinds_count (p ∷ ps) [] h = absurd h
kinds_count (p ∷ ps) (a ∷ args) h = ap suc (kinds_count ps args h.1)

-- the next parameter with its argument
pub record IsNext (m : Memory) (ps : List Param) (args : List Arg) (arguments : List Argument) (i : ℕ) (p : Param) (arg : Arg) : Type 0 where
  pub argument : Argument
  pub is : IsArgument m arg argument
  pub left : drop i (zip ps arguments) ≡ (p, argument) ∷ drop (i + 1) (zip ps arguments)

pub next_argument : (m : Memory) (ps : List Param) (args : List Arg) (arguments : List Argument) (i : ℕ) (p : Param) (arg : Arg) → AreArguments m args arguments
    → slice_get ps i ≡ Some p → slice_get args i ≡ Some arg → IsNext m ps args arguments i p arg
next_argument m [] args arguments i p arg h e f = cc
next_argument m (q ∷ ps) [] arguments i p arg h e f = cc
next_argument m (q ∷ ps) (a ∷ args) [] i p arg h e f = absurd h
next_argument m (q ∷ ps) (a ∷ args) (x ∷ arguments) zero p arg h e f =
    let param : q ≡ p = cc in
    let same : a ≡ arg = cc in
    record { argument = x; is = subst (λ y. IsArgument m y x) same h.0; left = ap (λ y. (y, x) ∷ zip ps arguments) param }
next_argument m (q ∷ ps) (a ∷ args) (x ∷ arguments) (suc i) p arg h e f =
    let n : IsNext m ps args arguments i p arg = next_argument m ps args arguments i p arg h.1 e f in
    let on : suc (i + 1) ≡ suc i + 1 = omega arith in
    record { argument = n.argument; is = n.is; left = n.left ∙ ap (λ k. (p, n.argument) ∷ drop k (zip (q ∷ ps) (x ∷ arguments))) on }

-- the same as a loop reads them
pub item_below : (items ps : List Param) (args : List Arg) (i : ℕ) → items ≡ ps → AreOfKinds ps args → i < length args → i < length items
item_below items ps args i same kinds h =
    let count : length args ≡ length ps = kinds_count ps args kinds in
    let all : length items ≡ length ps = ap (λ (l : List Param). length l) same in
    omega (arith, count, all, h)

pub item_at : (items ps : List Param) (args : List Arg) (i : ℕ) (p : Param) → items ≡ ps → AreOfKinds ps args → i < length args → p ≡ get_or items i p → slice_get ps i ≡ Some p
item_at items ps args i p same kinds h is = read_at items ps i p same (item_below items ps args i same kinds h) is

pub next_item : (m : Memory) (items ps : List Param) (args : List Arg) (arguments : List Argument) (i : ℕ) (p : Param) → items ≡ ps → AreOfKinds ps args → i < length args → p ≡ get_or items i p
    → AreArguments m args arguments → IsNext m ps args arguments i p (get_or args i (Value 0))
next_item m items ps args arguments i p same kinds h is are =
    next_argument m ps args arguments i p (get_or args i (Value 0)) are (item_at items ps args i p same kinds h is) (slice_get-get_or args i (Value 0) h)

-- what holds of all holds of the one at a place
pub all_at : {X : Type 0} (P : X → Type 0) (xs : List X) (i : ℕ) (x : X) → All P xs → slice_get xs i ≡ Some x → P x
all_at P xs i x h e = subst P (get_or_from_slice_get xs i x x e) (All-get_or P xs i x (slice_get_within xs i x e) h)

-- no argument is left
pub none_left : (m : Memory) (ps : List Param) (args : List Arg) (arguments : List Argument) (i : ℕ) → AreArguments m args arguments → length args ≤ i → drop i (zip ps arguments) ≡ []
none_left m [] args arguments zero h k = refl
none_left m [] args arguments (suc i) h k = refl
none_left m (q ∷ ps) [] [] zero h k = refl
none_left m (q ∷ ps) [] [] (suc i) h k = refl
none_left m (q ∷ ps) [] (x ∷ arguments) i h k = absurd h
none_left m (q ∷ ps) (a ∷ args) [] i h k = absurd h
none_left m (q ∷ ps) (a ∷ args) (x ∷ arguments) zero h k = absurd (omega (arith, k))
none_left m (q ∷ ps) (a ∷ args) (x ∷ arguments) (suc i) h k = let w : length args ≤ i = omega (arith, k) in none_left m ps args arguments i h.1 w

-- a structure once the numbers of these arguments are written too
abbrev pub numbers_from : List ℕ → List (Param × Argument) → List ℕ
numbers_from structure pairs = fold (λ s (p, a). with_number p s a) structure pairs

-- the lengths so far, before those of the arguments that are left
abbrev pub with_done : List ℕ → Option (List ℕ) → Option (List ℕ)
with_done done rest = option_map (λ ns. done ++ ns) rest

none_done : (rest : Option (List ℕ)) → with_done [] rest ≡ rest
none_done None = refl
none_done (Some ns) = refl

one_done : (done : List ℕ) (n : ℕ) (rest : Option (List ℕ)) → with_done done (option_map (λ ns. n ∷ ns) rest) ≡ with_done (done ++ n ∷ []) rest
one_done done n None = refl
one_done done n (Some ns) = ap (λ l. Some l) (sym (append_assoc done (n ∷ []) ns))

pub measured_ends : (done : List ℕ) → with_done done (Some []) ≡ Some done
measured_ends done = ap (λ l. Some l) (append-nil done)

pub one_bounded : (n : ℕ) → n ≤ 65536 → All (λ k. k ≤ 65536) (n ∷ [])
one_bounded n h zero d w = h
one_bounded n h (suc k) d w = absurd (omega (arith, w))

any_tail : (any : Bool) → (any || true) ≡ true
any_tail true = refl
any_tail false = refl

no_tail : (n : ℕ) (rest : Option (List ℕ)) → option_map (λ ns. n ∷ ns) rest ≡ None → rest ≡ None
no_tail n None e = refl
no_tail n (Some ns) e = cc

refused_first : (a b c d : Bool) (n : ℕ) (rest : Option (List ℕ)) → option_and_then (λ k. option_map (λ ns. k ∷ ns) rest) (if a || b then None else Some n) ≡ None
    → (rest ≡ None → (c || d) ≡ true) → ((a || c) || (b || d)) ≡ true
refused_first true b c d n rest e h = refl
refused_first false true c d n rest e h = any_tail c
refused_first false false c d n rest e h = h (no_tail n rest e)

-- what is known of the lengths, where no argument is refused for its own
pub record IsMeasured (lacks exceeds : Bool) (ns all : List ℕ) : Type 0 where
  pub none_lacks : lacks ≡ false
  pub none_exceeds : exceeds ≡ false
  pub lengths : ns ≡ all

measured_first : (a b c d : Bool) (n : ℕ) (rest : Option (List ℕ)) (ns all : List ℕ) → option_and_then (λ k. option_map (λ ms. k ∷ ms) rest) (if a || b then None else Some n) ≡ Some ns
    → ((ms : List ℕ) → rest ≡ Some ms → IsMeasured c d ms all) → IsMeasured (a || c) (b || d) ns (n ∷ all)
measured_first true b c d n rest ns all e h = cc
measured_first false true c d n rest ns all e h = cc
measured_first false false c d n None ns all e h = cc
measured_first false false c d n (Some ms) ns all e h =
    let m : IsMeasured c d ms all = h ms refl in
    let same : n ∷ ms ≡ ns = cc in
    record { none_lacks = m.none_lacks; none_exceeds = m.none_exceeds; lengths = sym same ∙ ap (λ l. n ∷ l) m.lengths }

row_holds : (a b : Bool) → (a || b) ≡ true → first_row (record { holds = a; status = INVALID_PARAMETER } ∷ record { holds = b; status = INVALID_PARAMETER } ∷ []) ≡ Some INVALID_PARAMETER
row_holds true b e = refl
row_holds false true e = refl
row_holds false false e = cc

no_row : (a b : Bool) → a ≡ false → b ≡ false → first_row (record { holds = a; status = INVALID_PARAMETER } ∷ record { holds = b; status = INVALID_PARAMETER } ∷ []) ≡ None
no_row true b e h = cc
no_row false true e h = cc
no_row false false e h = refl

module _ (f : Function) (structure : List ℕ) where
  abbrev pub lacks : Param × Argument → Bool
  lacks (p, a) = has_no_length (argument_length f structure p a)

  abbrev pub exceeds : Param × Argument → Bool
  exceeds (p, a) = exceeds_block (argument_length f structure p a) a

  pub measured_none : (pairs : List (Param × Argument)) → measured f structure pairs ≡ with_done [] (measured f structure pairs)
  measured_none pairs = sym (none_done (measured f structure pairs))

  pub measured_more : (done : List ℕ) (n : ℕ) (x : Param × Argument) (pairs : List (Param × Argument)) → Some n ≡ measured_argument f structure x
      → with_done done (measured f structure (x ∷ pairs)) ≡ with_done (done ++ n ∷ []) (measured f structure pairs)
  measured_more done n x pairs e =
      ap (λ o. with_done done (option_and_then (λ k. option_map (λ ns. k ∷ ns) (measured f structure pairs)) o)) (sym e) ∙ one_done done n (measured f structure pairs)

  pub measured_stops : (done : List ℕ) (x : Param × Argument) (pairs : List (Param × Argument)) → None ≡ measured_argument f structure x
      → with_done done (measured f structure (x ∷ pairs)) ≡ None
  measured_stops done x pairs e = ap (λ o. with_done done (option_and_then (λ k. option_map (λ ns. k ∷ ns) (measured f structure pairs)) o)) (sym e)

  pub refused : (pairs : List (Param × Argument)) → measured f structure pairs ≡ None → (list_any lacks pairs || list_any exceeds pairs) ≡ true
  refused [] e = cc
  refused (x ∷ pairs) e =
      refused_first (lacks x) (exceeds x) (list_any lacks pairs) (list_any exceeds pairs) (length (content_of f structure x)) (measured f structure pairs) e (refused pairs)

  pub all_measured : (pairs : List (Param × Argument)) (ns : List ℕ) → measured f structure pairs ≡ Some ns
      → IsMeasured (list_any lacks pairs) (list_any exceeds pairs) ns (map length (contents_of f structure pairs))
  all_measured [] ns e = let same : [] ≡ ns = cc in record { none_lacks = refl; none_exceeds = refl; lengths = sym same }
  all_measured (x ∷ pairs) ns e =
      measured_first (lacks x) (exceeds x) (list_any lacks pairs) (list_any exceeds pairs) (length (content_of f structure x)) (measured f structure pairs) ns
      (map length (contents_of f structure pairs)) e (all_measured pairs)

  -- the buffers have the bytes of the contents, where only marshalled parameters have any
  kind_first : (m : Memory) (p : Param) (arg : Arg) (a : Argument) → IsArgument m arg a → has_place arg ≡ is_marshalled p.class → is_marshalled p.class ≡ false
      → content_of f structure (p, a) ≡ []
  kind_first m p (Value n) (number k) h kind other = refl
  kind_first m p (Value n) (bytes b) h kind other = absurd h
  kind_first m p (Bytes b) a h kind other = cc

  abbrev size_of : List Buffer → ℕ
  size_of buffers = sum_by (λ (b : Buffer). length b.content) buffers

  size_first : (p : Param) (content : List ℕ) (next : ℕ) (more : List Buffer) (c : Bool) → is_marshalled p.class ≡ c → (is_marshalled p.class ≡ false → content ≡ [])
      → size_of (if c then record { param = p; address = if length content == 0 then 0 else next; content = content } ∷ more else more) ≡ length content + size_of more
  size_first p content next more true e h = sum_by-cons (λ (b : Buffer). length b.content) (record { param = p; address = if length content == 0 then 0 else next; content = content }) more
  size_first p content next more false e h = let none : length content ≡ 0 = ap (λ (l : List ℕ). length l) (h e) in omega (arith, none)

  pub size_is : (m : Memory) (ps : List Param) (args : List Arg) (arguments : List Argument) (next : ℕ) → AreArguments m args arguments → AreOfKinds ps args
      → size_of (buffers_from f structure next (zip ps arguments)) ≡ sum (map length (contents_of f structure (zip ps arguments)))
  size_is m [] args arguments next h kinds = refl
  size_is m (p ∷ ps) [] [] next h kinds = refl
  size_is m (p ∷ ps) [] (x ∷ arguments) next h kinds = absurd h
  size_is m (p ∷ ps) (a ∷ args) [] next h kinds = absurd h
  size_is m (p ∷ ps) (a ∷ args) (x ∷ arguments) next h kinds =
      let content : List ℕ = content_of f structure (p, x) in
      size_first p content next (buffers_from f structure (next + length content) (zip ps arguments)) (is_marshalled p.class) refl (kind_first m p a x h.0 kinds.0)
      ∙ ap (λ n. length content + n) (size_is m ps args arguments (next + length content) h.1 kinds.1)
      ∙ sym (sum_by-cons (λ n. n) (length content) (map length (contents_of f structure (zip ps arguments))))

module _ (f : Function) (arguments : List Argument) where
  pub rows_refused : measured f (numbers_structure f arguments) (zip f.params arguments) ≡ None → first_row (argument_rows f arguments) ≡ Some INVALID_PARAMETER
  rows_refused e = row_holds _ _ (refused f (numbers_structure f arguments) (zip f.params arguments) e)

  pub rows_allowed : (ns : List ℕ) → measured f (numbers_structure f arguments) (zip f.params arguments) ≡ Some ns → first_row (argument_rows f arguments) ≡ None
  rows_allowed ns e =
      let m : IsMeasured _ _ ns _ = all_measured f (numbers_structure f arguments) (zip f.params arguments) ns e in
      no_row _ _ m.none_lacks m.none_exceeds

  pub lengths_are : (ns : List ℕ) → measured f (numbers_structure f arguments) (zip f.params arguments) ≡ Some ns
      → ns ≡ map length (contents_of f (numbers_structure f arguments) (zip f.params arguments))
  lengths_are ns e = (all_measured f (numbers_structure f arguments) (zip f.params arguments) ns e).lengths

  pub checked_refused : measured f (numbers_structure f arguments) (zip f.params arguments) ≡ None → checked_size f arguments ≡ Err INVALID_PARAMETER
  checked_refused e = ap (λ o. size_unless o (ocall_size f arguments)) (rows_refused e)

  pub checked_allowed : (m : Memory) (args : List Arg) (ns : List ℕ) → AreArguments m args arguments → AreOfKinds f.params args
      → measured f (numbers_structure f arguments) (zip f.params arguments) ≡ Some ns → checked_size f arguments ≡ Ok (f.frame_size + sum ns)
  checked_allowed m args ns h kinds e =
      ap (λ o. size_unless o (ocall_size f arguments)) (rows_allowed ns e)
      ∙ ap (λ n. Ok (f.frame_size + n))
      (size_is f (numbers_structure f arguments) m f.params args arguments (0 + f.frame_size) h kinds ∙ ap (λ (l : List ℕ). sum l) (sym (lengths_are ns e)))
