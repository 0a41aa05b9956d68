-- The list of an OCALL's proxy up to its frame refuses exactly as the OCALL is defined to.
use Rattle.std.proofs.Common.{ℕ, suc, ◌+◌, ◌≡◌, ◌==◌, Bool, true, false, ◌&&◌, ◌||◌, nat_lt, if◌then◌else◌, List, [], ◌∷◌, ◌++◌, length, drop, zip, fold, Option, Some, None, is_none, slice_get, Result, Ok, Err, refl, ap, sym, ◌∙◌, arith}
use Rattle.std.specs.Prelude.{sum_by}
use Rattle.std.specs.List.{list_any}
use Rattle.sgx_base.specs.Rows.{first_row, unless_refused}
use Rattle.sgx_base.specs.declared.Status.{Status}
use Rattle.sgx_base.specs.declared.TheConstants.Status.{UNEXPECTED, INVALID_PARAMETER}
use Rattle.edl_interface.specs.declared.Class.{Class}
use Rattle.edl_interface.specs.declared.Class.TheVariants.{Plain as by_value, UserCheck, Buffer as a_buffer, Text, Fixed, Foreign}
use Rattle.edl_interface.specs.declared.Param.{Param}
use Rattle.edl_interface.specs.declared.Function.{Function}
use Rattle.edl_interface.specs.Parameters.{is_marshalled, has_frame}
use Rattle.word_port.specs.Interaction.{ret}
use Rattle.enclave_memory.specs.Arguments.{Argument, number, bytes}
use Rattle.ocall_frames.specs.Stack.{frame_below}
use Rattle.ocall_frames.specs.Frames.{numbers_structure, has_no_length, exceeds_block, Buffer, buffers_from, buffers_of, ocall_size}
use Rattle.call_machine.specs.declared.Machine.{Machine}
use Rattle.call_machine.specs.Context.{Context}
use Rattle.call_machine.specs.Result.{and_then_ok}
use Rattle.call_machine.specs.Ocall.{Handlers, ocall_rows}
use Rattle.bridge_program.specs.declared.Instr.{Instr}
use Rattle.bridge_program.specs.declared.Instr.TheVariants.{OLength, OWithin, OTotal, OAdd, OTake}
use Rattle.bridge_program.specs.Lists.{each_from, where_is}
use Rattle.bridge_laws.specs.Proxy.{ProxyState, ProxyDoing, with_argument, argument_is, length_of, content_of, taken, proxy_means, proxy_list_means}
use Rattle.bridge_laws.proofs.Trees.{assoc_ok, same_next_ok}
use Rattle.bridge_laws.proofs.Places.{get_drop, drop_next}

-- a refusal where the test holds
abbrev pub refusal : Bool → ProxyState → ProxyDoing
refusal b s = ret (if b then Err INVALID_PARAMETER else Ok s)

chain : (b c : Bool) (s : ProxyState) (next : ProxyState → ProxyDoing) → next s ≡ refusal c s → and_then_ok (refusal b s) next ≡ refusal (b || c) s
chain true c s next e = refl
chain false c s next e = e

pub after_refusal : (b : Bool) (s : ProxyState) (next : ProxyState → ProxyDoing) → and_then_ok (refusal b s) next ≡ (if b then ret (Err INVALID_PARAMETER) else next s)
after_refusal true s next = refl
after_refusal false s next = refl

none_below_zero : (n : ℕ) → nat_lt n 0 ≡ false
none_below_zero n = grind arith

-- the lengths of blocks, added to a number
abbrev pub total_from : ℕ → List Buffer → ℕ
total_from n buffers = fold (λ k b. k + length b.content) n buffers

shifted : (n k : ℕ) (buffers : List Buffer) → total_from (n + k) buffers ≡ n + total_from k buffers
shifted n k [] = refl
shifted n k (b ∷ buffers) = let e : (n + k) + length b.content ≡ n + (k + length b.content) = omega arith in
    ap (λ j. total_from j buffers) e ∙ shifted n (k + length b.content) buffers

pub total_is : (n : ℕ) (buffers : List Buffer) → total_from n buffers ≡ n + sum_by (λ b. length b.content) buffers
total_is n buffers = let e : n ≡ n + 0 = omega arith in ap (λ j. total_from j buffers) e ∙ shifted n 0 buffers

module _ (m : Machine) (handlers : Handlers) (cx : Context) (ordinal : ℕ) (arguments : List Argument) (f : Function) where
  abbrev pub does : List Instr → ProxyState → ProxyDoing
  does list s = proxy_list_means m handlers cx ordinal arguments f list s

  pub append_does : (xs ys : List Instr) (s : ProxyState) → does (xs ++ ys) s ≡ and_then_ok (does xs s) (does ys)
  append_does [] ys s = refl
  append_does (x ∷ xs) ys s =
      same_next_ok (proxy_means m handlers cx ordinal arguments f x s) (does (xs ++ ys)) (λ t. and_then_ok (does xs t) (does ys)) (λ t. append_does xs ys t)
      ∙ sym (assoc_ok (proxy_means m handlers cx ordinal arguments f x s) (does xs) (does ys))

  module _ (instr : ℕ → Instr) (test : Param → Argument → Bool) (s : ProxyState)
      (each_is : (n : ℕ) (p : Param) (a : Argument) → slice_get (zip f.params arguments) n ≡ Some (p, a) → proxy_means m handlers cx ordinal arguments f (instr n) s ≡ refusal (test p a) s)
      (quiet : (p : Param) (a : Argument) → is_marshalled p.class ≡ false → test p a ≡ false) where
    abbrev tests_from : ℕ → List Param → List Instr
    tests_from n ps = each_from n (λ k p. if is_marshalled p.class then instr k ∷ [] else []) ps

    one_test : (b : Bool) (n : ℕ) (p : Param) (a : Argument) (ps : List Param) (args : List Argument) → is_marshalled p.class ≡ b → slice_get (zip f.params arguments) n ≡ Some (p, a)
        → does (tests_from (suc n) ps) s ≡ refusal (list_any (λ (q, c). test q c) (zip ps args)) s
        → does ((if b then instr n ∷ [] else []) ++ tests_from (suc n) ps) s ≡ refusal (test p a || list_any (λ (q, c). test q c) (zip ps args)) s
    one_test true n p a ps args e g more =
        ap (λ t. and_then_ok t (does (tests_from (suc n) ps))) (each_is n p a g)
        ∙ chain (test p a) (list_any (λ (q, c). test q c) (zip ps args)) s (does (tests_from (suc n) ps)) more
    one_test false n p a ps args e g more = more ∙ ap (λ b. refusal (b || list_any (λ (q, c). test q c) (zip ps args)) s) (sym (quiet p a e))

    tests_do : (ps : List Param) (args : List Argument) (n : ℕ) → drop n (zip f.params arguments) ≡ zip ps args → length ps ≡ length args
        → does (tests_from n ps) s ≡ refusal (list_any (λ (q, c). test q c) (zip ps args)) s
    tests_do [] args n e l = refl
    tests_do (p ∷ ps) [] n e l = absurd (omega arith)
    tests_do (p ∷ ps) (a ∷ args) n e l =
        one_test (is_marshalled p.class) n p a ps args refl (get_drop (zip f.params arguments) n (p, a) (zip ps args) e)
        (tests_do ps args (suc n) (drop_next (zip f.params arguments) n (p, a) (zip ps args) e) (omega arith))

  -- a state changed by each parameter and its argument
  abbrev pub folded : (ℕ → Param → Argument → ProxyState → ProxyState) → ℕ → List Param → List Argument → ProxyState → ProxyState
  folded step n [] args s = s
  folded step n (p ∷ ps) [] s = s
  folded step n (p ∷ ps) (a ∷ args) s = folded step (suc n) ps args (step n p a s)

  pub fold_does : (instrs : ℕ → Param → List Instr) (step : ℕ → Param → Argument → ProxyState → ProxyState)
      → ((n : ℕ) (p : Param) (a : Argument) (s : ProxyState) → slice_get (zip f.params arguments) n ≡ Some (p, a) → does (instrs n p) s ≡ ret (Ok (step n p a s)))
      → (ps : List Param) (args : List Argument) (n : ℕ) (s : ProxyState) → drop n (zip f.params arguments) ≡ zip ps args → length ps ≡ length args
      → does (each_from n instrs ps) s ≡ ret (Ok (folded step n ps args s))
  fold_does instrs step each_is [] args n s e l = refl
  fold_does instrs step each_is (p ∷ ps) [] n s e l = absurd (omega arith)
  fold_does instrs step each_is (p ∷ ps) (a ∷ args) n s e l =
      append_does (instrs n p) (each_from (suc n) instrs ps) s
      ∙ ap (λ t. and_then_ok t (does (each_from (suc n) instrs ps))) (each_is n p a s (get_drop (zip f.params arguments) n (p, a) (zip ps args) e))
      ∙ fold_does instrs step each_is ps args (suc n) (step n p a s) (drop_next (zip f.params arguments) n (p, a) (zip ps args) e) (omega arith)

  -- the tests pass over what is not marshalled
  quiet_length : (c : Class) (p : Param) (a : Argument) → is_marshalled c ≡ false → has_no_length (length_of f arguments (record p { class = c }) a) ≡ false
  quiet_length c p (number n) e = refl
  quiet_length (by_value plain) p (bytes None) e = refl
  quiet_length (by_value plain) p (bytes (Some these)) e = refl
  quiet_length UserCheck p (bytes None) e = refl
  quiet_length UserCheck p (bytes (Some these)) e = refl
  quiet_length (Foreign None) p (bytes None) e = refl
  quiet_length (Foreign None) p (bytes (Some these)) e = refl
  quiet_length (Foreign (Some way)) p (bytes b) e = let no : true ≡ false = e in cc
  quiet_length (a_buffer way size count unit) p (bytes b) e = let no : true ≡ false = e in cc
  quiet_length (Text way unit) p (bytes b) e = let no : true ≡ false = e in cc
  quiet_length (Fixed way count unit) p (bytes b) e = let no : true ≡ false = e in cc

  quiet_within : (c : Class) (p : Param) (a : Argument) → is_marshalled c ≡ false → exceeds_block (length_of f arguments (record p { class = c }) a) a ≡ false
  quiet_within c p (number n) e = refl
  quiet_within c p (bytes None) e = refl
  quiet_within (by_value plain) p (bytes (Some these)) e = none_below_zero (length these)
  quiet_within UserCheck p (bytes (Some these)) e = none_below_zero (length these)
  quiet_within (Foreign None) p (bytes (Some these)) e = none_below_zero (length these)
  quiet_within (Foreign (Some way)) p (bytes (Some these)) e = let no : true ≡ false = e in cc
  quiet_within (a_buffer way size count unit) p (bytes (Some these)) e = let no : true ≡ false = e in cc
  quiet_within (Text way unit) p (bytes (Some these)) e = let no : true ≡ false = e in cc
  quiet_within (Fixed way count unit) p (bytes (Some these)) e = let no : true ≡ false = e in cc

  -- the frame's size
  abbrev added : ℕ → Param → Argument → ProxyState → ProxyState
  added n p a s = if is_marshalled p.class then record s { size = s.size + length (content_of f arguments p a) } else s

  add_does : (n : ℕ) (p : Param) (a : Argument) (s : ProxyState) → slice_get (zip f.params arguments) n ≡ Some (p, a) → (b : Bool)
      → does (if b then OAdd n ∷ [] else []) s ≡ ret (Ok (if b then record s { size = s.size + length (content_of f arguments p a) } else s))
  add_does n p a s g true = ap (λ o. ret (Ok (with_argument o s (λ q c. record s { size = s.size + length (content_of f arguments q c) })))) g
  add_does n p a s g false = refl

  sizes_added : (ps : List Param) (args : List Argument) (n next : ℕ) (s : ProxyState)
      → folded added n ps args s ≡ record s { size = total_from s.size (buffers_from f (numbers_structure f arguments) next (zip ps args)) }
  sizes_added [] args n next s = refl
  sizes_added (p ∷ ps) [] n next s = refl
  sizes_added (p ∷ ps) (a ∷ args) n next s = one_size (λ t. sizes_added ps args (suc n) (next + length (content_of f arguments p a)) t) (is_marshalled p.class)
    where
      one_size : ((t : ProxyState) → folded added (suc n) ps args t ≡ record t { size = total_from t.size (buffers_from f (numbers_structure f arguments) (next + length (content_of f arguments p a)) (zip ps args)) }) → (b : Bool) → folded added (suc n) ps args (if b then record s { size = s.size + length (content_of f arguments p a) } else s)
          ≡ record s {
            size = total_from s.size (if b
                then record { param = p; address = if length (content_of f arguments p a) == 0 then 0 else next; content = content_of f arguments p a } ∷ buffers_from f (numbers_structure f arguments) (next + length (content_of f arguments p a)) (zip ps args)
                else buffers_from f (numbers_structure f arguments) (next + length (content_of f arguments p a)) (zip ps args));
          }
      one_size more true = more (record s { size = s.size + length (content_of f arguments p a) })
      one_size more false = more s

  -- the instructions up to OTake
  abbrev pub testing_list : List Instr
  testing_list = where_is is_marshalled (λ n. OLength n) f ++ (where_is is_marshalled (λ n. OWithin n) f ++ (OTotal ∷ (where_is is_marshalled (λ n. OAdd n) f ++ (OTake ∷ []))))

  taking_does : (s : ProxyState) → length f.params ≡ length arguments
      → does (OTotal ∷ (where_is is_marshalled (λ n. OAdd n) f ++ (OTake ∷ []))) s ≡ ret (taken f (frame_below cx.base cx.top (ocall_size f arguments)) (record s { size = ocall_size f arguments }))
  taking_does s l =
      append_does (where_is is_marshalled (λ n. OAdd n) f) (OTake ∷ []) (record s { size = f.frame_size })
      ∙ ap (λ t. and_then_ok t (does (OTake ∷ [])))
      (fold_does (λ n p. if is_marshalled p.class then OAdd n ∷ [] else []) added (λ n p a t g. add_does n p a t g (is_marshalled p.class)) f.params arguments 0 (record s { size = f.frame_size }) refl l
      ∙ ap (λ t. ret (Ok t)) (sizes_added f.params arguments 0 (0 + f.frame_size) (record s { size = f.frame_size })
      ∙ ap (λ k. record s { size = k }) (total_is f.frame_size (buffers_of f arguments 0))))
      ∙ end_is (taken f (frame_below cx.base cx.top (ocall_size f arguments)) (record s { size = ocall_size f arguments }))
    where
      end_is : (r : Result ProxyState Status) → and_then_ok (ret r) (λ t. ret (Ok t)) ≡ ret r
      end_is (Ok t) = refl
      end_is (Err status) = refl

  refuses : (b1 b2 : Bool) (o : Option ℕ) (s : ProxyState)
      → (if b1 then ret (Err INVALID_PARAMETER) else (if b2 then ret (Err INVALID_PARAMETER) else ret (taken f o s)))
      ≡ and_then_ok (ret (unless_refused (if b1 then Some INVALID_PARAMETER else (if b2 then Some INVALID_PARAMETER else (if true && is_none o then Some UNEXPECTED else None))))) (λ allowed. ret (taken f o s))
  refuses true b2 o s = refl
  refuses false true o s = refl
  refuses false false None s = refl
  refuses false false (Some address) s = refl

  -- the list up to OTake makes its tests one after another, and takes its frame
  pub testing_tests : (s : ProxyState) → length f.params ≡ length arguments
      → does testing_list s ≡ (if list_any (λ (p, a). has_no_length (length_of f arguments p a)) (zip f.params arguments) then ret (Err INVALID_PARAMETER)
      else (if list_any (λ (p, a). exceeds_block (length_of f arguments p a) a) (zip f.params arguments) then ret (Err INVALID_PARAMETER)
      else ret (taken f (frame_below cx.base cx.top (ocall_size f arguments)) (record s { size = ocall_size f arguments }))))
  testing_tests s l =
      let no_length : Bool = list_any (λ (p, a). has_no_length (length_of f arguments p a)) (zip f.params arguments) in
      let exceeded : Bool = list_any (λ (p, a). exceeds_block (length_of f arguments p a) a) (zip f.params arguments) in
      let later : List Instr = OTotal ∷ (where_is is_marshalled (λ n. OAdd n) f ++ (OTake ∷ [])) in
      append_does (where_is is_marshalled (λ n. OLength n) f) (where_is is_marshalled (λ n. OWithin n) f ++ later) s
      ∙ ap (λ t. and_then_ok t (does (where_is is_marshalled (λ n. OWithin n) f ++ later)))
      (tests_do (λ n. OLength n) (λ p a. has_no_length (length_of f arguments p a)) s
      (λ n p a g. ap (λ q. refusal (argument_is q (λ r c. has_no_length (length_of f arguments r c)) false) s) g) (λ p a e. quiet_length p.class p a e) f.params arguments 0 refl l)
      ∙ after_refusal no_length s (does (where_is is_marshalled (λ n. OWithin n) f ++ later))
      ∙ ap (λ t. if no_length then ret (Err INVALID_PARAMETER) else t)
      (append_does (where_is is_marshalled (λ n. OWithin n) f) later s
      ∙ ap (λ t. and_then_ok t (does later))
      (tests_do (λ n. OWithin n) (λ p a. exceeds_block (length_of f arguments p a) a) s
      (λ n p a g. ap (λ q. refusal (argument_is q (λ r c. exceeds_block (length_of f arguments r c) c) false) s) g) (λ p a e. quiet_within p.class p a e) f.params arguments 0 refl l)
      ∙ after_refusal exceeded s (does later)
      ∙ ap (λ t. if exceeded then ret (Err INVALID_PARAMETER) else t) (taking_does s l))

  -- so it refuses by the rows of the OCALL
  pub testing_does : (s : ProxyState) → length f.params ≡ length arguments → has_frame f ≡ true
      → does testing_list s ≡ and_then_ok (ret (unless_refused (first_row (ocall_rows cx f arguments)))) (λ allowed. ret (taken f (frame_below cx.base cx.top (ocall_size f arguments)) (record s { size = ocall_size f arguments })))
  testing_does s l h =
      let no_length : Bool = list_any (λ (p, a). has_no_length (length_of f arguments p a)) (zip f.params arguments) in
      let exceeded : Bool = list_any (λ (p, a). exceeds_block (length_of f arguments p a) a) (zip f.params arguments) in
      let o : Option ℕ = frame_below cx.base cx.top (ocall_size f arguments) in
      testing_tests s l
      ∙ refuses no_length exceeded o (record s { size = ocall_size f arguments })
      ∙ ap (λ b. and_then_ok (ret (unless_refused (if no_length then Some INVALID_PARAMETER else (if exceeded then Some INVALID_PARAMETER else (if b && is_none o then Some UNEXPECTED else None)))))
      (λ allowed. ret (taken f o (record s { size = ocall_size f arguments })))) (sym h)
