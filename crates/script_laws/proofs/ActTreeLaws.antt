-- The acts of a block without fault are sound, with all that is repeated in it.
use Rattle.std.proofs.Common.{arith, ℕ, zero, suc, ◌≡◌, ◌+◌, ◌-◌, ◌*◌, ◌<◌, ◌≤◌, Bool, true, false, List, [], ◌∷◌, ◌++◌, length, map, Option, Some, None, refl, sym, ap, subst, ◌∙◌, append_assoc, eqb-true, ltb-false, leb-false, lt-ltb}
use Rattle.std.specs.Prelude.{◌==◌, ◌&&◌, not, filter, fold, find, slice_get, unwrap_or, option_and_then, if◌then◌else◌, count_by, is_some, nat_lt}
use Rattle.std.specs.List.{AllByRecursion, AllZip, cons_option, list_any, prefix_len}
use Rattle.std.specs.Str.{bytes_eq}
use Rattle.std.proofs.lemmas.Bool.{not-false}
use Rattle.std.proofs.lemmas.List.Sums.{sum_by-cons}
use Rattle.sgx_base.specs.Numbers.{spelled_number}
use Rattle.edl_interface.specs.declared.Plain.{Plain}
use Rattle.edl_interface.specs.declared.Function.{Function}
use Rattle.edl_interface.specs.declared.Interface.{Interface}
use Rattle.call_script.specs.declared.HostAct.{HostAct}
use Rattle.call_script.specs.Spelling.{Word, is_number, is_wide, is_out_of, is_place_out, is_in_frame}
use Rattle.call_script.specs.Settings.{host}
use Rattle.call_script.specs.Line.{Line, Call, Raw, Poke, Peek, Repeat, Return, Status}
use Rattle.call_script.specs.Block.{Block, Scope, Outside, InBody, InHandler, InThread, InRacer, PlacedLine, home, scope_of, scope_at, scope_in_repeat}
use Rattle.call_script.specs.Arguments.{number_of, is_wrong_argument, is_misfit, is_bad_hex_argument, is_frame_argument}
use Rattle.call_script.specs.Standing.{Standing, standings, lines_of, setting_in, named, is_function, has_other_count, any_argument, handled_function, is_handler, is_repeat, times_of, repetitions}
use Rattle.call_script.specs.Faults.{max_nesting, is_outside_host_by, hex_count, peek_count}
use Rattle.call_script.specs.Meaning.{ordinal_in, ordinal_of, arguments, act_of, acts_by, acts_to}
use Rattle.call_script.specs.Sound.{HasReturn, HasReply, MayCall, MayPeek, IsSoundCall, IsSoundArgument, IsSoundAct, AreSoundActsIn}
use Rattle.script_laws.proofs.ActLaws.{IsSoundAct-Repeat}
use Rattle.script_laws.proofs.ActionLaws.{there, or-false}
use Rattle.script_laws.proofs.ArgumentLaws.{in-range, number_of-word}
use Rattle.script_laws.proofs.ActLineLaws.{handler_actor, actor_in, sound_poke, sound_peek, sound_arguments, frame-here}
use Rattle.script_laws.proofs.LimitLaws.{within-limits}
use Rattle.script_laws.proofs.Forms.{IsNoRacer}
use Rattle.script_laws.proofs.FineLines.{IsFine}
use Rattle.script_laws.proofs.FineForms.{IsFineAs, AreFine, fine-as}
use Rattle.script_laws.proofs.BlockLaws.{IsIn, is-in, AreNested, IsBlockOf, opened-block}

-- ---- functions by name

first-place : {A : Type 0} (test : A → Bool) (xs : List A) (x : A) → find test xs ≡ Some x
    → (prefix_len (λ y. not (test y)) xs < length xs) × (slice_get xs (prefix_len (λ y. not (test y)) xs) ≡ Some x)
first-place test [] x e = absurd cc
first-place test (y ∷ xs) x e = go (test y) refl e (first-place test xs x)
  where
    go : (t : Bool) → test y ≡ t → (if t then Some y else find test xs) ≡ Some x
        → (find test xs ≡ Some x → (prefix_len (λ z. not (test z)) xs < length xs)
        × (slice_get xs (prefix_len (λ z. not (test z)) xs) ≡ Some x))
        → (prefix_len (λ z. not (test z)) (y ∷ xs) < length (y ∷ xs))
        × (slice_get (y ∷ xs) (prefix_len (λ z. not (test z)) (y ∷ xs)) ≡ Some x)
    go true h e rest = rw h (omega arith, e)
    go false h e rest =
        let r = rest e in
        let n : 1 + prefix_len (λ z. not (test z)) xs ≡ suc (prefix_len (λ z. not (test z)) xs) = omega arith in
        rw h (omega (arith, r.0), subst (λ k. slice_get (y ∷ xs) k ≡ Some x) (sym n) r.1)

place-first : {A : Type 0} (test : A → Bool) (xs : List A) (x : A) → slice_get xs (prefix_len (λ y. not (test y)) xs)
    ≡ Some x → find test xs ≡ Some x
place-first test [] x e = absurd cc
place-first test (y ∷ xs) x e = go (test y) refl e (place-first test xs x)
  where
    go : (t : Bool) → test y ≡ t → slice_get (y ∷ xs) (prefix_len (λ z. not (test z)) (y ∷ xs)) ≡ Some x
        → (slice_get xs (prefix_len (λ z. not (test z)) xs) ≡ Some x → find test xs ≡ Some x)
        → (if t then Some y else find test xs) ≡ Some x
    go true h e rest = let z = rw h at e in z
    go false h e rest =
        let n : 1 + prefix_len (λ z. not (test z)) xs ≡ suc (prefix_len (λ z. not (test z)) xs) = omega arith in
        let z = rw h at e in
        rest (subst (λ k. slice_get (y ∷ xs) k ≡ Some x) n z)

guarded : (t : Bool) (n k : ℕ) → ◌≡◌ {A = Option ℕ} (if t then Some n else None) (Some k) → n ≡ k
guarded true n k e = ap (λ o. unwrap_or o n) e
guarded false n k e = absurd cc

-- the function of a name stands at its ordinal
pub found-at : (fs : List Function) (w : Word) (f : Function) → named fs w ≡ Some f
    → slice_get fs (ordinal_of fs w) ≡ Some f
found-at fs w f e =
    let first = first-place (λ g. bytes_eq g.name w) fs f e in
    let within : nat_lt (prefix_len (λ y. not (bytes_eq y.name w)) fs) (length fs) ≡ true = lt-ltb _ _ first.0 in
    subst (λ t. slice_get fs (unwrap_or (if t then Some (prefix_len (λ y. not (bytes_eq y.name w)) fs) else None) 0)
    ≡ Some f) (sym within) first.1

-- the function at the ordinal of a name has it first
pub named-at : (fs : List Function) (w : Word) (k : ℕ) (f : Function) → ordinal_in fs w ≡ Some k
    → slice_get fs k ≡ Some f → named fs w ≡ Some f
named-at fs w k f e h =
    let same = guarded (nat_lt (prefix_len (λ y. not (bytes_eq y.name w)) fs) (length fs))
    (prefix_len (λ y. not (bytes_eq y.name w)) fs) k e in
    place-first (λ g. bytes_eq g.name w) fs f (subst (λ n. slice_get fs n ≡ Some f) (sym same) h)

-- ---- who acts

-- a handler's function is known
abbrev pub IsKnownScope : Interface → Scope → Type 0
IsKnownScope i (InHandler name) = (f : Function) × (named i.ocalls name ≡ Some f)
IsKnownScope i _ = Unit {0}

may-call-by : (o : Option Function) → is_function (λ f. f.switchless) o ≡ false → MayCall (handler_actor o)
may-call-by None e = tt
may-call-by (Some f) e = e

may-call : (i : Interface) (scope : Scope) → IsNoRacer scope
    → is_function (λ f. f.switchless) (handled_function i scope) ≡ false → MayCall (actor_in i scope)
may-call i Outside n e = tt
may-call i (InBody name) n e = tt
may-call i (InHandler name) n e = may-call-by (named i.ocalls name) e
may-call i InThread n e = tt
may-call i InRacer n e = n

may-peek-by : (o : Option Function) → MayPeek (handler_actor o)
may-peek-by None = tt
may-peek-by (Some f) = tt

may-peek : (i : Interface) (scope : Scope) → IsNoRacer scope → MayPeek (actor_in i scope)
may-peek i Outside n = tt
may-peek i (InBody name) n = tt
may-peek i (InHandler name) n = may-peek-by (named i.ocalls name)
may-peek i InThread n = tt
may-peek i InRacer n = n

has-return-by : (o : Option Function) → is_function (λ f. is_some f.ret) o ≡ true → HasReturn (handler_actor o)
has-return-by None e = absurd cc
has-return-by (Some f) e = go f.ret refl e
  where
    go : (r : Option Plain) → f.ret ≡ r → is_some r ≡ true → (p : Plain) × (f.ret ≡ Some p)
    go None h e = absurd cc
    go (Some p) h e = (p, h)

has-return : (i : Interface) (scope : Scope) → is_function (λ f. is_some f.ret) (handled_function i scope) ≡ true
    → HasReturn (actor_in i scope)
has-return i Outside e = absurd cc
has-return i (InBody name) e = absurd cc
has-return i (InHandler name) e = has-return-by (named i.ocalls name) e
has-return i InThread e = absurd cc
has-return i InRacer e = absurd cc

has-reply : (i : Interface) (scope : Scope) → IsKnownScope i scope → is_handler scope ≡ true
    → HasReply (actor_in i scope)
has-reply i Outside k e = absurd cc
has-reply i (InBody name) k e = absurd cc
has-reply i (InHandler name) k e = subst (λ o. HasReply (handler_actor o)) (sym k.1) tt
has-reply i InThread k e = absurd cc
has-reply i InRacer k e = absurd cc

same-actor : (i : Interface) (scope : Scope) → actor_in i (scope_in_repeat scope) ≡ actor_in i scope
same-actor i Outside = refl
same-actor i (InBody name) = refl
same-actor i (InHandler name) = refl
same-actor i InThread = refl
same-actor i InRacer = refl

known-repeat : (i : Interface) (scope : Scope) → IsKnownScope i scope → IsKnownScope i (scope_in_repeat scope)
known-repeat i Outside k = tt
known-repeat i (InBody name) k = tt
known-repeat i (InHandler name) k = k
known-repeat i InThread k = tt
known-repeat i InRacer k = tt

-- ---- repetitions

abbrev pub times_around : List Block → ℕ
times_around blocks = fold (λ n b. n * times_of b.opening) 1 blocks

fold-times : (a t : ℕ) (blocks : List Block) → fold (λ n b. n * times_of b.opening) (a * t) blocks
    ≡ fold (λ n b. n * times_of b.opening) a blocks * t
fold-times a t [] = refl
fold-times a t (b ∷ blocks) =
    let swap : a * t * times_of b.opening ≡ a * times_of b.opening * t = omega arith in
    ap (λ n. fold (λ n b. n * times_of b.opening) n blocks) swap ∙ fold-times (a * times_of b.opening) t blocks

-- how many of the blocks are repeats
abbrev pub repeat_count : List Block → ℕ
repeat_count blocks = count_by is_repeat (map (λ b. b.opening) blocks)

-- ---- one act

module _ (i : Interface) (racing : Bool) (script : List PlacedLine) where
  abbrev pub host_size : ℕ
  host_size = setting_in (lines_of script) host

  call-is : (s : Standing) (name : Word) (args : List Word) → IsFineAs i racing script s (Call name args)
      → IsSoundCall i host_size (actor_in i (scope_at s.here)) (ordinal_of i.ecalls name)
      (arguments i racing script (named i.ecalls name) args)
  call-is s name args fine =
      let function = there (named i.ecalls name) fine.rules.1.1.1.1.0 in
      let six = or-false (has_other_count (named i.ecalls name) args)
      (any_argument (λ p w. is_wrong_argument p.class w) (named i.ecalls name) args) fine.rules.1.1.1.1.1.0 in
      let count : not (length args == length function.0.params) ≡ false =
      subst (λ o. has_other_count o args ≡ false) function.1 six.0 in
      record {
        function = function.0;
        found = found-at i.ecalls name function.0 function.1;
        fits =
            subst (λ o. AllZip (λ p arg. IsSoundArgument (actor_in i (scope_at s.here)) p.class arg) function.0.params
            (arguments i racing script o args)) (sym function.1)
            (sound_arguments i host_size (scope_at s.here) (actor_in i (scope_at s.here)) function.0.params args
            (eqb-true (length args) (length function.0.params) (not-false _ count))
            (subst (λ o. any_argument (λ p w. is_wrong_argument p.class w) o args ≡ false) function.1 six.1)
            (subst (λ o. any_argument (λ p w. is_misfit p.class w) o args ≡ false) function.1 fine.rules.1.1.1.1.1.1.0)
            (subst (λ o. any_argument (λ p w. is_bad_hex_argument p.class w) o args ≡ false) function.1
            fine.rules.1.1.1.1.1.1.1.1.1.1.1.1.1.1.1.1.0)
            fine.rules.1.0
            (frame-here i host_size (scope_at s.here) (list_any is_frame_argument args)
            fine.rules.1.1.1.1.1.1.1.1.1.1.1.1.1.1.1.1.1.0));
        allowed = may-call i (scope_at s.here) fine.form fine.rules.1.1.1.1.1.1.1.1.1.1.1.1.1.1.0;
      }

  module _ (acts_in : ℕ → List HostAct) (nesting : ℕ) where
    abbrev IsActOf : Standing → HostAct → Type 0
    IsActOf s act = IsSoundAct i host_size (actor_in i (scope_at s.here)) act nesting (repetitions s)

    -- what a repeat does, where it may stand
    abbrev IsInner : Standing → Word → Type 0
    IsInner s times =
        is_number times ≡ true → repeat_count s.here.blocks < max_nesting → (1 ≤ nesting)
        × AreSoundActsIn i host_size (actor_in i (scope_at s.here)) (acts_in s.here.number) (nesting - 1)
        (repetitions s * number_of times)

    same-act : (a b : HostAct) → ◌≡◌ {A = Option HostAct} (Some a) (Some b) → a ≡ b
    same-act a b e = ap (λ o. unwrap_or o a) e

    act-is : (s : Standing) (line : Line) → IsFineAs i racing script s line → IsKnownScope i (scope_at s.here)
        → ((times : Word) → line ≡ Repeat times → IsInner s times)
        → (act : HostAct) → act_of i racing script acts_in s.here.number line ≡ Some act → IsActOf s act
    act-is s (Call name args) fine known inner act e = subst (IsActOf s) (same-act _ act e) (call-is s name args fine)
    act-is s (Raw ordinal address) fine known inner act e =
        let two = or-false (is_out_of 0 4294967295 ordinal) (is_wide address) fine.rules.1.0 in
        let range = in-range 0 4294967295 ordinal fine.form.1 two.0 in
        subst (IsActOf s) (same-act _ act e) (record {
          ordinal_fits = omega arith;
          address_fits = number_of-word address;
          allowed = may-call i (scope_at s.here) fine.form.0 fine.rules.1.1.1.1.1.1.1.1.1.1.1.1.1.1.0;
        })
    act-is s (Poke at hex) fine known inner act e =
        subst (IsActOf s) (same-act _ act e) (sound_poke i host_size (scope_at s.here) at hex fine.form fine.rules.1.0
        (subst (λ n. (not (is_in_frame at) && is_outside_host_by n (spelled_number at) (hex_count hex)) ≡ false)
        (fine.settled refl host) fine.rules.1.1.1.0)
        fine.rules.1.1.1.1.1.1.1.1.1.1.1.1.1.1.1.1.0 fine.rules.1.1.1.1.1.1.1.1.1.1.1.1.1.1.1.1.1.0)
    act-is s (Peek at count) fine known inner act e =
        let two = or-false (is_place_out at) (is_out_of 1 4096 count) fine.rules.1.0 in
        subst (IsActOf s) (same-act _ act e)
        (sound_peek i host_size (scope_at s.here) (may-peek i (scope_at s.here) fine.form.0) at count fine.form.1
        fine.form.2 two.0 two.1
        (subst (λ n. (not (is_in_frame at) && is_outside_host_by n (spelled_number at) (peek_count count)) ≡ false)
        (fine.settled refl host) fine.rules.1.1.1.0)
        fine.rules.1.1.1.1.1.1.1.1.1.1.1.1.1.1.1.1.1.0)
    act-is s (Return value) fine known inner act e =
        subst (IsActOf s) (same-act _ act e) (
          has-return i (scope_at s.here) (not-false _ fine.rules.1.1.1.1.1.1.1.1.1.1.1.1.1.1.1.1.1.0),
          number_of-word value,
        )
    act-is s (Status status) fine known inner act e =
        let range = in-range 0 0xffff status fine.form fine.rules.1.0 in
        subst (IsActOf s) (same-act _ act e) (
          has-reply i (scope_at s.here) known (not-false _ fine.rules.1.1.1.1.1.1.1.1.1.1.1.1.1.1.1.1.1.0),
          omega arith,
        )
    act-is s (Repeat times) fine known inner act e =
        let limits = within-limits s (Repeat times) fine.rules.1.1.1.1.1.1.1.1.1.1.1.1.1.1.1.0 in
        let range = in-range 1 10000 times fine.form fine.rules.1.0 in
        let body = inner times refl fine.form (leb-false _ _ limits.nesting) in
        subst (IsActOf s) (same-act _ act e)
        (subst (λ P. P)
        (sym (IsSoundAct-Repeat i host_size (actor_in i (scope_at s.here)) (number_of times)
        (acts_in s.here.number) nesting (repetitions s)))
        (record { nested = body.0; from = range.0; upto = range.1; in_all = ltb-false _ _ limits.repetitions }, body.1))
    act-is s line fine known inner act e = absurd cc

    sound-cons : (s : Standing) (acts : List HostAct) (o : Option HostAct)
        → ((act : HostAct) → o ≡ Some act → IsActOf s act)
        → AreSoundActsIn i host_size (actor_in i (scope_at s.here)) acts nesting (repetitions s)
        → AreSoundActsIn i host_size (actor_in i (scope_at s.here)) (cons_option o acts) nesting (repetitions s)
    sound-cons s acts None h g = g
    sound-cons s acts (Some act) h g = (h act refl, g)

    -- ---- the acts of a block

    module _ (n : ℕ) (blocks : List Block) (block : IsBlockOf script n blocks)
        (known : IsKnownScope i (scope_of blocks)) where
      abbrev AreSoundHere : List HostAct → Type 0
      AreSoundHere acts = AreSoundActsIn i host_size (actor_in i (scope_of blocks)) acts nesting (times_around blocks)

      acts-walk : ((l : PlacedLine) (times : Word) → IsIn script l → l.line ≡ Some (Repeat times) → l.blocks ≡ blocks
          → repeat_count blocks < max_nesting
          → (1 ≤ nesting) × AreSoundActsIn i host_size (actor_in i (scope_of blocks)) (acts_in l.number) (nesting - 1)
          (times_around blocks * number_of times))
          → (before ls : List PlacedLine) → before ++ ls ≡ script → AreFine i racing script before ls
          → AreSoundHere (acts_by i racing script acts_in (filter (λ l. home l == n) ls))
      acts-walk inner before [] w q = tt
      acts-walk inner before (l ∷ ls) w q =
          go (home l == n) refl (acts-walk inner (before ++ l ∷ []) ls (append_assoc before (l ∷ []) ls ∙ w) q.1)
        where
          s : Standing
          s = record { before = before; here = l; behind = ls }

          among : IsIn script l
          among = is-in script before l ls w

          go : (t : Bool) → (home l == n) ≡ t
              → AreSoundHere (acts_by i racing script acts_in (filter (λ l. home l == n) ls))
              → AreSoundHere (acts_by i racing script acts_in (if t then l ∷ filter (λ l. home l == n) ls
              else filter (λ l. home l == n) ls))
          go false e rest = rest
          go true e rest =
              let same : l.blocks ≡ blocks = block l among e in
              let fine = fine-as i racing script s q.0.line q.0 q.0.here in
              subst (λ bs. AreSoundActsIn i host_size (actor_in i (scope_of bs))
              (cons_option (option_and_then (act_of i racing script acts_in l.number) l.line)
              (acts_by i racing script acts_in (filter (λ l. home l == n) ls))) nesting (times_around bs)) same
              (sound-cons s (acts_by i racing script acts_in (filter (λ l. home l == n) ls))
              (option_and_then (act_of i racing script acts_in l.number) l.line)
              (λ act f. act-is s q.0.line fine (subst (λ bs. IsKnownScope i (scope_of bs)) (sym same) known)
              (λ times is number few.
              subst (λ bs. (1 ≤ nesting)
              × AreSoundActsIn i host_size (actor_in i (scope_of bs)) (acts_in l.number) (nesting - 1)
              (times_around bs * number_of times)) (sym same)
              (inner l times among (q.0.here ∙ ap (λ x. Some x) is) same
              (subst (λ bs. repeat_count bs < max_nesting) same few)))
              act (ap (λ o. option_and_then (act_of i racing script acts_in l.number) o) (sym q.0.here) ∙ f))
              (subst (λ bs. AreSoundActsIn i host_size (actor_in i (scope_of bs))
              (acts_by i racing script acts_in (filter (λ l. home l == n) ls)) nesting (times_around bs))
              (sym same) rest))

  -- ---- with all that is repeated in it

  module _ (nested : AreNested script) (fine : AllByRecursion (IsFine i racing script) (standings script)) where
    abbrev AreSoundTo : ℕ → Type 0
    AreSoundTo d =
        (n : ℕ) (blocks : List Block) → IsBlockOf script n blocks → IsKnownScope i (scope_of blocks)
        → repeat_count blocks + d ≡ max_nesting
        → AreSoundActsIn i host_size (actor_in i (scope_of blocks)) (acts_to i racing script d n) d
        (times_around blocks)

    inside : (d : ℕ) → AreSoundTo d → (blocks : List Block) → IsKnownScope i (scope_of blocks)
        → repeat_count blocks + suc d ≡ max_nesting
        → (l : PlacedLine) (times : Word) → IsIn script l → l.line ≡ Some (Repeat times) → l.blocks ≡ blocks
        → AreSoundActsIn i host_size (actor_in i (scope_of blocks)) (acts_to i racing script d l.number) (suc d - 1)
        (times_around blocks * number_of times)
    inside d below blocks known count l times among is same =
        let inner : List Block = record { number = l.number; opening = Repeat times } ∷ blocks in
        let one = sum_by-cons (λ x. if is_repeat x then 1 else 0) (Repeat times) (map (λ b. b.opening) blocks) in
        let down : d ≡ suc d - 1 = omega arith in
        let product : times_around inner ≡ times_around blocks * number_of times =
        fold-times 1 (number_of times) blocks in
        subst (λ m. AreSoundActsIn i host_size (actor_in i (scope_of blocks)) (acts_to i racing script d l.number) m
        (times_around blocks * number_of times)) down
        (subst (λ m. AreSoundActsIn i host_size (actor_in i (scope_of blocks)) (acts_to i racing script d l.number) d
        m) product
        (subst (λ who. AreSoundActsIn i host_size who (acts_to i racing script d l.number) d (times_around inner))
        (same-actor i (scope_of blocks))
        (below l.number inner
        (subst (λ bs. IsBlockOf script l.number (record { number = l.number; opening = Repeat times } ∷ bs)) same
        (opened-block script nested l (Repeat times) among is))
        (known-repeat i (scope_of blocks) known)
        (omega arith))))

    pub acts-sound : (d : ℕ) → AreSoundTo d
    acts-sound zero n blocks block known count =
        acts-walk (λ m. []) zero n blocks block known (λ l times among is same few. absurd (omega arith)) [] script
        refl fine
    acts-sound (suc d) n blocks block known count =
        acts-walk (acts_to i racing script d) (suc d) n blocks block known
        (λ l times among is same few. (omega arith, inside d (acts-sound d) blocks known count l times among is same))
        [] script refl fine
