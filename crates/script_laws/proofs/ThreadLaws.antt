-- The acts of handlers, of host threads and of racers without fault are sound.
use Rattle.std.proofs.Common.{arith, ℕ, zero, suc, ◌≡◌, ◌+◌, ◌≤◌, Bool, true, false, List, [], ◌∷◌, ◌++◌, length, map, Option, Some, None, refl, sym, ap, subst, ◌∙◌, append_assoc, eqb-true, leb-false}
use Rattle.std.specs.Prelude.{◌==◌, ◌&&◌, not, filter, find, slice_get, unwrap_or, option_and_then, option_map, if◌then◌else◌, count_by, nat_le}
use Rattle.std.specs.List.{AllByRecursion, AllZip, cons_option, enumerate_from}
use Rattle.std.proofs.lemmas.List.{length-map}
use Rattle.std.proofs.lemmas.List.Elements.{All-from_recursion}
use Rattle.std.proofs.lemmas.List.Sums.{sum_by-cons, sum_by-append}
use Rattle.edl_interface.specs.declared.Function.{Function}
use Rattle.edl_interface.specs.declared.Interface.{Interface}
use Rattle.call_script.specs.declared.HostAct.{HostAct}
use Rattle.call_script.specs.Spelling.{Word}
use Rattle.call_script.specs.Line.{Line, Handler, Thread, Racer, Call, Raw, Poke, Peek, Repeat, Return, Status}
use Rattle.call_script.specs.Block.{PlacedLine, home, scope_at}
use Rattle.call_script.specs.Standing.{Standing, standings, lines_of, handler_name, is_act, is_thread, is_racer}
use Rattle.call_script.specs.Faults.{max_acts, max_nesting, max_threads, max_racers}
use Rattle.call_script.specs.Meaning.{ordinal_in, is_line, names_ordinal, opening_of, act_of, acts_by, acts_to, acts_in, handler_at, acts_of_blocks}
use Rattle.call_script.specs.Sound.{OfThread, OfHandler, OfRacer, AreSoundActs, AreSoundThreads}
use Rattle.script_laws.proofs.ActLineLaws.{handler_actor}
use Rattle.script_laws.proofs.LimitLaws.{within-limits}
use Rattle.script_laws.proofs.Forms.{IsOutside}
use Rattle.script_laws.proofs.SettingLaws.{count-lines}
use Rattle.script_laws.proofs.FineLines.{IsFine}
use Rattle.script_laws.proofs.FineForms.{IsFineAs, AreFine, fine-as, pushed, along}
use Rattle.script_laws.proofs.BlockLaws.{IsIn, is-in, AreNested, IsBlockOf, opened-block, outside-block, outside-is}
use Rattle.script_laws.proofs.ActTreeLaws.{host_size, named-at, acts-sound}

-- ---- finding lines

find-some : {A : Type 0} (test : A → Bool) (xs : List A) (x : A) → find test xs ≡ Some x → (k : ℕ)
    × (slice_get xs k ≡ Some x) × (test x ≡ true)
find-some test [] x e = absurd cc
find-some test (y ∷ xs) x e = go (test y) refl e (find-some test xs x)
  where
    go : (t : Bool) → test y ≡ t → (if t then Some y else find test xs) ≡ Some x
        → (find test xs ≡ Some x → (k : ℕ) × (slice_get xs k ≡ Some x) × (test x ≡ true))
        → (k : ℕ) × (slice_get (y ∷ xs) k ≡ Some x) × (test x ≡ true)
    go true h e rest = (0, e, let same : y ≡ x = ap (λ o. unwrap_or o y) e in subst (λ z. test z ≡ true) same h)
    go false h e rest = let r = rest e in (suc r.0, r.1, r.2)

-- a line that names the function of an ordinal
pub record IsNaming (name_of : Line → Option Word) (fs : List Function) (n : ℕ) (l : PlacedLine) : Type 0 where
  pub line : Line
  pub name : Word
  pub is_line : l.line ≡ Some line
  pub is_named : name_of line ≡ Some name
  pub is_ordinal : ordinal_in fs name ≡ Some n

naming : (name_of : Line → Option Word) (fs : List Function) (n : ℕ) (l : PlacedLine)
    → names_ordinal name_of fs n l ≡ true → IsNaming name_of fs n l
naming name_of fs n l e = go l.line refl e
  where
    third : (line : Line) (name : Word) (o : Option ℕ) → l.line ≡ Some line → name_of line ≡ Some name
        → ordinal_in fs name ≡ o → unwrap_or (option_map (λ k. k == n) o) false ≡ true → IsNaming name_of fs n l
    third line name None a b c e = absurd cc
    third line name (Some k) a b c e =
        record {
          line = line;
          name = name;
          is_line = a;
          is_named = b;
          is_ordinal = c
              ∙ ap (λ j. Some j) (eqb-true k n e);
        }

    second : (line : Line) (o : Option Word) → l.line ≡ Some line → name_of line ≡ o
        → unwrap_or (option_map (λ k. k == n) (option_and_then (ordinal_in fs) o)) false ≡ true
        → IsNaming name_of fs n l
    second line None a b e = absurd cc
    second line (Some name) a b e = third line name (ordinal_in fs name) a b refl e

    go : (o : Option Line) → l.line ≡ o
        → unwrap_or (option_map (λ k. k == n) (option_and_then (ordinal_in fs) (option_and_then name_of o))) false
        ≡ true → IsNaming name_of fs n l
    go None a e = absurd cc
    go (Some line) a e = second line (name_of line) a refl e

-- the line that opens the block of a function
pub opening-is : (script : List PlacedLine) (name_of : Line → Option Word) (fs : List Function) (n : ℕ)
    (l : PlacedLine) → find (names_ordinal name_of fs n) script ≡ Some l → IsIn script l × IsNaming name_of fs n l
opening-is script name_of fs n l e =
    let f = find-some (names_ordinal name_of fs n) script l e in ((f.0, f.1), naming name_of fs n l f.2)

-- what is so for each function with its ordinal
pub zip-enumerated : {A B : Type 0} (R : A → B → Type 0) (g : ℕ × A → B) (n : ℕ) (xs : List A)
    → ((k m : ℕ) (x : A) → m ≡ n + k → slice_get xs k ≡ Some x → R x (g (m, x)))
    → AllZip R xs (map g (enumerate_from n xs))
zip-enumerated R g n [] h = tt
zip-enumerated R g n (x ∷ xs) h =
    (h 0 n x (omega arith) refl, zip-enumerated R g (n + 1) xs (λ k m y e f. h (suc k) m y (omega arith) f))

module _ (i : Interface) (racing : Bool) (script : List PlacedLine) where
  -- a line of a script without fault, where it stands
  fine-in : (before ls : List PlacedLine) (k : ℕ) (l : PlacedLine) → AreFine i racing script before ls
      → slice_get ls k ≡ Some l → (s : Standing) × (s.here ≡ l) × IsFine i racing script s
  fine-in before [] k l q e = absurd cc
  fine-in before (x ∷ ls) zero l q e =
      (record { before = before; here = x; behind = ls }, ap (λ o. unwrap_or o x) e, q.0)
  fine-in before (x ∷ ls) (suc k) l q e = fine-in (before ++ x ∷ []) ls k l q.1 e

  -- the walk over a limit: so many lines of a kind, with those at the start
  limit-walk : (kind : Line → Bool) (most : ℕ) (start : List Line)
      → ((s : Standing) (line : Line) → IsFineAs i racing script s line
      → (kind line && nat_le most (count_by kind (start ++ lines_of s.before))) ≡ false)
      → (before ls : List PlacedLine) → AreFine i racing script before ls
      → count_by kind (start ++ lines_of before) ≤ most
      → count_by kind (start ++ lines_of before) + count_by kind (lines_of ls) ≤ most
  limit-walk kind most start h before [] q c = omega arith
  limit-walk kind most start h before (l ∷ ls) q c =
      let now = one (kind q.0.line) refl (h s q.0.line (fine-as i racing script s q.0.line q.0 q.0.here)) in
      let more : count_by kind (start ++ lines_of (before ++ l ∷ [])) ≡ count_by kind (start ++ lines_of before)
      + count_by kind (q.0.line ∷ []) =
      ap (λ xs. count_by kind (start ++ xs)) (pushed before l q.0.line q.0.here)
      ∙ ap (count_by kind) (sym (append_assoc start (lines_of before) (q.0.line ∷ [])))
      ∙ sum_by-append (λ x. if kind x then 1 else 0) (start ++ lines_of before) (q.0.line ∷ []) in
      let rest = limit-walk kind most start h (before ++ l ∷ []) ls q.1 (omega arith) in
      let split : count_by kind (lines_of (l ∷ ls)) ≡ (if kind q.0.line then 1 else 0) + count_by kind (lines_of ls) =
      ap (λ o. count_by kind (cons_option o (lines_of ls))) q.0.here
      ∙ sum_by-cons (λ x. if kind x then 1 else 0) q.0.line (lines_of ls) in
      let single : count_by kind (q.0.line ∷ []) ≡ (if kind q.0.line then 1 else 0) =
      sum_by-cons (λ x. if kind x then 1 else 0) q.0.line [] ∙ omega arith in
      omega arith
    where
      s : Standing
      s = record { before = before; here = l; behind = ls }

      one : (t : Bool) → kind q.0.line ≡ t → (t && nat_le most (count_by kind (start ++ lines_of before))) ≡ false
          → count_by kind (start ++ lines_of before) + (if kind q.0.line then 1 else 0) ≤ most
      one true k e = let less = leb-false most (count_by kind (start ++ lines_of before)) e in rw k (omega arith)
      one false k e = rw k (omega arith)

  none-of-kind : (kind : Line → Bool) (ls : List PlacedLine) → AllByRecursion (λ line. kind line ≡ false) (lines_of ls)
      → filter (is_line kind) ls ≡ []
  none-of-kind kind [] h = refl
  none-of-kind kind (l ∷ ls) h = go l.line (none-of-kind kind ls) h
    where
      go : (o : Option Line)
          → (AllByRecursion (λ line. kind line ≡ false) (lines_of ls) → filter (is_line kind) ls ≡ [])
          → AllByRecursion (λ line. kind line ≡ false) (cons_option o (lines_of ls))
          → (if unwrap_or (option_map kind o) false then l ∷ filter (is_line kind) ls else filter (is_line kind) ls)
          ≡ []
      go None rest h = rest h
      go (Some line) rest h =
          subst (λ t. (if t then l ∷ filter (is_line kind) ls else filter (is_line kind) ls) ≡ []) (sym h.0) (rest h.1)

  -- each line of a kind
  kind-walk : (kind : Line → Bool) (P : List HostAct → Type 0)
      → ((l : PlacedLine) (line : Line) → IsIn script l → l.line ≡ Some line → kind line ≡ true
      → P (acts_in i racing script l.number))
      → (before ls : List PlacedLine) → before ++ ls ≡ script
      → AllByRecursion P (map (λ l. acts_in i racing script l.number) (filter (is_line kind) ls))
  kind-walk kind P h before [] w = tt
  kind-walk kind P h before (l ∷ ls) w =
      go l.line refl (kind-walk kind P h (before ++ l ∷ []) ls (append_assoc before (l ∷ []) ls ∙ w))
    where
      one : (line : Line) (t : Bool) → l.line ≡ Some line → kind line ≡ t
          → AllByRecursion P (map (λ l. acts_in i racing script l.number) (filter (is_line kind) ls))
          → AllByRecursion P (map (λ l. acts_in i racing script l.number) (if t then l ∷ filter (is_line kind) ls
          else filter (is_line kind) ls))
      one line true e k rest = (h l line (is-in script before l ls w) e k, rest)
      one line false e k rest = rest

      go : (o : Option Line) → l.line ≡ o
          → AllByRecursion P (map (λ l. acts_in i racing script l.number) (filter (is_line kind) ls))
          → AllByRecursion P (map (λ l. acts_in i racing script l.number) (if unwrap_or (option_map kind o) false
          then l ∷ filter (is_line kind) ls else filter (is_line kind) ls))
      go None e rest = rest
      go (Some line) e rest = one line (kind line) e refl rest

  module _ (nested : AreNested script) (fine : AllByRecursion (IsFine i racing script) (standings script)) where
    -- a block that is in no other
    pub own-block : (l : PlacedLine) (line : Line) → IsIn script l → l.line ≡ Some line → IsOutside (scope_at l)
        → IsBlockOf script l.number (record { number = l.number; opening = line } ∷ [])
    own-block l line among is out =
        subst (λ bs. IsBlockOf script l.number (record { number = l.number; opening = line } ∷ bs))
        (outside-is script nested l among out) (opened-block script nested l line among is)

    pub fine-at : (l : PlacedLine) (line : Line) → IsIn script l → l.line ≡ Some line → (s : Standing) × (s.here ≡ l)
        × IsFineAs i racing script s line
    fine-at l line among is =
        let f = fine-in [] script among.0 l fine among.1 in
        (f.0, f.1, fine-as i racing script f.0 line f.2 (ap (λ x. x.line) f.1 ∙ is))

    thread-is : (l : PlacedLine) (line : Line) → IsIn script l → l.line ≡ Some line → is_thread line ≡ true
        → AreSoundActs i (host_size i racing script) OfThread (acts_in i racing script l.number)
    thread-is l Thread among is k =
        let f = fine-at l Thread among is in
        acts-sound i racing script nested fine max_nesting l.number (record { number = l.number; opening = Thread }
        ∷ []) (own-block l Thread among is (subst (λ x. IsOutside (scope_at x)) f.1 f.2.form)) tt refl
    thread-is l line among is k = absurd cc

    racer-is : (l : PlacedLine) (line : Line) → IsIn script l → l.line ≡ Some line → is_racer line ≡ true
        → AreSoundActs i (host_size i racing script) OfRacer (acts_in i racing script l.number)
    racer-is l Racer among is k =
        let f = fine-at l Racer among is in
        acts-sound i racing script nested fine max_nesting l.number (record { number = l.number; opening = Racer }
        ∷ []) (own-block l Racer among is (subst (λ x. IsOutside (scope_at x)) f.1 f.2.form)) tt refl
    racer-is l line among is k = absurd cc

    -- ---- handlers

    handler-line : (line : Line) (name : Word) → handler_name line ≡ Some name → line ≡ Handler name
    handler-line (Handler name) n e = ap (λ o. Handler (unwrap_or o name)) e
    handler-line line n e = absurd cc

    handler-is : (k : ℕ) (f : Function) → slice_get i.ocalls k ≡ Some f
        → AreSoundActs i (host_size i racing script) (OfHandler f)
        (handler_at i racing script (opening_of i racing script handler_name i.ocalls k))
    handler-is k f e = go (find (names_ordinal handler_name i.ocalls k) script) refl
      where
        go : (o : Option PlacedLine) → find (names_ordinal handler_name i.ocalls k) script ≡ o
            → AreSoundActs i (host_size i racing script) (OfHandler f)
            (handler_at i racing script (option_map (λ l. l.number) o))
        go None h = tt
        go (Some l) h =
            let o = opening-is script handler_name i.ocalls k l h in
            let is : l.line ≡ Some (Handler o.1.name) = o.1.is_line
            ∙ ap (λ x. Some x) (handler-line o.1.line o.1.name o.1.is_named) in
            let g = fine-at l (Handler o.1.name) o.0 is in
            let known = named-at i.ocalls o.1.name k f o.1.is_ordinal e in
            subst (λ x. AreSoundActs i (host_size i racing script) (handler_actor x)
            (acts_in i racing script l.number)) known
            (acts-sound i racing script nested fine max_nesting l.number
            (record { number = l.number; opening = Handler o.1.name } ∷ [])
            (own-block l (Handler o.1.name) o.0 is (subst (λ x. IsOutside (scope_at x)) g.1 g.2.form)) (f, known) refl)

    pub sound-handlers : AllZip (λ f acts. AreSoundActs i (host_size i racing script) (OfHandler f) acts) i.ocalls
        (map (λ p. handler_at i racing script (opening_of i racing script handler_name i.ocalls p.0))
        (enumerate_from 0 i.ocalls))
    sound-handlers =
        zip-enumerated (λ f acts. AreSoundActs i (host_size i racing script) (OfHandler f) acts)
        (λ p. handler_at i racing script (opening_of i racing script handler_name i.ocalls p.0)) 0 i.ocalls
        (λ k m f e g. handler-is m f (subst (λ n. slice_get i.ocalls n ≡ Some f) (let z : k ≡ m = omega arith in z) g))

    -- ---- threads and racers

    is-no-thread : (s : Standing) (line : Line) → IsFineAs i racing script s line → racing ≡ false
        → is_thread line ≡ false
    is-no-thread s Thread f e =
        let other : not racing ≡ false = f.rules.1.1.1.1.1.1.1.1.1.1.1.1.1.0 in let z = rw e at other in absurd cc
    is-no-thread s line f e = refl

    is-no-racer : (s : Standing) (line : Line) → IsFineAs i racing script s line → racing ≡ false
        → is_racer line ≡ false
    is-no-racer s Racer f e =
        let other : not racing ≡ false = f.rules.1.1.1.1.1.1.1.1.1.1.1.1.1.0 in let z = rw e at other in absurd cc
    is-no-racer s line f e = refl

    length-blocks : (kind : Line → Bool)
        → length (acts_of_blocks i racing script kind) ≡ count_by kind (lines_of script)
    length-blocks kind =
        length-map (filter (is_line kind) script) (λ l. acts_in i racing script l.number) ∙ count-lines kind script

    -- ---- how many acts

    act-lines : (among : ℕ → List HostAct) (n : ℕ) (line : Line)
        → length (cons_option (act_of i racing script among n line) []) ≤ (if is_act line then 1 else 0)
    act-lines among n (Call name args) = omega arith
    act-lines among n (Raw ordinal address) = omega arith
    act-lines among n (Poke place hex) = omega arith
    act-lines among n (Peek place count) = omega arith
    act-lines among n (Repeat times) = omega arith
    act-lines among n (Return value) = omega arith
    act-lines among n (Status status) = omega arith
    act-lines among n line = omega arith

    length-cons : {A : Type 0} (o : Option A) (xs : List A) → length (cons_option o xs) ≡ length (cons_option o [])
        + length xs
    length-cons None xs = omega arith
    length-cons (Some x) xs = omega arith

    -- a block has no more acts than the script has lines of acts
    block-acts : (among : ℕ → List HostAct) (n : ℕ) (ls : List PlacedLine)
        → length (acts_by i racing script among (filter (λ l. home l == n) ls)) ≤ count_by is_act (lines_of ls)
    block-acts among n [] = omega arith
    block-acts among n (l ∷ ls) = go (home l == n) (block-acts among n ls)
      where
        passed : (o : Option Line) (xs : List HostAct) → length xs ≤ count_by is_act (lines_of ls)
            → length xs ≤ count_by is_act (cons_option o (lines_of ls))
        passed None xs h = h
        passed (Some line) xs h = let c = sum_by-cons (λ x. if is_act x then 1 else 0) line (lines_of ls) in omega arith

        taken : (o : Option Line) (xs : List HostAct) → length xs ≤ count_by is_act (lines_of ls)
            → length (cons_option (option_and_then (act_of i racing script among l.number) o) xs)
            ≤ count_by is_act (cons_option o (lines_of ls))
        taken None xs h = h
        taken (Some line) xs h =
            let c = sum_by-cons (λ x. if is_act x then 1 else 0) line (lines_of ls) in
            let a = length-cons (act_of i racing script among l.number line) xs in
            let b = act-lines among l.number line in
            omega arith

        go : (t : Bool) → length (acts_by i racing script among (filter (λ l. home l == n) ls))
            ≤ count_by is_act (lines_of ls)
            → length (acts_by i racing script among (if t then l ∷ filter (λ l. home l == n) ls
            else filter (λ l. home l == n) ls)) ≤ count_by is_act (lines_of (l ∷ ls))
        go true rest = taken l.line (acts_by i racing script among (filter (λ l. home l == n) ls)) rest
        go false rest = passed l.line (acts_by i racing script among (filter (λ l. home l == n) ls)) rest

    few-acts : (n : ℕ) → length (acts_in i racing script n) ≤ max_acts
    few-acts n =
        let c =
        limit-walk is_act max_acts []
        (λ s line f. (within-limits s line f.rules.1.1.1.1.1.1.1.1.1.1.1.1.1.1.1.0).acts) [] script fine
        (omega arith) in
        let b = block-acts (acts_to i racing script 3) n script in
        omega arith

    few-in : (ls : List PlacedLine)
        → AllByRecursion (λ acts. length acts ≤ max_acts) (map (λ l. acts_in i racing script l.number) ls)
    few-in [] = tt
    few-in (l ∷ ls) = (few-acts l.number, few-in ls)

    pub sound-threads : AreSoundThreads i racing (host_size i racing script) (acts_in i racing script 0
        ∷ acts_of_blocks i racing script is_thread) (acts_of_blocks i racing script is_racer)
    sound-threads = record {
      first = omega arith;
      few =
          let c = limit-walk is_thread max_threads (Thread
          ∷ []) (λ s line f. (within-limits s line f.rules.1.1.1.1.1.1.1.1.1.1.1.1.1.1.1.0).threads) [] script fine
          (omega arith) in
          let n = length-blocks is_thread in
          omega arith;
      alone = λ e. ap (λ ls. suc (length (map (λ l. acts_in i racing script l.number) ls)))
          (none-of-kind is_thread script
          (along i racing script (λ line. is_thread line ≡ false) (λ s line f. is-no-thread s line f e) [] script
          fine));
      each = All-from_recursion (AreSoundActs i (host_size i racing script) OfThread) (acts_in i racing script 0
          ∷ acts_of_blocks i racing script is_thread) (
            acts-sound i racing script nested fine max_nesting 0 [] (outside-block script nested) tt refl,
            kind-walk is_thread (AreSoundActs i (host_size i racing script) OfThread) thread-is [] script refl,
          );
      few_acts =
          All-from_recursion (λ acts. length acts ≤ max_acts) (acts_in i racing script 0
          ∷ acts_of_blocks i racing script is_thread) (few-acts 0, few-in (filter (is_line is_thread) script));
      few_racers =
          let c =
          limit-walk is_racer max_racers []
          (λ s line f. (within-limits s line f.rules.1.1.1.1.1.1.1.1.1.1.1.1.1.1.1.0).racers) [] script fine
          (omega arith) in
          let n = length-blocks is_racer in
          omega arith;
      no_racers =
          λ e. ap (map (λ l. acts_in i racing script l.number))
          (none-of-kind is_racer script
          (along i racing script (λ line. is_racer line ≡ false) (λ s line f. is-no-racer s line f e) [] script fine));
      each_racer =
          All-from_recursion (AreSoundActs i (host_size i racing script) OfRacer)
          (acts_of_blocks i racing script is_racer)
          (kind-walk is_racer (AreSoundActs i (host_size i racing script) OfRacer) racer-is [] script refl);
    }
