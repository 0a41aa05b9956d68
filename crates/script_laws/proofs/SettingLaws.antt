-- The settings of a script without fault are in their ranges.
use Rattle.std.proofs.Common.{ℕ, zero, suc, ◌≡◌, ◌+◌, ◌*◌, ◌≤◌, ◌%◌, arith, Bool, true, false, List, [], ◌∷◌, length, Option, Some, None, refl, sym, ap, subst, ◌∙◌, leb-true, eqb-true, ltb-false}
use Rattle.std.specs.Prelude.{◌==◌, filter, filter_map, slice_get, unwrap_or, option_map, nat_le, if◌then◌else◌, count_by}
use Rattle.std.specs.List.{AllByRecursion, cons_option}
use Rattle.std.specs.Str.{bytes_eq}
use Rattle.std.proofs.lemmas.Bool.{and_parts, not-false}
use Rattle.std.proofs.Math.Nat.{mul-le-mul_right}
use Rattle.std.proofs.lemmas.List.{length-map}
use Rattle.std.proofs.lemmas.List.Sums.{sum_by-cons}
use Rattle.sgx_base.specs.Numbers.{spelled_number}
use Rattle.edl_interface.specs.declared.Interface.{Interface}
use Rattle.call_script.specs.Spelling.{Word, is_from_to}
use Rattle.call_script.specs.Settings.{Setting, is_value_of, is_setting_number, all_settings, host, stack, arena, cells, retries, tworkers, uworkers, slots}
use Rattle.call_script.specs.Line.{Line, Set, Thread}
use Rattle.call_script.specs.Block.{PlacedLine}
use Rattle.call_script.specs.Standing.{Standing, standings, lines_of, setting_in, set_to, is_thread}
use Rattle.call_script.specs.Faults.{Fault, stack_fault, stacks_do_not_fit, stack_count}
use Rattle.call_script.specs.Sound.{IsSetTo, AreSoundSettings}
use Rattle.script_laws.proofs.FineLines.{IsFine}
use Rattle.script_laws.proofs.FineForms.{IsFineAs, along}
use Rattle.call_script.specs.Meaning.{is_line, settings, acts_in, acts_of_blocks}

-- ---- one setting

-- a setting of the same word is the same
abbrev IsOnly : Setting → Setting → Type 0
IsOnly s t = bytes_eq s.word t.word ≡ true → t ≡ s

only-host : AllByRecursion (IsOnly host) all_settings
only-host = (
  (λ e. refl),
  (
    (λ e. absurd cc),
    (
      (λ e. absurd cc),
      ((λ e. absurd cc), ((λ e. absurd cc), ((λ e. absurd cc), ((λ e. absurd cc), ((λ e. absurd cc), tt))))),
    ),
  ),
)

only-stack : AllByRecursion (IsOnly stack) all_settings
only-stack = (
  (λ e. absurd cc),
  (
    (λ e. refl),
    (
      (λ e. absurd cc),
      ((λ e. absurd cc), ((λ e. absurd cc), ((λ e. absurd cc), ((λ e. absurd cc), ((λ e. absurd cc), tt))))),
    ),
  ),
)

only-arena : AllByRecursion (IsOnly arena) all_settings
only-arena = (
  (λ e. absurd cc),
  (
    (λ e. absurd cc),
    (
      (λ e. refl),
      ((λ e. absurd cc), ((λ e. absurd cc), ((λ e. absurd cc), ((λ e. absurd cc), ((λ e. absurd cc), tt))))),
    ),
  ),
)

only-cells : AllByRecursion (IsOnly cells) all_settings
only-cells = (
  (λ e. absurd cc),
  (
    (λ e. absurd cc),
    (
      (λ e. absurd cc),
      ((λ e. refl), ((λ e. absurd cc), ((λ e. absurd cc), ((λ e. absurd cc), ((λ e. absurd cc), tt))))),
    ),
  ),
)

only-retries : AllByRecursion (IsOnly retries) all_settings
only-retries = (
  (λ e. absurd cc),
  (
    (λ e. absurd cc),
    (
      (λ e. absurd cc),
      ((λ e. absurd cc), ((λ e. refl), ((λ e. absurd cc), ((λ e. absurd cc), ((λ e. absurd cc), tt))))),
    ),
  ),
)

only-tworkers : AllByRecursion (IsOnly tworkers) all_settings
only-tworkers = (
  (λ e. absurd cc),
  (
    (λ e. absurd cc),
    (
      (λ e. absurd cc),
      ((λ e. absurd cc), ((λ e. absurd cc), ((λ e. refl), ((λ e. absurd cc), ((λ e. absurd cc), tt))))),
    ),
  ),
)

only-uworkers : AllByRecursion (IsOnly uworkers) all_settings
only-uworkers = (
  (λ e. absurd cc),
  (
    (λ e. absurd cc),
    (
      (λ e. absurd cc),
      ((λ e. absurd cc), ((λ e. absurd cc), ((λ e. absurd cc), ((λ e. refl), ((λ e. absurd cc), tt))))),
    ),
  ),
)

only-slots : AllByRecursion (IsOnly slots) all_settings
only-slots = (
  (λ e. absurd cc),
  (
    (λ e. absurd cc),
    (
      (λ e. absurd cc),
      ((λ e. absurd cc), ((λ e. absurd cc), ((λ e. absurd cc), ((λ e. absurd cc), ((λ e. refl), tt))))),
    ),
  ),
)

at-place : {A : Type 0} (P : A → Type 0) (xs : List A) (k : ℕ) (x : A) → AllByRecursion P xs → slice_get xs k ≡ Some x
    → P x
at-place P [] k x h e = absurd cc
at-place P (y ∷ xs) zero x h e = subst P (ap (λ o. unwrap_or o y) e) h.0
at-place P (y ∷ xs) (suc k) x h e = at-place P xs k x h.1 e

value-is : (s : Setting) (w : Word) → is_value_of s w ≡ true → (n : ℕ) × (spelled_number w ≡ Some n) × IsSetTo s n
value-is s w e = go (spelled_number w) refl e
  where
    go : (o : Option ℕ) → spelled_number w ≡ o → is_setting_number s o ≡ true → (n : ℕ) × (spelled_number w ≡ Some n)
        × IsSetTo s n
    go None h e = absurd cc
    go (Some n) h e =
        let both = and_parts (is_from_to s.least s.most (Some n)) (n % s.unit == 0) e in
        let range = and_parts (nat_le s.least n) (nat_le n s.most) both.0 in (
          n,
          h,
          record {
            from = leb-true s.least n range.0;
            upto = leb-true n s.most range.1;
            whole = eqb-true (n % s.unit) 0 both.1;
          },
        )

module _ (s : Setting) (only : AllByRecursion (IsOnly s) all_settings) where
  -- what a line sets the setting to, it may be
  abbrev SetsFinely : Line → Type 0
  SetsFinely line = (n : ℕ) → set_to s line ≡ Some n → IsSetTo s n

  line-sets : (i : Interface) (racing : Bool) (script : List PlacedLine) (x : Standing) (line : Line)
      → IsFineAs i racing script x line → SetsFinely line
  line-sets i racing script x (Set t w) fine n k = go (bytes_eq s.word t.word) refl k
    where
      go : (b : Bool) → bytes_eq s.word t.word ≡ b → (if b then spelled_number w else None) ≡ Some n → IsSetTo s n
      go true h k =
          let same : t ≡ s = at-place (IsOnly s) all_settings fine.form.0.0 t only fine.form.0.1 h in
          let value = value-is t w (not-false (is_value_of t w) fine.rules.1.0) in
          let number : value.0 ≡ n = ap (λ o. unwrap_or o value.0) (sym value.1 ∙ k) in
          subst (λ m. IsSetTo s m) number (subst (λ u. IsSetTo u value.0) same value.2)
      go false h k = absurd cc
  line-sets i racing script x line fine n k = absurd cc

  first-set : (ls : List Line) → AllByRecursion SetsFinely ls → IsSetTo s s.default → IsSetTo s (setting_in ls s)
  first-set [] h d = d
  first-set (line ∷ ls) h d = go (set_to s line) refl (first-set ls h.1 d)
    where
      go : (o : Option ℕ) → set_to s line ≡ o → IsSetTo s (setting_in ls s)
          → IsSetTo s (unwrap_or (slice_get (cons_option o (filter_map (set_to s) ls)) 0) s.default)
      go None e rest = rest
      go (Some n) e rest = h.0 n e

  pub setting-is : (i : Interface) (racing : Bool) (script : List PlacedLine)
      → AllByRecursion (IsFine i racing script) (standings script) → IsSetTo s s.default
      → IsSetTo s (setting_in (lines_of script) s)
  setting-is i racing script fine d =
      first-set (lines_of script) (along i racing script SetsFinely (line-sets i racing script) [] script fine) d

module _ (i : Interface) (racing : Bool) (script : List PlacedLine)
    (fine : AllByRecursion (IsFine i racing script) (standings script)) where
  default-is : (s : Setting) → nat_le s.least s.default ≡ true → nat_le s.default s.most ≡ true
      → s.default % s.unit ≡ 0 → IsSetTo s s.default
  default-is s a b c = record { from = leb-true s.least s.default a; upto = leb-true s.default s.most b; whole = c }

  pub host-is : IsSetTo host (setting_in (lines_of script) host)
  host-is = setting-is host only-host i racing script fine (default-is host refl refl refl)

  pub stack-is : IsSetTo stack (setting_in (lines_of script) stack)
  stack-is = setting-is stack only-stack i racing script fine (default-is stack refl refl refl)

  -- the settings are in their ranges; a program without threads has no workers
  pub sound-settings : AreSoundSettings racing (settings i racing script)
  sound-settings = record {
    host = host-is;
    stack = stack-is;
    arena = setting-is arena only-arena i racing script fine (default-is arena refl refl refl);
    cells = setting-is cells only-cells i racing script fine (default-is cells refl refl refl);
    retries = setting-is retries only-retries i racing script fine (default-is retries refl refl refl);
    tworkers =
        workers tworkers (default-is tworkers refl refl refl)
        (setting-is tworkers only-tworkers i racing script fine (default-is tworkers refl refl refl)) racing;
    uworkers =
        workers uworkers (default-is uworkers refl refl refl)
        (setting-is uworkers only-uworkers i racing script fine (default-is uworkers refl refl refl)) racing;
    slots = setting-is slots only-slots i racing script fine (default-is slots refl refl refl);
    no_trusted_workers = λ e. rw e refl;
    no_untrusted_workers = λ e. rw e refl;
  }
    where
      workers : (s : Setting) → IsSetTo s 0 → IsSetTo s (setting_in (lines_of script) s) → (r : Bool)
          → IsSetTo s (if r then setting_in (lines_of script) s else 0)
      workers s d h true = h
      workers s d h false = d

-- ---- stacks

-- a line that means nothing to the test is passed over
pub count-lines : (kind : Line → Bool) (ls : List PlacedLine)
    → length (filter (is_line kind) ls) ≡ count_by kind (lines_of ls)
count-lines kind [] = refl
count-lines kind (l ∷ ls) = go l.line (count-lines kind ls)
  where
    one : (line : Line) (t : Bool) → kind line ≡ t → length (filter (is_line kind) ls) ≡ count_by kind (lines_of ls)
        → length (if t then l ∷ filter (is_line kind) ls else filter (is_line kind) ls) ≡ count_by kind (line
        ∷ lines_of ls)
    one line true k rest =
        let c = sum_by-cons (λ x. if kind x then 1 else 0) line (lines_of ls) in
        let d : ◌≡◌ {A = ℕ} (if kind line then 1 else 0) 1 = rw k refl in omega (arith, c, d, rest)
    one line false k rest =
        let c = sum_by-cons (λ x. if kind x then 1 else 0) line (lines_of ls) in
        let d : ◌≡◌ {A = ℕ} (if kind line then 1 else 0) 0 = rw k refl in omega (arith, c, d, rest)

    go : (o : Option Line) → length (filter (is_line kind) ls) ≡ count_by kind (lines_of ls)
        → length (if unwrap_or (option_map kind o) false then l ∷ filter (is_line kind) ls
        else filter (is_line kind) ls) ≡ count_by kind (cons_option o (lines_of ls))
    go None rest = rest
    go (Some line) rest = one line (kind line) refl rest

none-or-not : (t : Bool) (f : Fault) → ◌≡◌ {A = Option Fault} (if t then Some f else None) None → t ≡ false
none-or-not true f e = absurd cc
none-or-not false f e = refl

-- the stacks of the host threads and of the trusted workers lie in host memory
pub sound-stacks : (i : Interface) (racing : Bool) (script : List PlacedLine) → stack_fault racing script ≡ None
    → (length (acts_in i racing script 0 ∷ acts_of_blocks i racing script is_thread)
    + (settings i racing script).tworkers) * (settings i racing script).stack ≤ (settings i racing script).host
sound-stacks i racing script e =
    let fits = ltb-false (setting_in (lines_of script) host) (stack_count racing (lines_of script)
    * setting_in (lines_of script) stack)
    (none-or-not (stacks_do_not_fit racing (lines_of script)) (record { line = 0; code = 17 }) e) in
    let count = count-lines is_thread script in
    let one = sum_by-cons (λ x. if is_thread x then 1 else 0) Thread (lines_of script) in
    let mapped = length-map (filter (is_line is_thread) script) (λ l. acts_in i racing script l.number) in
    let threads : length (acts_in i racing script 0 ∷ acts_of_blocks i racing script is_thread)
    ≡ count_by is_thread (Thread ∷ lines_of script) = omega (arith, count, one, mapped) in
    subst (λ n. (n + (settings i racing script).tworkers) * (settings i racing script).stack
    ≤ (settings i racing script).host) (sym threads) fits

-- the stack of one thread does too
pub sound-stack : (i : Interface) (racing : Bool) (script : List PlacedLine) → stack_fault racing script ≡ None
    → (settings i racing script).stack ≤ (settings i racing script).host
sound-stack i racing script e =
    let all = sound-stacks i racing script e in
    let one : 1 * (settings i racing script).stack
    ≤ (length (acts_in i racing script 0 ∷ acts_of_blocks i racing script is_thread)
    + (settings i racing script).tworkers) * (settings i racing script).stack =
    mul-le-mul_right (settings i racing script).stack (let some : 1 ≤ length (acts_in i racing script 0
    ∷ acts_of_blocks i racing script is_thread) + (settings i racing script).tworkers = omega arith in some) in
    omega arith
