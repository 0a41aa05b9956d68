-- The fault of a reader that goes once through the lines, and learns at the end which outermost block is left open.
use Rattle.std.proofs.Common.{arith, ℕ, ◌≡◌, ◌+◌, ◌<◌, ◌≤◌, Bool, true, false, List, [], ◌∷◌, ◌++◌, Option, Some, None, refl, sym, ap, subst, ◌∙◌, ◌⊎◌, inl, inr, eq-eqb, ne_eqb, eqb-true, lt-ltb, le-ltb, le-leb}
use Rattle.std.specs.Prelude.{◌==◌, ◌&&◌, ◌||◌, if◌then◌else◌, nat_lt, nat_le, find, option_map, unwrap_or, take, drop}
use Rattle.std.specs.List.{AllByRecursion}
use Rattle.std.proofs.lemmas.Bool.{and_right, and_from, eqb-false, lt-leb}
use Rattle.edl_interface.specs.declared.Interface.{Interface}
use Rattle.call_script.specs.Parser.{or_else}
use Rattle.call_script.specs.Line.{Line, Close}
use Rattle.call_script.specs.Spelling.{NumberedLine, numbered_lines, lines}
use Rattle.call_script.specs.Block.{Block, PlacedLine, placed, placed_from, placed_lines, open_after, left_open, opens}
use Rattle.call_script.specs.Standing.{Standing, standings, standings_from}
use Rattle.call_script.specs.Faults.{Fault, Row, row, rows, rows_of, fault_by, fault_of, is_unpaired, line_fault}
use Rattle.script_lines.specs.Nesting.{outermost}
use Rattle.script_laws.specs.FirstFault.{first_of, fault_with, left_outermost, Rising, Below}
use Rattle.script_laws.proofs.FirstFault.{first_of-cons, line_fault-is, IsOpening, left-unpaired, or-true, numbered-Rising, Below-weaken, behind-Below, is_number_of, end_of, end-among, behind-own, outermost-is, left_open-is}
use Rattle.script_laws.proofs.BodyLines.{other-after}

-- the lesser line, and on one line the lesser code
abbrev pub is_earlier : Fault → Fault → Bool
is_earlier f g = nat_lt f.line g.line || (f.line == g.line && nat_le f.code g.code)

abbrev pub earlier : Option Fault → Option Fault → Option Fault
earlier None g = g
earlier (Some f) None = Some f
earlier (Some f) (Some g) = if is_earlier f g then Some f else Some g

-- a block that is left open, at the line that opens it
abbrev pub open_fault : ℕ → Fault
open_fault n = record { line = n; code = 12 }

-- ---- one line

find-++ : {A : Type 0} (test : A → Bool) (xs ys : List A) → find test (xs ++ ys) ≡ or_else (find test xs) (find test ys)
find-++ test [] ys = refl
find-++ test (x ∷ xs) ys = go (test x) refl (find-++ test xs ys)
  where
    go : (t : Bool) → test x ≡ t → find test (xs ++ ys) ≡ or_else (find test xs) (find test ys)
        → find test (x ∷ xs ++ ys) ≡ or_else (find test (x ∷ xs)) (find test ys)
    go true e h = rw e refl
    go false e h = rw e h

find-is : {A : Type 0} (P : A → Type 0) (test : A → Bool) (xs : List A) (x : A) → AllByRecursion P xs
    → find test xs ≡ Some x → P x
find-is P test [] x h e = absurd cc
find-is P test (y ∷ ys) x h e = go (test y) refl e (find-is P test ys x h.1)
  where
    go : (t : Bool) → test y ≡ t → find test (y ∷ ys) ≡ Some x → (find test ys ≡ Some x → P x) → P x
    go true f e rest = let z = rw f at e in subst P (ap (λ o. unwrap_or o y) z) h.0
    go false f e rest = rest (rw f at e)

left-paired : (s : Standing) (line : Line) → opens line ≡ true → is_unpaired false s line ≡ false
left-paired s Close e = absurd cc
left-paired s line e = and_right (opens line) false refl

-- of two faults of one line
same-lower : (n : ℕ) (r : Row) → r.code < 12 → Some (fault_of n r) ≡ earlier (Some (fault_of n r)) (Some (open_fault n))
same-lower n r l =
    let same : (n == n) ≡ true = eq-eqb n n refl in
    let less : nat_le r.code 12 ≡ true = le-leb r.code 12 (omega arith) in
    let first : is_earlier (fault_of n r) (open_fault n) ≡ true = or-true (nat_lt n n) ((n == n) && nat_le r.code 12)
    (and_from (n == n) (nat_le r.code 12) same less) in
    rw first refl

same-higher : (n : ℕ) (r : Row) → 12 < r.code
    → Some (open_fault n) ≡ earlier (Some (fault_of n r)) (Some (open_fault n))
same-higher n r l =
    let first : is_earlier (fault_of n r) (open_fault n) ≡ false =
    both (nat_lt n n) (n == n) (nat_le r.code 12) (le-ltb n n (omega arith)) (lt-leb r.code 12 l) in
    rw first refl
  where
    both : (a b c : Bool) → a ≡ false → c ≡ false → (a || (b && c)) ≡ false
    both true b c e f = absurd cc
    both false b c e f = and_right b c f

earlier-first : (f g : Fault) (x : Option Fault) → or_else (earlier (Some f) (Some g)) x ≡ earlier (Some f) (Some g)
earlier-first f g x = go (is_earlier f g)
  where
    go : (t : Bool) → or_else (if t then Some f else Some g) x ≡ (if t then Some f else Some g)
    go true = refl
    go false = refl

-- a fault of an earlier line
line-earlier : (f g : Fault) → f.line < g.line → Some f ≡ earlier (Some f) (Some g)
line-earlier f g l =
    let first : is_earlier f g ≡ true = subst (λ t. (t || ((f.line == g.line) && nat_le f.code g.code)) ≡ true)
    (sym (lt-ltb f.line g.line l)) refl in
    rw first refl

line-later : (f g : Fault) → g.line < f.line → Some g ≡ earlier (Some f) (Some g)
line-later f g l =
    let less : nat_lt f.line g.line ≡ false = le-ltb f.line g.line (omega arith) in
    let same : (f.line == g.line) ≡ false = ne_eqb f.line g.line (λ k. absurd (omega arith)) in
    let first : is_earlier f g ≡ false = subst (λ t. (t || ((f.line == g.line) && nat_le f.code g.code)) ≡ false)
    (sym less) (subst (λ t. (t && nat_le f.code g.code) ≡ false) (sym same) refl) in
    rw first refl

module _ (i : Interface) (racing : Bool) where
  -- the rules before the twelfth and behind it, which no block left open changes
  abbrev before-12 : Standing → Line → List Row
  before-12 s line = take 11 (rows i racing false s line)

  abbrev behind-12 : Standing → Line → List Row
  behind-12 s line = drop 12 (rows i racing false s line)

  rows-are : (left : Bool) (s : Standing) (line : Line) → rows i racing left s line ≡ before-12 s line
      ++ row 12 (is_unpaired left s line) ∷ behind-12 s line
  rows-are left s line = refl

  before-codes : (s : Standing) (line : Line) → AllByRecursion (λ r. r.code < 12) (before-12 s line)
  before-codes s line = (
    omega arith,
    (
      omega arith,
      (
        omega arith,
        (
          omega arith,
          (omega arith, (omega arith, (omega arith, (omega arith, (omega arith, (omega arith, (omega arith, tt))))))),
        ),
      ),
    ),
  )

  behind-codes : (s : Standing) (line : Line) → AllByRecursion (λ r. 12 < r.code) (behind-12 s line)
  behind-codes s line =
      (omega arith, (omega arith, (omega arith, (omega arith, (omega arith, (omega arith, (omega arith, tt)))))))

  abbrev broken : List Row → Option Row
  broken = find (λ r. r.broken)

  -- on the line that opens a block which is left open, the lower code wins
  opening-fault : (s : Standing) → IsOpening s.here.line
      → fault_by i racing true s ≡ earlier (fault_by i racing false s) (Some (open_fault s.here.number))
  unfolding IsOpening
  opening-fault s o =
      subst (λ x. fault x true ≡ earlier (fault x false) (Some (open_fault n))) (sym o.1) (opened o.0 o.2)
    where
      n : ℕ
      n = s.here.number

      fault : Option Line → Bool → Option Fault
      fault x left = option_map (fault_of n) (broken (rows_of i racing left s x))

      opened : (line : Line) → opens line ≡ true
          → fault (Some line) true ≡ earlier (fault (Some line) false) (Some (open_fault n))
      opened line e =
          subst (λ x. option_map (fault_of n) x ≡ earlier (fault (Some line) false) (Some (open_fault n)))
          (sym (split true))
          (subst (λ x. option_map (fault_of n) (with-12 (is_unpaired true s line) first)
          ≡ earlier (option_map (fault_of n) x) (Some (open_fault n))) (sym (split false))
          (go first refl (is_unpaired true s line) (is_unpaired false s line) (left-unpaired s line e)
          (left-paired s line e)))
        where
          first : Option Row
          first = broken (before-12 s line)

          -- what is found, where the rules before the twelfth give this
          with-12 : Bool → Option Row → Option Row
          with-12 twelve x = or_else x (broken (row 12 twelve ∷ behind-12 s line))

          split : (left : Bool) → broken (rows i racing left s line) ≡ with-12 (is_unpaired left s line) first
          split left = find-++ (λ r. r.broken) (before-12 s line) (row 12 (is_unpaired left s line) ∷ behind-12 s line)

          later : (y : Option Row) → broken (behind-12 s line) ≡ y
              → Some (open_fault n) ≡ earlier (option_map (fault_of n) y) (Some (open_fault n))
          later None h = refl
          later (Some r) h =
              same-higher n r (find-is (λ r. 12 < r.code) (λ r. r.broken) (behind-12 s line) r (behind-codes s line) h)

          go : (x : Option Row) → first ≡ x → (a b : Bool) → a ≡ true → b ≡ false
              → option_map (fault_of n) (with-12 a x) ≡ earlier (option_map (fault_of n) (with-12 b x))
              (Some (open_fault n))
          go (Some r) h a b f g =
              same-lower n r (find-is (λ r. r.code < 12) (λ r. r.broken) (before-12 s line) r (before-codes s line) h)
          go None h true false f g = later (broken (behind-12 s line)) refl
          go None h true true f g = absurd cc
          go None h false b f g = absurd cc

  -- ---- all lines

  abbrev without : Standing → Option Fault
  without = fault_with i racing None

  abbrev with-open : ℕ → Standing → Option Fault
  with-open p = fault_with i racing (Some p)

  -- the numbers rise, from at least this on
  RisingLines : ℕ → List Standing → Type 0
  RisingLines m [] = Unit {0}
  RisingLines m (s ∷ ss) = (m ≤ s.here.number) × RisingLines (s.here.number + 1) ss

  -- a line of this number opens a block
  Opens : ℕ → List Standing → Type 0
  Opens p [] = ⊥
  Opens p (s ∷ ss) = ((s.here.number ≡ p) × IsOpening s.here.line) ⊎ Opens p ss

  fault-line : (left : Bool) (s : Standing) (f : Fault) → fault_by i racing left s ≡ Some f → f.line ≡ s.here.number
  fault-line left s f e = go (broken (rows_of i racing left s s.here.line)) e
    where
      go : (x : Option Row) → option_map (fault_of s.here.number) x ≡ Some f → f.line ≡ s.here.number
      go None e = absurd cc
      go (Some r) e = sym (ap (λ o. (unwrap_or {T = Fault} o (fault_of s.here.number r)).line) e)

  -- the first fault stands at one of the lines
  first-from : (m : ℕ) (ss : List Standing) (f : Fault) → RisingLines m ss → first_of without ss ≡ Some f → m ≤ f.line
  unfolding RisingLines
  first-from m [] f r e = absurd cc
  first-from m (s ∷ ss) f r e =
      go (without s) refl (sym (first_of-cons without s ss) ∙ e) (λ h. first-from (s.here.number + 1) ss f r.1 h)
    where
      go : (x : Option Fault) → without s ≡ x → or_else x (first_of without ss) ≡ Some f
          → (first_of without ss ≡ Some f → s.here.number + 1 ≤ f.line) → m ≤ f.line
      go None h e rest = let k = rest e in omega arith
      go (Some g) h e rest =
          let same : g.line ≡ f.line = ap (λ o. (unwrap_or {T = Fault} o g).line) e in
          let at : g.line ≡ s.here.number = fault-line false s g h in
          omega arith

  Opens-from : (m p : ℕ) (ss : List Standing) → RisingLines m ss → Opens p ss → m ≤ p
  unfolding RisingLines Opens
  Opens-from m p [] r (o) = absurd o
  Opens-from m p (s ∷ ss) r (inl o) = let e = o.0 in omega arith
  Opens-from m p (s ∷ ss) r (inr o) = let k = Opens-from (s.here.number + 1) p ss r.1 o in omega arith

  meets : (m p : ℕ) (ss : List Standing) → RisingLines m ss → Opens p ss
      → first_of (with-open p) ss ≡ earlier (first_of without ss) (Some (open_fault p))
  unfolding RisingLines Opens
  meets m p [] r o = absurd o
  meets m p (s ∷ ss) r (inl o) =
      first_of-cons (with-open p) s ss ∙ go (without s) refl
      ∙ ap (λ x. earlier x (Some (open_fault p))) (sym (first_of-cons without s ss))
    where
      own : with-open p s ≡ earlier (without s) (Some (open_fault p))
      own =
          ap (λ t. fault_by i racing t s) (eq-eqb p s.here.number (sym o.0))
          ∙ subst (λ n. fault_by i racing true s ≡ earlier (without s) (Some (open_fault n))) o.0 (opening-fault s o.1)

      rest : (x : Option Fault) → first_of without ss ≡ x → Some (open_fault p) ≡ earlier x (Some (open_fault p))
      rest None h = refl
      rest (Some g) h =
          let k : s.here.number + 1 ≤ g.line = first-from (s.here.number + 1) ss g r.1 h in let e = o.0 in
          line-later g (open_fault p) (omega arith)

      go : (x : Option Fault) → without s ≡ x → or_else (with-open p s) (first_of (with-open p) ss)
          ≡ earlier (or_else x (first_of without ss)) (Some (open_fault p))
      go None h =
          let found : with-open p s ≡ Some (open_fault p) = own ∙ ap (λ x. earlier x (Some (open_fault p))) h in
          ap (λ x. or_else x (first_of (with-open p) ss)) found ∙ rest (first_of without ss) refl
      go (Some g) h =
          let found : with-open p s ≡ earlier (Some g) (Some (open_fault p)) = own
          ∙ ap (λ x. earlier x (Some (open_fault p))) h in
          ap (λ x. or_else x (first_of (with-open p) ss)) found
          ∙ earlier-first g (open_fault p) (first_of (with-open p) ss)
  meets m p (s ∷ ss) r (inr o) =
      first_of-cons (with-open p) s ss ∙ go (without s) refl (meets (s.here.number + 1) p ss r.1 o)
      ∙ ap (λ x. earlier x (Some (open_fault p))) (sym (first_of-cons without s ss))
    where
      later : s.here.number + 1 ≤ p
      later = Opens-from (s.here.number + 1) p ss r.1 o

      own : with-open p s ≡ without s
      own = let k = later in ap (λ t. fault_by i racing t s) (ne_eqb p s.here.number (λ e. absurd (omega arith)))

      go : (x : Option Fault) → without s ≡ x
          → first_of (with-open p) ss ≡ earlier (first_of without ss) (Some (open_fault p))
          → or_else (with-open p s) (first_of (with-open p) ss) ≡ earlier (or_else x (first_of without ss))
          (Some (open_fault p))
      go None h ih = ap (λ x. or_else x (first_of (with-open p) ss)) (own ∙ h) ∙ ih
      go (Some g) h ih =
          let at : g.line ≡ s.here.number = fault-line false s g h in
          let k = later in
          ap (λ x. or_else x (first_of (with-open p) ss)) (own ∙ h) ∙ line-earlier g (open_fault p) (omega arith)

-- ---- a whole script

module _ (i : Interface) (racing : Bool) where
  standings-rise : (m : ℕ) (before : List PlacedLine) (around : List Block) (ls : List NumberedLine) → Rising m ls
      → RisingLines i racing m (standings_from before (placed_from around ls))
  unfolding RisingLines Rising
  standings-rise m before around [] r = tt
  standings-rise m before around (l ∷ ls) r = (r.0, standings-rise (l.number + 1) _ _ ls r.1)

  opened-among : (m p : ℕ) (before : List PlacedLine) (around : List Block) (ls : List NumberedLine) → Below m around
      → Rising m ls
      → is_number_of p (end_of around ls) ≡ true → is_number_of p around ≡ false
      → Opens i racing p (standings_from before (placed_from around ls))
  unfolding Rising Opens end_of
  opened-among m p before around [] b r e h = absurd cc
  opened-among m p before around (l ∷ ls) b r e h =
      go (p == l.number) refl (λ b' h'. opened-among (l.number + 1) p (before ++ placed around l
      ∷ []) (open_after (placed around l)) ls b' r.1 e h')
    where
      below : Below l.number around
      below = Below-weaken m l.number around r.0 b

      later : Type 0
      later =
          Below (l.number + 1) (open_after (placed around l)) → is_number_of p (open_after (placed around l)) ≡ false
          → Opens i racing p (standings_from (before ++ placed around l
          ∷ []) (placed_from (open_after (placed around l)) ls))

      go : (t : Bool) → (p == l.number) ≡ t → later
          → Opens i racing p (standings_from before (placed_from around (l ∷ ls)))
      go true k rest =
          let same : p ≡ l.number = eqb-true p l.number k in
          inl (
            sym same,
            behind-own l.number (placed around l).line around below
                (end-among (l.number + 1) l.number (open_after (placed around l)) ls r.1 (omega arith)
                (subst (λ n. is_number_of n (end_of around (l ∷ ls)) ≡ true) same e)),
          )
      go false k rest =
          let other : p ≡ l.number → ⊥ = eqb-false p l.number k in
          inr (rest (behind-Below l.number (placed around l).line around below)
          (other-after p around l (λ j. other (sym j)) h))

-- the first fault of the rules, as if no block were left open, meets that of the outermost block that is: the lesser
-- line wins, and then the lesser code
pub line_fault-meets : (i : Interface) (racing : Bool) (bytes : List ℕ)
    → line_fault i racing (placed_lines bytes)
    ≡ earlier (first_of (fault_with i racing None) (standings (placed_lines bytes)))
    (option_map open_fault (left_outermost bytes))
unfolding placed_lines Below end_of
line_fault-meets i racing bytes = line_fault-is i racing bytes ∙ go (left_outermost bytes) refl
  where
    ls : List NumberedLine
    ls = numbered_lines bytes

    rising : Rising 1 ls
    rising = numbered-Rising 1 (lines bytes)

    ends : (ks : List NumberedLine) → left_open (placed_from [] ks) ≡ end_of [] ks
    ends [] = refl
    ends (l ∷ ks) = left_open-is [] l ks

    no-later : (x : Option Fault) → x ≡ earlier x None
    no-later None = refl
    no-later (Some f) = refl

    go : (o : Option ℕ) → left_outermost bytes ≡ o
        → first_of (fault_with i racing o) (standings (placed_from [] ls))
        ≡ earlier (first_of (fault_with i racing None) (standings (placed_from [] ls))) (option_map open_fault o)
    go None h = no-later (first_of (fault_with i racing None) (standings (placed_from [] ls)))
    go (Some p) h =
        let last : outermost (end_of [] ls) ≡ Some p = ap outermost (sym (ends ls)) ∙ h in
        meets i racing 1 p (standings (placed_from [] ls)) (standings-rise i racing 1 [] [] ls rising)
        (opened-among i racing 1 p [] [] ls tt rising (outermost-is p (end_of [] ls) last) refl)
