-- The first faulty line, as a reader finds it that goes from line to line and knows of the blocks that are left open
-- the outermost alone.
use Rattle.std.proofs.Common.{arith, ℕ, ◌≡◌, ◌+◌, ◌<◌, ◌≤◌, Bool, true, false, List, [], ◌∷◌, ◌++◌, Option, Some, None, refl, sym, ◌∙◌, ap, eqb-true, eq-eqb, subst}
use Rattle.std.proofs.lemmas.Bool.{eqb-false}
use Rattle.std.specs.Prelude.{◌==◌, ◌&&◌, ◌||◌, find, unwrap_or, drop, option_map}
use Rattle.std.specs.List.{list_any, AllByRecursion}
use Rattle.edl_interface.specs.declared.Interface.{Interface}
use Rattle.call_script.specs.Spelling.{NumberedLine, numbered_from, numbered_lines, means_nothing, words, lines}
use Rattle.call_script.specs.Parser.{or_else}
use Rattle.call_script.specs.Line.{Line, Close}
use Rattle.call_script.specs.Block.{Block, PlacedLine, placed, placed_from, placed_lines, open_after, open_behind, left_open, block_at, opens}
use Rattle.call_script.specs.Standing.{Standing, standings_from, standings}
use Rattle.script_lines.specs.Nesting.{outermost}
use Rattle.script_laws.specs.FirstFault.{first_of, Rising, Below, is_outermost, left_outermost, fault_with}
use Rattle.call_script.specs.Faults.{rows_of, fault_at, fault_by, fault_of, is_left_open, is_unpaired, line_fault}

-- ---- from line to line

-- the first of a list is that of its head, or else of the rest
pub first_of-cons : {A B : Type 0} (f : A → Option B) (x : A) (xs : List A)
    → first_of f (x ∷ xs) ≡ or_else (f x) (first_of f xs)
first_of-cons f x xs = go (f x) refl
  where
    go : (o : Option _) → f x ≡ o → first_of f (x ∷ xs) ≡ or_else (f x) (first_of f xs)
    go None e = rw e refl
    go (Some b) e = rw e refl

-- they give the same up to the first that gives something
AgreeUntil : {A B : Type 0} → (A → Option B) → (A → Option B) → List A → Type 0
AgreeUntil f g [] = Unit {0}
AgreeUntil f g (x ∷ xs) = (f x ≡ g x) × (f x ≡ None → AgreeUntil f g xs)

same_first : {A B : Type 0} (f g : A → Option B) (xs : List A) → AgreeUntil f g xs → first_of f xs ≡ first_of g xs
unfolding AgreeUntil
same_first f g [] h = refl
same_first f g (x ∷ xs) h =
    first_of-cons f x xs ∙ go (f x) refl (λ e. same_first f g xs (h.1 e)) ∙ sym (first_of-cons g x xs)
  where
    go : (o : Option _) → f x ≡ o → (f x ≡ None → first_of f xs ≡ first_of g xs)
        → or_else (f x) (first_of f xs) ≡ or_else (g x) (first_of g xs)
    go None e rest = let k : g x ≡ None = sym h.0 ∙ e in rw (e, k) (rest e)
    go (Some b) e rest = let k : g x ≡ Some b = sym h.0 ∙ e in rw (e, k) refl

-- ---- numbers

pub Rising-weaken : (m n : ℕ) (ls : List NumberedLine) → m ≤ n → Rising n ls → Rising m ls
unfolding Rising
Rising-weaken m n [] e h = tt
Rising-weaken m n (l ∷ ls) e h = (omega arith, h.1)

pub numbered-Rising : (n : ℕ) (ls : List (List ℕ)) → Rising n (numbered_from n ls)
unfolding Rising
numbered-Rising n [] = tt
numbered-Rising n (l ∷ ls) = go (means_nothing (words l)) refl (numbered-Rising (n + 1) ls)
  where
    go : (t : Bool) → means_nothing (words l) ≡ t → Rising (n + 1) (numbered_from (n + 1) ls)
        → Rising n (numbered_from n (l ∷ ls))
    go true e h = rw e (Rising-weaken n (n + 1) _ (omega arith) h)
    go false e h = rw e (omega arith, h)

pub Below-weaken : (m n : ℕ) (bs : List Block) → m ≤ n → Below m bs → Below n bs
unfolding Below
Below-weaken m n [] e h = tt
Below-weaken m n (b ∷ bs) e h = (omega arith, h.1)

abbrev pub is_number_of : ℕ → List Block → Bool
is_number_of n bs = list_any (λ b. b.number == n) bs

pub not_number : (b n : ℕ) → (b ≡ n → ⊥) → (b == n) ≡ false
not_number b n h = go (b == n) refl
  where
    go : (t : Bool) → (b == n) ≡ t → t ≡ false
    go true e = absurd (h (eqb-true b n e))
    go false e = refl

-- none of these numbers is at or past the bound
pub beyond : (m n : ℕ) (bs : List Block) → Below m bs → m ≤ n → is_number_of n bs ≡ false
unfolding Below
beyond m n [] h e = refl
beyond m n (b ∷ bs) h e =
    rw (not_number b.number n (λ k. absurd (omega arith))) (beyond b.number n bs h.1 (omega arith))

number-of : (b o : ℕ) → Some b ≡ Some o → b ≡ o
number-of b o e = ap (λ x. unwrap_or x 0) e

pub or-true : (a b : Bool) → b ≡ true → (a || b) ≡ true
or-true true b e = refl
or-true false b e = e

-- the outermost is one of them, below the bound, and the least
pub outermost-is : (o : ℕ) (bs : List Block) → outermost bs ≡ Some o → is_number_of o bs ≡ true
outermost-is o [] e = absurd cc
outermost-is o (b ∷ []) e = rw (eq-eqb b.number o (number-of b.number o e)) refl
outermost-is o (b ∷ c ∷ bs) e = or-true (b.number == o) (is_number_of o (c ∷ bs)) (outermost-is o (c ∷ bs) e)

outermost-below : (m o : ℕ) (bs : List Block) → Below m bs → outermost bs ≡ Some o → o < m
unfolding Below
outermost-below m o [] h e = absurd cc
outermost-below m o (b ∷ []) h e = let k : b.number ≡ o = number-of b.number o e in omega arith
outermost-below m o (b ∷ c ∷ bs) h e = let k : o < b.number = outermost-below b.number o (c ∷ bs) h.1 e in omega arith

outermost-least : (m o n : ℕ) (bs : List Block) → Below m bs → outermost bs ≡ Some o → n < o → is_number_of n bs ≡ false
unfolding Below
outermost-least m o n [] h e l = refl
outermost-least m o n (b ∷ []) h e l =
    let k : b.number ≡ o = number-of b.number o e in rw (not_number b.number n (λ j. absurd (omega arith))) refl
outermost-least m o n (b ∷ c ∷ bs) h e l =
    let k : o < b.number = outermost-below b.number o (c ∷ bs) h.1 e in
    rw (not_number b.number n (λ j. absurd (omega arith))) (outermost-least b.number o n (c ∷ bs) h.1 e l)

outermost-there : (b : Block) (bs : List Block) → outermost (b ∷ bs) ≡ None → ⊥
outermost-there b [] e = absurd cc
outermost-there b (c ∷ bs) e = outermost-there c bs e

outermost-none : (n : ℕ) (bs : List Block) → outermost bs ≡ None → is_number_of n bs ≡ false
outermost-none n [] e = refl
outermost-none n (b ∷ bs) e = absurd (outermost-there b bs e)

-- ---- what a line opens

and-true : (b : Bool) → b ≡ true → (b && true) ≡ true
and-true true e = refl
and-true false e = absurd cc

Below-drop : (m : ℕ) (bs : List Block) → Below m bs → Below m (drop 1 bs)
unfolding Below
Below-drop m [] h = tt
Below-drop m (b ∷ bs) h = Below-weaken b.number m bs (omega arith) h.1

drop-among : (n : ℕ) (bs : List Block) → is_number_of n (drop 1 bs) ≡ true → is_number_of n bs ≡ true
drop-among n [] e = e
drop-among n (b ∷ bs) e = or-true (b.number == n) (is_number_of n bs) e

-- a block that the line opens is above those around it
opened-Below : (k : ℕ) (line : Line) (around : List Block) → Below k around → Below (k + 1) (block_at k line ++ around)
unfolding Below
opened-Below k line around h = go (opens line) refl
  where
    go : (t : Bool) → opens line ≡ t → Below (k + 1) (block_at k line ++ around)
    go true e = rw e (omega arith, h)
    go false e = rw e (Below-weaken k (k + 1) around (omega arith) h)

pub behind-Below : (k : ℕ) (line : Option Line) (around : List Block) → Below k around
    → Below (k + 1) (open_behind k line around)
behind-Below k None around h = Below-weaken k (k + 1) around (omega arith) h
behind-Below k (Some Close) around h = Below-weaken k (k + 1) _ (omega arith) (Below-drop k around h)
behind-Below k (Some line) around h = opened-Below k line around h

-- a number that is not the line's own is that of a block around it
opened-among : (k n : ℕ) (line : Line) (around : List Block) → (k ≡ n → ⊥)
    → is_number_of n (block_at k line ++ around) ≡ true → is_number_of n around ≡ true
opened-among k n line around d h = go (opens line) refl h
  where
    go : (t : Bool) → opens line ≡ t → is_number_of n (block_at k line ++ around) ≡ true → is_number_of n around ≡ true
    go true e h = let z = rw e at h in rw (not_number k n d) at z
    go false e h = rw e at h

pub behind-among : (k n : ℕ) (line : Option Line) (around : List Block) → (k ≡ n → ⊥)
    → is_number_of n (open_behind k line around) ≡ true → is_number_of n around ≡ true
behind-among k n None around d h = h
behind-among k n (Some Close) around d h = drop-among n around h
behind-among k n (Some line) around d h = opened-among k n line around d h

-- a block of the line's own number is opened by it
opened-own : (k : ℕ) (line : Line) (around : List Block) → Below k around
    → is_number_of k (block_at k line ++ around) ≡ true → opens line ≡ true
opened-own k line around b h = go (opens line) refl h
  where
    go : (t : Bool) → opens line ≡ t → is_number_of k (block_at k line ++ around) ≡ true → t ≡ true
    go true e h = refl
    go false e h = let z = rw e at h in let y = beyond k k around b (omega arith) in absurd cc

unfoldable pub IsOpening : Option Line → Type 0
IsOpening line = (x : Line) × (line ≡ Some x) × (opens x ≡ true)

pub behind-own : (k : ℕ) (line : Option Line) (around : List Block) → Below k around
    → is_number_of k (open_behind k line around) ≡ true → IsOpening line
unfolding IsOpening
behind-own k None around b h = let y = beyond k k around b (omega arith) in absurd cc
behind-own k (Some Close) around b h =
    let y = beyond k k (drop 1 around) (Below-drop k around b) (omega arith) in absurd cc
behind-own k (Some line) around b h = (line, refl, opened-own k line around b h)

-- ---- the end

-- the blocks that are open behind these lines
unfoldable pub end_of : List Block → List NumberedLine → List Block
end_of around [] = around
end_of around (l ∷ ls) = end_of (open_after (placed around l)) ls

pub left_open-is : (around : List Block) (l : NumberedLine) (ls : List NumberedLine)
    → left_open (placed around l ∷ placed_from (open_after (placed around l)) ls) ≡ end_of around (l ∷ ls)
unfolding end_of
left_open-is around l [] = refl
left_open-is around l (k ∷ ls) = left_open-is (open_after (placed around l)) k ls

-- blocks that are opened behind a number have other numbers
pub end-among : (m n : ℕ) (around : List Block) (ls : List NumberedLine) → Rising m ls → n < m
    → is_number_of n (end_of around ls) ≡ true → is_number_of n around ≡ true
unfolding Rising end_of
end-among m n around [] r e h = h
end-among m n around (l ∷ ls) r e h =
    behind-among l.number n (placed around l).line around (λ j. absurd (omega arith))
    (end-among (l.number + 1) n (open_after (placed around l)) ls r.1 (omega arith) h)

end-Below : (m : ℕ) (around : List Block) (ls : List NumberedLine) → Below m around → Rising m ls → (k : ℕ)
    × Below k (end_of around ls)
unfolding Rising end_of
end-Below m around [] b r = (m, b)
end-Below m around (l ∷ ls) b r =
    end-Below (l.number + 1) (open_after (placed around l)) ls
    (behind-Below l.number (placed around l).line around (Below-weaken m l.number around r.0 b)) r.1

-- ---- a block that is left open is a fault

find-None : {A : Type 0} (test : A → Bool) (xs : List A) → find test xs ≡ None → AllByRecursion (λ x. test x ≡ false) xs
find-None test [] e = tt
find-None test (x ∷ xs) e = go (test x) refl e (find-None test xs)
  where
    go : (t : Bool) → test x ≡ t → find test (x ∷ xs) ≡ None
        → (find test xs ≡ None → AllByRecursion (λ y. test y ≡ false) xs) → (test x ≡ false)
        × AllByRecursion (λ y. test y ≡ false) xs
    go true h e rest = let z = rw h at e in absurd cc
    go false h e rest = (h, rest (rw h at e))

pub left-unpaired : (s : Standing) (line : Line) → opens line ≡ true → is_unpaired true s line ≡ true
left-unpaired s Close e = absurd cc
left-unpaired s line e = and-true (opens line) e

option_map-None : {A B : Type 0} (f : A → B) (o : Option A) → option_map f o ≡ None → o ≡ None
option_map-None f None e = refl
option_map-None f (Some a) e = absurd cc

-- no rule is broken where there is no fault
pub no_broken : (i : Interface) (racing left : Bool) (s : Standing) → fault_by i racing left s ≡ None
    → AllByRecursion (λ r. r.broken ≡ false) (rows_of i racing left s s.here.line)
no_broken i racing left s e =
    find-None (λ r. r.broken) (rows_of i racing left s s.here.line) (option_map-None (fault_of s.here.number) _ e)

left_faulty : (i : Interface) (racing : Bool) (s : Standing) → IsOpening s.here.line → fault_by i racing true s ≡ None
    → ⊥
unfolding IsOpening
left_faulty i racing s o e =
    let all : AllByRecursion (λ r. r.broken ≡ false) (rows_of i racing true s (Some o.0)) =
    subst (λ x. AllByRecursion (λ r. r.broken ≡ false) (rows_of i racing true s x)) o.1
    (no_broken i racing true s e) in
    let twelve : is_unpaired true s o.0 ≡ false = all.1.1.1.1.1.1.1.1.1.1.1.0 in
    let unpaired : is_unpaired true s o.0 ≡ true = left-unpaired s o.0 o.2 in
    absurd cc

-- ---- the outermost block alone

module _ (i : Interface) (racing : Bool) where
  agree : (m : ℕ) (before : List PlacedLine) (around : List Block) (ls : List NumberedLine) → Below m around
      → Rising m ls
      → ((p : ℕ) → outermost (end_of around ls) ≡ Some p → m ≤ p)
      → AgreeUntil (fault_at i racing) (fault_with i racing (outermost (end_of around ls)))
      (standings_from before (placed_from around ls))
  unfolding AgreeUntil Rising end_of
  agree m before around [] b r c = tt
  agree m before around (l ∷ ls) b r c = (
    ap (λ t. fault_by i racing t s) (flag (outermost ending) refl),
    λ e. agree (l.number + 1) (before ++ here ∷ []) (open_after here) ls (behind-Below l.number here.line around below)
        r.1 (λ p h. later p h e),
  )
    where
      here : PlacedLine
      here = placed around l

      s : Standing
      s = record { before = before; here = here; behind = placed_from (open_after here) ls }

      ending : List Block
      ending = end_of around (l ∷ ls)

      below : Below l.number around
      below = Below-weaken m l.number around r.0 b

      left-is : is_left_open s ≡ is_number_of l.number ending
      left-is = ap (is_number_of l.number) (left_open-is around l ls)

      among : (p : ℕ) → outermost ending ≡ Some p → is_number_of p ending ≡ true
      among p h = outermost-is p ending h

      -- the outermost does not stand before this line
      not_before : (p : ℕ) → outermost ending ≡ Some p → p < l.number → ⊥
      not_before p h e =
          let inside : is_number_of p around ≡ true = end-among l.number p around (l ∷ ls) (
            omega arith,
            r.1,
          ) e (among p h) in
          let outside : is_number_of p around ≡ false = beyond m p around b (c p h) in
          absurd cc

      flag-at : (p : ℕ) (t : Bool) → outermost ending ≡ Some p → (p == l.number) ≡ t → is_number_of l.number ending ≡ t
      flag-at p true h e =
          let k : p ≡ l.number = eqb-true p l.number e in subst (λ n. is_number_of n ending ≡ true) k (among p h)
      flag-at p false h e =
          let other : p ≡ l.number → ⊥ = eqb-false p l.number e in
          let not_less : p < l.number → ⊥ = not_before p h in
          outermost-least (end-Below m around (l ∷ ls) b r).0 p l.number ending (end-Below m around (l ∷ ls) b r).1 h
          (omega arith)

      flag : (o : Option ℕ) → outermost ending ≡ o → is_left_open s ≡ is_outermost o l.number
      flag None h = left-is ∙ outermost-none l.number ending h
      flag (Some p) h = left-is ∙ flag-at p (p == l.number) h refl

      opening : (p : ℕ) → outermost ending ≡ Some p → p ≡ l.number → IsOpening here.line
      opening p h k =
          behind-own l.number here.line around below
          (end-among (l.number + 1) l.number (open_after here) ls r.1 (omega arith)
          (subst (λ n. is_number_of n ending ≡ true) k (among p h)))

      own : (p : ℕ) → outermost ending ≡ Some p → p ≡ l.number → is_left_open s ≡ true
      own p h k = left-is ∙ flag-at p true h (eq-eqb p l.number k)

      later : (p : ℕ) → outermost ending ≡ Some p → fault_at i racing s ≡ None → l.number + 1 ≤ p
      later p h e =
          let not_less : p < l.number → ⊥ = not_before p h in
          let other : p ≡ l.number
          → ⊥ = λ k. left_faulty i racing s (opening p h k)
          (subst (λ t. fault_by i racing t s ≡ None) (own p h k) e) in
          omega arith

-- ---- a whole script

-- a reader that knows beforehand which outermost block is left open finds the fault by going through the lines in order
pub line_fault-is : (i : Interface) (racing : Bool) (bytes : List ℕ)
    → line_fault i racing (placed_lines bytes) ≡ first_of (fault_with i racing (left_outermost bytes))
    (standings (placed_lines bytes))
unfolding placed_lines Below end_of
line_fault-is i racing bytes =
    same_first _ _ _
    (subst (λ o. AgreeUntil (fault_at i racing) (fault_with i racing o)
    (standings (placed_from [] (numbered_lines bytes)))) (ends (numbered_lines bytes))
    (agree i racing 0 [] [] (numbered_lines bytes) below-none
    (Rising-weaken 0 1 _ (omega arith) (numbered-Rising 1 (lines bytes))) (λ p h. omega arith)))
  where
    below-none : Below 0 []
    below-none = tt

    ends : (ls : List NumberedLine) → outermost (end_of [] ls) ≡ outermost (left_open (placed_from [] ls))
    ends [] = refl
    ends (l ∷ ls) = ap outermost (sym (left_open-is [] l ls))
