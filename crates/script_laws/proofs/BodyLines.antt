-- The lines of a body: those from its opening line up to the next `}`.
use Rattle.std.proofs.Common.{arith, ℕ, ◌≡◌, ◌+◌, ◌<◌, ◌≤◌, Bool, true, false, List, [], ◌∷◌, ◌++◌, Option, Some, None, refl, sym, ap, subst, eq-eqb}
use Rattle.std.specs.Prelude.{◌==◌, if◌then◌else◌, filter}
use Rattle.std.specs.List.{AllByRecursion}
use Rattle.std.specs.Str.{bytes_eq}
use Rattle.body_vm.specs.declared.Action.{Action}
use Rattle.call_script.specs.Spelling.{Word, NumberedLine}
use Rattle.call_script.specs.Settings.{Setting, all_settings}
use Rattle.call_script.specs.Parser.{Parser, ◌<*>◌, pure, satisfying, keyword, any, number, name, arguments}
use Rattle.call_script.specs.Line.{Line, Set, Temp, Ocall, Do, Close, Phrase, set, settings, actions, doing, body_lines, Body}
use Rattle.call_script.specs.Block.{Block, InBody, PlacedLine, placed, placed_from, open_after, open_behind, opens, block_at, home, line_in, forms_in, scope_of, scope_in}
use Rattle.script_laws.proofs.ParserLaws.{Gives, Gives-pure, Gives-bind, Gives-keyword, Gives-<*>, All-++, All-map, first_to_read-is}
use Rattle.script_laws.proofs.ActionLaws.{or-false}
use Rattle.script_laws.specs.FirstFault.{Rising, Below}
use Rattle.script_laws.proofs.FirstFault.{is_number_of, behind-among, beyond, not_number}

-- ---- no line of a body opens a block

abbrev OpensNothing : Line → Type 0
OpensNothing line = opens line ≡ false

abbrev Takes : {A C : Type 0} → (C → Type 0) → (A → C) → Type 0
Takes {A} P g = (a : A) → Unit {0} → P (g a)

taken : {A C : Type 0} (P : C → Type 0) (p : Parser (A → C)) (q : Parser A) → Gives (Takes P) p → Gives P (p <*> q)
taken P p q h = Gives-<*> P (λ a. Unit {0}) p q h (λ ws a rest e. tt)

Gives-set : (which : Setting) → Gives OpensNothing (set which)
Gives-set which =
    Gives-bind (λ w. Unit {0}) OpensNothing (satisfying (bytes_eq which.word)) _ (λ ws w rest e. tt) (λ w k.
    taken OpensNothing (pure (Set which)) number (Gives-pure (Takes OpensNothing) (Set which) (λ n h. refl)))

Gives-settings : AllByRecursion (Gives OpensNothing) settings
Gives-settings =
    All-map (λ which. Unit {0}) (Gives OpensNothing) set all_settings (λ which h. Gives-set which) (
      tt,
      (tt, (tt, (tt, (tt, (tt, (tt, (tt, tt))))))),
    )

Gives-doing : (p : Parser (Phrase Action)) → Gives OpensNothing (doing p)
Gives-doing p =
    Gives-bind (λ phrase. Unit {0}) OpensNothing p _ (λ ws a rest e. tt)
    (λ phrase k. Gives-pure OpensNothing (Do phrase) refl)

every : {A : Type 0} (xs : List A) → AllByRecursion (λ x. Unit {0}) xs
every [] = tt
every (x ∷ xs) = (tt, every xs)

Gives-body_lines : AllByRecursion (Gives OpensNothing) body_lines
Gives-body_lines = (
  taken OpensNothing (keyword "temp" Temp <*> name) number
      (taken (Takes OpensNothing) (keyword "temp" Temp) name (Gives-keyword _ "temp" Temp (λ x hx y hy. refl))),
  (
    taken OpensNothing (keyword "ocall" Ocall <*> any <*> any <*> name) arguments
        (taken (Takes OpensNothing) (keyword "ocall" Ocall <*> any <*> any) name
        (taken (Takes (Takes OpensNothing)) (keyword "ocall" Ocall <*> any) any
        (taken (Takes (Takes (Takes OpensNothing))) (keyword "ocall" Ocall) any
        (Gives-keyword _ "ocall" Ocall (λ x hx y hy z hz u hu. refl))))),
    All-map (λ p. Unit {0}) (Gives OpensNothing) doing actions (λ p h. Gives-doing p) (every actions),
  ),
)

pub opens-nothing : (function : Word) (ws : List Word) (line : Line) → line_in (InBody function) ws ≡ Some line
    → opens line ≡ false
opens-nothing function ws line e =
    first_to_read-is OpensNothing (forms_in (InBody function)) (
      Gives-keyword OpensNothing "}" Close refl,
      All-++ (Gives OpensNothing) settings body_lines Gives-settings Gives-body_lines,
    ) ws line e

-- ---- the lines beside one another

abbrev at_home : ℕ → List PlacedLine → List PlacedLine
at_home n = filter (λ l. home l == n)

-- the lines up to the first that closes a block
abbrev pub closes : Option Line → Bool
closes (Some Close) = true
closes _ = false

abbrev pub up_to_close : List PlacedLine → List PlacedLine
up_to_close [] = []
up_to_close (l ∷ ls) = if closes l.line then l ∷ [] else l ∷ up_to_close ls

-- the home of a line is the innermost block around it
home-other : (n : ℕ) (around : List Block) (l : NumberedLine) → 1 ≤ n → is_number_of n around ≡ false
    → (home (placed around l) == n) ≡ false
home-other n [] l p h = not_number 0 n (λ e. absurd (omega arith))
home-other n (b ∷ around) l p h = (or-false (b.number == n) (is_number_of n around) h).0

-- a line of another number opens no block of this one
pub other-after : (n : ℕ) (around : List Block) (k : NumberedLine) → (k.number ≡ n → ⊥) → is_number_of n around ≡ false
    → is_number_of n (open_after (placed around k)) ≡ false
other-after n around k d h = go (is_number_of n (open_after (placed around k))) refl
  where
    go : (t : Bool) → is_number_of n (open_after (placed around k)) ≡ t → t ≡ false
    go false e = refl
    go true e = let z = behind-among k.number n (placed around k).line around d e in absurd cc

-- behind the end of a block no line has it for its home
at_home-none : (m n : ℕ) (around : List Block) (ls : List NumberedLine) → 1 ≤ n → n < m → Rising m ls
    → is_number_of n around ≡ false → at_home n (placed_from around ls) ≡ []
unfolding Rising
at_home-none m n around [] p l r h = refl
at_home-none m n around (k ∷ ls) p l r h =
    rw (home-other n around k p h) (at_home-none (k.number + 1) n (open_after (placed around k)) ls p (omega arith) r.1
    (other-after n around k (λ e. absurd (omega arith)) h))

-- in a body, the lines of the same body are those up to its end
pub at_home-body : (m : ℕ) (b : Block) (function : Word) (around : List Block) (ls : List NumberedLine)
    → b.opening ≡ Body function → 1 ≤ b.number → b.number < m → Below b.number around → Rising m ls
    → at_home b.number (placed_from (b ∷ around) ls) ≡ up_to_close (placed_from (b ∷ around) ls)
unfolding Rising
at_home-body m b function around [] o p l below r = refl
at_home-body m b function around (k ∷ ls) o p l below r =
    rw (eq-eqb b.number b.number refl)
    (go here.line refl (at_home-body (k.number + 1) b function around ls o p (omega arith) below r.1))
  where
    here : PlacedLine
    here = placed (b ∷ around) k

    scope : scope_of (b ∷ around) ≡ InBody function
    scope = ap (λ x. scope_in x (scope_of around)) o

    IsSame : List Block → Type 0
    IsSame blocks = at_home b.number (placed_from blocks ls) ≡ up_to_close (placed_from blocks ls)

    other : (line : Line) → here.line ≡ Some line → IsSame (b ∷ around) → IsSame (block_at k.number line ++ b ∷ around)
    other line e same =
        subst (λ t. IsSame ((if t then record { number = k.number; opening = line } ∷ [] else []) ++ b ∷ around))
        (sym (opens-nothing function k.words line (subst (λ x. line_in x k.words ≡ Some line) scope e))) same

    go : (line : Option Line) → here.line ≡ line → IsSame (b ∷ around)
        → here ∷ at_home b.number (placed_from (open_behind k.number line (b ∷ around)) ls)
        ≡ (if closes line then here ∷ [] else here
        ∷ up_to_close (placed_from (open_behind k.number line (b ∷ around)) ls))
    go None e same = ap (λ xs. here ∷ xs) same
    go (Some Close) e same =
        ap (λ xs. here
        ∷ xs) (at_home-none (k.number + 1) b.number around ls p (omega arith) r.1
        (beyond b.number b.number around below (omega arith)))
    go (Some line) e same = ap (λ xs. here ∷ xs) (other line e same)
