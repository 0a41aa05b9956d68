-- The blocks that are open.
use Rattle.std.proofs.Common.{arith, ◌≡◌, ◌≤◌, ◌<◌, ◌-◌, ℕ, zero, suc, length, List, [], ◌∷◌, ◌++◌, Option, Some, None, refl, ap, sym, ◌∙◌, true, eqb-true, eq-eqb, append_assoc, append-nil}
use Rattle.std.specs.Prelude.{◌==◌, map, reverse, drop, slice_index_or, MatchOption, Result, Ok, Err, OnOk, OnErr}
use Rattle.std.specs.Str.{bytes_eq}
use Rattle.std.proofs.lemmas.Bool.{and_parts, and_from}
use Rattle.std.proofs.lemmas.Slice.Eq.{bytes_eq-Decides}
use Rattle.std.proofs.lemmas.List.{reverse-append}
use Rattle.call_script.specs.Spelling.{Word, NumberedLine, numbered_lines}
use Rattle.call_script.specs.Line.{Line}
use Rattle.call_script.specs.Block as block
use Rattle.script_lines.specs.declared.blocks.Block.{Block}
use Rattle.script_lines.specs.Lines.{scope_of}
use Rattle.script_lines.specs.Openings.{opening_of, block_of, blocks_of, kind, name_in, is_same_scope, are_scoped}
use Rattle.script_lines.specs.Nesting.{outermost, innermost, line_at, open_after, open_after_all}

pub no_blocks : blocks_of [] ≡ []
unfolding blocks_of
no_blocks = refl

map-end : (bs : List Block) (b : Block) → map block_of (bs ++ b ∷ []) ≡ map block_of bs ++ block_of b ∷ []
map-end [] b = refl
map-end (c ∷ bs) b = ap (λ cs. block_of c ∷ cs) (map-end bs b)

-- one more inside
pub blocks_of-end : (bs : List Block) (b : Block) → blocks_of (bs ++ b ∷ []) ≡ block_of b ∷ blocks_of bs
unfolding blocks_of
blocks_of-end bs b = ap reverse (map-end bs b) ∙ reverse-append (map block_of bs) (block_of b ∷ [])

blocks_of-front : (b : Block) (bs : List Block) → blocks_of (b ∷ bs) ≡ blocks_of bs ++ block_of b ∷ []
unfolding blocks_of
blocks_of-front b bs = reverse-append (block_of b ∷ []) (map block_of bs)

outermost-end : (bs : List block.Block) (b : block.Block) → outermost (bs ++ b ∷ []) ≡ Some b.number
outermost-end [] b = refl
outermost-end (c ∷ []) b = refl
outermost-end (c ∷ d ∷ bs) b = outermost-end (d ∷ bs) b

-- the first from outside is the outermost
pub none_outermost : (bs : List Block) → length bs < 1 → None ≡ outermost (blocks_of bs)
unfolding blocks_of
none_outermost [] h = refl
none_outermost (b ∷ bs) h = absurd (omega arith)

pub first_outermost : (bs : List Block) (d : Block) → 1 ≤ length bs
    → Some (slice_index_or bs 0 d).number ≡ outermost (blocks_of bs)
first_outermost [] d h = absurd (omega arith)
first_outermost (b ∷ bs) d h = sym (ap outermost (blocks_of-front b bs) ∙ outermost-end (blocks_of bs) (block_of b))

-- the last from outside is the innermost
pub none_innermost : (bs : List Block) → length bs < 1 → None ≡ innermost (blocks_of bs)
unfolding blocks_of
none_innermost [] h = refl
none_innermost (b ∷ bs) h = absurd (omega arith)

innermost-front : (bs cs : List block.Block) (n : ℕ) → innermost bs ≡ Some n → innermost (bs ++ cs) ≡ Some n
innermost-front [] cs n e = absurd cc
innermost-front (b ∷ bs) cs n e = e

last-inside : (b : Block) (bs : List Block) (d : Block) (n : ℕ) → n ≡ length bs
    → innermost (blocks_of (b ∷ bs)) ≡ Some (slice_index_or (b ∷ bs) n d).number
unfolding blocks_of
last-inside b [] d zero e = refl
last-inside b [] d (suc n) e = absurd (omega arith)
last-inside b (c ∷ bs) d zero e = absurd (omega arith)
last-inside b (c ∷ bs) d (suc n) e =
    ap innermost (blocks_of-front b (c ∷ bs))
    ∙ innermost-front (blocks_of (c ∷ bs)) (block_of b ∷ []) _ (last-inside c bs d n (omega arith))

pub last_innermost : (bs : List Block) (d : Block) → 1 ≤ length bs
    → Some (slice_index_or bs (length bs - 1) d).number ≡ innermost (blocks_of bs)
last_innermost [] d h = absurd (omega arith)
last_innermost (b ∷ bs) d h = sym (last-inside b bs d (length (b ∷ bs) - 1) (omega arith))

-- one block less
pub popped : (o : Option Block) (old new : List Block)
    → MatchOption o ((old ≡ []) × (new ≡ [])) (λ last. old ≡ new ++ last ∷ []) → blocks_of new ≡ drop 1 (blocks_of old)
popped None old new h = ap blocks_of h.1 ∙ no_blocks ∙ sym (ap (λ bs. drop 1 bs) (ap blocks_of h.0 ∙ no_blocks))
popped (Some last) old new h = sym (ap (λ bs. drop 1 bs) (ap blocks_of h ∙ blocks_of-end new last))

-- the scope in all these blocks
abbrev inside : block.Scope → List Block → block.Scope
inside around [] = around
inside around (b ∷ bs) = inside (block.scope_in (opening_of b.opening) around) bs

inside-is : (bs : List Block) (around : List block.Block)
    → inside (block.scope_of around) bs ≡ block.scope_of (blocks_of bs ++ around)
inside-is [] around = ap (λ cs. block.scope_of (cs ++ around)) (sym no_blocks)
inside-is (b ∷ bs) around =
    inside-is bs (block_of b ∷ around)
    ∙ ap block.scope_of (sym (append_assoc (blocks_of bs) (block_of b ∷ []) around))
    ∙ ap (λ cs. block.scope_of (cs ++ around)) (sym (blocks_of-front b bs))

scope-inside : (bs : List Block) → inside block.Outside bs ≡ block.scope_of (blocks_of bs)
scope-inside bs = inside-is bs [] ∙ ap block.scope_of (append-nil (blocks_of bs))

-- each of the blocks has the scope in it
AreScoped : block.Scope → List Block → Type 0
AreScoped around [] = Unit {0}
AreScoped around (b ∷ bs) =
    (scope_of b.scope ≡ block.scope_in (opening_of b.opening) around)
    × AreScoped (block.scope_in (opening_of b.opening) around) bs

scope_by : ℕ → Word → block.Scope
scope_by zero name = block.Outside
scope_by (suc zero) name = block.InBody name
scope_by (suc (suc zero)) name = block.InHandler name
scope_by (suc (suc (suc zero))) name = block.InThread
scope_by (suc (suc (suc (suc n)))) name = block.InRacer

known-scope : (s : block.Scope) → scope_by (kind s) (name_in s) ≡ s
unfolding scope_by
known-scope block.Outside = refl
known-scope (block.InBody name) = refl
known-scope (block.InHandler name) = refl
known-scope block.InThread = refl
known-scope block.InRacer = refl

same-scope : (a b : block.Scope) → is_same_scope a b ≡ true → a ≡ b
same-scope a b e =
    let kinds : kind a ≡ kind b = eqb-true (kind a) (kind b) (and_parts _ _ e).0 in
    let names : name_in a ≡ name_in b = (bytes_eq-Decides (name_in a) (name_in b)).0 (and_parts _ _ e).1 in
    sym (known-scope a) ∙ ap (λ n. scope_by n (name_in a)) kinds ∙ ap (scope_by (kind b)) names ∙ known-scope b

scope-same : (a b : block.Scope) → a ≡ b → is_same_scope a b ≡ true
scope-same a b e =
    and_from (kind a == kind b) (bytes_eq (name_in a) (name_in b)) (eq-eqb (kind a) (kind b) (ap kind e))
    ((bytes_eq-Decides (name_in a) (name_in b)).1 (ap name_in e))

scoped : (around : block.Scope) (bs : List Block) → are_scoped around bs ≡ true → AreScoped around bs
unfolding are_scoped AreScoped
scoped around [] e = tt
scoped around (b ∷ bs) e = (
  same-scope (scope_of b.scope) (block.scope_in (opening_of b.opening) around) (and_parts _ _ e).0,
  scoped (block.scope_in (opening_of b.opening) around) bs (and_parts _ _ e).1,
)

are-scoped : (around : block.Scope) (bs : List Block) → AreScoped around bs → are_scoped around bs ≡ true
unfolding are_scoped AreScoped
are-scoped around [] h = refl
are-scoped around (b ∷ bs) h =
    and_from _ _ (scope-same (scope_of b.scope) (block.scope_in (opening_of b.opening) around) h.0)
    (are-scoped (block.scope_in (opening_of b.opening) around) bs h.1)

pub no_scopes : are_scoped block.Outside [] ≡ true
unfolding are_scoped
no_scopes = refl

more-scoped : (around : block.Scope) (bs : List Block) (b : Block) → AreScoped around bs
    → scope_of b.scope ≡ block.scope_in (opening_of b.opening) (inside around bs) → AreScoped around (bs ++ b ∷ [])
unfolding AreScoped
more-scoped around [] b h e = (e, tt)
more-scoped around (c ∷ bs) b h e = (h.0, more-scoped (block.scope_in (opening_of c.opening) around) bs b h.1 e)

less-scoped : (around : block.Scope) (bs : List Block) (b : Block) → AreScoped around (bs ++ b ∷ []) → AreScoped around bs
unfolding AreScoped
less-scoped around [] b h = tt
less-scoped around (c ∷ bs) b h = (h.0, less-scoped (block.scope_in (opening_of c.opening) around) bs b h.1)

last-inside_of : (around : block.Scope) (b : Block) (bs : List Block) (d : Block) (n : ℕ) → n ≡ length bs
    → AreScoped around (b ∷ bs) → scope_of (slice_index_or (b ∷ bs) n d).scope ≡ inside around (b ∷ bs)
unfolding AreScoped
last-inside_of around b [] d zero e h = h.0
last-inside_of around b [] d (suc n) e h = absurd (omega arith)
last-inside_of around b (c ∷ bs) d zero e h = absurd (omega arith)
last-inside_of around b (c ∷ bs) d (suc n) e h =
    last-inside_of (block.scope_in (opening_of b.opening) around) c bs d n (omega arith) h.1

-- the scope in the blocks is that in the last
pub none_scoped : (bs : List Block) → length bs < 1 → block.Outside ≡ block.scope_of (blocks_of bs)
none_scoped [] h = ap block.scope_of (sym no_blocks)
none_scoped (b ∷ bs) h = absurd (omega arith)

pub last_scoped : (bs : List Block) (d : Block) → are_scoped block.Outside bs ≡ true → 1 ≤ length bs
    → scope_of (slice_index_or bs (length bs - 1) d).scope ≡ block.scope_of (blocks_of bs)
last_scoped [] d h e = absurd (omega arith)
last_scoped (b ∷ bs) d h e =
    last-inside_of block.Outside b bs d (length (b ∷ bs) - 1) (omega arith) (scoped block.Outside (b ∷ bs) h)
    ∙ scope-inside (b ∷ bs)

pushed_scoped : (old new : List Block) (b : Block) → are_scoped block.Outside old ≡ true → new ≡ old ++ b ∷ []
    → scope_of b.scope ≡ block.scope_in (opening_of b.opening) (block.scope_of (blocks_of old))
    → are_scoped block.Outside new ≡ true
pushed_scoped old new b h e f =
    ap (are_scoped block.Outside) e
    ∙ are-scoped block.Outside (old ++ b ∷ [])
    (more-scoped block.Outside old b (scoped block.Outside old h)
    (f ∙ ap (block.scope_in (opening_of b.opening)) (sym (scope-inside old))))

pub pushed_or_same : {A E : Type 0} (r : Result A E) (old new : List Block) (b : Block)
    → OnOk r (new ≡ old ++ b ∷ []) → OnErr r (new ≡ old) → are_scoped block.Outside old ≡ true
    → scope_of b.scope ≡ block.scope_in (opening_of b.opening) (block.scope_of (blocks_of old))
    → are_scoped block.Outside new ≡ true
pushed_or_same (Ok a) old new b h k s e = pushed_scoped old new b s h e
pushed_or_same (Err a) old new b h k s e = ap (are_scoped block.Outside) k ∙ s

pub popped_scoped : (o : Option Block) (old new : List Block)
    → MatchOption o ((old ≡ []) × (new ≡ [])) (λ last. old ≡ new ++ last ∷ []) → are_scoped block.Outside old ≡ true
    → are_scoped block.Outside new ≡ true
popped_scoped None old new h s = ap (are_scoped block.Outside) h.1 ∙ no_scopes
popped_scoped (Some last) old new h s =
    are-scoped block.Outside new
    (less-scoped block.Outside new last
    (scoped block.Outside (new ++ last ∷ []) (sym (ap (are_scoped block.Outside) h) ∙ s)))

-- ---- line by line

module _ (around after : List block.Block) (l : NumberedLine) (lines ls : List NumberedLine) (first : lines ≡ l ∷ ls)
    (behind : after ≡ open_after around l) where
  pub taken : (o : Option Line) → o ≡ line_at around l
      → block.placed_from around lines
      ≡ record { number = l.number; blocks = around; line = o } ∷ block.placed_from after ls
  unfolding line_at open_after
  taken o e = rw (first, behind, e) refl

  pub turn : open_after_all after ls ≡ open_after_all around lines
  unfolding open_after_all
  turn = rw (first, behind) refl

pub behind_line : (around after : List block.Block) (l : NumberedLine) (o : Option Line) → after ≡ open_after around l
    → o ≡ line_at around l → after ≡ block.open_behind l.number o around
unfolding line_at open_after
behind_line around after l o e f = e ∙ ap (λ p. block.open_behind l.number p around) (sym f)

pub all_passed : (around : List block.Block) (lines : List NumberedLine) → lines ≡ []
    → open_after_all around lines ≡ around
unfolding open_after_all
all_passed around lines e = rw e refl

left-behind : (around : List block.Block) (l : NumberedLine) (ls : List NumberedLine)
    → block.left_open (block.placed_from around (l ∷ ls)) ≡ open_after_all around (l ∷ ls)
unfolding open_after_all open_after
left-behind around l [] = refl
left-behind around l (k ∷ ls) = left-behind (block.open_after (block.placed around l)) k ls

left_over : (ls : List NumberedLine) → block.left_open (block.placed_from [] ls) ≡ open_after_all [] ls
unfolding open_after_all
left_over [] = refl
left_over (l ∷ ls) = left-behind [] l ls

pub left_in : (bytes : List ℕ) → block.left_open (block.placed_lines bytes) ≡ open_after_all [] (numbered_lines bytes)
unfolding block.placed_lines
left_in bytes = left_over (numbered_lines bytes)
