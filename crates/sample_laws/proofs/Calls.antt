-- The lines of a sample's calls, as they are read.
use Rattle.std.proofs.Common.{ℕ, ◌≡◌, ◌+◌, Bool, true, false, if◌then◌else◌, List, [], ◌∷◌, ◌++◌, length, Option, Some, codes, refl, arith, sym, ap, ◌∙◌, append_assoc}
use Rattle.std.specs.Prelude.{not, ◌&&◌, ◌==◌, nat_lt}
use Rattle.std.specs.List.{list_all}
use Rattle.std.proofs.lemmas.List.Folds.{list_all-append}
use Rattle.call_script.specs.Spelling.{Word, words, lines, is_word, is_mark, means_nothing, numbered_from}
use Rattle.call_script.specs.Line.{Line, Call}
use Rattle.call_script.specs.Block.{PlacedLine, Outside, line_in, open_after, placed_from}
use Rattle.sample_laws.proofs.CallRows.{call_at}
use Rattle.sample_laws.proofs.Texts.{has_no_feed, line_before, are_words, word_before}

-- the text of a call, without its line feed
abbrev pub text_of : Word → Word → List ℕ
text_of a d = codes "call f(@0x" ++ (a ++ (codes ", " ++ (d ++ codes ")")))

-- the words of numbers in a text
pub record IsNumeral (w : Word) : Type 0 where
  pub some : nat_lt 0 (length w) ≡ true
  pub one_word : list_all is_word w ≡ true
  pub one_line : has_no_feed w ≡ true

abbrev pub call_words : Word → Word → List Word
call_words a d = codes "call" ∷ codes "f" ∷ codes "(" ∷ (codes "@0x" ++ a) ∷ codes "," ∷ d ∷ codes ")" ∷ []

before_address : (tail : List ℕ) → words (codes "call f(" ++ tail) ≡ codes "call" ∷ codes "f" ∷ codes "(" ∷ words tail
unfolding words
before_address tail = refl

between : (tail : List ℕ) → words (codes ", " ++ tail) ≡ codes "," ∷ words tail
unfolding words
between tail = refl

at_end : words (codes ")") ≡ codes ")" ∷ []
unfolding words
at_end = refl

size_words : (d : Word) → nat_lt 0 (length d) ≡ true → list_all is_word d ≡ true → words (d ++ codes ")") ≡ d ∷ codes ")" ∷ []
size_words [] s h = absurd cc
size_words (b ∷ d) s h = word_before b d (codes ")") h refl ∙ ap (λ (ws : List Word). (b ∷ d) ∷ ws) at_end

pub words_are : (a d : Word) → list_all is_word a ≡ true → IsNumeral d → words (text_of a d) ≡ call_words a d
words_are a d ha nd =
    let rest : List ℕ = codes ", " ++ (d ++ codes ")") in
    let one = word_before 64 (48 ∷ 120 ∷ a) rest ha refl in
    before_address (codes "@0x" ++ (a ++ rest))
    ∙ ap (λ (ws : List Word). codes "call" ∷ codes "f" ∷ codes "(" ∷ ws)
    (one ∙ ap (λ (ws : List Word). (codes "@0x" ++ a) ∷ ws) (between (d ++ codes ")") ∙ ap (λ (ws : List Word). codes "," ∷ ws) (size_words d nd.some nd.one_word)))

no_mark : (b : ℕ) → is_word b ≡ true → is_mark b ≡ false
no_mark b h = grind (arith)

line_is_by : (a : Word) (b : ℕ) (d : Word) → is_mark b ≡ false → line_in Outside (call_words a (b ∷ d)) ≡ Some (Call (codes "f") ((codes "@0x" ++ a) ∷ (b ∷ d) ∷ []))
line_is_by a b d h = rw h refl

pub line_is : (a d : Word) → IsNumeral d → line_in Outside (call_words a d) ≡ Some (Call (codes "f") ((codes "@0x" ++ a) ∷ d ∷ []))
line_is a [] nd = absurd (let h : false ≡ true = nd.some in cc)
line_is a (b ∷ d) nd = line_is_by a b d (no_mark b (are_words b d nd.one_word).0)

-- ---- where it stands

abbrev behind_words : ℕ → List (List ℕ) → List Word → List PlacedLine
behind_words k ls ws = placed_from [] (if means_nothing ws then numbered_from (k + 1) ls else record { number = k; words = ws } ∷ numbered_from (k + 1) ls)

abbrev behind_line : ℕ → List (List ℕ) → Option Line → List PlacedLine
behind_line k ls line =
    record { number = k; blocks = []; line = line } ∷ placed_from (open_after (record { number = k; blocks = []; line = line })) (numbered_from (k + 1) ls)

pub call_placed : (k : ℕ) (a d : Word) (ls : List (List ℕ)) → list_all is_word a ≡ true → IsNumeral d
    → placed_from [] (numbered_from k (text_of a d ∷ ls)) ≡ call_at k (codes "@0x" ++ a) d ∷ placed_from [] (numbered_from (k + 1) ls)
call_placed k a d ls ha nd = ap (behind_words k ls) (words_are a d ha nd) ∙ ap (behind_line k ls) (line_is a d nd)

-- ---- its line

feedless : (xs ys : List ℕ) → has_no_feed xs ≡ true → has_no_feed ys ≡ true → has_no_feed (xs ++ ys) ≡ true
feedless xs ys h k = list_all-append (λ b. not (b == 10)) xs ys ∙ ap (λ (t : Bool). t && has_no_feed ys) h ∙ k

text_feedless : (a d : Word) → has_no_feed a ≡ true → has_no_feed d ≡ true → has_no_feed (text_of a d) ≡ true
text_feedless a d ha hd =
    feedless (codes "call f(@0x") (a ++ (codes ", " ++ (d ++ codes ")"))) refl
    (feedless a (codes ", " ++ (d ++ codes ")")) ha (feedless (codes ", ") (d ++ codes ")") refl (feedless d (codes ")") hd refl)))

-- the text with its line feed, as it is written
abbrev pub written_of : Word → Word → List ℕ
written_of a d = codes "call f(@0x" ++ a ++ codes ", " ++ d ++ codes ")\n"

with_feed : (a d rest : List ℕ) → written_of a d ++ rest ≡ text_of a d ++ 10 ∷ rest
with_feed a d rest =
    let front : List ℕ = codes "call f(@0x" in
    let most : List ℕ = front ++ a ++ codes ", " ++ d in
    append_assoc most (codes ")\n") rest
    ∙ append_assoc (front ++ a ++ codes ", ") d (41 ∷ 10 ∷ rest)
    ∙ append_assoc (front ++ a) (codes ", ") (d ++ (41 ∷ 10 ∷ rest))
    ∙ append_assoc front a (codes ", " ++ (d ++ (41 ∷ 10 ∷ rest)))
    ∙ ap (λ (t : List ℕ). front ++ t)
    (ap (λ (t : List ℕ). a ++ (codes ", " ++ t)) (sym (append_assoc d (codes ")") (10 ∷ rest)))
    ∙ ap (λ (t : List ℕ). a ++ t) (sym (append_assoc (codes ", ") (d ++ codes ")") (10 ∷ rest)))
    ∙ sym (append_assoc a (codes ", " ++ (d ++ codes ")")) (10 ∷ rest)))

pub call_line_before : (a d rest : List ℕ) → has_no_feed a ≡ true → has_no_feed d ≡ true → lines (written_of a d ++ rest) ≡ text_of a d ∷ lines rest
call_line_before a d rest ha hd = ap lines (with_feed a d rest) ∙ line_before (text_of a d) rest (text_feedless a d ha hd)
