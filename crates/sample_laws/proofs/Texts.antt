-- The lines of a sample's calls, and their words.
use Rattle.std.proofs.Common.{ℕ, ◌≡◌, Bool, true, false, List, [], ◌∷◌, ◌++◌, refl, ap, ◌∙◌}
use Rattle.std.specs.Prelude.{not, ◌&&◌, ◌||◌, ◌==◌}
use Rattle.std.specs.List.{list_all}
use Rattle.call_script.specs.Spelling.{Word, words, lines, is_word, is_blank, is_mark, begins, with_byte, with_line_byte}

-- ---- lines

line_byte : (b : ℕ) (l : List ℕ) (ls : List (List ℕ)) → (b == 10) ≡ false → with_line_byte b (l ∷ ls) ≡ (b ∷ l) ∷ ls
line_byte b l ls e = rw e refl

abbrev pub has_no_feed : List ℕ → Bool
has_no_feed l = list_all (λ b. not (b == 10)) l

no_feed_head : (b : ℕ) (l : List ℕ) → has_no_feed (b ∷ l) ≡ true → ((b == 10) ≡ false) × (has_no_feed l ≡ true)
no_feed_head b l h = go (b == 10) h
  where
    go : (t : Bool) → (not t && has_no_feed l) ≡ true → (t ≡ false) × (has_no_feed l ≡ true)
    go true h = absurd cc
    go false h = (refl, h)

-- a line, and the lines behind it
pub line_before : (l rest : List ℕ) → has_no_feed l ≡ true → lines (l ++ 10 ∷ rest) ≡ l ∷ lines rest
unfolding lines
line_before [] rest h = refl
line_before (b ∷ l) rest h =
    let parts = no_feed_head b l h in
    ap (with_line_byte b) (line_before l rest parts.1) ∙ line_byte b l (lines rest) parts.0

-- ---- words

pub are_words : (b : ℕ) (w : List ℕ) → list_all is_word (b ∷ w) ≡ true → (is_word b ≡ true) × (list_all is_word w ≡ true)
are_words b w h = go (is_word b) h
  where
    go : (t : Bool) → (t && list_all is_word w) ≡ true → (t ≡ true) × (list_all is_word w ≡ true)
    go true h = (refl, h)
    go false h = absurd cc

not_blank : (b : ℕ) → is_word b ≡ true → is_blank b ≡ false
not_blank b h = go (is_blank b) (is_mark b) h
  where
    go : (s t : Bool) → not (s || t) ≡ true → s ≡ false
    go false t h = refl
    go true t h = absurd cc

glued_byte : (b : ℕ) (w : Word) (ws : List Word) → is_word b ≡ true → with_byte b true (w ∷ ws) ≡ (b ∷ w) ∷ ws
glued_byte b w ws h = rw (not_blank b h) refl

last_byte : (b : ℕ) (ws : List Word) → is_word b ≡ true → with_byte b false ws ≡ (b ∷ []) ∷ ws
last_byte b ws h = rw (not_blank b h) refl

-- a word, and the words behind it
pub word_before : (b : ℕ) (w rest : List ℕ) → list_all is_word (b ∷ w) ≡ true → begins is_word rest ≡ false → words ((b ∷ w) ++ rest) ≡ (b ∷ w) ∷ words rest
unfolding words
word_before b [] rest h n =
    let parts = are_words b [] h in
    ap (λ (t : Bool). with_byte b (t && begins is_word rest) (words rest)) parts.0 ∙ ap (λ (t : Bool). with_byte b t (words rest)) n ∙ last_byte b (words rest) parts.0
word_before b (c ∷ w) rest h n =
    let parts = are_words b (c ∷ w) h in
    let next = are_words c w parts.1 in
    ap (λ (ws : List Word). with_byte b (is_word b && is_word c) ws) (word_before c w rest parts.1 n)
    ∙ ap (λ (t : Bool). with_byte b (t && is_word c) ((c ∷ w) ∷ words rest)) parts.0
    ∙ ap (λ (t : Bool). with_byte b t ((c ∷ w) ∷ words rest)) next.0
    ∙ glued_byte b (c ∷ w) (words rest) parts.0
