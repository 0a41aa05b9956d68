-- The first word of a line, and the first line of a script.
use Rattle.std.proofs.Common.{arith, ℕ, zero, suc, ◌+◌, ◌-◌, ◌<◌, ◌≡◌, max, Bool, true, false, cond, List, [], ◌∷◌, length, take, drop, get_or, refl, ap, sym, ◌∙◌, subst, eqb-true, length-drop}
use Rattle.std.proofs.Math.Seq.{take-length}
use Rattle.std.specs.Prelude.{◌==◌, ◌||◌, not}
use Rattle.std.specs.List.{prefix_len}
use Rattle.call_script.specs.Spelling.{Word, words, is_mark, onto, is_blank, is_word, lines}

-- blanks are passed over
skip_blanks : (bytes : List ℕ) → words bytes ≡ words (drop (prefix_len is_blank bytes) bytes)
unfolding words
skip_blanks [] = refl
skip_blanks (b ∷ bytes) = go (is_blank b) refl (skip_blanks bytes)
  where
    go : (t : Bool) → is_blank b ≡ t → words bytes ≡ words (drop (prefix_len is_blank bytes) bytes)
        → words (b ∷ bytes) ≡ words (drop (cond t (1 + prefix_len is_blank bytes) 0) (b ∷ bytes))
    go true e ih =
        rw e (ih
        ∙ ap (λ n. words (drop n (b ∷ bytes))) (let k : suc (prefix_len is_blank bytes) ≡ 1
        + prefix_len is_blank bytes = omega arith in k))
    go false e ih = refl

-- no blank is left behind them
behind_blanks : (bytes : List ℕ) → prefix_len is_blank bytes < length bytes
    → is_blank (get_or bytes (prefix_len is_blank bytes) 0) ≡ false
behind_blanks [] l = absurd (omega arith)
behind_blanks (b ∷ bytes) l = go (is_blank b) refl (behind_blanks bytes) l
  where
    go : (t : Bool) → is_blank b ≡ t
        → (prefix_len is_blank bytes < length bytes → is_blank (get_or bytes (prefix_len is_blank bytes) 0) ≡ false)
        → cond t (1 + prefix_len is_blank bytes) 0 < length (b ∷ bytes)
        → is_blank (get_or (b ∷ bytes) (cond t (1 + prefix_len is_blank bytes) 0) 0) ≡ false
    go true e ih l =
        let k : suc (prefix_len is_blank bytes) ≡ 1 + prefix_len is_blank bytes = omega arith in
        subst (λ n. is_blank (get_or (b ∷ bytes) n 0) ≡ false) k (ih (omega arith))
    go false e ih l = e

-- a blank is no part of a word
word_not_blank : (b : ℕ) → is_word b ≡ true → is_blank b ≡ false
word_not_blank b w = go (is_blank b) refl
  where
    go : (t : Bool) → is_blank b ≡ t → t ≡ false
    go false e = refl
    go true e = let h : not (true || is_mark b) ≡ true = subst (λ t. not (t || is_mark b) ≡ true) e w in absurd cc

onto_front : (b : ℕ) (t : Word) (ts ss : List Word) → ts ≡ t ∷ ss → onto b ts ≡ (b ∷ t) ∷ ss
onto_front b t ts ss e = rw e refl

-- a word is one token
word_front : (b : ℕ) (bytes : List ℕ) → is_word b ≡ true
    → words (b ∷ bytes) ≡ (b ∷ take (prefix_len is_word bytes) bytes) ∷ words (drop (prefix_len is_word bytes) bytes)
unfolding words
word_front b [] w = rw (w, word_not_blank b w) refl
word_front b (c ∷ bytes) w = go (is_word c) refl (word_front c bytes)
  where
    k : suc (prefix_len is_word bytes) ≡ 1 + prefix_len is_word bytes
    k = omega arith

    go : (t : Bool) → is_word c ≡ t
        → (is_word c ≡ true → words (c ∷ bytes) ≡ (c ∷ take (prefix_len is_word bytes) bytes)
        ∷ words (drop (prefix_len is_word bytes) bytes))
        → words (b ∷ c ∷ bytes) ≡ (b ∷ take (cond t (1 + prefix_len is_word bytes) 0) (c ∷ bytes))
        ∷ words (drop (cond t (1 + prefix_len is_word bytes) 0) (c ∷ bytes))
    go true f ih =
        let blank = word_not_blank b w in
        let glued : words (b ∷ c ∷ bytes) ≡ onto b (words (c ∷ bytes)) = rw (w, f, blank) refl in
        glued ∙ onto_front b _ _ _ (ih f) ∙ ap (λ n. (b ∷ take n (c ∷ bytes)) ∷ words (drop n (c ∷ bytes))) k
    go false f ih =
        let blank = word_not_blank b w in
        rw (w, f, blank) refl

-- the token at the front, where no blank stands
front : (b : ℕ) (bytes : List ℕ) → is_blank b ≡ false
    → words (b ∷ bytes) ≡ take (max (prefix_len is_word (b ∷ bytes)) 1) (b ∷ bytes)
    ∷ words (drop (max (prefix_len is_word (b ∷ bytes)) 1) (b ∷ bytes))
unfolding words
front b bytes e = go (is_word b) refl
  where
    go : (t : Bool) → is_word b ≡ t
        → words (b ∷ bytes) ≡ take (max (cond t (1 + prefix_len is_word bytes) 0) 1) (b ∷ bytes)
        ∷ words (drop (max (cond t (1 + prefix_len is_word bytes) 0) 1) (b ∷ bytes))
    go true f = let k : suc (prefix_len is_word bytes) ≡ max (1 + prefix_len is_word bytes) 1 = omega arith in
        word_front b bytes f ∙ ap (λ n. take n (b ∷ bytes) ∷ words (drop n (b ∷ bytes))) k
    go false f = rw (f, e) refl

-- what is left behind n bytes, as a slice
pub cut : (bytes : List ℕ) (n : ℕ) → take (length bytes - n) (drop n bytes) ≡ drop n bytes
cut bytes n = subst (λ k. take k (drop n bytes) ≡ drop n bytes) (length-drop n bytes) (take-length (drop n bytes))

-- where nothing is left behind the blanks there is no token
pub none_left : (bytes : List ℕ) (n : ℕ) → n ≡ prefix_len is_blank bytes → take (length bytes - n) (drop n bytes) ≡ []
    → (words bytes ≡ []) × (words (take (length bytes - n) (drop n bytes)) ≡ [])
unfolding words
none_left bytes n e h = let left : drop n bytes ≡ [] = sym (cut bytes n) ∙ h in
    (skip_blanks bytes ∙ ap (λ k. words (drop k bytes)) (sym e) ∙ ap words left, ap words h)

front_of : (ys : List ℕ) → 0 < length ys → is_blank (get_or ys 0 0) ≡ false
    → words ys ≡ take (max (prefix_len is_word ys) 1) ys ∷ words (drop (max (prefix_len is_word ys) 1) ys)
front_of [] l e = absurd (omega arith)
front_of (b ∷ bytes) l e = front b bytes e

get_or_drop : (bytes : List ℕ) (n d : ℕ) → get_or (drop n bytes) 0 d ≡ get_or bytes n d
get_or_drop [] zero d = refl
get_or_drop [] (suc n) d = refl
get_or_drop (b ∷ bytes) zero d = refl
get_or_drop (b ∷ bytes) (suc n) d = get_or_drop bytes n d

-- else the token behind them is the first one
pub one_left : (bytes : List ℕ) (n m : ℕ) (token rest : List ℕ) → n ≡ prefix_len is_blank bytes
    → 0 < length (take (length bytes - n) (drop n bytes))
    → m ≡ prefix_len is_word (take (length bytes - n) (drop n bytes))
    → token ≡ take (max m 1) (take (length bytes - n) (drop n bytes))
    → rest ≡ drop (max m 1) (take (length bytes - n) (drop n bytes))
    → words bytes ≡ token ∷ words rest
one_left bytes n m token rest e l f p q =
    let some : n < length bytes = omega (arith, length-drop n bytes, ap length (cut bytes n)) in
    let here : get_or (drop n bytes) 0 0 ≡ get_or bytes n 0 = get_or_drop bytes n 0 in
    let dark : is_blank (get_or (drop n bytes) 0 0) ≡ false = rw (here, e) (behind_blanks bytes (rw (← e) some)) in
    skip_blanks bytes ∙ ap (λ k. words (drop k bytes)) (sym e)
    ∙ front_of (drop n bytes) (omega (arith, length-drop n bytes)) dark ∙ last (drop n bytes) (cut bytes n)
  where
    last : (ys : List ℕ) → take (length bytes - n) (drop n bytes) ≡ ys → take (max (prefix_len is_word ys) 1) ys
        ∷ words (drop (max (prefix_len is_word ys) 1) ys) ≡ token ∷ words rest
    last ys c = rw (p, q, f, c) refl

pub no_items : (xs : List ℕ) → (length xs == 0) ≡ true → xs ≡ []
no_items [] h = refl
no_items (x ∷ xs) h = absurd (omega (arith, eqb-true (length (x ∷ xs)) 0 h))

abbrev goes_on : ℕ → Bool
goes_on b = not (b == 10)

onto_line : (b : ℕ) (l : List ℕ) (ls ms : List (List ℕ)) → ls ≡ l ∷ ms → onto b ls ≡ (b ∷ l) ∷ ms
onto_line b l ls ms e = rw e refl

-- the line at the front
front_line : (bytes : List ℕ) (b : ℕ) → lines (b ∷ bytes) ≡ take (prefix_len goes_on (b ∷ bytes)) (b ∷ bytes)
    ∷ lines (drop 1 (drop (prefix_len goes_on (b ∷ bytes)) (b ∷ bytes)))
unfolding lines
front_line [] b = go (b == 10) refl
  where
    go : (t : Bool) → (b == 10) ≡ t → lines (b ∷ []) ≡ take (cond (not t) (1 + 0) 0) (b ∷ [])
        ∷ lines (drop 1 (drop (cond (not t) (1 + 0) 0) (b ∷ [])))
    go true e = rw e refl
    go false e = rw e refl
front_line (c ∷ bytes) b = go (b == 10) refl (front_line bytes c)
  where
    go : (t : Bool) → (b == 10) ≡ t → lines (c ∷ bytes) ≡ take (prefix_len goes_on (c ∷ bytes)) (c ∷ bytes)
        ∷ lines (drop 1 (drop (prefix_len goes_on (c ∷ bytes)) (c ∷ bytes)))
        → lines (b ∷ c ∷ bytes) ≡ take (cond (not t) (1 + prefix_len goes_on (c ∷ bytes)) 0) (b ∷ c ∷ bytes)
        ∷ lines (drop 1 (drop (cond (not t) (1 + prefix_len goes_on (c ∷ bytes)) 0) (b ∷ c ∷ bytes)))
    go true e ih = rw e refl
    go false e ih =
        let k : suc (prefix_len goes_on (c ∷ bytes)) ≡ 1 + prefix_len goes_on (c ∷ bytes) = omega arith in
        let glued : lines (b ∷ c ∷ bytes) ≡ onto b (lines (c ∷ bytes)) = rw e refl in
        glued ∙ onto_line b _ _ _ ih ∙ ap (λ m. take m (b ∷ c ∷ bytes) ∷ lines (drop 1 (drop m (b ∷ c ∷ bytes)))) k

-- the first line, and those behind it
pub line_left : (bytes : List ℕ) (n : ℕ) (line rest : List ℕ) → 0 < length bytes → n ≡ prefix_len goes_on bytes
    → line ≡ take n bytes → rest ≡ drop n bytes → lines bytes ≡ line ∷ lines (drop 1 rest)
line_left [] n line rest l e p q = absurd (omega arith)
line_left (b ∷ bytes) n line rest l e p q = front_line bytes b ∙ sym (rw (p, q, e) refl)

pub no_lines : (bytes : List ℕ) → (length bytes == 0) ≡ true → lines bytes ≡ []
unfolding lines
no_lines bytes h = ap lines (no_items bytes h)
