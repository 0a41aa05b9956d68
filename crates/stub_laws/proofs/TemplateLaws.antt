-- Templates that do not name a word, whatever stands at their places.
use Rattle.std.proofs.Common.{ℕ, ◌≡◌, Bool, true, false, List, [], ◌∷◌, ◌++◌, refl, ap, sym, ◌∙◌, append_assoc, append-nil}
use Rattle.std.specs.Prelude.{◌&&◌, not, if◌then◌else◌, ◌==◌, flat_map}
use Rattle.std.specs.Str.{bytes_eq}
use Rattle.bridge_text.specs.Template.{Place, text_at, fill, line, filled_lines}
use Rattle.stub_laws.specs.Words.{is_word_byte, names_behind, names}
use Rattle.stub_laws.proofs.WordLaws.{neither, both_first, both_second, is_not, IsOther, other_longer, other_alone, other_begun, begins, holds, between, behind, grown_past}

-- what stands before a part of a template: these bytes of a word, a word that is another one, what fills a place
pub data Front : Type 0 where
  begun : List ℕ → Front
  other : Front
  taken : Front

-- a text behind it does not name the word
abbrev pub Silent_behind : List ℕ → Front → List ℕ → Type 0
Silent_behind w (begun x) text = names_behind w x text ≡ false
Silent_behind w other text = (x : List ℕ) → IsOther w x → names_behind w x text ≡ false
Silent_behind w taken text = (x t : List ℕ) → names_behind w x t ≡ false → names_behind w x (t ++ text) ≡ false

-- the word that ends here is not the word
abbrev pub ends : List ℕ → Front → Bool
ends w (begun x) = not (bytes_eq x w)
ends w other = true
ends w taken = true

-- a byte of a word may follow, and what it makes
abbrev pub may_grow : List ℕ → Front → ℕ → Bool
may_grow w (begun x) b = true
may_grow w other b = true
may_grow w taken b = not (holds b w)

abbrev pub grown : Front → ℕ → Front
grown (begun x) b = begun (x ++ b ∷ [])
grown other b = other
grown taken b = other

-- what fills a place may follow
abbrev pub may_take : List ℕ → Front → Bool
may_take w (begun []) = true
may_take w (begun (b ∷ x)) = not (begins (b ∷ x) w)
may_take w other = true
may_take w taken = false

abbrev pub is_clear : List ℕ → Front → List ℕ → Bool
is_clear w front [] = ends w front
is_clear w front (b ∷ []) = if is_word_byte b then may_grow w front b && ends w (grown front b) else ends w front && ends w (begun [])
is_clear w front (b ∷ c ∷ rest) =
    if b == 36 then may_take w front && is_clear w taken rest
    else (if is_word_byte b then may_grow w front b && is_clear w (grown front b) (c ∷ rest)
    else ends w front && is_clear w (begun []) (c ∷ rest))

silent_end : (w : List ℕ) (front : Front) → ends w front ≡ true → Silent_behind w front []
silent_end w (begun x) h = is_not (bytes_eq x w) h
silent_end w other h = λ x o. other_alone w x o
silent_end w taken h = λ x t k. ap (λ l. names_behind w x l) (append-nil t) ∙ k

silent_grown : (w : List ℕ) (front : Front) (b : ℕ) (text : List ℕ) → is_word_byte b ≡ true → may_grow w front b ≡ true
    → Silent_behind w (grown front b) text → Silent_behind w front (b ∷ text)
silent_grown w (begun x) b text e h s = rw e s
silent_grown w other b text e h s = λ x o. rw e (s (x ++ b ∷ []) (other_longer w x (b ∷ []) o))
silent_grown w taken b text e h s = λ x t k. grown_past w x t text b e (is_not (holds b w) h) s k

silent_ended : (w : List ℕ) (front : Front) (b : ℕ) (text : List ℕ) → is_word_byte b ≡ false → ends w front ≡ true
    → names_behind w [] text ≡ false → Silent_behind w front (b ∷ text)
silent_ended w (begun x) b text e h s = rw e (neither _ _ (is_not (bytes_eq x w) h) s)
silent_ended w other b text e h s = λ x o. rw e (neither _ _ (other_alone w x o) s)
silent_ended w taken b text e h s = λ x t k. between w x t text b e ∙ neither _ _ k s

silent_taken : (w : List ℕ) (front : Front) (t text : List ℕ) → may_take w front ≡ true → names w t ≡ false
    → Silent_behind w taken text → Silent_behind w front (t ++ text)
silent_taken w (begun []) t text h k s = s [] t k
silent_taken w (begun (b ∷ x)) t text h k s =
    s (b ∷ x) t (ap (λ l. names_behind w l t) (sym (append-nil (b ∷ x))) ∙ behind w (b ∷ x) [] t (other_begun w (b ∷ x) (is_not _ h)) k)
silent_taken w other t text h k s = λ x o. s x t (ap (λ l. names_behind w l t) (sym (append-nil x)) ∙ behind w x [] t o k)
silent_taken w taken t text h k s = absurd (cc)

-- the texts of all places do not name the word
abbrev pub AreSilent : List ℕ → List Place → Type 0
AreSilent w [] = Unit {0}
AreSilent w (p ∷ places) = (names w p.text ≡ false) × AreSilent w places

silent_at : (w : List ℕ) (places : List Place) (letter : ℕ) → bytes_eq [] w ≡ false → AreSilent w places → names w (text_at places letter) ≡ false
silent_at w [] letter e s = e
silent_at w (p ∷ places) letter e (s, r) = go (p.letter == letter) (silent_at w places letter e r)
  where
    go : (t : Bool) → names w (text_at places letter) ≡ false → names w (if t then p.text else text_at places letter) ≡ false
    go true k = s
    go false k = k

module _ (w : List ℕ) (places : List Place) (some : bytes_eq [] w ≡ false) (silent : AreSilent w places) where
  one_byte : (front : Front) (b : ℕ) (t : Bool) → is_word_byte b ≡ t → is_clear w front (b ∷ []) ≡ true → Silent_behind w front (b ∷ [])
  one_byte front b true e h =
      let k : may_grow w front b && ends w (grown front b) ≡ true = rw e at h in
      silent_grown w front b [] e (both_first _ _ k) (silent_end w (grown front b) (both_second (may_grow w front b) _ k))
  one_byte front b false e h =
      let k : ends w front && ends w (begun []) ≡ true = rw e at h in
      silent_ended w front b [] e (both_first _ _ k) some

  more_bytes : (front : Front) (b c : ℕ) (rest : List ℕ) (t u : Bool) → (b == 36) ≡ t → is_word_byte b ≡ u → is_clear w front (b ∷ c ∷ rest) ≡ true
      → ((front : Front) → is_clear w front (c ∷ rest) ≡ true → Silent_behind w front (fill places (c ∷ rest)))
      → (is_clear w taken rest ≡ true → Silent_behind w taken (fill places rest))
      → Silent_behind w front (fill places (b ∷ c ∷ rest))
  unfolding fill
  more_bytes front b c rest true u e f h next past =
      let k : may_take w front && is_clear w taken rest ≡ true = rw e at h in
      rw (e, fill) (silent_taken w front (text_at places c) (fill places rest) (both_first _ _ k) (silent_at w places c some silent) (past (both_second (may_take w front) _ k)))
  more_bytes front b c rest false true e f h next past =
      let k : may_grow w front b && is_clear w (grown front b) (c ∷ rest) ≡ true = rw (e, f) at h in
      rw (e, fill) (silent_grown w front b (fill places (c ∷ rest)) f (both_first _ _ k) (next (grown front b) (both_second (may_grow w front b) _ k)))
  more_bytes front b c rest false false e f h next past =
      let k : ends w front && is_clear w (begun []) (c ∷ rest) ≡ true = rw (e, f) at h in
      rw (e, fill) (silent_ended w front b (fill places (c ∷ rest)) f (both_first _ _ k) (next (begun []) (both_second (ends w front) _ k)))

  pub clear_silent : (template : List ℕ) (front : Front) → is_clear w front template ≡ true → Silent_behind w front (fill places template)
  unfolding fill
  clear_silent [] front h = silent_end w front h
  clear_silent (b ∷ []) front h = one_byte front b (is_word_byte b) refl h
  clear_silent (b ∷ c ∷ rest) front h =
      more_bytes front b c rest (b == 36) (is_word_byte b) refl refl h (λ front k. clear_silent (c ∷ rest) front k) (λ k. clear_silent rest taken k)

-- ---- lines

-- each template does not
abbrev pub are_clear : List ℕ → List (List ℕ) → Bool
are_clear w [] = true
are_clear w (t ∷ templates) = is_clear w (begun []) t && are_clear w templates

-- lines that do not name the word, whatever stands behind them
pub record IsSilent (w text : List ℕ) : Type 0 where
  pub behind_it : (rest : List ℕ) → names w (text ++ rest) ≡ names w rest

pub silent_none : (w : List ℕ) → IsSilent w []
silent_none w = record { behind_it = λ rest. refl }

pub silent_both : (w a b : List ℕ) → IsSilent w a → IsSilent w b → IsSilent w (a ++ b)
silent_both w a b s t = record { behind_it = λ rest. ap (λ l. names w l) (append_assoc a b rest) ∙ s.behind_it (b ++ rest) ∙ t.behind_it rest }

pub silent_line : (w text : List ℕ) → names w text ≡ false → IsSilent w (line text)
silent_line w text h = record { behind_it = λ rest. ap (λ l. names w l) (append_assoc text (10 ∷ []) rest) ∙ between w [] text rest 10 refl ∙ rw h refl }

pub silent_lines : (w : List ℕ) (places : List Place) (templates : List (List ℕ)) → bytes_eq [] w ≡ false → AreSilent w places
    → are_clear w templates ≡ true → IsSilent w (filled_lines places templates)
silent_lines w places [] some s h = silent_none w
silent_lines w places (t ∷ templates) some s h =
    silent_both w (line (fill places t)) (filled_lines places templates)
    (silent_line w (fill places t) (clear_silent w places some s t (begun []) (both_first _ _ h)))
    (silent_lines w places templates some s (both_second (is_clear w (begun []) t) _ h))

pub silent_text : (w text : List ℕ) → bytes_eq [] w ≡ false → IsSilent w text → names w text ≡ false
silent_text w text some s = ap (λ l. names w l) (sym (append-nil text)) ∙ s.behind_it [] ∙ some

pub silent_each : {A : Type 0} (w : List ℕ) (text : A → List ℕ) (xs : List A) → ((x : A) → IsSilent w (text x)) → IsSilent w (flat_map text xs)
silent_each w text [] h = silent_none w
silent_each w text (x ∷ xs) h = silent_both w (text x) (flat_map text xs) (h x) (silent_each w text xs h)
