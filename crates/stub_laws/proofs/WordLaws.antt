-- The words of texts that stand one after another.
use Rattle.std.proofs.Common.{ℕ, ◌≡◌, Bool, true, false, List, [], ◌∷◌, ◌++◌, refl, ap, sym, ◌∙◌, append_assoc, append-nil}
use Rattle.std.specs.Prelude.{◌||◌, ◌&&◌, not, nat_eq}
use Rattle.std.specs.Str.{bytes_eq}
use Rattle.stub_laws.specs.Words.{is_word_byte, names_behind}

-- ---- truth values

pub or_assoc : (a b c : Bool) → a || (b || c) ≡ (a || b) || c
or_assoc true b c = refl
or_assoc false b c = refl

pub neither : (a b : Bool) → a ≡ false → b ≡ false → a || b ≡ false
neither a b h k = rw (h, k) refl

pub first_not : (a b : Bool) → a || b ≡ false → a ≡ false
first_not true b h = absurd (cc)
first_not false b h = refl

pub second_not : (a b : Bool) → a || b ≡ false → b ≡ false
second_not true b h = absurd (cc)
second_not false b h = h

pub both_first : (a b : Bool) → a && b ≡ true → a ≡ true
both_first true b h = refl
both_first false b h = absurd (cc)

pub both_second : (a b : Bool) → a && b ≡ true → b ≡ true
both_second true b h = h
both_second false b h = absurd (cc)

pub is_not : (a : Bool) → not a ≡ true → a ≡ false
is_not true h = absurd (cc)
is_not false h = refl

-- ---- words that are begun

-- no word that begins so is the word
pub record IsOther (w begun : List ℕ) : Type 0 where
  pub differs : (rest : List ℕ) → bytes_eq (begun ++ rest) w ≡ false

pub other_longer : (w begun more : List ℕ) → IsOther w begun → IsOther w (begun ++ more)
other_longer w begun more o = record { differs = λ rest. ap (λ l. bytes_eq l w) (append_assoc begun more rest) ∙ o.differs (more ++ rest) }

pub other_alone : (w begun : List ℕ) → IsOther w begun → bytes_eq begun w ≡ false
other_alone w begun o = ap (λ l. bytes_eq l w) (sym (append-nil begun)) ∙ o.differs []

abbrev pub begins : List ℕ → List ℕ → Bool
begins [] w = true
begins (b ∷ begun) [] = false
begins (b ∷ begun) (c ∷ w) = nat_eq b c && begins begun w

differs_past : (begun w rest : List ℕ) → begins begun w ≡ false → bytes_eq (begun ++ rest) w ≡ false
differs_past [] w rest h = absurd (cc)
differs_past (b ∷ begun) [] rest h = refl
differs_past (b ∷ begun) (c ∷ w) rest h = go (nat_eq b c) h (λ k. differs_past begun w rest k)
  where
    go : (t : Bool) → t && begins begun w ≡ false → (begins begun w ≡ false → bytes_eq (begun ++ rest) w ≡ false) → t && bytes_eq (begun ++ rest) w ≡ false
    go true k f = f k
    go false k f = refl

pub other_begun : (w begun : List ℕ) → begins begun w ≡ false → IsOther w begun
other_begun w begun h = record { differs = λ rest. differs_past begun w rest h }

-- whether a byte is one of the word's
abbrev pub holds : ℕ → List ℕ → Bool
holds b [] = false
holds b (c ∷ w) = nat_eq b c || holds b w

differs_at : (x w rest : List ℕ) (b : ℕ) → holds b w ≡ false → bytes_eq (x ++ b ∷ rest) w ≡ false
differs_at [] [] rest b h = refl
differs_at [] (c ∷ w) rest b h = rw (first_not (nat_eq b c) (holds b w) h) refl
differs_at (a ∷ x) [] rest b h = refl
differs_at (a ∷ x) (c ∷ w) rest b h = go (nat_eq a c) (differs_at x w rest b (second_not (nat_eq b c) (holds b w) h))
  where
    go : (t : Bool) → bytes_eq (x ++ b ∷ rest) w ≡ false → t && bytes_eq (x ++ b ∷ rest) w ≡ false
    go true k = k
    go false k = refl

pub other_with : (w x : List ℕ) (b : ℕ) → holds b w ≡ false → IsOther w (x ++ b ∷ [])
other_with w x b h = record { differs = λ rest. ap (λ l. bytes_eq l w) (append_assoc x (b ∷ []) rest) ∙ differs_at x w rest b h }

-- ---- texts one after another

-- a text, and another behind a byte that ends words
more_between : (w begun : List ℕ) (b : ℕ) (text rest : List ℕ) (c : ℕ) (t : Bool) → is_word_byte b ≡ t
    → ((begun : List ℕ) → names_behind w begun (text ++ c ∷ rest) ≡ names_behind w begun text || names_behind w [] rest)
    → names_behind w begun (b ∷ text ++ c ∷ rest) ≡ names_behind w begun (b ∷ text) || names_behind w [] rest
more_between w begun b text rest c true e go = rw e (go (begun ++ b ∷ []))
more_between w begun b text rest c false e go = rw e (ap (λ t. bytes_eq begun w || t) (go []) ∙ or_assoc (bytes_eq begun w) (names_behind w [] text) (names_behind w [] rest))

pub between : (w begun text rest : List ℕ) (c : ℕ) → is_word_byte c ≡ false
    → names_behind w begun (text ++ c ∷ rest) ≡ names_behind w begun text || names_behind w [] rest
between w begun [] rest c h = rw h refl
between w begun (b ∷ text) rest c h = more_between w begun b text rest c (is_word_byte b) refl (λ begun. between w begun text rest c h)

-- a text that does not name the word, behind the beginning of another
more_behind : (w begun x : List ℕ) (b : ℕ) (text : List ℕ) (t : Bool) → is_word_byte b ≡ t → IsOther w begun → names_behind w x (b ∷ text) ≡ false
    → ((x : List ℕ) → names_behind w x text ≡ false → names_behind w (begun ++ x) text ≡ false)
    → names_behind w (begun ++ x) (b ∷ text) ≡ false
more_behind w begun x b text true e o h go =
    rw e (ap (λ l. names_behind w l text) (append_assoc begun x (b ∷ [])) ∙ go (x ++ b ∷ []) (rw e at h))
more_behind w begun x b text false e o h go =
    let k : bytes_eq x w || names_behind w [] text ≡ false = rw e at h in
    rw e (neither _ _ (o.differs x) (second_not (bytes_eq x w) (names_behind w [] text) k))

pub behind : (w begun x text : List ℕ) → IsOther w begun → names_behind w x text ≡ false → names_behind w (begun ++ x) text ≡ false
behind w begun x [] o h = o.differs x
behind w begun x (b ∷ text) o h = more_behind w begun x b text (is_word_byte b) refl o h (λ x k. behind w begun x text o k)

-- a text that does not name the word, and a byte behind it that is none of the word's
more_grown : (w begun : List ℕ) (c : ℕ) (text rest : List ℕ) (b : ℕ) (t : Bool) → is_word_byte c ≡ t → names_behind w begun (c ∷ text) ≡ false
    → ((begun : List ℕ) → names_behind w begun text ≡ false → names_behind w begun (text ++ b ∷ rest) ≡ false)
    → names_behind w begun (c ∷ text ++ b ∷ rest) ≡ false
more_grown w begun c text rest b true e h go = rw e (go (begun ++ c ∷ []) (rw e at h))
more_grown w begun c text rest b false e h go =
    let k : bytes_eq begun w || names_behind w [] text ≡ false = rw e at h in
    rw e (neither _ _ (first_not (bytes_eq begun w) _ k) (go [] (second_not (bytes_eq begun w) _ k)))

pub grown_past : (w begun text rest : List ℕ) (b : ℕ) → is_word_byte b ≡ true → holds b w ≡ false
    → ((begun : List ℕ) → IsOther w begun → names_behind w begun rest ≡ false)
    → names_behind w begun text ≡ false → names_behind w begun (text ++ b ∷ rest) ≡ false
grown_past w begun [] rest b e h f k = rw e (f (begun ++ b ∷ []) (other_with w begun b h))
grown_past w begun (c ∷ text) rest b e h f k =
    more_grown w begun c text rest b (is_word_byte c) refl k (λ begun k. grown_past w begun text rest b e h f k)
