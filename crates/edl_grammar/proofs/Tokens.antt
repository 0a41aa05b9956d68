-- The productions of one symbol.
use Rattle.std.proofs.Common.{arith, ◌≡◌, ℕ, Bool, true, false, not, List, [], ◌∷◌, refl, ◌∙◌, ap, subst, Option, Some}
use Rattle.std.specs.Prelude.{codes, slice_index, ◌==◌}
use Rattle.std.specs.Str.{bytes_eq}
use Rattle.std.proofs.lemmas.Bool.{eqb-true}
use Rattle.std.proofs.lemmas.Slice.Eq.{bytes_eq-Decides}
use Prim.Native.String.{String}
use Rattle.edl_grammar.specs.declared.NameAt.{NameAt}
use Rattle.edl_grammar.specs.Symbols.{Symbol, Word, Number, Text, Mark, Lexed, is_reserved}
use Rattle.edl_grammar.specs.Production as spell
use Rattle.edl_grammar.specs.Parser.{Parser, Outcome, token_if, name_if, is_word, is_mark, name_of, text_of, number_of}
use Rattle.edl_grammar.specs.Parser as parse
use Rattle.edl_grammar.proofs.Agrees.{Agrees, anywhere, agrees_by, One, one_agrees}

pub bytes_eq-true : (xs ys : List ℕ) → bytes_eq xs ys ≡ true → xs ≡ ys
bytes_eq-true xs ys e = (bytes_eq-Decides xs ys).0 e

pub nat_eq-refl : (n : ℕ) → (n == n) ≡ true
nat_eq-refl n = grind arith

pub bytes_eq-refl : (xs : List ℕ) → bytes_eq xs xs ≡ true
bytes_eq-refl xs = (bytes_eq-Decides xs xs).1 refl

token_if_some : (b : Bool) (token n : ℕ) → token_if b token ≡ Some n → (b ≡ true) × (token ≡ n)
token_if_some true token n e = (refl, cc)
token_if_some false token n e = absurd cc

-- the symbol is that word or mark
pub word_is : (spelling : String) (s : Symbol) → is_word spelling s ≡ true → s ≡ Word (codes spelling)
word_is spelling (Word w) e = ap Word (bytes_eq-true w (codes spelling) e)
word_is spelling (Number n) e = absurd cc
word_is spelling (Text t) e = absurd cc
word_is spelling (Mark b) e = absurd cc

pub mark_is : (spelling : String) (s : Symbol) → is_mark spelling s ≡ true → s ≡ Mark (slice_index (codes spelling) 0)
mark_is spelling (Mark b) e = ap Mark (eqb-true b (slice_index (codes spelling) 0) e)
mark_is spelling (Word w) e = absurd cc
mark_is spelling (Number n) e = absurd cc
mark_is spelling (Text t) e = absurd cc

lexed : (x : Lexed) (s : Symbol) (n : ℕ) → x.symbol ≡ s → x.token ≡ n → x ≡ record { token = n; symbol = s }
lexed x s n e g = λ i. record { token = g i; symbol = e i }

pub word_agrees : (spelling : String) → Agrees (spell.word spelling) (parse.word spelling) anywhere
word_agrees spelling = agrees_by to from (one_agrees f (record { token = 0; symbol = Word (codes spelling) }) 0 (ap (λ b. token_if b 0) (bytes_eq-refl (codes spelling))))
  where
    f : ℕ → Symbol → Option ℕ
    f token s = token_if (is_word spelling s) token

    to : (ss : List Lexed) (n : ℕ) → One f ss n → spell.word spelling ss n
    to ss n (x, e, g) =
        let h = token_if_some (is_word spelling x.symbol) x.token n g in
        e ∙ ap (λ y. y ∷ []) (lexed x (Word (codes spelling)) n (word_is spelling x.symbol h.0) h.1)

    from : (ss : List Lexed) (n : ℕ) → spell.word spelling ss n → One f ss n
    from ss n e = (record { token = n; symbol = Word (codes spelling) }, e, ap (λ b. token_if b n) (bytes_eq-refl (codes spelling)))

pub mark_agrees : (spelling : String) → Agrees (spell.mark spelling) (parse.mark spelling) anywhere
mark_agrees spelling = agrees_by to from (one_agrees f (record { token = 0; symbol = Mark b }) 0 (ap (λ b. token_if b 0) (nat_eq-refl b)))
  where
    b : ℕ
    b = slice_index (codes spelling) 0

    f : ℕ → Symbol → Option ℕ
    f token s = token_if (is_mark spelling s) token

    to : (ss : List Lexed) (n : ℕ) → One f ss n → spell.mark spelling ss n
    to ss n (x, e, g) =
        let h = token_if_some (is_mark spelling x.symbol) x.token n g in
        e ∙ ap (λ y. y ∷ []) (lexed x (Mark b) n (mark_is spelling x.symbol h.0) h.1)

    from : (ss : List Lexed) (n : ℕ) → spell.mark spelling ss n → One f ss n
    from ss n e = (record { token = n; symbol = Mark b }, e, ap (λ c. token_if c n) (nat_eq-refl b))

-- ---- names and numbers

name_if_some : (b : Bool) (x y : NameAt) → name_if b x ≡ Some y → (b ≡ true) × (x ≡ y)
name_if_some true x y e = (refl, cc)
name_if_some false x y e = absurd cc

not_true : (b : Bool) → not b ≡ true → b ≡ false
not_true true e = absurd cc
not_true false e = refl

name_parts : (token : ℕ) (s : Symbol) (x : NameAt) → name_of token s ≡ Some x → (s ≡ Word x.name) × (token ≡ x.token) × (is_reserved x.name ≡ false)
name_parts token (Word w) x e =
    let h = name_if_some (not (is_reserved w)) (record { token = token; name = w }) x e in
    let w_is : w ≡ x.name = ap (λ y. y.name) h.1 in
    (ap Word w_is, ap (λ y. y.token) h.1, subst (λ v. is_reserved v ≡ false) w_is (not_true (is_reserved w) h.0))
name_parts token (Number n) x e = absurd cc
name_parts token (Text t) x e = absurd cc
name_parts token (Mark b) x e = absurd cc

pub name_agrees : Agrees spell.name parse.name anywhere
name_agrees = agrees_by to from (one_agrees name_of (record { token = 0; symbol = Word (codes "a") }) (record { token = 0; name = codes "a" }) refl)
  where
    to : (ss : List Lexed) (x : NameAt) → One name_of ss x → spell.name ss x
    to ss x (y, e, g) =
        let h = name_parts y.token y.symbol x g in
        (e ∙ ap (λ z. z ∷ []) (lexed y (Word x.name) x.token h.0 h.1), h.2)

    from : (ss : List Lexed) (x : NameAt) → spell.name ss x → One name_of ss x
    from ss x (e, g) = (record { token = x.token; symbol = Word x.name }, e, ap (λ b. name_if (not b) x) g)

number_parts : (token : ℕ) (s : Symbol) (n : ℕ) → number_of token s ≡ Some n → s ≡ Number n
number_parts token (Number m) n e = cc
number_parts token (Word w) n e = absurd cc
number_parts token (Text t) n e = absurd cc
number_parts token (Mark b) n e = absurd cc

pub number_agrees : Agrees spell.number parse.number anywhere
number_agrees = agrees_by to from (one_agrees number_of (record { token = 0; symbol = Number 0 }) 0 refl)
  where
    to : (ss : List Lexed) (n : ℕ) → One number_of ss n → spell.number ss n
    to ss n (y, e, g) = (y.token, e ∙ ap (λ z. z ∷ []) (lexed y (Number n) y.token (number_parts y.token y.symbol n g) refl))

    from : (ss : List Lexed) (n : ℕ) → spell.number ss n → One number_of ss n
    from ss n (token, e) = (record { token = token; symbol = Number n }, e, refl)

text_parts : (token : ℕ) (s : Symbol) (x : NameAt) → text_of token s ≡ Some x → (s ≡ Text x.name) × (token ≡ x.token)
text_parts token (Text t) x e =
    let same : ◌≡◌ {A = NameAt} (record { token = token; name = t }) x = cc in (ap Text (ap (λ y. y.name) same), ap (λ y. y.token) same)
text_parts token (Word w) x e = absurd cc
text_parts token (Number n) x e = absurd cc
text_parts token (Mark b) x e = absurd cc

pub quoted_agrees : Agrees spell.quoted parse.quoted anywhere
quoted_agrees = agrees_by to from (one_agrees text_of (record { token = 0; symbol = Text [] }) (record { token = 0; name = [] }) refl)
  where
    to : (ss : List Lexed) (x : NameAt) → One text_of ss x → spell.quoted ss x
    to ss x (y, e, g) = let h = text_parts y.token y.symbol x g in e ∙ ap (λ z. z ∷ []) (lexed y (Text x.name) x.token h.0 h.1)

    from : (ss : List Lexed) (x : NameAt) → spell.quoted ss x → One text_of ss x
    from ss x e = (record { token = x.token; symbol = Text x.name }, e, refl)
