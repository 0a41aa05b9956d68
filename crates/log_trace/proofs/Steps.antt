-- The words of a step tell it.
use Rattle.std.proofs.Common.{ℕ, ◌≡◌, ◌<◌, ◌^◌, ◌==◌, if◌then◌else◌, List, [], ◌∷◌, get_or, refl, ap, sym, ◌∙◌, arith}
use Rattle.std.specs.Prelude.{decimal}
use Rattle.std.specs.Str.Parse.{AllDigits}
use Rattle.std.proofs.lemmas.Str.Parse.{digit_from_value, numerals_by_value, tells_digits}
use Rattle.std.proofs.lemmas.Fmt.{digits_decimal, decimal_injective}
use Rattle.word_port.specs.declared.Side.{Side}
use Rattle.word_port.specs.declared.Side.TheVariants.{Enclave, Host, Pool, Racer}
use Rattle.word_port.specs.declared.Kind.{Kind}
use Rattle.word_port.specs.declared.Kind.TheVariants.{Load, Swap, Add, Cas}
use Rattle.word_port.specs.declared.Step.{Step}
use Rattle.log_trace.specs.Trace.{side_letter, kind_word, step_words, IsStep}
use Rattle.log_trace.proofs.Lines.{IsPlain, ArePlain}

digits_plain : (ds : List ℕ) → AllDigits 10 ds → IsPlain ds
digits_plain [] h = tt
digits_plain (c ∷ cs) h =
    let r = digit_from_value c h.0 in
    let above : 32 < c = omega (arith, r.0) in
    (above, digits_plain cs h.1)

pub decimal_plain : (n : ℕ) → n < 2 ^ 64 → IsPlain (decimal n)
decimal_plain n h = digits_plain (decimal n) (digits_decimal (numerals_by_value (AllDigits 10) tells_digits) n h)

letter_plain : (s : Side) → IsPlain (side_letter s)
letter_plain Enclave = (omega arith, tt)
letter_plain Host = (omega arith, tt)
letter_plain Pool = (omega arith, tt)
letter_plain Racer = (omega arith, tt)

kind_plain : (k : Kind) → IsPlain (kind_word k)
kind_plain Load = (omega arith, (omega arith, (omega arith, (omega arith, tt))))
kind_plain Swap = (omega arith, (omega arith, (omega arith, (omega arith, tt))))
kind_plain Add = (omega arith, (omega arith, (omega arith, tt)))
kind_plain Cas = (omega arith, (omega arith, (omega arith, tt)))

pub words_plain : (s : Step) → IsStep s → ArePlain (step_words s)
words_plain s h =
    let i : s.index < 2 ^ 64 = omega (arith, h.index) in
    (letter_plain s.side, (kind_plain s.kind, (decimal_plain s.index i, (decimal_plain s.first h.first, (decimal_plain s.second h.second, (decimal_plain s.answer h.answer, tt))))))

-- the side of a letter
abbrev side_of : List ℕ → Side
side_of text = if get_or text 0 0 == 69 then Enclave else (if get_or text 0 0 == 72 then Host else (if get_or text 0 0 == 80 then Pool else Racer))

-- the kind of a word, told by its last letter
abbrev kind_of : List ℕ → Kind
kind_of text = if get_or text 2 0 == 97 then (if get_or text 3 0 == 100 then Load else Swap) else (if get_or text 2 0 == 100 then Add else Cas)

side_back : (s : Side) → side_of (side_letter s) ≡ s
side_back Enclave = refl
side_back Host = refl
side_back Pool = refl
side_back Racer = refl

kind_back : (k : Kind) → kind_of (kind_word k) ≡ k
kind_back Load = refl
kind_back Swap = refl
kind_back Add = refl
kind_back Cas = refl

one_side : (s t : Side) → side_letter s ≡ side_letter t → s ≡ t
one_side s t e = sym (side_back s) ∙ ap side_of e ∙ side_back t

one_kind : (k l : Kind) → kind_word k ≡ kind_word l → k ≡ l
one_kind k l e = sym (kind_back k) ∙ ap kind_of e ∙ kind_back l

abbrev made_of : Side → Kind → ℕ → ℕ → ℕ → ℕ → Step
made_of side kind index first second answer =
    record { side = side; kind = kind; index = index; first = first; second = second; answer = answer }

-- the words of a step tell it
pub one_step : (s t : Step) → IsStep s → IsStep t → step_words s ≡ step_words t → s ≡ t
one_step s t h k e =
    let side_same : side_letter s.side ≡ side_letter t.side = cc in
    let kind_same : kind_word s.kind ≡ kind_word t.kind = cc in
    let index_same : decimal s.index ≡ decimal t.index = cc in
    let first_same : decimal s.first ≡ decimal t.first = cc in
    let second_same : decimal s.second ≡ decimal t.second = cc in
    let answer_same : decimal s.answer ≡ decimal t.answer = cc in
    let a : s.side ≡ t.side = one_side s.side t.side side_same in
    let b : s.kind ≡ t.kind = one_kind s.kind t.kind kind_same in
    let c : s.index ≡ t.index = decimal_injective s.index t.index (omega (arith, h.index)) (omega (arith, k.index)) index_same in
    let d : s.first ≡ t.first = decimal_injective s.first t.first h.first k.first first_same in
    let f : s.second ≡ t.second = decimal_injective s.second t.second h.second k.second second_same in
    let g : s.answer ≡ t.answer = decimal_injective s.answer t.answer h.answer k.answer answer_same in
    let whole : made_of s.side s.kind s.index s.first s.second s.answer ≡ made_of t.side t.kind t.index t.first t.second t.answer = cc in
    whole
