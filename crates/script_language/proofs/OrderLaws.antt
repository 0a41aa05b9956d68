-- The order of settings.
use Rattle.std.proofs.Common.{◌≡◌, Bool, true, false, List, [], ◌∷◌, ◌++◌, Option, None, refl, sym, ◌∙◌, ap}
use Rattle.std.specs.Prelude.{unwrap_or, if◌then◌else◌}
use Rattle.std.specs.Str.{bytes_eq}
use Rattle.std.proofs.lemmas.Slice.Eq.{bytes_eq-Decides}
use Rattle.sgx_base.specs.Numbers.{spelled_number}
use Rattle.call_script.specs.Spelling.{Word}
use Rattle.call_script.specs.Parser.{or_else}
use Rattle.call_script.specs.Settings.{Setting}
use Rattle.call_script.specs.Line.{Line, Set}
use Rattle.call_script.specs.Standing.{setting_in, set_to}
use Rattle.script_laws.specs.FirstFault.{first_of}
use Rattle.script_laws.proofs.FirstFault.{first_of-cons}

exchanged : {A : Type 0} (a b c : Option A) (s t : Bool) → (s ≡ true → t ≡ true → ⊥)
    → or_else (if s then a else None) (or_else (if t then b else None) c)
    ≡ or_else (if t then b else None) (or_else (if s then a else None) c)
exchanged a b c true true h = absurd (h refl refl)
exchanged a b c true false h = refl
exchanged a b c false true h = refl
exchanged a b c false false h = refl

-- no word is that of both
not-both : (which first second : Word) → bytes_eq first second ≡ false → bytes_eq which first ≡ true
    → bytes_eq which second ≡ true → ⊥
not-both which first second h e k =
    let one : which ≡ first = (bytes_eq-Decides which first).0 e in
    let two : which ≡ second = (bytes_eq-Decides which second).0 k in
    let same : bytes_eq first second ≡ true = ap (λ w. bytes_eq w second) (sym one) ∙ k in
    absurd cc

module _ (first second which : Setting) (number other : Word) (h : bytes_eq first.word second.word ≡ false) where
  exchanged-here : (behind : List Line)
      → first_of (set_to which) (Set first number ∷ Set second other ∷ behind)
      ≡ first_of (set_to which) (Set second other ∷ Set first number ∷ behind)
  exchanged-here behind =
      first_of-cons (set_to which) (Set first number) (Set second other ∷ behind)
      ∙ ap (or_else (set_to which (Set first number))) (first_of-cons (set_to which) (Set second other) behind)
      ∙ exchanged (spelled_number number) (spelled_number other) (first_of (set_to which) behind)
      (bytes_eq which.word first.word) (bytes_eq which.word second.word)
      (not-both which.word first.word second.word h)
      ∙ sym (first_of-cons (set_to which) (Set second other) (Set first number ∷ behind)
      ∙ ap (or_else (set_to which (Set second other))) (first_of-cons (set_to which) (Set first number) behind))

  pub exchanged-first : (before behind : List Line)
      → first_of (set_to which) (before ++ Set first number ∷ Set second other ∷ behind)
      ≡ first_of (set_to which) (before ++ Set second other ∷ Set first number ∷ behind)
  exchanged-first [] behind = exchanged-here behind
  exchanged-first (l ∷ before) behind =
      first_of-cons (set_to which) l (before ++ Set first number ∷ Set second other ∷ behind)
      ∙ ap (or_else (set_to which l)) (exchanged-first before behind)
      ∙ sym (first_of-cons (set_to which) l (before ++ Set second other ∷ Set first number ∷ behind))

pub settings-exchanged : (before behind : List Line) (first second which : Setting) (number other : Word)
    → bytes_eq first.word second.word ≡ false
    → setting_in (before ++ Set first number ∷ Set second other ∷ behind) which
    ≡ setting_in (before ++ Set second other ∷ Set first number ∷ behind) which
settings-exchanged before behind first second which number other h =
    ap (λ o. unwrap_or o which.default) (exchanged-first first second which number other h before behind)
