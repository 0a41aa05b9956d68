-- A line tells its words.
use Rattle.std.proofs.Common.{ℕ, ◌≡◌, ◌<◌, ◌≤◌, List, [], ◌∷◌, ◌++◌, codes, refl, sym, ◌∙◌, arith, append_assoc}
use Rattle.call_report.specs.Report.{line}

-- every byte is above the blank
abbrev pub IsPlain : List ℕ → Type 0
IsPlain [] = Unit {0}
IsPlain (b ∷ bytes) = (32 < b) × IsPlain bytes

abbrev pub ArePlain : List (List ℕ) → Type 0
ArePlain [] = Unit {0}
ArePlain (w ∷ words) = IsPlain w × ArePlain words

-- a word ends at the first byte that is not above the blank
parted : (w v us ts : List ℕ) (c d : ℕ) → IsPlain w → IsPlain v → c ≤ 32 → d ≤ 32
    → w ++ (c ∷ us) ≡ v ++ (d ∷ ts) → (w ≡ v) × (c ≡ d) × (us ≡ ts)
parted [] [] us ts c d p q h k e = (refl, cc, cc)
parted [] (b ∷ v) us ts c d p q h k e = let f : c ≡ b = cc in absurd (omega (arith, f, q.0))
parted (a ∷ w) [] us ts c d p q h k e = let f : a ≡ d = cc in absurd (omega (arith, f, p.0))
parted (a ∷ w) (b ∷ v) us ts c d p q h k e =
    let f : a ≡ b = cc in
    let g : w ++ (c ∷ us) ≡ v ++ (d ∷ ts) = cc in
    let r = parted w v us ts c d p.1 q.1 h k g in
    let i : w ≡ v = r.0 in
    (cc, r.1, r.2)

last_word : (w us : List ℕ) → line (w ∷ []) ++ us ≡ w ++ (10 ∷ us)
last_word w us = append_assoc w (codes "\n") us

pub next_word : (w x : List ℕ) (words : List (List ℕ)) (us : List ℕ)
    → line (w ∷ x ∷ words) ++ us ≡ w ++ (32 ∷ (line (x ∷ words) ++ us))
next_word w x words us =
    append_assoc (w ++ codes " ") (line (x ∷ words)) us ∙ append_assoc w (codes " ") (line (x ∷ words) ++ us)

-- the words of a line, and what comes after it
pub one_line : (w v : List ℕ) (ws vs : List (List ℕ)) (us ts : List ℕ) → ArePlain (w ∷ ws) → ArePlain (v ∷ vs)
    → line (w ∷ ws) ++ us ≡ line (v ∷ vs) ++ ts → ((w ∷ ws) ≡ (v ∷ vs)) × (us ≡ ts)
one_line w v [] [] us ts p q e =
    let r = parted w v us ts 10 10 p.0 q.0 (omega arith) (omega arith) (sym (last_word w us) ∙ e ∙ last_word v ts) in
    let i : w ≡ v = r.0 in
    (cc, r.2)
one_line w v [] (y ∷ vs) us ts p q e =
    let r = parted w v us (line (y ∷ vs) ++ ts) 10 32 p.0 q.0 (omega arith) (omega arith) (sym (last_word w us) ∙ e ∙ next_word v y vs ts) in
    absurd (omega (arith, r.1))
one_line w v (x ∷ ws) [] us ts p q e =
    let r = parted w v (line (x ∷ ws) ++ us) ts 32 10 p.0 q.0 (omega arith) (omega arith) (sym (next_word w x ws us) ∙ e ∙ last_word v ts) in
    absurd (omega (arith, r.1))
one_line w v (x ∷ ws) (y ∷ vs) us ts p q e =
    let r = parted w v (line (x ∷ ws) ++ us) (line (y ∷ vs) ++ ts) 32 32 p.0 q.0 (omega arith) (omega arith)
    (sym (next_word w x ws us) ∙ e ∙ next_word v y vs ts) in
    let rest = one_line x y ws vs us ts p.1 q.1 r.2 in
    let i : w ≡ v = r.0 in
    let j : (x ∷ ws) ≡ (y ∷ vs) = rest.0 in
    (cc, rest.1)

-- six words in one line
pub six_words : (a b c d f g : List ℕ)
    → a ++ (codes " " ++ (b ++ (codes " " ++ (c ++ (codes " " ++ (d ++ (codes " " ++ (f ++ (codes " " ++ (g ++ codes "\n")))))))))) ≡ line (a ∷ b ∷ c ∷ d ∷ f ∷ g ∷ [])
six_words a b c d f g = sym (simp append_assoc)
