-- What a word answers in a legal history.
use Rattle.std.proofs.Common.{ℕ, zero, suc, ◌≡◌, ◌≢◌, ◌<◌, ◌==◌, ◌&&◌, ◌⊎◌, inl, inr, ⊎_elim, Bool, true, false, if◌then◌else◌, List, [], ◌∷◌, ◌++◌, length, drop, All, Some, slice_get, slice_set, set, refl, ap, sym, ◌∙◌, subst, arith, true≢false, eq-eqb}
use Rattle.std.proofs.lemmas.Bool.{ne_eqb, eqb-true}
use Rattle.std.proofs.lemmas.List.Elements.{All-nil, All-cons}
use Rattle.std.proofs.lemmas.Option.{same_Some, slice_get_within, get_or_from_slice_get}
use mathlib.Core.Logic.{dite}
use native.Mathlib.Decide.{ℕ_discrete}
use Rattle.word_port.specs.declared.Step.{Step}
use Rattle.word_port.specs.declared.Kind.{Kind}
use Rattle.word_port.specs.declared.Kind.TheVariants.{Load, Swap, Add, Cas}
use Rattle.word_port.specs.History.{IsLegal, history_of, words_after, word_after, IsShuffleOf}
use Rattle.shared_words.specs.Writes.{does_write, is_write_of, left_by, IsLastWrite, Answers, OwnWritesAreSeen, WinsFrom, WordIsFreedBetween}
use Rattle.shared_words.proofs.Shuffles.{get_set, get_set_other}

-- a step on the word, on another, and whether it writes
index_is : (index : ℕ) (s : Step) → is_write_of index s ≡ true → s.index ≡ index
index_is index s e = by (s.index == index) refl e
  where
    by : (b : Bool) → (s.index == index) ≡ b → (b && does_write s.kind s.first s.answer) ≡ true → s.index ≡ index
    by true q e = eqb-true s.index index q
    by false q e = absurd (true≢false (sym e))

-- a step that does not write leaves the word that it found
left_alone : (kind : Kind) (first second found : ℕ) → does_write kind first found ≡ false → word_after kind first second found ≡ found
left_alone Load first second found e = refl
left_alone Swap first second found e = absurd (true≢false e)
left_alone Add first second found e = absurd (true≢false e)
left_alone Cas first second found e = ap (λ (b : Bool). if b then second else found) e

-- the word at the index after a step, where n stood there
word_then : (words : List ℕ) (index n : ℕ) (s : Step) → slice_get words index ≡ Some n → slice_get words s.index ≡ Some s.answer
    → ((is_write_of index s ≡ true) × (slice_get (words_after words s) index ≡ Some (left_by s))) ⊎ ((is_write_of index s ≡ false) × (slice_get (words_after words s) index ≡ Some n))
word_then words index n s there found = dite (ℕ_discrete s.index index) same other
  where
    same : s.index ≡ index → ((is_write_of index s ≡ true) × (slice_get (words_after words s) index ≡ Some (left_by s))) ⊎ ((is_write_of index s ≡ false) × (slice_get (words_after words s) index ≡ Some n))
    same e =
        let within : index < length words = slice_get_within words index n there in
        let here : slice_get (words_after words s) index ≡ Some (left_by s) = ap (λ i. slice_get (slice_set words i (left_by s)) index) e ∙ get_set words index (left_by s) within in
        let answer_is : s.answer ≡ n = same_Some s.answer n (sym found ∙ ap (λ i. slice_get words i) e ∙ there) in
        let at : (s.index == index) ≡ true = eq-eqb s.index index e in
        by here answer_is at (does_write s.kind s.first s.answer) refl
      where
        by : slice_get (words_after words s) index ≡ Some (left_by s) → s.answer ≡ n → (s.index == index) ≡ true → (b : Bool) → does_write s.kind s.first s.answer ≡ b
            → ((is_write_of index s ≡ true) × (slice_get (words_after words s) index ≡ Some (left_by s))) ⊎ ((is_write_of index s ≡ false) × (slice_get (words_after words s) index ≡ Some n))
        by here answer_is at true q = inl (ap (λ b. b && does_write s.kind s.first s.answer) at ∙ q, here)
        by here answer_is at false q =
            inr (ap (λ b. b && does_write s.kind s.first s.answer) at ∙ q, here ∙ ap (λ (m : ℕ). Some m) (left_alone s.kind s.first s.second s.answer q ∙ answer_is))

    other : s.index ≢ index → ((is_write_of index s ≡ true) × (slice_get (words_after words s) index ≡ Some (left_by s))) ⊎ ((is_write_of index s ≡ false) × (slice_get (words_after words s) index ≡ Some n))
    other ne = inr (ap (λ b. b && does_write s.kind s.first s.answer) (ne_eqb s.index index ne), get_set_other words s.index index (left_by s) (λ e. ne (sym e)) ∙ there)

-- one more step before
earlier : (index n : ℕ) (s : Step) (steps : List Step) → IsLastWrite index n steps → IsLastWrite index n (s ∷ steps)
earlier index n s steps w = record {
  before = s ∷ w.before;
  write = w.write;
  after = w.after;
  split = ap (λ l. s ∷ l) w.split;
  writes = w.writes;
  leaves = w.leaves;
  last = w.last;
}

-- what a step finds at a word: what stood there, where none of the steps before it writes, or what the last write of these left
pub found_there : (words : List ℕ) (index n : ℕ) (steps : List Step) (s : Step) (after : List Step)
    → slice_get words index ≡ Some n → IsLegal words (history_of (steps ++ s ∷ after)) → s.index ≡ index
    → ((s.answer ≡ n) × All (λ t. is_write_of index t ≡ false) steps) ⊎ IsLastWrite index s.answer steps
found_there words index n [] s after there legal at =
    inl (same_Some s.answer n (sym legal.0 ∙ ap (λ i. slice_get words i) at ∙ there), All-nil (λ t. is_write_of index t ≡ false))
found_there words index n (t ∷ steps) s after there legal at =
    ⊎_elim
    (λ p. inr
    (⊎_elim
    (λ q. record { before = []; write = t; after = steps; split = refl; writes = p.0; leaves = sym q.0; last = q.1 })
    (λ w. earlier index s.answer t steps w)
    (found_there (words_after words t) index (left_by t) steps s after p.1 legal.1 at)))
    (λ p. ⊎_elim
    (λ q. inl (q.0, All-cons (λ u. is_write_of index u ≡ false) t steps p.0 q.1))
    (λ w. inr (earlier index s.answer t steps w))
    (found_there (words_after words t) index n steps s after p.1 legal.1 at))
    (word_then words index n t there legal.0)

-- a legal history, from one of its steps on
legal_from : (words : List ℕ) (before : List Step) (s : Step) (after : List Step) → IsLegal words (history_of (before ++ s ∷ after))
    → (now : List ℕ) × (slice_get now s.index ≡ Some s.answer) × IsLegal (words_after now s) (history_of after)
legal_from words [] s after legal = (words, legal.0, legal.1)
legal_from words (t ∷ before) s after legal = legal_from (words_after words t) before s after legal.1

-- the whole has this element, then elements of which the rest of its part is a part
pub record Reaches {A : Type 0} (whole : List A) (i : ℕ) (x : A) (late : List A) : Type 0 where
  pub before : List A
  pub after : List A
  pub left : List (List A)
  pub split : whole ≡ before ++ x ∷ after
  pub shuffled : IsShuffleOf left after
  pub part : slice_get left i ≡ Some late

one_later : {A : Type 0} (y : A) (whole : List A) (i : ℕ) (x : A) (late : List A) → Reaches whole i x late → Reaches (y ∷ whole) i x late
one_later y whole i x late r = record { before = y ∷ r.before; after = r.after; left = r.left; split = ap (λ l. y ∷ l) r.split; shuffled = r.shuffled; part = r.part }

-- an element of a part stands in the whole
pub shuffle_reach : {A : Type 0} (whole : List A) (parts : List (List A)) (i : ℕ) (early late : List A) (x : A)
    → IsShuffleOf parts whole → slice_get parts i ≡ Some (early ++ x ∷ late) → Reaches whole i x late
shuffle_reach {A} [] parts i early late x empty there =
    absurd (not_none early (sym (get_or_from_slice_get parts i (early ++ x ∷ late) [] there) ∙ empty i [] (slice_get_within parts i (early ++ x ∷ late) there)))
  where
    not_none : (l : List A) → l ++ x ∷ late ≡ [] → ⊥
    not_none [] e = let h : suc (length late) ≡ 0 = ap (λ (m : List A). length m) e in omega (arith, h)
    not_none (y ∷ l) e = let h : suc (length (l ++ x ∷ late)) ≡ 0 = ap (λ (m : List A). length m) e in omega (arith, h)
shuffle_reach {A} (y ∷ whole) parts i early late x p there =
    dite (ℕ_discrete p.0 i)
    (λ e. here (λ l h. shuffle_reach whole (set parts p.0 p.1) i l late x p.3 h) e early (same_Some (y ∷ p.1) (early ++ x ∷ late) (sym (ap (λ k. slice_get parts k) (sym e) ∙ p.2) ∙ there)))
    (λ ne. one_later y whole i x late (shuffle_reach whole (set parts p.0 p.1) i early late x p.3 (get_set_other parts p.0 i p.1 (λ e. ne (sym e)) ∙ there)))
  where
    here : ((l : List A) → slice_get (set parts p.0 p.1) i ≡ Some (l ++ x ∷ late) → Reaches whole i x late) → p.0 ≡ i → (l : List A) → y ∷ p.1 ≡ l ++ x ∷ late → Reaches (y ∷ whole) i x late
    here more e [] q =
        let rest_is : p.1 ≡ late = ap (λ (m : List A). drop 1 m) q in
        let first_is : y ≡ x = same_Some y x (ap (λ (m : List A). slice_get m 0) q) in
        let within : p.0 < length parts = slice_get_within parts p.0 (y ∷ p.1) p.2 in
        record {
          before = [];
          after = whole;
          left = set parts p.0 p.1;
          split = ap (λ z. z ∷ whole) first_is;
          shuffled = p.3;
          part = ap (λ k. slice_get (set parts p.0 p.1) k) (sym e) ∙ get_set parts p.0 p.1 within ∙ ap (λ (m : List A). Some m) rest_is;
        }
    here more e (z ∷ l) q =
        let rest_is : p.1 ≡ l ++ x ∷ late = ap (λ (m : List A). drop 1 m) q in
        let within : p.0 < length parts = slice_get_within parts p.0 (y ∷ p.1) p.2 in
        one_later y whole i x late (more l (ap (λ k. slice_get (set parts p.0 p.1) k) (sym e) ∙ get_set parts p.0 p.1 within ∙ ap (λ (m : List A). Some m) rest_is))

-- a step after a write of its word
answers_since : (initial : List ℕ) (before since after : List Step) (write s : Step)
    → IsLegal initial (history_of (before ++ write ∷ (since ++ s ∷ after))) → is_write_of s.index write ≡ true → IsLastWrite s.index s.answer (write ∷ since)
answers_since initial before since after write s legal writes =
    let from = legal_from initial before write (since ++ s ∷ after) legal in
    let at : write.index ≡ s.index = index_is s.index write writes in
    let within : write.index < length from.0 = slice_get_within from.0 write.index write.answer from.1 in
    let there : slice_get (words_after from.0 write) s.index ≡ Some (left_by write) = ap (λ i. slice_get (words_after from.0 write) i) (sym at) ∙ get_set from.0 write.index (left_by write) within in
    ⊎_elim
    (λ q. record { before = []; write = write; after = since; split = refl; writes = writes; leaves = sym q.0; last = q.1 })
    (λ w. earlier s.index s.answer write since w)
    (found_there (words_after from.0 write) s.index (left_by write) since s after there from.2 refl)

pub own_writes_are_seen : OwnWritesAreSeen
own_writes_are_seen initial logs history seat early late rest write s legal shuffled there writes =
    let one : Reaches history seat write (late ++ s ∷ rest) = shuffle_reach history logs seat early (late ++ s ∷ rest) write shuffled there in
    let two : Reaches one.after seat s rest = shuffle_reach one.after one.left seat late rest s one.shuffled one.part in
    let split : history ≡ one.before ++ write ∷ (two.before ++ s ∷ two.after) = one.split ∙ ap (λ l. one.before ++ write ∷ l) two.split in
    record {
      before = one.before;
      since = two.before;
      after = two.after;
      split = split;
      last = answers_since initial one.before two.before two.after write s (subst (λ h. IsLegal initial (history_of h)) split legal) writes;
    }

pub word_is_freed_between : WordIsFreedBetween
word_is_freed_between initial before between after one two legal won again same other =
    let from = legal_from initial before one (between ++ two ∷ after) legal in
    let wrote : left_by one ≡ one.second = ap (λ k. word_after k one.first one.second one.answer) won.kind ∙ ap (λ (b : Bool). if b then one.second else one.answer) (eq-eqb one.answer one.first (won.answer ∙ sym won.first)) in
    let within : one.index < length from.0 = slice_get_within from.0 one.index one.answer from.1 in
    let there : slice_get (words_after from.0 one) one.index ≡ Some (left_by one) = get_set from.0 one.index (left_by one) within in
    ⊎_elim
    (λ q. absurd (other (sym wrote ∙ sym q.0 ∙ again.answer)))
    (λ w. subst (λ n. IsLastWrite one.index n between) again.answer w)
    (found_there (words_after from.0 one) one.index (left_by one) between two after there from.2 (sym same))
