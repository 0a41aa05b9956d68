-- Steps keep the rule.
use Rattle.std.proofs.Common.{ℕ, zero, suc, Bool, true, false, if◌then◌else◌, ◌+◌, ◌==◌, ◌≡◌, ◌<◌, List, [], ◌∷◌, ◌++◌, map, length, Some, refl, ap, sym, ◌∙◌, subst, set, slice_set, slice_get, slice_index, true≢false}
use Rattle.std.proofs.lemmas.List.{length-set, get_or-set_same, get_or-set_other}
use Rattle.std.proofs.lemmas.List.Elements.{All-push}
use Rattle.std.proofs.lemmas.Option.{slice_get-get_or}
use mathlib.Core.Logic.{dite, ⊎_elim}
use mathlib.Core.Option.{some, some-injective, some-ne-none}
use native.Mathlib.Decide.{ℕ_discrete}
use lib.ListN.{get_elem?}
use prog.Atomic.{either}
use Rattle.atomic_table.specs.Table.{Me, keeps, Allows}
use Rattle.atomic_table.proofs.Lists.{at_set}
use Rattle.word_port.specs.declared.Step.{Step}
use Rattle.word_port.specs.declared.Kind.{Kind}
use Rattle.word_port.specs.declared.Kind.TheVariants.{Load, Swap, Add, Cas}
use Rattle.word_port.specs.Requests.{Request, step_of}
use Rattle.word_port.specs.History.{Operation, step, IsLegal, history_of, words_in_the_end, words_after, word_after, IsShuffleOf}
use Rattle.word_port.specs.Plain.{HasBytes, IsByteKind, IsByteStep}
use Rattle.word_port.proofs.HistoryLaws.{legal_append}
use Rattle.shared_words.specs.declared.rule.View.{View}
use Rattle.shared_words.specs.Rule.{IsKept, IsStep, IsView, live_in, DuesAre, logs_of, ended_in, with_step}
use Rattle.shared_words.proofs.Shuffles.{shuffle_snoc}

history_snoc : (xs : List Step) (s : Step) → history_of (xs ++ s ∷ []) ≡ history_of xs ++ step s ∷ []
history_snoc [] s = refl
history_snoc (x ∷ xs) s = ap (λ l. step x ∷ l) (history_snoc xs s)

end_snoc : (words : List ℕ) (xs : List Step) (s : Step) → words_in_the_end words (history_of (xs ++ s ∷ [])) ≡ words_after (words_in_the_end words (history_of xs)) s
end_snoc words [] s = refl
end_snoc words (x ∷ xs) s = end_snoc (words_after words x) xs s

pub own_there : (views : List View) (rest : List (List Step)) (id : ℕ) (v : View) → get_elem? views id ≡ some v → slice_get (map (λ w. w.own) views ++ rest) id ≡ Some v.own
own_there [] rest id v e = absurd (some-ne-none v (sym e))
own_there (w ∷ views) rest zero v e = ap (λ (u : View). Some u.own) (some-injective w v e)
own_there (w ∷ views) rest (suc id) v e = own_there views rest id v e

pub own_set : (views : List View) (rest : List (List Step)) (id : ℕ) (v w : View) → get_elem? views id ≡ some v
    → map (λ u. u.own) (set views id w) ++ rest ≡ set (map (λ u. u.own) views ++ rest) id w.own
own_set [] rest id v w e = absurd (some-ne-none v (sym e))
own_set (u ∷ views) rest zero v w e = refl
own_set (u ∷ views) rest (suc id) v w e = ap (λ l. u.own ∷ l) (own_set views rest id v w e)

ended_set : (views : List View) (id : ℕ) (v w : View) → get_elem? views id ≡ some v → v.ended ≡ w.ended → ended_in (set views id w) ≡ ended_in views
ended_set [] id v w e same = refl
ended_set (u ∷ views) zero v w e same = sym (ap (λ (x : View). x.ended) (some-injective u v e) ∙ same)
ended_set (u ∷ views) (suc id) v w e same = refl

logs_set : (views : List View) (id : ℕ) (v w : View) → get_elem? views id ≡ some v → v.ended ≡ w.ended → logs_of (set views id w) ≡ set (logs_of views) id w.own
logs_set views id v w e same =
    ap (λ l. map (λ u. u.own) (set views id w) ++ l) (ended_set views id v w e same) ∙ own_set views (ended_in views) id v w e

live_set : (views : List View) (id : ℕ) (v w : View) → get_elem? views id ≡ some v → v.spent ≡ w.spent → live_in (set views id w) ≡ live_in views
live_set [] id v w e same = refl
live_set (u ∷ views) zero v w e same = ap (λ b. (if b then 0 else 1) + live_in views) (sym (ap (λ (x : View). x.spent) (some-injective u v e) ∙ same))
live_set (u ∷ views) (suc id) v w e same = ap (λ n. (if u.spent then 0 else 1) + n) (live_set views id v w e same)

dues_set : (views : List View) (id : ℕ) (v w : View) → get_elem? views id ≡ some v → v.spent ≡ w.spent → v.due ≡ w.due → DuesAre views → DuesAre (set views id w)
dues_set [] id v w e same due d = d
dues_set (u ∷ views) zero v w e same due d = sym (ap (λ (x : View). x.due) (some-injective u v e) ∙ due) ∙ d
dues_set (u ∷ views) (suc id) v w e same due d = d ∙ sym (live_set views id v w e same)

bytes_set : (host : ℕ) (words : List ℕ) (i n : ℕ) → HasBytes host words → i < length words → (i < host → n < 256) → HasBytes host (slice_set words i n)
bytes_set host words i n bytes within small k h =
    dite (ℕ_discrete k i)
    (λ e. subst (λ j. slice_index (slice_set words i n) j < 256) (sym e) (subst (λ m. m < 256) (sym (get_or-set_same words i n 0 within)) (small (subst (λ j. j < host) e h))))
    (λ ne. subst (λ m. m < 256) (sym (get_or-set_other words i k n 0 ne)) (bytes k h))

-- a step on a host byte leaves a byte there
byte_after : (kind : Kind) (first second n : ℕ) → IsByteKind kind → first < 256 → n < 256 → word_after kind first second n < 256
byte_after Load first second n k f h = h
byte_after Swap first second n k f h = f
byte_after Add first second n k f h = absurd k
byte_after Cas first second n k f h = absurd k

-- a step with the right answer keeps the rule
pub keeps_step : (initial : List ℕ) (host : ℕ) (words : List ℕ) (views : List View) (id : ℕ) (v : View) (s : Step)
    → IsKept initial host words views → get_elem? views id ≡ some v → v.spent ≡ false → s.answer ≡ slice_index words s.index → IsByteStep (length initial) host s
    → IsKept initial host (words_after words s) (slice_set views id (with_step v s))
keeps_step initial host words views id v s k here live answer is_byte =
    let inside : s.index < length words = subst (λ n. s.index < n) (sym k.count) is_byte.word in
    let there : slice_get words s.index ≡ Some s.answer = slice_get-get_or words s.index 0 inside ∙ ap (λ (n : ℕ). Some n) (sym answer) in
    let there_in_the_end : slice_get (words_in_the_end initial (history_of k.history)) s.index ≡ Some s.answer = ap (λ (l : List ℕ). slice_get l s.index) k.ends ∙ there in
    let small : s.index < host → word_after s.kind s.first s.second s.answer < 256 =
    λ h. byte_after s.kind s.first s.second s.answer (is_byte.kind h) (is_byte.first h) (is_byte.answer h) in
    record {
      history = k.history ++ s ∷ [];
      legal = subst (λ (h : List Operation). IsLegal initial h) (sym (history_snoc k.history s)) (legal_append initial (history_of k.history) (step s ∷ []) k.legal (there_in_the_end, tt));
      ends = end_snoc initial k.history s ∙ ap (λ (l : List ℕ). words_after l s) k.ends;
      shuffled = subst (λ (p : List (List Step)). IsShuffleOf p (k.history ++ s ∷ [])) (sym (logs_set views id v (with_step v s) here refl))
          (shuffle_snoc k.history (logs_of views) id v.own s (own_there views (ended_in views) id v here) k.shuffled);
      steps = All-push (IsByteStep (length initial) host) k.history s k.steps is_byte;
      count = length-set words s.index (word_after s.kind s.first s.second s.answer) ∙ k.count;
      bytes = bytes_set host words s.index (word_after s.kind s.first s.second s.answer) k.bytes inside small;
      each = λ j u e. ⊎_elim (λ t. subst (λ (x : View). IsView host x) t.1 ((λ q. absurd (true≢false (sym q ∙ live))), (k.each id v here).1)) (λ t. k.each j u t.1) (at_set views id j (with_step v s) u e);
      dues = dues_set views id v (with_step v s) here refl refl k.dues;
    }

-- the same, as the table asks for it: f is what the table's step writes
pub allows_step : {S : Type 0} (initial : List ℕ) (host slots id : ℕ) (me : Me S View) (q : Request) (f : ℕ → ℕ)
    → me.0.spent ≡ false → ((n : ℕ) → f n ≡ word_after q.kind q.first q.second n) → q.index < length initial → (q.index < me.0.host → IsByteKind q.kind × (q.first < 256))
    → Allows (λ s. IsKept initial host s.words s.views) slots id me q.index f (λ found after. IsStep q me found after)
allows_step {S} initial host slots id me q f live same within may s k count here big =
    let n : ℕ = slice_index s.words q.index in
    let x : Step = step_of q n in
    let at_host : me.0.host ≡ host = (k.each id me.0 here).1 live in
    let mine : q.index < host → q.index < me.0.host = λ h. subst (λ m. q.index < m) (sym at_host) h in
    let is_byte : IsByteStep (length initial) host x = record { word = within; kind = λ h. (may (mine h)).0; first = λ h. (may (mine h)).1; answer = λ h. k.bytes q.index h } in (
      with_step me.0 x,
      keeps,
      tt,
      subst (λ (m : ℕ). IsKept initial host (slice_set s.words q.index m) (slice_set s.views id (with_step me.0 x))) (sym (same n)) (keeps_step initial host s.words s.views id me.0 x k here live refl is_byte),
      record { view = refl; byte = λ h. k.bytes q.index (subst (λ m. q.index < m) at_host h); slots = refl },
    )

-- the table's choice is the definition's
pub either_if : (b : Bool) (x y : ℕ) → either b x y ≡ (if b then x else y)
either_if true x y = refl
either_if false x y = refl
