-- A trace tells its log.
use Rattle.std.proofs.Common.{ℕ, ◌≡◌, ◌+◌, ◌<◌, ◌^◌, List, [], ◌∷◌, ◌++◌, codes, refl, ap, sym, ◌∙◌, arith, append_assoc}
use Rattle.std.specs.Prelude.{decimal, flat_map, All}
use Rattle.std.specs.List.{AllByRecursion}
use Rattle.std.proofs.lemmas.List.{append_cancel_left}
use Rattle.std.proofs.lemmas.Fmt.{decimal_injective}
use Rattle.std.proofs.lemmas.List.Elements.{recursion_from_All}
use Rattle.word_port.specs.declared.Side.{Side}
use Rattle.word_port.specs.declared.Side.TheVariants.{Enclave, Host, Pool, Racer}
use Rattle.word_port.specs.declared.Step.{Step}
use Rattle.log_trace.specs.Trace.{side_letter, kind_word, step_line, thread_line, trace_text, traces_from, IsStep}
use Rattle.log_trace.proofs.Lines.{ArePlain, next_word, one_line}
use Rattle.log_trace.proofs.Steps.{decimal_plain, words_plain, one_step}

-- nothing, or the line of a participant
abbrev pub IsNext : List ℕ → Type 0
IsNext [] = Unit {0}
IsNext (b ∷ bytes) = b ≡ 116

not_next : (s : Side) (more us : List ℕ) → IsNext us → us ≡ side_letter s ++ more → ⊥
not_next Enclave more [] h e = absurd cc
not_next Host more [] h e = absurd cc
not_next Pool more [] h e = absurd cc
not_next Racer more [] h e = absurd cc
not_next Enclave more (b ∷ us) h e = let f : b ≡ 69 = cc in absurd (omega (arith, f, h))
not_next Host more (b ∷ us) h e = let f : b ≡ 72 = cc in absurd (omega (arith, f, h))
not_next Pool more (b ∷ us) h e = let f : b ≡ 80 = cc in absurd (omega (arith, f, h))
not_next Racer more (b ∷ us) h e = let f : b ≡ 82 = cc in absurd (omega (arith, f, h))

-- what comes next is no step
no_step : (s : Step) (more us : List ℕ) → IsNext us → us ≡ step_line s ++ more → ⊥
no_step s more us h e =
    let words = decimal s.index ∷ decimal s.first ∷ decimal s.second ∷ decimal s.answer ∷ [] in
    not_next s.side _ us h (e ∙ next_word (side_letter s.side) (kind_word s.kind) words more)

-- the lines of a log, up to what comes next
lines_tell : (log mine : List Step) (us ts : List ℕ) → AllByRecursion IsStep log → AllByRecursion IsStep mine
    → IsNext us → IsNext ts
    → flat_map step_line log ++ us ≡ flat_map step_line mine ++ ts → (log ≡ mine) × (us ≡ ts)
lines_tell [] [] us ts p q h k e = (refl, e)
lines_tell [] (t ∷ mine) us ts p q h k e =
    absurd (no_step t (flat_map step_line mine ++ ts) us h (e ∙ append_assoc (step_line t) (flat_map step_line mine) ts))
lines_tell (s ∷ log) [] us ts p q h k e =
    absurd (no_step s (flat_map step_line log ++ us) ts k (sym e ∙ append_assoc (step_line s) (flat_map step_line log) us))
lines_tell (s ∷ log) (t ∷ mine) us ts p q h k e =
    let f = sym (append_assoc (step_line s) (flat_map step_line log) us) ∙ e ∙ append_assoc (step_line t) (flat_map step_line mine) ts in
    let r = one_line _ _ _ _ (flat_map step_line log ++ us) (flat_map step_line mine ++ ts) (words_plain s p.0) (words_plain t q.0) f in
    let same : s ≡ t = one_step s t p.0 q.0 r.0 in
    let rest = lines_tell log mine us ts p.1 q.1 h k r.1 in
    let others : log ≡ mine = rest.0 in
    (cc, rest.1)

after_line : (thread : ℕ) (log : List Step) (us : List ℕ)
    → trace_text thread log ++ us ≡ thread_line thread ++ (flat_map step_line log ++ us)
unfolding trace_text
after_line thread log us = append_assoc (thread_line thread) (flat_map step_line log) us

thread_plain : (thread : ℕ) → thread < 2 ^ 32 → ArePlain (codes "thread" ∷ decimal thread ∷ [])
thread_plain thread h = (
  (omega arith, (omega arith, (omega arith, (omega arith, (omega arith, (omega arith, tt)))))),
  (decimal_plain thread (omega (arith, h)), tt),
)

-- a trace tells its participant and its log
pub trace_tells : (thread other : ℕ) (log mine : List Step) → thread < 2 ^ 32 → other < 2 ^ 32 → All IsStep log → All IsStep mine
    → trace_text thread log ≡ trace_text other mine → (thread ≡ other) × (log ≡ mine)
trace_tells thread other log mine h k p q e =
    let f = sym (after_line thread log []) ∙ ap (λ text. text ++ []) e ∙ after_line other mine [] in
    let r = one_line (codes "thread") (codes "thread") (decimal thread ∷ []) (decimal other ∷ []) (flat_map step_line log ++ []) (flat_map step_line mine ++ [])
    (thread_plain thread h) (thread_plain other k) f in
    let number : decimal thread ≡ decimal other = cc r.0 in (
      decimal_injective thread other (omega (arith, h)) (omega (arith, k)) number,
      (lines_tell log mine [] [] (recursion_from_All IsStep log p) (recursion_from_All IsStep mine q) tt tt r.1).0,
    )

traces_next : (thread : ℕ) (logs : List (List Step)) → IsNext (traces_from thread logs)
unfolding trace_text
traces_next thread [] = tt
traces_next thread (log ∷ logs) = refl

none_is_none : (thread : ℕ) (log : List Step) (us : List ℕ) → [] ≡ trace_text thread log ++ us → ⊥
unfolding trace_text
none_is_none thread log us e = cc

traces_tell_by : (thread : ℕ) (logs mine : List (List Step)) → AllByRecursion (All IsStep) logs → AllByRecursion (All IsStep) mine
    → traces_from thread logs ≡ traces_from thread mine → logs ≡ mine
traces_tell_by thread [] [] p q e = refl
traces_tell_by thread [] (m ∷ mine) p q e = absurd (none_is_none thread m (traces_from (thread + 1) mine) e)
traces_tell_by thread (l ∷ logs) [] p q e = absurd (none_is_none thread l (traces_from (thread + 1) logs) (sym e))
traces_tell_by thread (l ∷ logs) (m ∷ mine) p q e =
    let us = traces_from (thread + 1) logs in
    let ts = traces_from (thread + 1) mine in
    let f = append_cancel_left (thread_line thread) (flat_map step_line l ++ us) (flat_map step_line m ++ ts)
    (sym (after_line thread l us) ∙ e ∙ after_line thread m ts) in
    let r = lines_tell l m us ts (recursion_from_All IsStep l p.0) (recursion_from_All IsStep m q.0)
    (traces_next (thread + 1) logs) (traces_next (thread + 1) mine) f in
    let same : l ≡ m = r.0 in
    let others : logs ≡ mine = traces_tell_by (thread + 1) logs mine p.1 q.1 r.1 in
    cc

-- traces one after another tell the log of each participant
pub traces_tell : (thread : ℕ) (logs mine : List (List Step)) → All (All IsStep) logs → All (All IsStep) mine
    → traces_from thread logs ≡ traces_from thread mine → logs ≡ mine
traces_tell thread logs mine p q e =
    traces_tell_by thread logs mine (recursion_from_All (All IsStep) logs p) (recursion_from_All (All IsStep) mine q) e
