-- What plain words keep, step by step.
use Rattle.std.proofs.Common.{ℕ, zero, suc, ◌+◌, ◌^◌, ◌≡◌, ◌<◌, ◌≤◌, Bool, true, false, ◌==◌, if◌then◌else◌, cond, List, [], ◌∷◌, ◌++◌, map, filter, length, take, drop, slice_set, slice_index, slice_get, get_or, Some, All, refl, ap, sym, ◌∙◌, subst, append-nil, length-set, length-drop, zero-add, arith, eq-eqb}
use Rattle.std.proofs.lemmas.List.{take-append-drop, get_or-drop, get_or_default, map_push, get_or-set_same, get_or-set_other, drop_more}
use Rattle.std.proofs.lemmas.List.Elements.{filter-append, filter_more, All-head, All-tail, All-weaker, All-same, All-push, All-nil}
use Rattle.std.proofs.lemmas.Bool.{ne_eqb}
use Rattle.std.proofs.lemmas.Option.{slice_get-get_or}
use Rattle.word_port.specs.declared.Step.{Step}
use Rattle.word_port.specs.declared.Race.{Race}
use Rattle.word_port.specs.declared.Kind.{Kind}
use Rattle.word_port.specs.declared.Kind.TheVariants.{Load, Swap, Add, Cas}
use Rattle.word_port.specs.History.{Operation, step, race_write, word_after, words_after, words_in_the_end, IsLegal, is_enclave_access, accesses_in, race_writes, with_races, with_races_from}
use Rattle.word_port.specs.Plain.{HasBytes, IsByteKind, IsByteStep, AreInOrder, HasMade, writes_before, IsKept}
use Rattle.word_port.proofs.HistoryLaws.{legal_append, races_append}

-- whether the race comes before the access of this number
abbrev is_at : ℕ → Race → Bool
is_at number r = r.at == number

none_pass : (number : ℕ) (races : List Race) → All (λ r. is_at number r ≡ false) races → filter (is_at number) races ≡ []
none_pass number [] h = refl
none_pass number (r ∷ races) h =
    ap (λ b. cond b (r ∷ filter (is_at number) races) (filter (is_at number) races)) (All-head (λ x. is_at number x ≡ false) r races h)
    ∙ none_pass number races (All-tail (λ x. is_at number x ≡ false) r races h)

below_none : (number : ℕ) (races : List Race) → All (λ r. r.at < number) races → filter (is_at number) races ≡ []
below_none number races h = none_pass number races
    (All-weaker (λ r. r.at < number) (λ r. is_at number r ≡ false) (λ r l. ne_eqb r.at number (λ e. absurd (omega (arith, l, e)))) races h)

above_none : (number : ℕ) (races : List Race) → All (λ r. number < r.at) races → filter (is_at number) races ≡ []
above_none number races h = none_pass number races
    (All-weaker (λ r. number < r.at) (λ r. is_at number r ≡ false) (λ r l. ne_eqb r.at number (λ e. absurd (omega (arith, l, e)))) races h)

-- before the first of the races of an access
pub races_begin : (words : List ℕ) (races : List Race) (accesses made : ℕ) → HasMade races accesses made
    → words ≡ words_in_the_end words (race_writes (take made races) (accesses + 1))
races_begin words races accesses made h =
    let below : (r : Race) → r.at ≤ accesses → r.at < accesses + 1 = λ r l. omega (arith, l) in
    ap (λ l. words_in_the_end words (map (λ r. race_write r.index r.value) l))
    (sym (below_none (accesses + 1) (take made races) (All-weaker (λ r. r.at ≤ accesses) (λ r. r.at < accesses + 1) below (take made races) h.before)))

-- a history in two parts
pub end_append : (words : List ℕ) (xs ys : List Operation) → words_in_the_end words (xs ++ ys) ≡ words_in_the_end (words_in_the_end words xs) ys
end_append words [] ys = refl
end_append words (step s ∷ xs) ys = end_append (words_after words s) xs ys
end_append words (race_write i n ∷ xs) ys = end_append (slice_set words i n) xs ys

-- one more race of an access is made
pub races_more : (words mid : List ℕ) (races : List Race) (number i : ℕ) (d : Race) → i < length races → (get_or races i d).at ≡ number
    → mid ≡ words_in_the_end words (race_writes (take i races) number)
    → slice_set mid (get_or races i d).index (get_or races i d).value ≡ words_in_the_end words (race_writes (take (i + 1) races) number)
races_more words mid races number i d h e q =
    let write : Race → Operation = λ r. race_write r.index r.value in
    let r : Race = get_or races i d in
    let passes : is_at number r ≡ true = eq-eqb r.at number e in
    let more : filter (is_at number) (take (i + 1) races) ≡ filter (is_at number) (take i races) ++ r ∷ [] =
    filter_more (is_at number) races i d h ∙ ap (λ b. filter (is_at number) (take i races) ++ cond b (r ∷ []) []) passes in
    ap (λ l. slice_set l r.index r.value) q
    ∙ sym (end_append words (race_writes (take i races) number) (write r ∷ []))
    ∙ ap (λ l. words_in_the_end words l) (sym (ap (λ l. map write l) more ∙ map_push write (filter (is_at number) (take i races)) r))

-- no race of an access is left
pub races_end : (words mid : List ℕ) (races : List Race) (number made : ℕ) → All (λ r. number < r.at) (drop made races)
    → mid ≡ words_in_the_end words (race_writes (take made races) number) → mid ≡ words_in_the_end words (race_writes races number)
races_end words mid races number made h q =
    let write : Race → Operation = λ r. race_write r.index r.value in
    let all : filter (is_at number) races ≡ filter (is_at number) (take made races) =
    ap (filter (is_at number)) (sym (take-append-drop made races))
    ∙ filter-append (is_at number) (take made races) (drop made races)
    ∙ ap (λ l. filter (is_at number) (take made races) ++ l) (above_none number (drop made races) h)
    ∙ append-nil (filter (is_at number) (take made races)) in
    q ∙ ap (λ l. words_in_the_end words (map write l)) (sym all)

-- where the next race is of a later access, all that are left are
pub later_left : (races : List Race) (number i : ℕ) (d : Race) → AreInOrder races → i < length races → number < (get_or races i d).at
    → All (λ r. number < r.at) (drop i races)
later_left races number i d order h above k e below =
    let here : number < (get_or races i e).at = subst (λ (r : Race). number < r.at) (get_or_default races i d e h) above in
    let within : i + k < length races = omega (arith, below, h, length-drop i races) in
    let up : (get_or races i e).at ≤ (get_or races (i + k) e).at = order i (i + k) e (omega arith) within in
    let there : number < (get_or races (i + k) e).at = omega (arith, here, up) in
    subst (λ (r : Race). number < r.at) (sym (get_or-drop i races k e)) there

-- the writes of races are legal on any words
legal_writes : (words : List ℕ) (races : List Race) → IsLegal words (map (λ r. race_write r.index r.value) races)
legal_writes words [] = tt
legal_writes words (r ∷ races) = legal_writes (slice_set words r.index r.value) races

legal_before : (access : Bool) (words : List ℕ) (races : List Race) (accesses : ℕ) → IsLegal words (writes_before access races accesses)
legal_before true words races accesses = legal_writes words (filter (is_at (accesses + 1)) races)
legal_before false words races accesses = tt

-- one step with the writes before it
one_step : (host accesses : ℕ) (races : List Race) (s : Step)
    → with_races_from host accesses races (s ∷ []) ≡ writes_before (is_enclave_access host s) races accesses ++ step s ∷ []
one_step host accesses races s = by_access (is_enclave_access host s)
  where
    by_access : (b : Bool) → (if b then race_writes races (accesses + 1) ++ step s ∷ [] else step s ∷ []) ≡ writes_before b races accesses ++ step s ∷ []
    by_access true = refl
    by_access false = refl

accesses_append : (host : ℕ) (log : List Step) (s : Step) → accesses_in host (log ++ s ∷ []) ≡ accesses_in host log + (if is_enclave_access host s then 1 else 0)
accesses_append host [] s = omega arith
accesses_append host (x ∷ log) s = let h : accesses_in host (log ++ s ∷ []) ≡ accesses_in host log + (if is_enclave_access host s then 1 else 0) = accesses_append host log s in omega (arith, h)

bytes_set : (host : ℕ) (words : List ℕ) (i n : ℕ) → HasBytes host words → i < length words → (i < host → n < 256) → HasBytes host (slice_set words i n)
bytes_set host words i n bytes within small k h = grind (arith, get_or-set_same, get_or-set_other)

-- what a byte step leaves is a byte
pub byte_after : (kind : Kind) (first second n : ℕ) → IsByteKind kind → first < 256 → n < 256 → word_after kind first second n < 256
byte_after Load first second n k f h = h
byte_after Swap first second n k f h = f
byte_after Add first second n k f h = absurd k
byte_after Cas first second n k f h = absurd k

-- a step with the right answer, after the writes before it
pub keeps_step : (initial : List ℕ) (races : List Race) (host accesses made : ℕ) (words : List ℕ) (log : List Step) (later more : ℕ) (found : List ℕ) (s : Step)
    → IsKept initial races host accesses made words log
    → found ≡ words_in_the_end words (writes_before (is_enclave_access host s) races accesses)
    → later ≡ accesses + (if is_enclave_access host s then 1 else 0)
    → HasMade races later more → HasBytes host found → length found ≡ length words
    → s.index < length words → s.answer ≡ slice_index found s.index
    → (s.index < host → IsByteKind s.kind × s.first < 256)
    → IsKept initial races host later more (words_after found s) (log ++ s ∷ [])
keeps_step initial races host accesses made words log later more found s kept found_is later_is turn bytes same within answer byte =
    let inside : s.index < length found = omega (arith, within, same) in
    let there : slice_get found s.index ≡ Some s.answer = slice_get-get_or found s.index 0 inside ∙ ap (λ (n : ℕ). Some n) (sym answer) in
    let writes : List Operation = writes_before (is_enclave_access host s) races accesses in
    let whole : with_races host races (log ++ s ∷ []) ≡ with_races host races log ++ (writes ++ step s ∷ []) =
    races_append host 0 races log (s ∷ [])
    ∙ ap (λ (n : ℕ). with_races host races log ++ with_races_from host n races (s ∷ [])) (zero-add (accesses_in host log) ∙ kept.counted)
    ∙ ap (λ (l : List Operation). with_races host races log ++ l) (one_step host accesses races s) in
    let step_legal : IsLegal (words_in_the_end words writes) (step s ∷ []) = (subst (λ (l : List ℕ). slice_get l s.index ≡ Some s.answer) found_is there, tt) in
    let rest_legal : IsLegal words (writes ++ step s ∷ []) = legal_append words writes (step s ∷ []) (legal_before (is_enclave_access host s) words races accesses) step_legal in
    let small : s.index < host → s.answer < 256 = λ h. subst (λ (n : ℕ). n < 256) (sym answer) (bytes s.index h) in
    record {
      legal = subst (λ (l : List Operation). IsLegal initial l) (sym whole)
          (legal_append initial (with_races host races log) (writes ++ step s ∷ []) kept.legal (subst (λ (l : List ℕ). IsLegal l (writes ++ step s ∷ [])) (sym kept.ends) rest_legal));
      ends = ap (λ (l : List Operation). words_in_the_end initial l) whole
          ∙ end_append initial (with_races host races log) (writes ++ step s ∷ [])
          ∙ ap (λ (l : List ℕ). words_in_the_end l (writes ++ step s ∷ [])) kept.ends
          ∙ end_append words writes (step s ∷ [])
          ∙ ap (λ (l : List ℕ). words_after l s) (sym found_is);
      counted = accesses_append host log s ∙ ap (λ (n : ℕ). n + (if is_enclave_access host s then 1 else 0)) kept.counted ∙ sym later_is;
      turn = turn;
      steps = All-push (IsByteStep (length initial) host) log s kept.steps (record {
        word = subst (λ (n : ℕ). s.index < n) kept.count within;
        kind = λ h. (byte h).0;
        first = λ h. (byte h).1;
        answer = small;
      });
      bytes = bytes_set host found s.index (word_after s.kind s.first s.second s.answer) bytes inside (λ h. byte_after s.kind s.first s.second s.answer (byte h).0 (byte h).1 (small h));
      count = length-set found s.index (word_after s.kind s.first s.second s.answer) ∙ same ∙ kept.count;
      few = kept.few;
      hosts = kept.hosts;
      order = kept.order;
      aims = kept.aims;
    }

-- there are no steps yet
pub keeps_opened : (initial : List ℕ) (races : List Race) (host : ℕ) → HasBytes host initial → length initial ≤ 2 ^ 20 → host ≤ length initial
    → AreInOrder races → All (λ r. 1 ≤ r.at) races → All (λ r. r.index < host) races → IsKept initial races host 0 0 initial []
keeps_opened initial races host bytes few hosts order first aims = record {
  legal = tt;
  ends = refl;
  counted = refl;
  turn = record { before = All-nil (λ r. r.at ≤ 0); after = All-weaker (λ r. 1 ≤ r.at) (λ r. 0 < r.at) (λ r l. omega (arith, l)) races first };
  steps = All-nil (IsByteStep (length initial) host);
  bytes = bytes;
  count = refl;
  few = few;
  hosts = hosts;
  order = order;
  aims = aims;
}

-- a byte stays one where a byte is written
pub byte_stays : (words : List ℕ) (i n k : ℕ) → n < 256 → slice_index words k < 256 → slice_index (slice_set words i n) k < 256
byte_stays [] i n k small h = h
byte_stays (x ∷ words) zero n zero small h = small
byte_stays (x ∷ words) zero n (suc k) small h = h
byte_stays (x ∷ words) (suc i) n zero small h = h
byte_stays (x ∷ words) (suc i) n (suc k) small h = byte_stays words i n k small h

-- where the next race is of another access than the one that comes, all that are left are of later ones
pub later_next : (races : List Race) (number i : ℕ) (d : Race) → AreInOrder races → i < length races → ((get_or races i d).at ≡ number → ⊥)
    → All (λ r. number ≤ r.at) (drop i races) → All (λ r. number < r.at) (drop i races)
later_next races number i d order h other left =
    let r : Race = get_or races i d in
    let least : number ≤ r.at = All-head (λ x. number ≤ x.at) r (drop (i + 1) races) (All-same (λ x. number ≤ x.at) (r ∷ drop (i + 1) races) (drop i races) (sym (drop_more races i d h)) left) in
    let above : number < r.at = omega (arith, least, other) in
    later_left races number i d order h above
