-- Seats that come, end and are the last keep the rule.
use Rattle.std.proofs.Common.{ℕ, zero, suc, Bool, true, false, if◌then◌else◌, ◌+◌, ◌-◌, ◌≡◌, ◌≢◌, ◌<◌, List, [], ◌∷◌, ◌++◌, map, length, Some, All, refl, ap, sym, ◌∙◌, subst, arith, set, slice_get, append_assoc, append-nil, true≢false}
use Rattle.std.proofs.lemmas.List.{length-set, map-append}
use Rattle.std.proofs.lemmas.Option.{slice_get_within}
use mathlib.Core.Logic.{⊎_elim}
use mathlib.Core.Option.{some, some-injective, some-ne-none}
use lib.ListN.{get_elem?}
use Rattle.atomic_table.specs.Table.{Splits, Joins, Final, Seen}
use Rattle.atomic_table.proofs.Lists.{at_set, at_snoc}
use Rattle.word_port.specs.declared.Step.{Step}
use Rattle.word_port.specs.History.{IsLegal, history_of, IsShuffleOf}
use Rattle.word_port.specs.Plain.{HasBytes, IsByteStep}
use Rattle.shared_words.specs.declared.rule.View.{View}
use Rattle.shared_words.specs.Rule.{IsKept, IsView, live_in, first_view, one_more_due, newcomer, with_ended, spent_view}
use Rattle.shared_words.proofs.Steps.{own_there, own_set}
use Rattle.shared_words.proofs.Shuffles.{shuffle_insert, shuffle_remove, shuffle_move}

abbrev pub owns : List View → List (List Step)
owns views = map (λ v. v.own) views

-- the table at the start
pub opens : (initial : List ℕ) (host : ℕ) → HasBytes host initial → IsKept initial host initial (first_view host ∷ [])
opens initial host bytes = record {
  history = [];
  legal = tt;
  ends = refl;
  shuffled = lone;
  steps = λ k d h. absurd (omega (arith, h));
  count = refl;
  bytes = bytes;
  each = each_is;
  dues = refl;
}
  where
    lone : IsShuffleOf {A = Step} ([] ∷ []) []
    lone zero d h = refl
    lone (suc k) d h = absurd (omega (arith, h))

    each_is : (id : ℕ) (v : View) → get_elem? (first_view host ∷ []) id ≡ some v → IsView host v
    each_is zero v e = subst (λ (x : View). IsView host x) (some-injective (first_view host) v e) ((λ q. refl), (λ q. refl))
    each_is (suc id) v e = absurd (some-ne-none v (sym e))

live_snoc : (vs : List View) (w : View) → w.spent ≡ false → live_in (vs ++ w ∷ []) ≡ live_in vs + 1
live_snoc [] w live = ap (λ b. (if b then 0 else 1) + 0) live
live_snoc (v ∷ vs) w live =
    let more : live_in (vs ++ w ∷ []) ≡ live_in vs + 1 = live_snoc vs w live in
    let n : ℕ = if v.spent then 0 else 1 in
    let e : n + (live_in vs + 1) ≡ (n + live_in vs) + 1 = omega arith in
    ap (λ m. n + m) more ∙ e

-- the keeper tells a newcomer
pub splits : (initial : List ℕ) (host : ℕ) (words : List ℕ) (views : List View) (v : View)
    → IsKept initial host words views → get_elem? views 0 ≡ some v → v.spent ≡ false → IsKept initial host words (set views 0 (one_more_due v) ++ newcomer v ∷ [])
splits initial host words [] v k here live = absurd (some-ne-none v (sym here))
splits initial host words (u ∷ vs) v k here live =
    let is : u ≡ v = some-injective u v here in
    let k' : IsKept initial host words (v ∷ vs) = subst (λ x. IsKept initial host words (x ∷ vs)) is k in
    let grown : IsShuffleOf ((v.own ∷ owns vs) ++ [] ∷ v.ended) k'.history = shuffle_insert k'.history (v.own ∷ owns vs) v.ended k'.shuffled in
    let same : v.own ∷ (owns (vs ++ newcomer v ∷ []) ++ v.ended) ≡ (v.own ∷ owns vs) ++ [] ∷ v.ended =
    ap (λ (l : List (List Step)). v.own ∷ (l ++ v.ended)) (map-append (λ (x : View). x.own) vs (newcomer v ∷ [])) ∙ ap (λ l. v.own ∷ l) (append_assoc (owns vs) ([] ∷ []) v.ended) in
    record {
      history = k'.history;
      legal = k'.legal;
      ends = k'.ends;
      shuffled = subst (λ (p : List (List Step)). IsShuffleOf p k'.history) (sym same) grown;
      steps = k'.steps;
      count = k'.count;
      bytes = k'.bytes;
      each = each_is k';
      dues = ap (λ n. n + 1) k'.dues ∙ sym (live_snoc vs (newcomer v) refl);
    }
  where
    each_is : IsKept initial host words (v ∷ vs) → (id : ℕ) (w : View) → get_elem? (one_more_due v ∷ (vs ++ newcomer v ∷ [])) id ≡ some w → IsView host w
    each_is k zero w e = subst (λ (x : View). IsView host x) (some-injective (one_more_due v) w e) (k.each 0 v refl)
    each_is k (suc id) w e =
        ⊎_elim (λ t. k.each (suc id) w t) (λ t. subst (λ (x : View). IsView host x) t ((λ q. refl), (λ q. (k.each 0 v refl).1 live))) (at_snoc vs (newcomer v) w id e)

live_spent : (vs : List View) (o : ℕ) (w : View) → get_elem? vs o ≡ some w → w.spent ≡ false → live_in vs ≡ live_in (set vs o spent_view) + 1
live_spent [] o w e live = absurd (some-ne-none w (sym e))
live_spent (v ∷ vs) zero w e live =
    let b : v.spent ≡ false = ap (λ (x : View). x.spent) (some-injective v w e) ∙ live in
    let n : ℕ = live_in vs in
    let q : 1 + n ≡ (0 + n) + 1 = omega arith in
    ap (λ c. (if c then 0 else 1) + n) b ∙ q
live_spent (v ∷ vs) (suc o) w e live =
    let n : ℕ = if v.spent then 0 else 1 in
    let m : ℕ = live_in (set vs o spent_view) in
    let q : n + (m + 1) ≡ (n + m) + 1 = omega arith in
    ap (λ x. n + x) (live_spent vs o w e live) ∙ q

set_last : {A : Type 0} (xs : List A) (a b : A) (n : ℕ) → length xs ≡ n → set (xs ++ a ∷ []) n b ≡ xs ++ b ∷ []
set_last [] a b zero e = refl
set_last [] a b (suc n) e = absurd (omega (arith, e))
set_last (x ∷ xs) a b zero e = absurd (omega (arith, e))
set_last (x ∷ xs) a b (suc n) e = let q : length xs ≡ n = omega (arith, e) in ap (λ l. x ∷ l) (set_last xs a b n q)

get_last : {A : Type 0} (xs : List A) (a : A) (n : ℕ) → length xs ≡ n → slice_get (xs ++ a ∷ []) n ≡ Some a
get_last [] a zero e = refl
get_last [] a (suc n) e = absurd (omega (arith, e))
get_last (x ∷ xs) a zero e = absurd (omega (arith, e))
get_last (x ∷ xs) a (suc n) e = let q : length xs ≡ n = omega (arith, e) in get_last xs a n q

-- the keeper takes in an ended log
pub joins : (initial : List ℕ) (host : ℕ) (words : List ℕ) (vs : List View) (v w : View) (o : ℕ)
    → IsKept initial host words (v ∷ vs) → get_elem? vs o ≡ some w → w.spent ≡ false → IsKept initial host words (with_ended v w ∷ set vs o spent_view)
joins initial host words vs v w o k there live =
    let all : List View = v ∷ vs in
    let mine : List (List Step) = owns all in
    let prefix : List (List Step) = mine ++ v.ended in
    let end : ℕ = length prefix in
    let after : List (List Step) = owns (v ∷ set vs o spent_view) in
    let wide : IsShuffleOf (prefix ++ [] ∷ []) k.history =
    shuffle_insert k.history prefix [] (subst (λ (p : List (List Step)). IsShuffleOf p k.history) (sym (append-nil prefix)) k.shuffled) in
    let regroup : prefix ++ [] ∷ [] ≡ mine ++ (v.ended ++ [] ∷ []) = append_assoc mine v.ended ([] ∷ []) in
    let at_o : slice_get (prefix ++ [] ∷ []) (suc o) ≡ Some w.own =
    ap (λ (p : List (List Step)). slice_get p (suc o)) regroup ∙ own_there all (v.ended ++ [] ∷ []) (suc o) w there in
    let at_end : slice_get (prefix ++ [] ∷ []) end ≡ Some [] = get_last prefix [] end refl in
    let below : suc o < end = slice_get_within prefix (suc o) w.own (own_there all v.ended (suc o) w there) in
    let apart : suc o ≢ end = λ e. absurd (omega (arith, below, e)) in
    let moved : IsShuffleOf (set (set (prefix ++ [] ∷ []) (suc o) []) end w.own) k.history = shuffle_move k.history (prefix ++ [] ∷ []) (suc o) end w.own at_o at_end apart wide in
    let emptied : set (prefix ++ [] ∷ []) (suc o) [] ≡ (after ++ v.ended) ++ [] ∷ [] =
    ap (λ (p : List (List Step)). set p (suc o) []) regroup ∙ sym (own_set all (v.ended ++ [] ∷ []) (suc o) w spent_view there) ∙ sym (append_assoc after v.ended ([] ∷ [])) in
    let narrow : after ++ v.ended ≡ set prefix (suc o) [] = own_set all v.ended (suc o) w spent_view there in
    let as_long : length (after ++ v.ended) ≡ end = ap (λ (p : List (List Step)). length p) narrow ∙ length-set prefix (suc o) [] in
    let same : set (set (prefix ++ [] ∷ []) (suc o) []) end w.own ≡ after ++ (v.ended ++ w.own ∷ []) =
    ap (λ (p : List (List Step)). set p end w.own) emptied ∙ set_last (after ++ v.ended) [] w.own end as_long ∙ append_assoc after v.ended (w.own ∷ []) in
    let due : v.due ≡ live_in (set vs o spent_view) + 1 = k.dues ∙ live_spent vs o w there live in
    let less : v.due - 1 ≡ live_in (set vs o spent_view) = omega (arith, due) in
    record {
      history = k.history;
      legal = k.legal;
      ends = k.ends;
      shuffled = subst (λ (p : List (List Step)). IsShuffleOf p k.history) same moved;
      steps = k.steps;
      count = k.count;
      bytes = k.bytes;
      each = each_is;
      dues = less;
    }
  where
    each_is : (id : ℕ) (x : View) → get_elem? (with_ended v w ∷ set vs o spent_view) id ≡ some x → IsView host x
    each_is zero x e = subst (λ (y : View). IsView host y) (some-injective (with_ended v w) x e) (k.each 0 v refl)
    each_is (suc id) x e =
        ⊎_elim (λ t. subst (λ (y : View). IsView host y) t.1 ((λ q. refl), (λ q. absurd (true≢false q)))) (λ t. k.each (suc id) x t.1) (at_set vs o id spent_view x e)

drop_spent : (host : ℕ) (vs : List View) (own : List Step) (ended : List (List Step)) (history : List Step)
    → ((id : ℕ) (x : View) → get_elem? vs id ≡ some x → IsView host x) → live_in vs ≡ 0 → IsShuffleOf (own ∷ (owns vs ++ ended)) history → IsShuffleOf (own ∷ ended) history
drop_spent host [] own ended history each none p = p
drop_spent host (u ∷ vs) own ended history each none p = by (λ rest q. drop_spent host vs own ended history (λ id x h. each (suc id) x h) rest q) u.spent refl
  where
    by : (live_in vs ≡ 0 → IsShuffleOf (own ∷ (owns vs ++ ended)) history → IsShuffleOf (own ∷ ended) history) → (b : Bool) → u.spent ≡ b → IsShuffleOf (own ∷ ended) history
    by more true e =
        let empty : u.own ≡ [] = (each 0 u refl).0 e in
        let n : ℕ = live_in vs in
        let q : 0 + n ≡ 0 = sym (ap (λ c. (if c then 0 else 1) + n) e) ∙ none in
        let rest : live_in vs ≡ 0 = omega (arith, q) in
        more rest (shuffle_remove history (own ∷ []) (owns vs ++ ended) (subst (λ (l : List Step). IsShuffleOf (own ∷ l ∷ (owns vs ++ ended)) history) empty p))
    by more false e =
        let n : ℕ = live_in vs in
        let q : 1 + n ≡ 0 = sym (ap (λ c. (if c then 0 else 1) + n) e) ∙ none in
        absurd (omega (arith, q))

-- one legal history of these logs, and what its steps do to host bytes
pub record AreAll (initial : List ℕ) (host : ℕ) (logs : List (List Step)) : Type 0 where
  pub history : List Step
  pub legal : IsLegal initial (history_of history)
  pub shuffled : IsShuffleOf logs history
  pub steps : All (IsByteStep (length initial) host) history

-- with no seat left, the history is a shuffle of the keeper's log and the ended ones alone
finishes : (initial : List ℕ) (host : ℕ) (words : List ℕ) (views : List View) (v : View)
    → IsKept initial host words views → get_elem? views 0 ≡ some v → v.due ≡ 0 → v.spent ≡ false → AreAll initial v.host (v.own ∷ v.ended)
finishes initial host words [] v k here none live = absurd (some-ne-none v (sym here))
finishes initial host words (u ∷ vs) v k here none live =
    let is : u ≡ v = some-injective u v here in
    let k' : IsKept initial host words (v ∷ vs) = subst (λ x. IsKept initial host words (x ∷ vs)) is k in
    record {
      history = k'.history;
      legal = k'.legal;
      shuffled = drop_spent host vs v.own v.ended k'.history (λ id x h. k'.each (suc id) x h) (sym k'.dues ∙ none) k'.shuffled;
      steps = subst (λ h. All (IsByteStep (length initial) h) k'.history) (sym ((k.each 0 v here).1 live)) k'.steps;
    }

-- the same, as the table asks for it
pub splits_as : {S : Type 0} (initial : List ℕ) (host id : ℕ) (v : View) → id ≡ 0 → v.spent ≡ false
    → Splits {S = S} (λ s. IsKept initial host s.words s.views) id v (one_more_due v) (newcomer v)
splits_as initial host id v e live s k here =
    subst (λ n. IsKept initial host s.words (set s.views n (one_more_due v) ++ newcomer v ∷ [])) (sym e) (splits initial host s.words s.views v k (subst (λ n. get_elem? s.views n ≡ some v) e here) live)

pub joins_as : {S : Type 0} (initial : List ℕ) (host id : ℕ) (v : View) (other : ℕ) (w : View) → id ≡ 0 → w.spent ≡ false
    → Joins {S = S} (λ s. IsKept initial host s.words s.views) id v other w (with_ended v w) spent_view
joins_as initial host id v other w e live s k here apart there =
    let apart' : other ≢ 0 = λ z. apart (z ∙ sym e) in
    let here' : get_elem? s.views 0 ≡ some v = subst (λ n. get_elem? s.views n ≡ some v) e here in
    let there' : get_elem? (set s.views 0 (with_ended v w)) other ≡ some w = subst (λ n. get_elem? (set s.views n (with_ended v w)) other ≡ some w) e there in
    subst (λ n. IsKept initial host s.words (set (set s.views n (with_ended v w)) other spent_view)) (sym e) (at_views s.views other k here' apart' there')
  where
    at_views : (views : List View) (other : ℕ) → IsKept initial host s.words views → get_elem? views 0 ≡ some v → other ≢ 0 → get_elem? (set views 0 (with_ended v w)) other ≡ some w
        → IsKept initial host s.words (set (set views 0 (with_ended v w)) other spent_view)
    at_views [] other k here apart there = absurd (some-ne-none v (sym here))
    at_views (u ∷ vs) zero k here apart there = absurd (apart refl)
    at_views (u ∷ vs) (suc o) k here apart there =
        joins initial host s.words vs v w o (subst (λ x. IsKept initial host s.words (x ∷ vs)) (some-injective u v here) k) there live

pub finishes_as : {S : Type 0} (initial : List ℕ) (host id : ℕ) (v : View) (words : List ℕ) (slots : List S) → id ≡ 0 → v.due ≡ 0 → v.spent ≡ false
    → Final {S = S} (Seen (λ s. IsKept initial host s.words s.views) id v) words slots → AreAll initial v.host (v.own ∷ v.ended)
finishes_as initial host id v words slots e none live f =
    finishes initial host f.0.words f.0.views v f.1.0 (subst (λ n. get_elem? f.0.views n ≡ some v) e f.1.1) none live
