-- A record that is put in a list when its call begins, and replaced when the call has ended, behind which those of inner calls stand.
use Rattle.std.proofs.Common.{ℕ, ◌+◌, ◌≡◌, ◌<◌, ◌≤◌, List, [], ◌∷◌, ◌++◌, length, slice_set, refl, ap, sym, ◌∙◌, arith, append_assoc, length-append}
use Rattle.call_report.specs.declared.CallRecord.{CallRecord}
use Rattle.call_report.specs.RecordList.{RecordList, records_left, with_records}

set_at_place : (xs : List CallRecord) (y z : CallRecord) (more : List CallRecord) → slice_set (xs ++ y ∷ more) (length xs) z ≡ xs ++ z ∷ more
set_at_place [] y z more = refl
set_at_place (x ∷ xs) y z more = ap (λ l. x ∷ l) (set_at_place xs y z more)

-- there is room for one more
pub room_for_one : (n limit : ℕ) → n ≤ limit → (n ≡ limit → ⊥) → n < limit
room_for_one n limit h full = omega arith

-- and one takes its place
pub one_record_less : (r after : RecordList) (x : CallRecord) → after ≡ with_records r (x ∷ []) → length r.list < r.limit → records_left r ≡ records_left after + 1
one_record_less r after x e h =
    let a : length after.list ≡ length (r.list ++ x ∷ []) = ap (λ (m : RecordList). length m.list) e in
    let b : after.limit ≡ r.limit = ap (λ (m : RecordList). m.limit) e in
    let n : length (r.list ++ x ∷ []) ≡ length r.list + 1 = length-append r.list (x ∷ []) in
    omega (arith, a, b, n, h)

-- no record follows
pub no_records : (r : RecordList) → r ≡ with_records r []
no_records r = ap (λ (l : List CallRecord). record r { list = l }) (append_none r.list)
  where
    append_none : (xs : List CallRecord) → xs ≡ xs ++ []
    append_none [] = refl
    append_none (x ∷ xs) = ap (λ l. x ∷ l) (append_none xs)

module _ (r pushed grown : RecordList) (begun : CallRecord) (made : List CallRecord) (place : ℕ)
    (push : pushed ≡ with_records r (begun ∷ [])) (place_is : place ≡ length r.list) (more : grown ≡ with_records pushed made) where
  grown_is : grown ≡ with_records r (begun ∷ made)
  grown_is =
      more ∙ ap (λ (q : RecordList). with_records q made) push
      ∙ ap (λ (l : List CallRecord). record r { list = l }) (append_assoc r.list (begun ∷ []) made)

  -- the record has its place still
  pub record_there : place < length grown.list
  record_there =
      let count : length grown.list ≡ length (r.list ++ begun ∷ made) = ap (λ (q : RecordList). length q.list) grown_is in
      let sum : length (r.list ++ begun ∷ made) ≡ length r.list + length (begun ∷ made) = length-append r.list (begun ∷ made) in
      omega (arith, count, sum, place_is)

  module _ (set : RecordList) (ended : CallRecord) (set_is : set ≡ record grown { list = slice_set grown.list place ended }) where
    -- it is replaced
    pub record_set : set ≡ with_records r (ended ∷ made)
    record_set =
        set_is ∙ ap (λ (q : RecordList). record q { list = slice_set q.list place ended }) grown_is
        ∙ ap (λ n. record r { list = slice_set (r.list ++ begun ∷ made) n ended }) place_is
        ∙ ap (λ (l : List CallRecord). record r { list = l }) (set_at_place r.list begun ended made)

    -- and no other place is taken
    pub set_left : records_left set ≡ records_left grown
    set_left =
        let now : length set.list ≡ length (r.list ++ ended ∷ made) = ap (λ (q : RecordList). length q.list) record_set in
        let before : length grown.list ≡ length (r.list ++ begun ∷ made) = ap (λ (q : RecordList). length q.list) grown_is in
        let a : length (r.list ++ ended ∷ made) ≡ length r.list + length (ended ∷ made) = length-append r.list (ended ∷ made) in
        let b : length (r.list ++ begun ∷ made) ≡ length r.list + length (begun ∷ made) = length-append r.list (begun ∷ made) in
        let c : set.limit ≡ r.limit = ap (λ (q : RecordList). q.limit) record_set in
        let d : grown.limit ≡ r.limit = ap (λ (q : RecordList). q.limit) grown_is in
        omega (arith, now, before, a, b, c, d)

-- a record behind which none was put since, replaced
pub last_record_set : (r pushed set : RecordList) (begun ended : CallRecord) (place : ℕ) → pushed ≡ with_records r (begun ∷ []) → place ≡ length r.list
    → set ≡ record pushed { list = slice_set pushed.list place ended } → set ≡ with_records r (ended ∷ [])
last_record_set r pushed set begun ended place push place_is set_is = record_set r pushed pushed begun [] place push place_is (no_records pushed) set ended set_is
