-- Fields that lie apart may be written in any order.
use Rattle.std.proofs.Common.{ℕ, zero, suc, ◌+◌, ◌-◌, ◌≡◌, ◌≤◌, ◌==◌, ◌/◌, Bool, true, false, if◌then◌else◌, List, [], ◌∷◌, ◌++◌, length, take, drop, zip, replicate, fold, refl, ap, sym, ◌∙◌, subst, arith, append_assoc, length-append, length-take, length-drop}
use Rattle.std.proofs.lemmas.List.{take-append-drop, length-replicate}
use Rattle.std.proofs.Math.Seq.{drop-append_seam}
use Rattle.sgx_base.specs.Bytes.{low_bytes, with_bytes_at}
use Rattle.edl_interface.specs.declared.Param.{Param}
use Rattle.edl_interface.specs.declared.Class.{Class}
use Rattle.edl_interface.specs.declared.Class.TheVariants.{Plain as by_value, UserCheck, Buffer as a_buffer, Text, Fixed, Foreign}
use Rattle.edl_interface.specs.declared.Function.{Function}
use Rattle.edl_interface.specs.Order.{AreInOrder}
use Rattle.edl_interface.specs.Parameters.{is_marshalled, field_size}
use Rattle.enclave_memory.specs.Arguments.{Argument, number, bytes}
use Rattle.ocall_frames.specs.Frames.{numbers_structure, with_number, Buffer, buffers_from}
use Rattle.bridge_laws.specs.Proxy.{content_of, laid, AreFit, AreFieldsApart}

length-low_bytes : (count n : ℕ) → length (low_bytes count n) ≡ count
length-low_bytes zero n = refl
length-low_bytes (suc count) n = ap (λ k. suc k) (length-low_bytes count (n / 256))

take_front : (a c : List ℕ) → take (length a) (a ++ c) ≡ a
take_front [] c = refl
take_front (x ∷ a) c = ap (λ l. x ∷ l) (take_front a c)

-- bytes written between a first and a last part
written : (a b c xs : List ℕ) (i : ℕ) → i ≡ length a → length b ≡ length xs → with_bytes_at (a ++ (b ++ c)) i xs ≡ a ++ (xs ++ c)
written a b c xs i e w =
    let n : i + length xs ≡ length (a ++ b) = let k : length (a ++ b) ≡ length a + length b = length-append a b in omega (arith, k, w, e) in
    let rest : drop (i + length xs) (a ++ (b ++ c)) ≡ c = ap (λ k. drop k (a ++ (b ++ c))) n ∙ ap (λ l. drop (length (a ++ b)) l) (sym (append_assoc a b c)) ∙ drop-append_seam (a ++ b) c in
    append_assoc (take i (a ++ (b ++ c))) xs (drop (i + length xs) (a ++ (b ++ c)))
    ∙ ap (λ k. take k (a ++ (b ++ c)) ++ (xs ++ drop (i + length xs) (a ++ (b ++ c)))) e ∙ ap (λ l. l ++ (xs ++ drop (i + length xs) (a ++ (b ++ c)))) (take_front a (b ++ c)) ∙ ap (λ l. a ++ (xs ++ l)) rest

regrouped : (a b c d : List ℕ) → a ++ (b ++ (c ++ d)) ≡ (a ++ (b ++ c)) ++ d
regrouped a b c d = sym (append_assoc a (b ++ c) d ∙ ap (λ l. a ++ l) (append_assoc b c d))

in_parts : (a b c d e xs ys : List ℕ) (i j : ℕ) → i ≡ length a → length b ≡ length xs → j ≡ length a + (length b + length c) → length d ≡ length ys
    → with_bytes_at (with_bytes_at (a ++ (b ++ (c ++ (d ++ e)))) i xs) j ys ≡ with_bytes_at (with_bytes_at (a ++ (b ++ (c ++ (d ++ e)))) j ys) i xs
in_parts a b c d e xs ys i j p q r s =
    let first : length (a ++ (xs ++ c)) ≡ length a + (length xs + length c) = length-append a (xs ++ c) ∙ ap (λ n. length a + n) (length-append xs c) in
    let second : length (a ++ (b ++ c)) ≡ length a + (length b + length c) = length-append a (b ++ c) ∙ ap (λ n. length a + n) (length-append b c) in
    let k : j ≡ length (a ++ (xs ++ c)) = omega (arith, first, r, q) in
    ap (λ l. with_bytes_at l j ys) (written a b (c ++ (d ++ e)) xs i p q ∙ regrouped a xs c (d ++ e))
    ∙ written (a ++ (xs ++ c)) d e ys j k s
    ∙ sym (regrouped a xs c (ys ++ e))
    ∙ sym (written a b (c ++ (ys ++ e)) xs i p q)
    ∙ ap (λ l. with_bytes_at l i xs) (regrouped a b c (ys ++ e) ∙ sym (written (a ++ (b ++ c)) d e ys j (r ∙ sym second) s) ∙ ap (λ l. with_bytes_at l j ys) (sym (regrouped a b c (d ++ e))))

length-front : (n : ℕ) (l : List ℕ) → n ≤ length l → length (take n l) ≡ n
length-front n l h = grind (arith, length-take)

-- one after another, in either order
commuted : (s xs ys : List ℕ) (i j : ℕ) → i + length xs ≤ j → j + length ys ≤ length s
    → with_bytes_at (with_bytes_at s i xs) j ys ≡ with_bytes_at (with_bytes_at s j ys) i xs
commuted s xs ys i j p q =
    let s1 : List ℕ = drop i s in
    let s2 : List ℕ = drop (length xs) s1 in
    let gap : ℕ = j - (i + length xs) in
    let s3 : List ℕ = drop gap s2 in
    let l1 : length s1 ≡ length s - i = length-drop i s in
    let l2 : length s2 ≡ length s1 - length xs = length-drop (length xs) s1 in
    let l3 : length s3 ≡ length s2 - gap = length-drop gap s2 in
    let a : length (take i s) ≡ i = length-front i s (omega (arith, p, q)) in
    let b : length (take (length xs) s1) ≡ length xs = length-front (length xs) s1 (omega (arith, p, q, l1)) in
    let c : length (take gap s2) ≡ gap = length-front gap s2 (omega (arith, p, q, l1, l2)) in
    let d : length (take (length ys) s3) ≡ length ys = length-front (length ys) s3 (omega (arith, p, q, l1, l2, l3)) in
    let whole : s ≡ take i s ++ (take (length xs) s1 ++ (take gap s2 ++ (take (length ys) s3 ++ drop (length ys) s3))) =
    sym (take-append-drop i s) ∙ ap (λ l. take i s ++ l) (sym (take-append-drop (length xs) s1) ∙ ap (λ l. take (length xs) s1 ++ l) (sym (take-append-drop gap s2) ∙ ap (λ l. take gap s2 ++ l) (sym (take-append-drop (length ys) s3)))) in
    subst (λ l. with_bytes_at (with_bytes_at l i xs) j ys ≡ with_bytes_at (with_bytes_at l j ys) i xs) (sym whole)
    (in_parts (take i s) (take (length xs) s1) (take gap s2) (take (length ys) s3) (drop (length ys) s3) xs ys i j (sym a) b (omega (arith, a, b, c, p)) d)

length-written : (s xs : List ℕ) (i : ℕ) → i + length xs ≤ length s → length (with_bytes_at s i xs) ≡ length s
length-written s xs i h =
    let a : length (take i s) ≡ i = length-front i s (omega (arith, h)) in
    let b : length (drop (i + length xs) s) ≡ length s - (i + length xs) = length-drop (i + length xs) s in
    let c : length (with_bytes_at s i xs) ≡ length (take i s) + (length xs + length (drop (i + length xs) s)) =
    ap (λ (r : List ℕ). length r) (append_assoc (take i s) xs (drop (i + length xs) s)) ∙ length-append (take i s) (xs ++ drop (i + length xs) s) ∙ ap (λ n. length (take i s) + n) (length-append xs (drop (i + length xs) s)) in
    omega (arith, a, b, c, h)

eight : (c : Class) → is_marshalled c ≡ true → field_size c ≡ 8
eight (by_value plain) e = let no : ⊥ = cc in absurd no
eight UserCheck e = refl
eight (a_buffer way size count unit) e = refl
eight (Text way unit) e = refl
eight (Fixed way count unit) e = refl
eight (Foreign way) e = refl

abbrev numbers : List ℕ → List (Param × Argument) → List ℕ
numbers s pairs = fold (λ t (p, a). with_number p t a) s pairs

-- an address before the numbers of later fields, or after them
address_first : (ps : List Param) (args : List Argument) (s xs : List ℕ) (i from : ℕ) → i + length xs ≤ from → AreInOrder from (length s) ps
    → numbers (with_bytes_at s i xs) (zip ps args) ≡ with_bytes_at (numbers s (zip ps args)) i xs
address_first [] args s xs i from h o = refl
address_first (p ∷ ps) [] s xs i from h o = refl
address_first (p ∷ ps) (bytes b ∷ args) s xs i from h o =
    let (o0, o1, o2) = o in address_first ps args s xs i (p.offset + field_size p.class) (omega (arith, h, o0)) o2
address_first (p ∷ ps) (number n ∷ args) s xs i from h o =
    let (o0, o1, o2) = o in
    let ys : List ℕ = low_bytes (field_size p.class) n in
    let w : length ys ≡ field_size p.class = length-low_bytes (field_size p.class) n in
    let same : length (with_bytes_at s p.offset ys) ≡ length s = length-written s ys p.offset (omega (arith, w, o1)) in
    ap (λ t. numbers t (zip ps args)) (commuted s xs ys i p.offset (omega (arith, h, o0)) (omega (arith, w, o1)))
    ∙ address_first ps args (with_bytes_at s p.offset ys) xs i (p.offset + field_size p.class) (omega (arith, h, o0))
    (subst (λ k. AreInOrder (p.offset + field_size p.class) k ps) (sym same) o2)

module _ (arguments : List Argument) (f : Function) where
  abbrev buffers_at : ℕ → List Param → List Argument → List Buffer
  buffers_at next ps args = buffers_from f (numbers_structure f arguments) next (zip ps args)

  abbrev addressed : List ℕ → List Buffer → List ℕ
  addressed s buffers = fold (λ t b. with_bytes_at t b.param.offset (low_bytes 8 b.address)) s buffers

  abbrev address_of : Param → Argument → ℕ → ℕ
  address_of p a next = if length (content_of f arguments p a) == 0 then 0 else next

  laid_or : (p : Param) (a : Argument) (ps : List Param) (args : List Argument) (next : ℕ) (s : List ℕ) (b : Bool)
      → (b ≡ true → laid f arguments (next + length (content_of f arguments p a)) (with_bytes_at s p.offset (low_bytes 8 (address_of p a next))) (zip ps args)
      ≡ addressed (with_bytes_at (numbers (with_number p s a) (zip ps args)) p.offset (low_bytes 8 (address_of p a next))) (buffers_at (next + length (content_of f arguments p a)) ps args))
      → (b ≡ false → laid f arguments next (with_number p s a) (zip ps args) ≡ addressed (numbers (with_number p s a) (zip ps args)) (buffers_at (next + length (content_of f arguments p a)) ps args))
      → (if b then laid f arguments (next + length (content_of f arguments p a)) (with_bytes_at s p.offset (low_bytes 8 (address_of p a next))) (zip ps args) else laid f arguments next (with_number p s a) (zip ps args))
      ≡ addressed (numbers (with_number p s a) (zip ps args)) (if b then record { param = p; address = address_of p a next; content = content_of f arguments p a } ∷ buffers_at (next + length (content_of f arguments p a)) ps args
      else buffers_at (next + length (content_of f arguments p a)) ps args)
  laid_or p a ps args next s true h g = h refl
  laid_or p a ps args next s false h g = g refl

  all_laid : (ps : List Param) (args : List Argument) (next from : ℕ) (s : List ℕ) → AreFit ps args → AreInOrder from (length s) ps
      → laid f arguments next s (zip ps args) ≡ addressed (numbers s (zip ps args)) (buffers_at next ps args)
  all_laid [] args next from s t o = refl
  all_laid (p ∷ ps) [] next from s t o = absurd t
  all_laid (p ∷ ps) (number n ∷ args) next from s t o =
      let (o0, o1, o2) = o in
      let ys : List ℕ = low_bytes (field_size p.class) n in
      let w : length ys ≡ field_size p.class = length-low_bytes (field_size p.class) n in
      let same : length (with_bytes_at s p.offset ys) ≡ length s = length-written s ys p.offset (omega (arith, w, o1)) in
      let still : next ≡ next + 0 = omega arith in
      laid_or p (number n) ps args next s (is_marshalled p.class) (λ e. let no : true ≡ false = sym e ∙ t.0 in cc)
      (λ e. all_laid ps args next (p.offset + field_size p.class) (with_bytes_at s p.offset ys) t.1 (subst (λ k. AreInOrder (p.offset + field_size p.class) k ps) (sym same) o2)
      ∙ ap (λ k. addressed (numbers (with_bytes_at s p.offset ys) (zip ps args)) (buffers_at k ps args)) still)
  all_laid (p ∷ ps) (bytes block ∷ args) next from s t o =
      let (o0, o1, o2) = o in
      let a : Argument = bytes block in
      let xs : List ℕ = low_bytes 8 (address_of p a next) in
      let w : length xs ≡ 8 = length-low_bytes 8 (address_of p a next) in
      let size : field_size p.class ≡ 8 = eight p.class t.0 in
      let same : length (with_bytes_at s p.offset xs) ≡ length s = length-written s xs p.offset (omega (arith, w, o1, size)) in
      laid_or p a ps args next s (is_marshalled p.class)
      (λ e. all_laid ps args (next + length (content_of f arguments p a)) (p.offset + field_size p.class) (with_bytes_at s p.offset xs) t.1 (subst (λ k. AreInOrder (p.offset + field_size p.class) k ps) (sym same) o2)
      ∙ ap (λ r. addressed r (buffers_at (next + length (content_of f arguments p a)) ps args)) (address_first ps args s xs p.offset (p.offset + field_size p.class) (omega (arith, w, size)) o2))
      (λ e. let no : true ≡ false = sym t.0 ∙ e in cc)

  pub fields_apart : AreFit f.params arguments → AreInOrder 0 f.frame_size f.params → AreFieldsApart f arguments
  fields_apart t o address =
      all_laid f.params arguments (address + f.frame_size) 0 (replicate f.frame_size 0) t (subst (λ k. AreInOrder 0 k f.params) (sym (length-replicate f.frame_size 0)) o)
