-- The races of a script without fault: in order, few, on host bytes.
use Rattle.std.proofs.Common.{arith, ℕ, zero, suc, ◌≡◌, ◌+◌, ◌<◌, ◌≤◌, ◌^◌, Bool, true, false, List, [], ◌∷◌, ◌++◌, length, get_or, All, Option, Some, None, refl, sym, ap, subst, ◌∙◌, length-append, append-nil, ltb-false}
use Rattle.std.specs.Prelude.{not, is_none, filter_map, flat_map, sum_by, unwrap_or, if◌then◌else◌, ◌&&◌}
use Rattle.std.specs.List.{AllByRecursion, last_or, cons_option}
use Rattle.std.proofs.lemmas.Bool.{not-false}
use Rattle.std.proofs.lemmas.List.Elements.{filter_map-append, All-append, All-nil, All-head, All-tail, All-from_recursion}
use Rattle.std.proofs.lemmas.List.Sums.{sum_by-append, sum_by-cons}
use Rattle.sgx_base.specs.Ranges.{host_start, is_mapped}
use Rattle.sgx_base.specs.Numbers.{spelled_number}
use Rattle.edl_interface.specs.declared.Interface.{Interface}
use Rattle.word_port.specs.declared.Race.{Race}
use Rattle.word_port.specs.Plain.{AreInOrder}
use Rattle.call_script.specs.Spelling.{Word, is_wide, is_number, is_bad_hex, is_out_of, is_from_to}
use Rattle.call_script.specs.Settings.{host}
use Rattle.call_script.specs.Line.{Line, Race as race_line}
use Rattle.call_script.specs.Block.{PlacedLine}
use Rattle.call_script.specs.Standing.{Standing, standings, lines_of, setting_in, access_of, race_length}
use Rattle.call_script.specs.Arguments.{number_of, bytes_of}
use Rattle.call_script.specs.Faults.{is_outside_host_by, max_race_bytes}
use Rattle.call_script.specs.Meaning.{races_from, races_in, races, index_of}
use Rattle.call_script.specs.Sound.{IsByte, IsSoundRace, AreSoundRaces}
use Rattle.script_laws.proofs.ActionLaws.{there, or-false}
use Rattle.script_laws.proofs.ArgumentLaws.{in-range, hex-are}
use Rattle.script_laws.proofs.ActLineLaws.{hex-some, mapped-is}
use Rattle.script_laws.proofs.LimitLaws.{within-limits}
use Rattle.script_laws.proofs.FineLines.{IsFine}
use Rattle.script_laws.proofs.FineForms.{pushed, IsFineAs, AreFine, along, fine-as}

-- ---- each race

-- the address of so many bytes that lie in host memory
pub host-address : (size : ℕ) (address : Word) (count : ℕ) → is_number address ≡ true → is_wide address ≡ false
    → 1 ≤ count → is_outside_host_by size (spelled_number address) count ≡ false
    → (host_start ≤ number_of address) × (number_of address + count ≤ host_start + size)
host-address size address count n o l h =
    let a = there (spelled_number address) (subst (λ t. (t && is_none (spelled_number address)) ≡ false) n o) in
    let outside : not (is_mapped size a.0 count) ≡ false = subst (λ x. is_outside_host_by size x count ≡ false) a.1 h in
    subst (λ x. (host_start ≤ unwrap_or x 0) × (unwrap_or x 0 + count ≤ host_start + size)) (sym a.1)
    (mapped-is size a.0 count l (not-false _ outside))

each-race : (size k index : ℕ) (bytes : List ℕ) → 1 ≤ k → k < 2 ^ 32 → index + length bytes ≤ size → All IsByte bytes
    → AllByRecursion (IsSoundRace size) (races_from k index bytes)
each-race size k index [] a b c h = tt
each-race size k index (x ∷ bytes) a b c h = (
  record { from = a; upto = b; aim = omega arith; byte = All-head IsByte x bytes h },
  each-race size k (index + 1) bytes a b (omega arith) (All-tail IsByte x bytes h),
)

-- what a line adds to the races is sound, by what is host memory in the end
abbrev AddsRaces : ℕ → Line → Type 0
AddsRaces size line = AllByRecursion (IsSoundRace size) (races_in line)

line-races : (i : Interface) (racing : Bool) (script : List PlacedLine) (s : Standing) (line : Line)
    → IsFineAs i racing script s line → AddsRaces (setting_in (lines_of script) host) line
line-races i racing script s (race_line access address hex) fine =
    let hexed : is_bad_hex hex ≡ false = fine.rules.1.1.1.1.1.1.1.1.1.1.1.1.1.1.1.1.0 in
    let two = or-false (is_out_of 1 4294967295 access) (is_wide address) fine.rules.1.0 in
    let range = in-range 1 4294967295 access fine.form.0 two.0 in
    let size = fine.settled refl host in
    let four : is_outside_host_by (setting_in (lines_of s.before) host) (spelled_number address) (if is_bad_hex hex
    then 1 else length (bytes_of hex)) ≡ false = fine.rules.1.1.1.0 in
    let outside : is_outside_host_by (setting_in (lines_of script) host) (spelled_number address)
    (length (bytes_of hex)) ≡ false =
    subst (λ n. is_outside_host_by n (spelled_number address) (length (bytes_of hex)) ≡ false) size
    (subst (λ t. is_outside_host_by (setting_in (lines_of s.before) host) (spelled_number address) (if t then 1
    else length (bytes_of hex)) ≡ false) hexed four) in
    let place = host-address (setting_in (lines_of script) host) address (length (bytes_of hex)) fine.form.1 two.1
    (hex-some hex hexed) outside in
    each-race (setting_in (lines_of script) host) (number_of access) (index_of address) (bytes_of hex) range.0
    (omega arith) (omega arith) (hex-are hex hexed)
line-races i racing script s line fine = tt

all-races : (size : ℕ) (ls : List Line) → AllByRecursion (AddsRaces size) ls
    → All (IsSoundRace size) (flat_map races_in ls)
all-races size [] h = All-nil (IsSoundRace size)
all-races size (line ∷ ls) h =
    All-append (IsSoundRace size) (races_in line) (flat_map races_in ls)
    (All-from_recursion (IsSoundRace size) (races_in line) h.0) (all-races size ls h.1)

-- a number that is not out of a range is spelled
spelled-in : (least most : ℕ) (w : Word) → is_number w ≡ true → is_out_of least most w ≡ false
    → spelled_number w ≡ Some (number_of w)
spelled-in least most w n e =
    go (spelled_number w) (subst (λ t. (t && not (is_from_to least most (spelled_number w))) ≡ false) n e)
  where
    go : (o : Option ℕ) → not (is_from_to least most o) ≡ false → o ≡ Some (unwrap_or o 0)
    go None e = absurd cc
    go (Some k) e = refl

-- ---- order

-- their accesses do not fall, from this one on
RiseFrom : ℕ → List Race → Type 0
RiseFrom n [] = Unit {0}
RiseFrom n (r ∷ rs) = (n ≤ r.at) × RiseFrom r.at rs

rise-at : (n : ℕ) (rs : List Race) (j : ℕ) (d : Race) → RiseFrom n rs → j < length rs → n ≤ (get_or rs j d).at
unfolding RiseFrom
rise-at n [] j d h l = absurd (omega arith)
rise-at n (r ∷ rs) zero d h l = h.0
rise-at n (r ∷ rs) (suc j) d h l = let k = rise-at r.at rs j d h.1 (omega arith) in omega (arith, h.0)

in-order : (n : ℕ) (rs : List Race) → RiseFrom n rs → AreInOrder rs
unfolding RiseFrom
in-order n [] h i j d le lt = absurd (omega arith)
in-order n (r ∷ rs) h zero zero d le lt = omega arith
in-order n (r ∷ rs) h zero (suc j) d le lt = rise-at r.at rs j d h.1 (omega arith)
in-order n (r ∷ rs) h (suc i) zero d le lt = absurd (omega arith)
in-order n (r ∷ rs) h (suc i) (suc j) d le lt = in-order r.at rs h.1 i j d (omega arith) (omega arith)

rise-weaker : (m n : ℕ) (rs : List Race) → m ≤ n → RiseFrom n rs → RiseFrom m rs
unfolding RiseFrom
rise-weaker m n [] l h = tt
rise-weaker m n (r ∷ rs) l h = (omega (arith, h.0), h.1)

rise-line : (m k index : ℕ) (bytes : List ℕ) (rs : List Race) → m ≤ k → RiseFrom k rs
    → RiseFrom m (races_from k index bytes ++ rs)
unfolding RiseFrom
rise-line m k index [] rs l h = rise-weaker m k rs l h
rise-line m k index (b ∷ bytes) rs l h = (l, rise-line k k (index + 1) bytes rs (omega arith) h)

last-push : (o : Option ℕ) (xs : List ℕ) (y : ℕ) → last_or o (xs ++ y ∷ []) ≡ Some y
last-push o [] y = refl
last-push o (x ∷ xs) y = last-push (Some x) xs y

abbrev last_access : List Line → ℕ
last_access ls = unwrap_or (last_or None (filter_map access_of ls)) 0

last-race : (ls : List Line) (access address hex : Word) (k : ℕ) → spelled_number access ≡ Some k
    → last_access (ls ++ race_line access address hex ∷ []) ≡ k
last-race ls access address hex k e =
    ap (λ xs. unwrap_or (last_or None xs) 0) (filter_map-append access_of ls (race_line access address hex ∷ [])
    ∙ ap (λ o. filter_map access_of ls ++ cons_option o []) e)
    ∙ ap (λ o. unwrap_or o 0) (last-push None (filter_map access_of ls) k)

last-other : (ls : List Line) (line : Line) → access_of line ≡ None → last_access (ls ++ line ∷ []) ≡ last_access ls
last-other ls line e =
    ap (λ xs. unwrap_or (last_or None xs) 0) (filter_map-append access_of ls (line ∷ [])
    ∙ ap (λ o. filter_map access_of ls ++ cons_option o []) e ∙ append-nil (filter_map access_of ls))

module _ (i : Interface) (racing : Bool) (script : List PlacedLine) where
  one-line : (s : Standing) (line : Line) (rs : List Race) → IsFineAs i racing script s line
      → RiseFrom (last_access (lines_of s.before ++ line ∷ [])) rs
      → RiseFrom (last_access (lines_of s.before)) (races_in line ++ rs)
  one-line s (race_line access address hex) rs fine h =
      let two = or-false (is_out_of 1 4294967295 access) (is_wide address) fine.rules.1.0 in
      let known = spelled-in 1 4294967295 access fine.form.0 two.0 in
      let last = last-race (lines_of s.before) access address hex (number_of access) known in
      rise-line (last_access (lines_of s.before)) (number_of access) (index_of address) (bytes_of hex) rs
      (ltb-false (number_of access) (last_access (lines_of s.before)) fine.rules.1.1.1.1.1.1.1.1.1.1.1.1.0)
      (subst (λ n. RiseFrom n rs) last h)
  one-line s line rs fine h = subst (λ n. RiseFrom n rs) (last-other (lines_of s.before) line refl) h

  rise-lines : (before ls : List PlacedLine) → AreFine i racing script before ls
      → RiseFrom (last_access (lines_of before)) (flat_map races_in (lines_of ls))
  unfolding RiseFrom
  rise-lines before [] q = tt
  rise-lines before (l ∷ ls) q =
      rw q.0.here
      (one-line s q.0.line (flat_map races_in (lines_of ls)) (fine-as i racing script s q.0.line q.0 q.0.here)
      (subst (λ xs. RiseFrom (last_access xs) (flat_map races_in (lines_of ls))) (pushed before l q.0.line q.0.here)
      (rise-lines (before ++ l ∷ []) ls q.1)))
    where
      s : Standing
      s = record { before = before; here = l; behind = ls }

-- ---- number

length-from : (k index : ℕ) (bytes : List ℕ) → length (races_from k index bytes) ≡ length bytes
length-from k index [] = refl
length-from k index (b ∷ bytes) = let h = length-from k (index + 1) bytes in omega arith

length-in : (line : Line) → length (races_in line) ≡ race_length line
length-in (race_line access address hex) = length-from (number_of access) (index_of address) (bytes_of hex)
length-in line = refl

length-races : (ls : List Line) → length (flat_map races_in ls) ≡ sum_by race_length ls
length-races [] = refl
length-races (line ∷ ls) =
    let a = length-append (races_in line) (flat_map races_in ls) in
    let b = sum_by-cons race_length line ls in
    let c = length-in line in
    let d = length-races ls in
    omega arith

module _ (i : Interface) (racing : Bool) (script : List PlacedLine) where
  line-few : (s : Standing) (line : Line) → IsFineAs i racing script s line
      → sum_by race_length (lines_of s.before) ≤ max_race_bytes
      → sum_by race_length (lines_of s.before) + race_length line ≤ max_race_bytes
  line-few s (race_line access address hex) fine h =
      ltb-false _ _ (within-limits s (race_line access address hex) fine.rules.1.1.1.1.1.1.1.1.1.1.1.1.1.1.1.0).races
  line-few s line fine h = omega arith

  few-races : (before ls : List PlacedLine) → AreFine i racing script before ls
      → sum_by race_length (lines_of before) ≤ max_race_bytes
      → sum_by race_length (lines_of before) + sum_by race_length (lines_of ls) ≤ max_race_bytes
  few-races before [] q h = omega arith
  few-races before (l ∷ ls) q h =
      let fine = fine-as i racing script s q.0.line q.0 q.0.here in
      let now = line-few s q.0.line fine h in
      let more : sum_by race_length (lines_of (before ++ l ∷ [])) ≡ sum_by race_length (lines_of before)
      + race_length q.0.line =
      ap (sum_by race_length) (pushed before l q.0.line q.0.here)
      ∙ sum_by-append race_length (lines_of before) (q.0.line ∷ []) ∙ omega arith in
      let rest = few-races (before ++ l ∷ []) ls q.1 (omega arith) in
      let split : sum_by race_length (lines_of (l ∷ ls)) ≡ race_length q.0.line + sum_by race_length (lines_of ls) =
      ap (λ o. sum_by race_length (cons_option o (lines_of ls))) q.0.here
      ∙ sum_by-cons race_length q.0.line (lines_of ls) in
      omega arith
    where
      s : Standing
      s = record { before = before; here = l; behind = ls }

  -- a program with threads has no races
  abbrev AddsNone : Line → Type 0
  AddsNone line = racing ≡ true → races_in line ≡ []

  line-alone : (s : Standing) (line : Line) → IsFineAs i racing script s line → AddsNone line
  line-alone s (race_line access address hex) fine e =
      let other : racing ≡ false = fine.rules.1.1.1.1.1.1.1.1.1.1.1.1.1.0 in absurd cc
  line-alone s line fine e = refl

  no-races : (ls : List Line) → AllByRecursion AddsNone ls → racing ≡ true → flat_map races_in ls ≡ []
  no-races [] h e = refl
  no-races (line ∷ ls) h e = rw (h.0 e) (no-races ls h.1 e)

  pub sound-races : AllByRecursion (IsFine i racing script) (standings script)
      → AreSoundRaces racing (setting_in (lines_of script) host) (races i racing script)
  sound-races fine = record {
    order = in-order 0 (races i racing script) (rise-lines i racing script [] script fine);
    each =
        all-races (setting_in (lines_of script) host) (lines_of script)
        (along i racing script (AddsRaces (setting_in (lines_of script) host)) (line-races i racing script) []
        script fine);
    few = let a = few-races [] script fine (omega arith) in let b = length-races (lines_of script) in omega arith;
    alone = λ e. no-races (lines_of script) (along i racing script AddsNone line-alone [] script fine) e;
  }
