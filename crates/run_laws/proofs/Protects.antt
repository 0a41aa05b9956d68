-- Runs whose calls are protected, one after another.
use Rattle.std.proofs.Common.{ℕ, zero, suc, ◌+◌, ◌≡◌, ◌≤◌, ◌⊎◌, inl, inr, List, [], ◌∷◌, ◌++◌, length, map, Some, slice_get, refl, ap, sym, ◌∙◌, subst, arith, add-zero, append-nil, append_assoc, length-append}
use Rattle.std.specs.List.{All}
use Rattle.std.proofs.lemmas.List.{get_or_append_left, get_or-append-add, map-append}
use Rattle.std.proofs.lemmas.List.Elements.{All-nil, All-cons, All-append, All-weaker}
use Rattle.word_port.specs.declared.Step.{Step}
use Rattle.word_port.specs.declared.Side.TheVariants.{Enclave}
use Rattle.word_port.specs.Requests.{Request}
use Rattle.word_port.proofs.RequestLaws.{AllSteps}
use Rattle.call_report.specs.declared.CallRecord.{CallRecord}
use Rattle.call_machine.specs.declared.Machine.{Machine}
use Rattle.run_laws.specs.Calls.{Call}
use Rattle.run_laws.specs.Protected.{IsNested, IsProtectedCall, IsAccountedFor}
use Rattle.run_laws.proofs.Growth.{IsGrown, AreAmong, call_grown, nested_grown, accounted_grown}

-- each step with its place, where the first stands at n
abbrev pub EachFrom : (ℕ → Step → Type 0) → ℕ → List Step → Type 0
EachFrom P n [] = Unit {0}
EachFrom P n (s ∷ steps) = P n s × EachFrom P (n + 1) steps

pub each_append : (P : ℕ → Step → Type 0) (n : ℕ) (xs ys : List Step) → EachFrom P n xs → EachFrom P (n + length xs) ys → EachFrom P n (xs ++ ys)
each_append P n [] ys p q = subst (λ k. EachFrom P k ys) (add-zero n) q
each_append P n (x ∷ xs) ys p q =
    let next : n + suc (length xs) ≡ (n + 1) + length xs = omega arith in
    (p.0, each_append P (n + 1) xs ys p.1 (subst (λ k. EachFrom P k ys) next q))

pub each_weaker : (P Q : ℕ → Step → Type 0) → ((n : ℕ) (s : Step) → P n s → Q n s) → (n : ℕ) (xs : List Step) → EachFrom P n xs → EachFrom Q n xs
each_weaker P Q f n [] p = tt
each_weaker P Q f n (x ∷ xs) p = (f n x p.0, each_weaker P Q f (n + 1) xs p.1)

-- the step at a place
pub each_at : (P : ℕ → Step → Type 0) (n : ℕ) (xs : List Step) → EachFrom P n xs → (k : ℕ) (s : Step) → slice_get xs k ≡ Some s → P (n + k) s
each_at P n [] p k s e = cc
each_at P n (x ∷ xs) p zero s e =
    let same : x ≡ s = cc in
    let place : n ≡ n + 0 = sym (add-zero n) in
    subst (λ j. P j s) place (subst (λ t. P n t) same p.0)
each_at P n (x ∷ xs) p (suc k) s e =
    let place : (n + 1) + k ≡ n + suc k = omega arith in
    subst (λ j. P j s) place (each_at P (n + 1) xs p.1 k s e)

-- no step
abbrev pub NoStep : Step → Type 0
NoStep s = ⊥

-- each step of the enclave among these is accounted for by these calls, but those that are free here
abbrev pub AreAccountedFor : Machine → (Step → Type 0) → List Call → List Step → ℕ → List Step → Type 0
AreAccountedFor m Free calls log n steps = EachFrom (λ place s. s.side ≡ Enclave → Free s ⊎ IsAccountedFor m calls log place s) n steps

-- the call's steps are among these
abbrev pub IsWithin : List Step → List Step → Call → Type 0
IsWithin before steps c = (length before ≤ c.made.first) × (c.made.last ≤ length before + length steps)

-- these calls are what a run from one log on has, all within their contexts, protected, and accounting for each step of the enclave that is not free;
-- of the calls that are not inside another this holds
pub record AreProtected (m : Machine) (Top : Call → Type 0) (Free : Step → Type 0) (before steps : List Step) (calls : List Call) : Type 0 where
  pub contexts : All (λ c. Top c ⊎ IsNested m calls (before ++ steps) c) calls
  pub within : All (IsWithin before steps) calls
  pub protected : All (IsProtectedCall m calls (before ++ steps)) calls
  pub accesses : AreAccountedFor m Free calls (before ++ steps) (length before) steps

-- the records are those of such calls
pub record Protects (m : Machine) (Top : Call → Type 0) (before steps : List Step) (records : List CallRecord) : Type 0 where
  pub calls : List Call
  pub records_are : records ≡ map (λ c. c.made) calls
  pub are : AreProtected m Top NoStep before steps calls

-- the parts of a list are among it
pub among_left : (xs ys : List Call) → AreAmong xs (xs ++ ys)
among_left xs ys c h =
    let (k, below, at) = h in
    let lengths : length (xs ++ ys) ≡ length xs + length ys = length-append xs ys in
    (k, omega (arith, below, lengths), get_or_append_left xs ys c k below ∙ at)

pub among_right : (xs ys : List Call) → AreAmong ys (xs ++ ys)
among_right xs ys c h =
    let (k, below, at) = h in
    let lengths : length (xs ++ ys) ≡ length xs + length ys = length-append xs ys in
    (length xs + k, omega (arith, below, lengths), get_or-append-add xs ys k c ∙ at)

pub among_tail : (x : Call) (xs : List Call) → AreAmong xs (x ∷ xs)
among_tail x xs c h =
    let (k, below, at) = h in
    (suc k, omega (arith, below), at)

-- the same calls in a longer log and among more calls
pub parts_grown : (m : Machine) (P Q : Call → Type 0) → ((c : Call) → P c → Q c) → (old new : List Step) → IsGrown old new → (few many : List Call) → AreAmong few many → (these : List Call)
    → All (λ c. P c ⊎ IsNested m few old c) these → All (IsProtectedCall m few old) these
    → All (λ c. Q c ⊎ IsNested m many new c) these × All (IsProtectedCall m many new) these
parts_grown m P Q f old new grown few many among these p q = (
  All-weaker (λ c. P c ⊎ IsNested m few old c) (λ c. Q c ⊎ IsNested m many new c) (λ c h. elim h [ inl t ↦ inl (f c t) | inr n ↦ inr (nested_grown m old new grown few many among c n) ]) these p,
  All-weaker (IsProtectedCall m few old) (IsProtectedCall m many new) (λ c h. call_grown m old new grown few many among c h) these q,
)

pub within_wider : (before steps low high : List Step) → length low ≤ length before → length before + length steps ≤ length low + length high → (these : List Call)
    → All (IsWithin before steps) these → All (IsWithin low high) these
within_wider before steps low high from upto these p =
    All-weaker (IsWithin before steps) (IsWithin low high) (λ c h. let a : length before ≤ c.made.first = h.0 in let b : c.made.last ≤ length before + length steps = h.1 in (omega (arith, a, from), omega (arith, b, upto))) these p

pub accesses_grown : (m : Machine) (F G : Step → Type 0) → ((s : Step) → F s → G s) → (old new : List Step) → IsGrown old new → (few many : List Call) → AreAmong few many → (n : ℕ) (steps : List Step)
    → AreAccountedFor m F few old n steps → AreAccountedFor m G many new n steps
accesses_grown m F G free old new grown few many among n steps h =
    each_weaker (λ place s. s.side ≡ Enclave → F s ⊎ IsAccountedFor m few old place s) (λ place s. s.side ≡ Enclave → G s ⊎ IsAccountedFor m many new place s)
    (λ place s f w. elim (f w) [ inl t ↦ inl (free s t) | inr a ↦ inr (accounted_grown m old new grown few many among place s a) ]) n steps h

-- one run after another, where less is known of the outermost calls of both and more steps are free
pub protected_both : (m : Machine) (P Q Top : Call → Type 0) (F G Free : Step → Type 0) → ((c : Call) → P c → Top c) → ((c : Call) → Q c → Top c) → ((s : Step) → F s → Free s) → ((s : Step) → G s → Free s)
    → (before first more : List Step) (calls others : List Call)
    → AreProtected m P F before first calls → AreProtected m Q G (before ++ first) more others → AreProtected m Top Free before (first ++ more) (calls ++ others)
protected_both m P Q Top F G Free f g free_first free_more before first more calls others p q =
    let whole : List Step = before ++ (first ++ more) in
    let joined : (before ++ first) ++ more ≡ whole = append_assoc before first more in
    let grown : IsGrown (before ++ first) whole = record { more = more; new_is = sym joined } in
    let same : IsGrown ((before ++ first) ++ more) whole = record { more = []; new_is = sym joined ∙ sym (append-nil ((before ++ first) ++ more)) } in
    let left : AreAmong calls (calls ++ others) = among_left calls others in
    let right : AreAmong others (calls ++ others) = among_right calls others in
    let lengths : length (first ++ more) ≡ length first + length more = length-append first more in
    let begin : length (before ++ first) ≡ length before + length first = length-append before first in
    let a : All (λ c. Top c ⊎ IsNested m (calls ++ others) whole c) calls × All (IsProtectedCall m (calls ++ others) whole) calls =
    parts_grown m P Top f (before ++ first) whole grown calls (calls ++ others) left calls p.contexts p.protected in
    let b : All (λ c. Top c ⊎ IsNested m (calls ++ others) whole c) others × All (IsProtectedCall m (calls ++ others) whole) others =
    parts_grown m Q Top g ((before ++ first) ++ more) whole same others (calls ++ others) right others q.contexts q.protected in
    record {
      contexts = All-append (λ c. Top c ⊎ IsNested m (calls ++ others) whole c) calls others a.0 b.0;
      within = All-append (IsWithin before (first ++ more)) calls others
          (within_wider before first before (first ++ more) (omega arith) (omega (arith, lengths)) calls p.within)
          (within_wider (before ++ first) more before (first ++ more) (omega (arith, begin)) (omega (arith, begin, lengths)) others q.within);
      protected = All-append (IsProtectedCall m (calls ++ others) whole) calls others a.1 b.1;
      accesses = each_append (λ place s. s.side ≡ Enclave → Free s ⊎ IsAccountedFor m (calls ++ others) whole place s) (length before) first more
          (accesses_grown m F Free free_first (before ++ first) whole grown calls (calls ++ others) left (length before) first p.accesses)
          (subst (λ n. AreAccountedFor m Free (calls ++ others) whole n more) begin
          (accesses_grown m G Free free_more ((before ++ first) ++ more) whole same others (calls ++ others) right (length (before ++ first)) more q.accesses));
    }

pub protected_then : (m : Machine) (Top : Call → Type 0) (Free : Step → Type 0) (before first more : List Step) (calls others : List Call)
    → AreProtected m Top Free before first calls → AreProtected m Top Free (before ++ first) more others → AreProtected m Top Free before (first ++ more) (calls ++ others)
protected_then m Top Free before first more calls others p q = protected_both m Top Top Top Free Free Free (λ c t. t) (λ c t. t) (λ s t. t) (λ s t. t) before first more calls others p q

pub protects_then : (m : Machine) (Top : Call → Type 0) (before first more : List Step) (records others : List CallRecord)
    → Protects m Top before first records → Protects m Top (before ++ first) more others → Protects m Top before (first ++ more) (records ++ others)
protects_then m Top before first more records others p q = record {
  calls = p.calls ++ q.calls;
  records_are = ap (λ l. l ++ others) p.records_are ∙ ap (λ l. map (λ c. c.made) p.calls ++ l) q.records_are ∙ sym (map-append (λ (c : Call). c.made) p.calls q.calls);
  are = protected_then m Top NoStep before first more p.calls q.calls p.are q.are;
}

-- a step that is not the enclave's
pub record IsElsewhere (q : Request) : Type 0 where
  pub not_enclave : ¬ (q.side ≡ Enclave)

elsewhere_steps : (m : Machine) (calls : List Call) (log : List Step) (n : ℕ) (steps : List Step) → AllSteps IsElsewhere steps → AreAccountedFor m NoStep calls log n steps
elsewhere_steps m calls log n [] h = tt
elsewhere_steps m calls log n (s ∷ steps) h = (λ w. absurd (h.0.not_enclave w), elsewhere_steps m calls log (n + 1) steps h.1)

-- no call
pub none_protected : (m : Machine) (Top : Call → Type 0) (Free : Step → Type 0) (before steps : List Step) → AreAccountedFor m Free [] (before ++ steps) (length before) steps → AreProtected m Top Free before steps []
none_protected m Top Free before steps h = record {
  contexts = All-nil (λ c. Top c ⊎ IsNested m [] (before ++ steps) c);
  within = All-nil (IsWithin before steps);
  protected = All-nil (IsProtectedCall m [] (before ++ steps));
  accesses = h;
}

pub protects_none : (m : Machine) (Top : Call → Type 0) (before steps : List Step) → AllSteps IsElsewhere steps → Protects m Top before steps []
protects_none m Top before steps h = record { calls = []; records_are = refl; are = none_protected m Top NoStep before steps (elsewhere_steps m [] (before ++ steps) (length before) steps h) }

-- one call
pub one_protected : (m : Machine) (Top : Call → Type 0) (before steps : List Step) (c : Call) → Top c → IsWithin before steps c → IsProtectedCall m (c ∷ []) (before ++ steps) c
    → AreAccountedFor m NoStep (c ∷ []) (before ++ steps) (length before) steps → AreProtected m Top NoStep before steps (c ∷ [])
one_protected m Top before steps c top w p h = record {
  contexts = All-cons (λ d. Top d ⊎ IsNested m (c ∷ []) (before ++ steps) d) c [] (inl top) (All-nil (λ d. Top d ⊎ IsNested m (c ∷ []) (before ++ steps) d));
  within = All-cons (IsWithin before steps) c [] w (All-nil (IsWithin before steps));
  protected = All-cons (IsProtectedCall m (c ∷ []) (before ++ steps)) c [] p (All-nil (IsProtectedCall m (c ∷ []) (before ++ steps)));
  accesses = h;
}

-- one call, with steps that are not the enclave's
pub protects_one : (m : Machine) (Top : Call → Type 0) (before steps : List Step) (c : Call) → AllSteps IsElsewhere steps → Top c → IsWithin before steps c → IsProtectedCall m (c ∷ []) (before ++ steps) c
    → Protects m Top before steps (c.made ∷ [])
protects_one m Top before steps c h top w p = record { calls = c ∷ []; records_are = refl; are = one_protected m Top before steps c top w p (elsewhere_steps m (c ∷ []) (before ++ steps) (length before) steps h) }
