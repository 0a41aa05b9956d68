-- What lists of tests do.
use Rattle.std.proofs.Common.{ℕ, suc, ◌≡◌, Bool, true, false, ◌||◌, if◌then◌else◌, List, [], ◌∷◌, ◌++◌, drop, Some, slice_get, Result, Err, refl, ap, sym, ◌∙◌}
use Rattle.std.specs.List.{filter, list_any}
use Rattle.sgx_base.specs.declared.Status.{Status}
use Rattle.sgx_base.specs.declared.TheConstants.Status.{INVALID_PARAMETER}
use Rattle.edl_interface.specs.declared.Param.{Param}
use Rattle.edl_interface.specs.declared.Function.{Function}
use Rattle.edl_interface.specs.Parameters.{is_marshalled}
use Rattle.word_port.specs.Interaction.{Interaction, ret}
use Rattle.call_machine.specs.declared.Machine.{Machine}
use Rattle.call_machine.specs.Context.{Context}
use Rattle.call_machine.specs.Result.{and_then_ok}
use Rattle.call_machine.specs.Ecall.{Ocalls}
use Rattle.bridge_program.specs.declared.Instr.{Instr}
use Rattle.bridge_program.specs.Lists.{each_from}
use Rattle.bridge_laws.specs.Meaning.{State, Doing, refuse_if, means, list_means}
use Rattle.bridge_laws.proofs.Trees.{assoc_ok, same_next_ok}
use Rattle.bridge_laws.proofs.Places.{get_drop, drop_next}

-- what follows a test
pub after_test : {B : Type 0} (b : Bool) (status : Status) (s : State) (next : State → Interaction (Result B Status))
    → and_then_ok (refuse_if b status s) next ≡ (if b then ret (Err status) else next s)
after_test true status s next = refl
after_test false status s next = refl

-- what follows what is a test
pub tested : (t : Doing) (b : Bool) (status : Status) (s : State) (next : State → Doing) → t ≡ refuse_if b status s
    → and_then_ok t next ≡ (if b then ret (Err status) else next s)
tested t b status s next e = ap (λ u. and_then_ok u next) e ∙ after_test b status s next

one_or_rest : (b c : Bool) (s : State) (t : Doing) → t ≡ refuse_if c INVALID_PARAMETER s → (if b then ret (Err INVALID_PARAMETER) else t) ≡ refuse_if (b || c) INVALID_PARAMETER s
one_or_rest true c s t e = refl
one_or_rest false c s t e = e

module _ (m : Machine) (ocalls : Ocalls) (cx : Context) (ordinal address : ℕ) (f : Function) where
  -- one list and then another
  pub append_does : (xs ys : List Instr) (s : State) → list_means m ocalls cx ordinal address f (xs ++ ys) s
      ≡ and_then_ok (list_means m ocalls cx ordinal address f xs s) (list_means m ocalls cx ordinal address f ys)
  append_does [] ys s = refl
  append_does (x ∷ xs) ys s =
      same_next_ok (means m ocalls cx ordinal address f x s) (list_means m ocalls cx ordinal address f (xs ++ ys))
      (λ t. and_then_ok (list_means m ocalls cx ordinal address f xs t) (list_means m ocalls cx ordinal address f ys)) (λ t. append_does xs ys t)
      ∙ sym (assoc_ok (means m ocalls cx ordinal address f x s) (list_means m ocalls cx ordinal address f xs) (list_means m ocalls cx ordinal address f ys))

  module _ (instr : ℕ → Instr) (test : Param → Bool) (s : State)
      (each_is : (n : ℕ) (p : Param) → slice_get f.params n ≡ Some p → means m ocalls cx ordinal address f (instr n) s ≡ refuse_if (test p) INVALID_PARAMETER s) where
    abbrev tests_from : ℕ → List Param → List Instr
    tests_from n ps = each_from n (λ k p. if is_marshalled p.class then instr k ∷ [] else []) ps

    one_test : (b : Bool) (n : ℕ) (p : Param) (ps : List Param) → slice_get f.params n ≡ Some p
        → list_means m ocalls cx ordinal address f (tests_from (suc n) ps) s ≡ refuse_if (list_any test (filter (λ q. is_marshalled q.class) ps)) INVALID_PARAMETER s
        → list_means m ocalls cx ordinal address f ((if b then instr n ∷ [] else []) ++ tests_from (suc n) ps) s
        ≡ refuse_if (list_any test (if b then p ∷ filter (λ q. is_marshalled q.class) ps else filter (λ q. is_marshalled q.class) ps)) INVALID_PARAMETER s
    one_test true n p ps g more =
        tested (means m ocalls cx ordinal address f (instr n) s) (test p) INVALID_PARAMETER s (list_means m ocalls cx ordinal address f (tests_from (suc n) ps)) (each_is n p g)
        ∙ one_or_rest (test p) (list_any test (filter (λ q. is_marshalled q.class) ps)) s (list_means m ocalls cx ordinal address f (tests_from (suc n) ps) s) more
    one_test false n p ps g more = more

    -- tests of the marshalled parameters refuse where one of them does
    pub tests_do : (ps : List Param) (n : ℕ) → drop n f.params ≡ ps
        → list_means m ocalls cx ordinal address f (tests_from n ps) s ≡ refuse_if (list_any test (filter (λ q. is_marshalled q.class) ps)) INVALID_PARAMETER s
    tests_do [] n e = refl
    tests_do (p ∷ ps) n e = one_test (is_marshalled p.class) n p ps (get_drop f.params n p ps e) (tests_do ps (suc n) (drop_next f.params n p ps e))
