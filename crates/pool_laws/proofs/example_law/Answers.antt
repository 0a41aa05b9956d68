use Rattle.std.proofs.Common.{ℕ, zero, suc, ◌+◌, ◌≡◌, ◌<◌, ◌≤◌, inl, inr, true, List, [], ◌∷◌, All, Some, refl, sym, subst, arith, slice_get}
use Rattle.std.proofs.lemmas.List.Elements.{All-nil, All-cons}
use Rattle.edl_interface.specs.declared.Function.{Function}
use Rattle.edl_interface.specs.declared.Param.{Param}
use Rattle.edl_interface.specs.Runnable.{IsPassed, field_end, IsRunnableFunction}
use Rattle.word_port.specs.declared.Step.{Step}
use Rattle.word_port.specs.declared.Side.TheVariants.{Pool as by_pool}
use Rattle.word_port.specs.Requests.{step_of, load_of, swap_of, cas_of}
use Rattle.word_port.specs.Events.{made, placed, ticked, new_record}
use Rattle.word_port.specs.Limits.{Progress}
use Rattle.word_port.specs.History.{IsLegal, IsShuffleOf, history_of}
use Rattle.body_vm.specs.Execution.{execution}
use Rattle.ocall_frames.specs.Frames.{read_reply}
use Rattle.switchless.specs.declared.Pool.{Pool}
use Rattle.switchless.specs.Counts.{taken_in}
use Rattle.switchless.specs.Caller.{offer, look, looks, collect, caller_within, more_than_any}
use Rattle.switchless.specs.Worker.{scan, accept, finish, worker}
use Rattle.switchless_laws.specs.Moments.{IsSlotOf, AreFree}
use Rattle.call_script.specs.declared.HostAct.{Call}
use Rattle.call_machine.specs.Acts.{acts_of}
use Rattle.call_machine.specs.Calls.{ecall_pool}
use Rattle.call_machine.specs.Context.{first_context}
use Rattle.call_machine.specs.Ecall.{actions_of, ecall_by}
use Rattle.call_machine.specs.Ocall.{ocall_pool, ocall_by}
use Rattle.call_machine.specs.Served.{served_ocall}
use Rattle.call_machine.specs.Sound.{FitPasses, IsSoundBody}
use Rattle.call_machine.specs.Thread.{ecall, thread}
use Rattle.pool_laws.specs.Machines.{AreOnCells, FillFields, IsBoundedMachine}
use Rattle.pool_laws.specs.Participants.{trusted_worker, untrusted_worker, IsPoolOf, IsWholeLog, host_thread, trusted, untrusted}
use Rattle.pool_laws.specs.Example.{marked_function, pooled_machine, calling, serving, handling, all_steps, the_call}
use Rattle.pool_laws.proofs.example_law.Goals as goal

-- a participant with so many records, after these steps
abbrev progress_with : List Step → ℕ → Progress
progress_with log records = record {
  port = record { log = log; limit = 64; words = 3; host = 0; name = [] };
  records = records;
  waits = 16;
}

called : IsWholeLog (thread pooled_machine (first_context pooled_machine.script.settings 0) (Call 0 [] ∷ [])) calling
unfolding thread acts_of caller_within offer looks look collect more_than_any
called = record {
  before = progress_with [] 4;
  after = progress_with calling 3;
  value = _;
  empty = refl;
  few = omega arith;
  run = record {
    events = ticked new_record ∷ placed 0 ∷ made (step_of (cas_of by_pool 0 0 1) 0) ∷ made
        (step_of (load_of by_pool 0) 3)
        ∷ made (step_of (swap_of by_pool 0 0) 3) ∷ placed 3 ∷ [];
    begun = (refl, (refl, (refl, (refl, refl))));
    grown = refl;
    places = (refl, (refl, tt));
    records = refl;
    waits = refl;
  };
  log_is = refl;
}

served : IsWholeLog (worker (trusted_worker pooled_machine 0 16)) serving
unfolding worker scan accept finish ecall ecall_by execution ocall_by caller_within offer looks look
    collect more_than_any read_reply
served = record {
  before = progress_with [] 4;
  after = progress_with serving 2;
  value = _;
  empty = refl;
  few = omega arith;
  run = record {
    events = placed 0 ∷ made (step_of (load_of by_pool 0) 1) ∷ made
        (step_of (cas_of by_pool 0 1 2) 1) ∷ ticked new_record
        ∷ placed 2 ∷ ticked new_record ∷ placed 2 ∷ made (step_of (cas_of by_pool 1 0 1) 0)
        ∷ made (step_of (load_of by_pool 1) 3) ∷ made (step_of (swap_of by_pool 1 0) 3) ∷ placed 5 ∷ placed 5 ∷ placed 5
        ∷ placed 5 ∷ made (step_of (swap_of by_pool 0 3) 2) ∷ made (step_of (load_of by_pool 2) 1) ∷ [];
    begun = (refl, (refl, (refl, (refl, (refl, (refl, (refl, (refl, (refl, refl)))))))));
    grown = refl;
    places = (refl, (refl, (refl, (refl, (refl, (refl, (refl, tt)))))));
    records = refl;
    waits = refl;
  };
  log_is = refl;
}

handled : IsWholeLog (worker (untrusted_worker pooled_machine 16)) handling
unfolding worker scan accept finish served_ocall acts_of more_than_any
handled = record {
  before = progress_with [] 4;
  after = progress_with handling 3;
  value = _;
  empty = refl;
  few = omega arith;
  run = record {
    events = placed 0 ∷ made (step_of (load_of by_pool 1) 1) ∷ made
        (step_of (cas_of by_pool 1 1 2) 1) ∷ ticked new_record
        ∷ placed 2 ∷ placed 2 ∷ made (step_of (swap_of by_pool 1 3) 2) ∷ made (step_of (load_of by_pool 2) 1) ∷ [];
    begun = (refl, (refl, (refl, (refl, (refl, refl)))));
    grown = refl;
    places = (refl, (refl, (refl, tt)));
    records = refl;
    waits = refl;
  };
  log_is = refl;
}

-- the machine
runnable : (is_ecall : _) → IsRunnableFunction is_ecall marked_function
runnable is_ecall = record {
  classes = All-nil (λ (p : Param). IsPassed p.class);
  fields = All-nil (λ (p : Param). field_end is_ecall p ≤ 0);
  returns = omega arith;
  return_fits = omega arith;
  no_frame = λ e. refl;
}

no_passes : (f : Function) → Some marked_function ≡ Some f → FitPasses f.params []
no_passes f found = let same : marked_function ≡ f = cc in subst (λ g. FitPasses g.params []) same tt

sound_body : (ordinal : ℕ) → IsSoundBody pooled_machine ordinal
sound_body zero f e = (λ g found. no_passes g found, tt)
sound_body (suc n) f e = cc

no_cells : (ordinal : ℕ) → AreOnCells 0 (actions_of pooled_machine ordinal)
no_cells zero = (tt, tt)
no_cells (suc n) = tt

bounded : IsBoundedMachine pooled_machine
bounded = record {
  sound = record {
    runnable = record {
      ecalls = All-cons (IsRunnableFunction true) marked_function [] (runnable true)
          (All-nil (IsRunnableFunction true));
      ocalls = All-cons (IsRunnableFunction _) marked_function [] (runnable _) (All-nil (IsRunnableFunction _));
    };
    stack = omega arith;
    bodies = sound_body;
  };
  host = omega arith;
  ecalls = omega arith;
  ocalls = omega arith;
  cells = no_cells;
  handlers = λ ordinal f found. tt;
}

-- the history
ecall_slot_free : (slot : ℕ) → IsSlotOf (ecall_pool pooled_machine.script.settings) slot
    → slice_get pooled_machine.script.words slot ≡ Some 0
ecall_slot_free zero at = refl
ecall_slot_free (suc slot) at = let late : suc slot < 0 + 1 = at.1 in absurd (omega (arith, late))

ocall_slot_free : (slot : ℕ) → IsSlotOf (ocall_pool pooled_machine.script.settings) slot
    → slice_get pooled_machine.script.words slot ≡ Some 0
ocall_slot_free zero at = refl
ocall_slot_free (suc zero) at = refl
ocall_slot_free (suc (suc slot)) at = let late : suc (suc slot) < 1 + 1 = at.1 in absurd (omega (arith, late))

free_slots : (pool : Pool) → IsPoolOf pooled_machine pool → AreFree pool pooled_machine.script.words
free_slots pool (inl e) = subst (λ p. AreFree p pooled_machine.script.words) (sym e) ecall_slot_free
free_slots pool (inr e) = subst (λ p. AreFree p pooled_machine.script.words) (sym e) ocall_slot_free

none_left : All (λ (part : List Step). part ≡ []) ([] ∷ [] ∷ [] ∷ [])
none_left =
    let P : List Step → Type 0 = λ part. part ≡ [] in
    All-cons P [] ([] ∷ [] ∷ []) refl (All-cons P [] ([] ∷ []) refl (All-cons P [] [] refl (All-nil P)))

shuffled : IsShuffleOf (calling ∷ serving ∷ handling ∷ []) all_steps
shuffled = (
  0,
  _,
  refl,
  (
    1,
    _,
    refl,
    (
      1,
      _,
      refl,
      (
        1,
        _,
        refl,
        (
          2,
          _,
          refl,
          (
            2,
            _,
            refl,
            (
              2,
              _,
              refl,
              (
                1,
                _,
                refl,
                (1, _, refl, (1, _, refl, (0, _, refl, (0, _, refl, (1, _, refl, (2, _, refl, none_left)))))),
              ),
            ),
          ),
        ),
      ),
    ),
  ),
)

legal : IsLegal pooled_machine.script.words (history_of all_steps)
legal = (
  refl,
  (
    refl,
    (
      refl,
      (
        refl,
        (
          refl,
          (
            refl,
            (
              refl,
              (
                refl,
                (refl, (refl, (refl, (refl, (refl, (refl, tt)))))),
              ),
            ),
          ),
        ),
      ),
    ),
  ),
)

all_taken : (pool : Pool) → IsPoolOf pooled_machine pool → taken_in pool all_steps ≡ the_call ∷ []
all_taken pool (inl e) = subst (λ p. taken_in p all_steps ≡ the_call ∷ []) (sym e) refl
all_taken pool (inr e) = subst (λ p. taken_in p all_steps ≡ the_call ∷ []) (sym e) refl

fills : (f : Function) → Some marked_function ≡ Some f → FillFields f.params []
fills f found = let same : marked_function ≡ f = cc in subst (λ g. FillFields g.params []) same tt

pub returns : goal.returns
returns c = record {
  machine = bounded;
  calling = host_thread 0 (Call 0 [] ∷ []) (omega arith) ((λ f found. fills f found), tt) called;
  serving = trusted 0 16 (omega arith) served;
  handling = untrusted 16 handled;
  history = λ pool is. record { are_free = free_slots pool is; shuffled = shuffled; legal = legal };
  taken = all_taken;
}
