-- What is said of a call stays true as the log grows at its end, and as calls are added.
use Rattle.std.proofs.Common.{ℕ, ◌+◌, ◌≡◌, inl, inr, List, ◌++◌, length, map, ap, ◌∙◌, append_assoc, Option}
use Rattle.std.specs.List.{Contains}
use Rattle.word_port.specs.declared.Step.{Step}
use Rattle.enclave_memory.specs.Arguments.{Argument, argument_of}
use Rattle.body_vm.specs.Execution.{Execution, returned, on_cell, on_ocall, OcallRequest}
use Rattle.call_machine.specs.declared.Machine.{Machine}
use Rattle.call_machine.specs.Context.{Context}
use Rattle.call_machine.specs.Ecall.{OcallOutcome, answer_of}
use Rattle.run_laws.specs.Places.{StandAt}
use Rattle.run_laws.specs.Calls.{Call}
use Rattle.run_laws.specs.Ocalls.{IsOcall}
use Rattle.run_laws.specs.Bodies.{IsAnsweredRequest, IsCarriedOut}
use Rattle.run_laws.specs.Ecalls.{IsRefused, IsAnswered, IsEcall}
use Rattle.run_laws.specs.Protected.{IsNested, IsProtectedCall, IsAccountedFor}

-- the log has grown at its end
pub record IsGrown (old new : List Step) : Type 0 where
  pub more : List Step
  pub new_is : new ≡ old ++ more

-- each of these calls is one of those
abbrev pub AreAmong : List Call → List Call → Type 0
AreAmong few many = (c : Call) → Contains few c → Contains many c

pub stand_grown : (old new : List Step) (place : ℕ) (steps : List Step) → IsGrown old new → StandAt old place steps → StandAt new place steps
stand_grown old new place steps g h = record {
  before = h.before;
  later = h.later ++ g.more;
  log_is = g.new_is ∙ ap (λ l. l ++ g.more) h.log_is ∙ append_assoc h.before (steps ++ h.later) g.more ∙ ap (λ l. h.before ++ l) (append_assoc steps h.later g.more);
  place_is = h.place_is;
}

module _ (m : Machine) (old new : List Step) (grown : IsGrown old new) where
  pub ocall_grown : (c : Call) (arguments : List Argument) (steps : List Step) (out : OcallOutcome) → IsOcall m old c arguments steps out → IsOcall m new c arguments steps out
  ocall_grown c arguments steps out h = record {
    status_is = h.status_is;
    there = stand_grown old new c.made.first steps grown h.there;
    last_is = h.last_is;
    how = h.how;
  }

  module _ (few many : List Call) (among : AreAmong few many) where
    request_grown : (cx : Context) (place : ℕ) (q : OcallRequest) (call : Call) (steps : List Step) (out : OcallOutcome)
        → IsAnsweredRequest m few old cx place q call steps out → IsAnsweredRequest m many new cx place q call steps out
    request_grown cx place q call steps out h = record {
      is_call = among call h.is_call;
      is_ocall = h.is_ocall;
      ordinal_is = h.ordinal_is;
      context_is = h.context_is;
      begins = h.begins;
      did = ocall_grown call (map (argument_of q.blocks) q.arguments) steps out h.did;
    }

    pub carried_grown : (cx : Context) (place : ℕ) (body : Execution) (asked : List Call) (steps : List Step) (value : ℕ) (blocks : List (Option (List ℕ)))
        → IsCarriedOut m few old cx place body asked steps value blocks → IsCarriedOut m many new cx place body asked steps value blocks
    carried_grown cx place (returned last_value last_blocks) asked steps value blocks h = h
    carried_grown cx place (on_cell q next) asked steps value blocks h =
        let (old_value, rest, steps_are, more) = h in
        (old_value, rest, steps_are, carried_grown cx (place + 1) (next old_value) asked rest value blocks more)
    carried_grown cx place (on_ocall q next) asked steps value blocks h =
        let (call, others, first, rest, out, asked_are, steps_are, answered, more) = h in (
          call,
          others,
          first,
          rest,
          out,
          asked_are,
          steps_are,
          request_grown cx place q call first out answered,
          carried_grown cx (place + length first) (next (answer_of m.interface q out)) others rest value blocks more,
        )

    pub answered_grown : (c : Call) → IsAnswered m few old c → IsAnswered m many new c
    answered_grown c h = record {
      function = h.function;
      found = h.found;
      may_enter = h.may_enter;
      frame_allowed = h.frame_allowed;
      frame = h.frame;
      whole_frame = h.whole_frame;
      fields_allowed = h.fields_allowed;
      copies = h.copies;
      copying = h.copying;
      copied = h.copied;
      room_left = h.room_left;
      asked = h.asked;
      running = h.running;
      value = h.value;
      blocks = h.blocks;
      body = carried_grown _ _ _ h.asked h.running h.value h.blocks h.body;
      returning = h.returning;
      returned = h.returned;
      putting = h.putting;
      put_back = h.put_back;
      there = stand_grown old new c.made.first _ grown h.there;
      turn_is = h.turn_is;
      last_is = h.last_is;
    }

    refused_grown : (c : Call) → IsRefused m old c → IsRefused m new c
    refused_grown c h = record {
      loading = h.loading;
      refused = h.refused;
      loads_alone = h.loads_alone;
      there = stand_grown old new c.made.first _ grown h.there;
      turn_is = h.turn_is;
      last_is = h.last_is;
    }

    pub ecall_grown : (c : Call) → IsEcall m few old c → IsEcall m many new c
    ecall_grown c (inl h) = inl h
    ecall_grown c (inr (inl h)) = inr (inl (h.0, refused_grown c h.1))
    ecall_grown c (inr (inr h)) = inr (inr (h.0, answered_grown c h.1))

    pub call_grown : (c : Call) → IsProtectedCall m few old c → IsProtectedCall m many new c
    call_grown c h = record {
      depth_is = h.depth_is;
      ecall = λ kind way. ecall_grown c (h.ecall kind way);
      taken = h.taken;
      ocall = λ kind. let (arguments, steps, out, did) = h.ocall kind in (arguments, steps, out, ocall_grown c arguments steps out did);
    }

    pub nested_grown : (c : Call) → IsNested m few old c → IsNested m many new c
    unfolding answered_grown
    nested_grown c h = record {
      outer = h.outer;
      is_call = among h.outer h.is_call;
      how = elim h.how [ inl a ↦ inl a | inr a ↦ inr (record { is_ecall = a.is_ecall; answered = answered_grown h.outer a.answered; is_asked = a.is_asked }) ];
    }

    pub accounted_grown : (place : ℕ) (s : Step) → IsAccountedFor m few old place s → IsAccountedFor m many new place s
    unfolding answered_grown
    accounted_grown place s h = record {
      call = h.call;
      is_call = among h.call h.is_call;
      how = elim h.how [
        | inl a ↦ inl (record {
          is_ecall = a.is_ecall;
          is_load = a.is_load;
          in_host = a.in_host;
          from_first = a.from_first;
          before_body = elim a.before_body [ inl r ↦ inl (refused_grown h.call r.0, r.1) | inr r ↦ inr (answered_grown h.call r.0, r.1) ];
        })
        | inr (inl a) ↦ inr (inl (record {
          is_ecall = a.is_ecall;
          is_store = a.is_store;
          in_host = a.in_host;
          answered = answered_grown h.call a.answered;
          from_turn = a.from_turn;
          to_last = a.to_last;
          inside = a.inside;
        }))
        | inr (inr (inl a)) ↦ inr (inr (inl (record {
          is_ocall = a.is_ocall;
          is_store = a.is_store;
          in_host = a.in_host;
          arguments = a.arguments;
          steps = a.steps;
          out = a.out;
          there = stand_grown old new h.call.made.first a.steps grown a.there;
          made_it = a.made_it;
          from_first = a.from_first;
          before_host = a.before_host;
          inside = a.inside;
        })))
        | inr (inr (inr (inl a))) ↦ inr (inr (inr (inl (record {
          is_ocall = a.is_ocall;
          is_load = a.is_load;
          in_host = a.in_host;
          arguments = a.arguments;
          steps = a.steps;
          out = a.out;
          there = stand_grown old new h.call.made.first a.steps grown a.there;
          made_it = a.made_it;
          from_turn = a.from_turn;
          to_last = a.to_last;
          inside = a.inside;
        }))))
        | inr (inr (inr (inr a))) ↦ inr (inr (inr (inr (record {
          is_ecall = a.is_ecall;
          answered = answered_grown h.call a.answered;
          from_body = a.from_body;
          to_turn = a.to_turn;
          no_host_byte = a.no_host_byte;
        }))))
      ];
    }
