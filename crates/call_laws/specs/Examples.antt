-- A small machine, and runs of its one ECALL, answered and refused.
use Rattle.std.specs.Prelude.{ℕ, ◌≡◌, true, false, List, [], ◌∷◌, ◌++◌, Some, Ok, Err, codes, replicate}
use Rattle.sgx_base.specs.declared.Passing.TheVariants.{Both}
use Rattle.sgx_base.specs.declared.TheConstants.Status.{INVALID_FUNCTION, INVALID_PARAMETER, UNEXPECTED}
use Rattle.edl_interface.specs.declared.Class.TheVariants.{Fixed}
use Rattle.edl_interface.specs.declared.Function.{Function}
use Rattle.edl_interface.specs.declared.Interface.{Interface}
use Rattle.word_port.specs.declared.Side.TheVariants.{Enclave}
use Rattle.word_port.specs.Requests.{step_of, swap_of}
use Rattle.word_port.specs.Events.{Event, made, placed}
use Rattle.word_port.specs.Interaction.{ret, IsRun}
use Rattle.body_vm.specs.declared.Action.TheVariants.{Put, Sum, Return}
use Rattle.body_vm.specs.declared.Operand.TheVariants.{Number, Reg}
use Rattle.bridge_program.specs.Tables.{bridges_of}
use Rattle.call_machine.specs.declared.Machine.{Machine}
use Rattle.call_machine.specs.Context.{Context}
use Rattle.call_machine.specs.Ecall.{Ocalls, entered}
use Rattle.call_laws.specs.Transfers.{loads_of}
use Rattle.call_machine.specs.Sound.{IsSoundBody}
use Rattle.call_laws.specs.Undisturbed.{AreLegal, words_at_end, IsQuiet}

-- `public uint32_t swap_in([in, out] uint8_t p[2]);`: the return at 0, the address at 8
abbrev pub small_function : Function
small_function = record {
  name = codes "swap_in";
  is_public = true;
  switchless = false;
  ret = Some (record { size = 4; integer = true; signed = false });
  params = record { name = codes "p"; offset = 8; class = Fixed Both 2 1 } ∷ [];
  allow = [];
  frame_size = 16;
}

-- the interface of it alone
abbrev pub small_interface : Interface
small_interface = record { ecalls = small_function ∷ []; ocalls = [] }

-- its body sums the two bytes, puts 9 in place of the first one, and returns the sum
abbrev pub small_machine : Machine
small_machine = record {
  interface = small_interface;
  bridges = bridges_of small_interface;
  script = record {
    settings = record {
      host = 64;
      stack = 0;
      arena = 16;
      cells = 0;
      retries = 0;
      tworkers = 0;
      uworkers = 0;
      slots = 0;
    };
    words = [];
    races = [];
    bodies = record { actions = Sum 0 0 ∷ Put 0 (Number 0) (Number 9) ∷ Return (Reg 0) ∷ [] } ∷ [];
    handlers = [];
    threads = [];
    racers = [];
  };
}

-- no call is in progress
abbrev pub small_context : Context
small_context = record { stack = []; base = 0; top = 0; room = 16 }

-- no OCALL is made
abbrev pub small_ocalls : Ocalls
small_ocalls cx ordinal arguments = ret (record { status = UNEXPECTED; value = 0; loaded = []; records = [] })

-- the frame with this address in its low bytes
abbrev pub frame_with : List ℕ → List ℕ
frame_with address = replicate 8 0 ++ address

-- the words: the frame at 0x10000, whose pointer is 0x10010, and the bytes 5 and 6 there
abbrev pub small_words : List ℕ
small_words = frame_with (16 ∷ 0 ∷ 1 ∷ 0 ∷ 0 ∷ 0 ∷ 0 ∷ 0 ∷ []) ++ (5 ∷ 6 ∷ [])

-- a store of a byte
abbrev pub store_of : ℕ → ℕ → ℕ → Event
store_of index value old = made (step_of (swap_of Enclave index value) old)

-- 16 loads of the frame, two of the bytes, and the stores of the return 11 and of the bytes 9 and 6
abbrev pub small_events : List Event
small_events =
    loads_of 0x10000 (frame_with (16 ∷ 0 ∷ 1 ∷ 0 ∷ 0 ∷ 0 ∷ 0 ∷ 0 ∷ []))
    ++ (loads_of 0x10010 (5 ∷ 6 ∷ [])
    ++ placed 18 ∷ store_of 0 11 0 ∷ store_of 1 0 0 ∷ store_of 2 0 0 ∷ store_of 3 0 0 ∷ store_of 16 9 5 ∷ store_of 17 6 6 ∷ [])

pub record Examples : Type 0 where
  pub sound : IsSoundBody small_machine 0
  pub quiet : IsQuiet small_machine 0
  pub answered : IsRun (entered small_machine small_ocalls small_context 0 0x10000) small_events (Ok (record { turn = 18; records = [] }))
  pub legal : AreLegal small_words small_events
  pub words_are : words_at_end small_words small_events ≡ 11 ∷ 0 ∷ 0 ∷ 0 ∷ 0 ∷ 0 ∷ 0 ∷ 0 ∷ 16 ∷ 0 ∷ 1 ∷ 0 ∷ 0 ∷ 0 ∷ 0 ∷ 0 ∷ 9 ∷ 6 ∷ []
  pub unknown : IsRun (entered small_machine small_ocalls small_context 1 0x10000) [] (Err INVALID_FUNCTION)
  pub frame_misplaced : IsRun (entered small_machine small_ocalls small_context 0 0x100000000) [] (Err INVALID_PARAMETER)
  pub in_enclave : IsRun (entered small_machine small_ocalls small_context 0 0x10000) (loads_of 0x10000 (frame_with (0 ∷ 0 ∷ 0 ∷ 0 ∷ 1 ∷ 0 ∷ 0 ∷ 0 ∷ []))) (Err INVALID_PARAMETER)
  pub past_the_end : IsRun (entered small_machine small_ocalls small_context 0 0x10000) (loads_of 0x10000 (frame_with (63 ∷ 0 ∷ 1 ∷ 0 ∷ 0 ∷ 0 ∷ 0 ∷ 0 ∷ []))) (Err INVALID_PARAMETER)
