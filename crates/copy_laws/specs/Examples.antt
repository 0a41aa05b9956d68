-- An ECALL whose `out` range lies over its own length, evaluated.
use Rattle.std.specs.Prelude.{ℕ, ◌≡◌, true, false, List, [], ◌∷◌, ◌++◌, take, None, codes}
use Rattle.sgx_base.specs.declared.Passing.TheVariants.{Both}
use Rattle.sgx_base.specs.declared.TheConstants.Status.{SUCCESS}
use Rattle.edl_interface.specs.declared.Amount.TheVariants.{Number as fixed, Param as of_param}
use Rattle.edl_interface.specs.declared.Class.TheVariants.{Plain as by_value, Buffer}
use Rattle.edl_interface.specs.declared.Param.{Param}
use Rattle.edl_interface.specs.declared.Function.{Function}
use Rattle.edl_interface.specs.declared.Interface.{Interface}
use Rattle.edl_interface.specs.Lengths.{length_in}
use Rattle.word_port.specs.Events.{Event, placed, steps_of}
use Rattle.word_port.specs.History.{race_write, IsLegal, history_of}
use Rattle.word_port.specs.Interaction.{IsRun}
use Rattle.body_vm.specs.declared.Action.TheVariants.{Fill, Return}
use Rattle.body_vm.specs.declared.Operand.TheVariants.{Number}
use Rattle.call_report.specs.declared.Way.TheVariants.{Ordinary}
use Rattle.bridge_program.specs.Tables.{bridges_of}
use Rattle.call_machine.specs.declared.Machine.{Machine}
use Rattle.call_machine.specs.Result.{Outcome}
use Rattle.call_machine.specs.Ecall.{ecall_record, ecall_by}
use Rattle.call_laws.specs.Transfers.{loads_of}
use Rattle.call_laws.specs.Examples.{small_machine, small_context, small_ocalls, store_of}
use Rattle.call_laws.specs.Undisturbed.{AreLegal, words_at_end, AreAt}

-- the pointer and the length of `public void fill([in, out, size=len] uint8_t* p, size_t len);`
abbrev pub pointer : Param
pointer = record { name = codes "p"; offset = 0; class = Buffer Both (of_param 1) (fixed 1) 1 }

abbrev pub count : Param
count = record { name = codes "len"; offset = 8; class = by_value (record { size = 8; integer = true; signed = false }) }

abbrev pub fill_function : Function
fill_function = record {
  name = codes "fill";
  is_public = true;
  switchless = false;
  ret = None;
  params = pointer ∷ count ∷ [];
  allow = [];
  frame_size = 16;
}

-- the interface of it alone
abbrev pub fill_interface : Interface
fill_interface = record { ecalls = fill_function ∷ []; ocalls = [] }

-- its body fills the block with 9
abbrev pub fill_machine : Machine
fill_machine = record small_machine {
  interface = fill_interface;
  bridges = bridges_of fill_interface;
  script = record small_machine.script { bodies = record { actions = Fill 0 (Number 9) ∷ Return (Number 0) ∷ [] } ∷ [] };
}

-- the frame at 0x10000: its pointer is 0x10008, the address of its own length, and its length is 2
abbrev pub fill_frame : List ℕ
fill_frame = 8 ∷ 0 ∷ 1 ∷ 0 ∷ 0 ∷ 0 ∷ 0 ∷ 0 ∷ 2 ∷ 0 ∷ 0 ∷ 0 ∷ 0 ∷ 0 ∷ 0 ∷ 0 ∷ []

-- the words: the frame, and two more bytes
abbrev pub fill_words : List ℕ
fill_words = fill_frame ++ (5 ∷ 6 ∷ [])

-- the words in the end: the bytes 9 and 9 where the length was
abbrev pub fill_end : List ℕ
fill_end = 8 ∷ 0 ∷ 1 ∷ 0 ∷ 0 ∷ 0 ∷ 0 ∷ 0 ∷ 9 ∷ 9 ∷ 0 ∷ 0 ∷ 0 ∷ 0 ∷ 0 ∷ 0 ∷ 5 ∷ 6 ∷ []

-- what follows the loads of the frame: loads of a first byte and of 0, and the stores of 9 and 9
abbrev pub fill_rest : ℕ → List Event
fill_rest first = loads_of 0x10008 (first ∷ 0 ∷ []) ++ placed 18 ∷ store_of 8 9 first ∷ store_of 9 9 0 ∷ placed 20 ∷ []

abbrev pub fill_events : ℕ → List Event
fill_events first = placed 0 ∷ (loads_of 0x10000 fill_frame ++ fill_rest first)

-- events that put back a third byte
abbrev pub longer_events : List Event
longer_events = placed 0 ∷ (loads_of 0x10000 fill_frame ++ (loads_of 0x10008 (2 ∷ 0 ∷ []) ++ placed 18 ∷ store_of 8 9 2 ∷ store_of 9 9 0 ∷ store_of 10 9 0 ∷ placed 21 ∷ []))

-- it is answered
abbrev pub fill_outcome : Outcome
fill_outcome = record { status = SUCCESS; records = ecall_record small_context 0 0x10000 Ordinary SUCCESS 0 18 20 ∷ [] }

-- these events are a run of the call
abbrev pub IsFillRun : List Event → Outcome → Type 0
IsFillRun events outcome = IsRun (ecall_by fill_machine small_ocalls small_context 0 0x10000 Ordinary) events outcome

pub record Examples : Type 0 where
  -- by copy: two bytes are put back, over the length, which reads 0x0909 from then on
  pub run : IsFillRun (fill_events 2) fill_outcome
  pub legal : AreLegal fill_words (fill_events 2)
  pub words_are : words_at_end fill_words (fill_events 2) ≡ fill_end
  pub length_was : length_in fill_function fill_frame pointer ≡ 2
  pub length_reads : length_in fill_function (take 16 fill_end) pointer ≡ 0x0909
  -- the length that stands there then is not used
  pub not_longer : (outcome : Outcome) → ¬ IsFillRun longer_events outcome
  -- where another writes between the loads, the copy is not of the words that the call began with
  pub disturbed : IsFillRun (fill_events 3) fill_outcome
  pub disturbed_legal : IsLegal fill_words (history_of (steps_of (loads_of 0x10000 fill_frame)) ++ race_write 8 3 ∷ history_of (steps_of (fill_rest 3)))
  pub not_by_copy : ¬ AreAt fill_words 0x10008 (3 ∷ 0 ∷ [])
