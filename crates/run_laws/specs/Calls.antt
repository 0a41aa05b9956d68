-- The calls of a run, each with the context in which it was made.
use Rattle.std.specs.Prelude.{ℕ, ◌≡◌, ◌⊎◌, Some}
use Rattle.ocall_frames.specs.Stack.{frame_below}
use Rattle.call_report.specs.declared.CallRecord.{CallRecord}
use Rattle.call_machine.specs.Context.{Context}

-- a call that was made: its record, and the call stack, the host stack and the room of the block arena that it met
pub record Call : Type 0 where
  pub made : CallRecord
  pub context : Context

-- the host put a frame below the context's top, and entered with it
pub record IsPutBelow (cx : Context) (c : Call) : Type 0 where
  pub size : ℕ
  pub fits : frame_below cx.base cx.top size ≡ Some c.made.frame
  pub context_is : c.context ≡ record cx { top = c.made.frame }

-- the host made the call in this context, by itself or with a frame on the host stack
abbrev pub IsMadeIn : Context → Call → Type 0
IsMadeIn cx c = (c.context ≡ cx) ⊎ IsPutBelow cx c
