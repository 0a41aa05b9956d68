-- The instructions of a function's bridge, in order.
use Rattle.std.specs.Prelude.{ℕ, suc, Bool, if◌then◌else◌, List, [], ◌∷◌, ◌++◌, is_some}
use Rattle.std.specs.List.{list_any}
use Rattle.edl_interface.specs.declared.Function.{Function}
use Rattle.edl_interface.specs.declared.Param.{Param}
use Rattle.edl_interface.specs.declared.Class.{Class}
use Rattle.edl_interface.specs.Parameters.{is_marshalled, is_in, is_out, is_text, has_frame}
use Rattle.bridge_program.specs.declared.Instr.{Instr}
use Rattle.bridge_program.specs.declared.Instr.TheVariants.{Begin, NoFrame, Frame, Length, Outside, Fence, Divide, Alloc, CopyIn, Zero, TextEnd, Call, PutReturn, CopyOut, End, OBegin, OLength, OWithin, OTotal, OAdd, OTake, OField, OBuffer, OCopy, OEnter, OReturn, OBack, OEnd}

-- instructions for each parameter, by its number
abbrev pub each_from : ℕ → (ℕ → Param → List Instr) → List Param → List Instr
each_from n instrs [] = []
each_from n instrs (p ∷ ps) = instrs n p ++ each_from (suc n) instrs ps

-- instructions for each parameter of a function
abbrev pub each : (ℕ → Param → List Instr) → Function → List Instr
each instrs f = each_from 0 instrs f.params

-- one instruction for each parameter whose class passes the test
abbrev pub where_is : (Class → Bool) → (ℕ → Instr) → Function → List Instr
where_is test instr f = each (λ n p. if test p.class then instr n ∷ [] else []) f

-- the instruction where the test holds
abbrev pub once : Bool → Instr → List Instr
once test instr = if test then instr ∷ [] else []

-- whether a parameter is copied between host and enclave
abbrev pub any_marshalled : Function → Bool
any_marshalled f = list_any (λ p. is_marshalled p.class) f.params

-- what is done with one marshalled parameter before the call
abbrev pub entry_of : ℕ → Param → List Instr
entry_of n p =
    if is_marshalled p.class then Divide n ∷ Alloc n ∷ (if is_in p.class then CopyIn n else Zero n) ∷ once (is_text p.class) (TextEnd n) else []

-- the bridge of an ECALL
abbrev pub ecall_list : Function → List Instr
ecall_list f =
    (Begin ∷ (if has_frame f then Frame else NoFrame) ∷ [])
    ++ where_is is_marshalled Length f
    ++ where_is is_marshalled Outside f
    ++ once (any_marshalled f) Fence
    ++ each entry_of f
    ++ (Call ∷ once (is_some f.ret) PutReturn)
    ++ where_is is_out CopyOut f
    ++ (End ∷ [])

-- how a parameter's field is written
abbrev pub field_instr : ℕ → Param → List Instr
field_instr n p = (if is_marshalled p.class then OBuffer n else OField n) ∷ []

-- the proxy of an OCALL that has a frame
abbrev pub frame_list : Function → List Instr
frame_list f =
    (OBegin ∷ where_is is_marshalled OLength f)
    ++ where_is is_marshalled OWithin f
    ++ (OTotal ∷ where_is is_marshalled OAdd f)
    ++ (OTake ∷ each field_instr f)
    ++ where_is is_in OCopy f
    ++ (OEnter ∷ once (is_some f.ret) OReturn)
    ++ where_is is_out OBack f
    ++ (OEnd ∷ [])

-- the proxy of an OCALL
abbrev pub ocall_list : Function → List Instr
ocall_list f = if has_frame f then frame_list f else OBegin ∷ OEnter ∷ OEnd ∷ []
