-- The tables of an interface's functions.
use Rattle.std.specs.Prelude.{ℕ, ◌≡◌, Bool, false, ◌==◌, not, if◌then◌else◌, List, map, Option, option_map, unwrap_or, slice_get}
use Rattle.std.specs.List.{list_any}
use Rattle.edl_interface.specs.declared.Function.{Function}
use Rattle.edl_interface.specs.declared.Interface.{Interface}
use Rattle.bridge_program.specs.declared.Instr.{Instr}
use Rattle.bridge_program.specs.declared.bridges.EcallBridge.{EcallBridge}
use Rattle.bridge_program.specs.declared.bridges.OcallBridge.{OcallBridge}
use Rattle.bridge_program.specs.declared.bridges.Bridges.{Bridges}
use Rattle.bridge_program.specs.Entry.{Entered, MayEnter}
use Rattle.bridge_program.specs.Lists.{ecall_list, ocall_list}

-- an ECALL's entry in the table
abbrev pub ecall_bridge : Function → EcallBridge
ecall_bridge f = record { is_private = not f.is_public; list = ecall_list f }

-- an OCALL's entry in the table
abbrev pub ocall_bridge : Function → OcallBridge
ocall_bridge f = record { allow = f.allow; list = ocall_list f }

-- the tables of an interface
abbrev pub bridges_of : Interface → Bridges
bridges_of interface = record { ecalls = map ecall_bridge interface.ecalls; ocalls = map ocall_bridge interface.ocalls }

-- the instructions of the function at an ordinal, where there is one
abbrev pub list_of : Bridges → Bool → ℕ → Option (List Instr)
list_of bridges trusted ordinal =
    if trusted then option_map (λ b. b.list) (slice_get bridges.ecalls ordinal) else option_map (λ b. b.list) (slice_get bridges.ocalls ordinal)

-- whether an OCALL allows an ECALL
abbrev pub is_allowed_by : Bridges → ℕ → ℕ → Bool
is_allowed_by bridges ocall ordinal = unwrap_or (option_map (λ b. list_any (λ k. k == ordinal) b.allow) (slice_get bridges.ocalls ocall)) false

-- the tables are those of an interface, and an ECALL of it may be tried
abbrev pub MayTry : Bridges → List Entered → Type 0
MayTry bridges stack = (interface : Interface) × (bridges ≡ bridges_of interface) × MayEnter interface stack
