-- The rules of arguments, and the values of a whole call.
use Rattle.std.specs.Prelude.{◌≡◌, Bool, List, Option, Some}
use Rattle.edl_interface.specs.declared.Param.{Param}
use Rattle.edl_interface.specs.declared.Function.{Function}
use Rattle.edl_interface.specs.declared.Interface.{Interface}
use Rattle.body_vm.specs.declared.Pass.{Pass}
use Rattle.call_script.specs.declared.CallArg.{CallArg}
use Rattle.call_script.specs.Spelling.{Word}
use Rattle.call_script.specs.Block.{PlacedLine}
use Rattle.call_script.specs.Line.{Line}
use Rattle.body_vm.specs.declared.Action.{Action}
use Rattle.call_script.specs.Arguments.{is_wrong_argument, is_misfit, is_bad_hex_argument}
use Rattle.call_script.specs.BodyNames.{BodyNames, is_unknown_argument, is_wrong_pass}
use Rattle.call_script.specs.Meaning.{arguments, passes, action_of}
use Rattle.script_values.specs.declared.calls.ArgumentRule.{ArgumentRule}
use Rattle.script_values.specs.declared.calls.ArgumentRule.TheVariants.{WrongForm, Misfit, BadHex, UnknownName, WrongPass}

-- whether a word breaks the rule for a parameter
abbrev pub is_broken : ArgumentRule → Param → Word → Bool
is_broken WrongForm p w = is_wrong_argument p.class w
is_broken Misfit p w = is_misfit p.class w
is_broken BadHex p w = is_bad_hex_argument p.class w
is_broken (UnknownName names) p w = is_unknown_argument names.now p w
is_broken (WrongPass names) p w = is_wrong_pass names.now p w

-- the arguments of a call of a function by these words, in whatever script
abbrev pub AreArguments : Function → List Word → List CallArg → Type 0
AreArguments f args values =
    (i : Interface) (racing : Bool) (script : List PlacedLine) → values ≡ arguments i racing script (Some f) args

-- what these words of an `ocall` pass, in whatever script
abbrev pub ArePasses : BodyNames → Option Function → List Word → List Pass → Type 0
ArePasses names f args values =
    (i : Interface) (racing : Bool) (script : List PlacedLine) → values ≡ passes i racing script names f args

-- the action of a line of a body with these names, where these are the functions of the host
abbrev pub IsActionOf : List Function → BodyNames → Line → Action → Type 0
IsActionOf ocalls names line action =
    (i : Interface) (racing : Bool) (script : List PlacedLine) → i.ocalls ≡ ocalls
    → action_of i racing script names line ≡ Some action
