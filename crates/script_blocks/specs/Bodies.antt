-- The bodies of functions, by the lines of a script that are of blocks.
use Rattle.std.specs.Prelude.{ℕ, ◌≡◌, false, List, [], map, filter_map, slice_get, Option, option_and_then, unwrap_or}
use Rattle.edl_interface.specs.declared.Interface.{Interface}
use Rattle.edl_interface.specs.declared.Function.{Function}
use Rattle.body_vm.specs.declared.Action.{Action}
use Rattle.body_vm.specs.declared.Body.{Body}
use Rattle.call_script.specs.Spelling.{Word}
use Rattle.call_script.specs.BodyNames.{BodyNames}
use Rattle.call_script.specs.Line.{Line}
use Rattle.call_script.specs.Standing.{params_of, temporary_name, body_name}
use Rattle.call_script.specs.Meaning as meaning
use Rattle.script_blocks.specs.Blocks.{HomeLine, in_block}
use Rattle.script_blocks.specs.Slots.{ordinal_at, filled, empty_slots}

-- the action of a line; the program and the lines around play no part
abbrev pub action_of : Interface → BodyNames → Line → Option Action
action_of i names line = meaning.action_of i false [] names line

-- the names of the temporaries of lines
unfoldable pub temporaries_of : List HomeLine → List Word
temporaries_of ls = filter_map (λ l. temporary_name l.line) ls

-- the names of a body of these lines
abbrev pub names_of : Option Function → List HomeLine → BodyNames
names_of f ls = record { params = params_of f; temporaries = temporaries_of ls }

-- a function without a body has one without actions
abbrev pub no_body : Body
no_body = record { actions = [] }

module _ (i : Interface) where
  unfoldable pub actions_of : BodyNames → List HomeLine → List Action
  actions_of names ls = filter_map (λ l. action_of i names l.line) ls

  -- the body of a function that has these lines
  unfoldable pub body_of : Option Function → List HomeLine → Body
  body_of f ls = record { actions = actions_of (names_of f ls) ls }

  module _ (all : List HomeLine) where
    abbrev pub bodied_at : HomeLine → Option ℕ
    bodied_at = ordinal_at body_name i.ecalls

    -- the body that a line opens
    abbrev pub body_by : HomeLine → Body
    body_by l = body_of (option_and_then (slice_get i.ecalls) (bodied_at l)) (in_block l.number all)

    unfoldable pub filled_bodies : List (Option Body) → List HomeLine → List (Option Body)
    filled_bodies slots ls = filled bodied_at body_by slots ls

    unfoldable pub bodies_of : List Body
    bodies_of = map (λ slot. unwrap_or slot no_body) (filled_bodies (empty_slots Body i.ecalls) all)
