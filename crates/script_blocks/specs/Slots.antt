-- What lines give to functions by their names: to each function what the first line of its name gives.
use Rattle.std.specs.Prelude.{ℕ, ◌≡◌, Bool, true, false, ◌==◌, List, [], map, find, position, Option, Some, None, option_map, option_and_then, unwrap_or, zip}
use Rattle.std.specs.List.{enumerate_from}
use Rattle.edl_interface.specs.declared.Interface.{Interface}
use Rattle.edl_interface.specs.declared.Function.{Function}
use Rattle.call_script.specs.declared.HostAct.{HostAct}
use Rattle.call_script.specs.Parser.{or_else}
use Rattle.call_script.specs.Spelling.{Word}
use Rattle.call_script.specs.Line.{Line}
use Rattle.call_script.specs.Standing.{handler_name}
use Rattle.call_script.specs.Meaning.{ordinal_in}
use Rattle.script_blocks.specs.Blocks.{HomeLine}
use Rattle.script_blocks.specs.Acts.{block_acts}

-- the ordinal of the function that a line names
abbrev pub ordinal_at : (Line → Option Word) → List Function → HomeLine → Option ℕ
ordinal_at name_of fs l = option_and_then (ordinal_in fs) (name_of l.line)

module _ {A : Type 0} (at : HomeLine → Option ℕ) (value : HomeLine → A) where
  abbrev pub is_for : ℕ → HomeLine → Bool
  is_for k l = unwrap_or (option_map (λ j. j == k) (at l)) false

  -- what the first line for an ordinal gives
  abbrev pub first_given : ℕ → List HomeLine → Option A
  first_given k ls = option_map value (find (is_for k) ls)

  -- the slots behind these lines: one that has a value keeps it
  unfoldable pub filled : List (Option A) → List HomeLine → List (Option A)
  filled slots ls = map (λ p. or_else p.1 (first_given p.0 ls)) (enumerate_from 0 slots)

-- a slot that is there and has no value
abbrev pub is_free : {A : Type 0} → Option (Option A) → Bool
is_free (Some None) = true
is_free _ = false

abbrev pub empty_slots : (A : Type 0) → List Function → List (Option A)
empty_slots A fs = map (λ f. None) fs

-- ---- handlers

module _ (i : Interface) (all : List HomeLine) where
  abbrev pub handled_at : HomeLine → Option ℕ
  handled_at = ordinal_at handler_name i.ocalls

  abbrev pub handler_by : HomeLine → List HostAct
  handler_by l = block_acts i all l.number

  unfoldable pub filled_handlers : List (Option (List HostAct)) → List HomeLine → List (Option (List HostAct))
  filled_handlers slots ls = filled handled_at handler_by slots ls

  -- a function without a handler has one without acts
  unfoldable pub handlers_of : List (List HostAct)
  handlers_of =
      map (λ slot. unwrap_or slot []) (filled_handlers (empty_slots (List HostAct) i.ocalls) all)
