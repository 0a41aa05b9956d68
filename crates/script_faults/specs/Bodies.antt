-- The lines of a body, and what is known of it from line to line.
use Rattle.std.specs.Prelude.{◌≡◌, Bool, true, false, List, [], ◌∷◌, ◌++◌, length, filter_map, count_by, Option, Some, None}
use Rattle.edl_interface.specs.declared.Interface.{Interface}
use Rattle.call_script.specs.Spelling.{Word, NumberedLine}
use Rattle.call_script.specs.Line.{Line, Close}
use Rattle.call_script.specs.Block.{InBody, line_in}
use Rattle.call_script.specs.Standing.{named, params_of, names_in, is_action, temporary_name}
use Rattle.script_faults.specs.declared.body.Body.{Body}
use Rattle.script_faults.specs.declared.codes.BodyAround.{BodyAround}
use Rattle.script_faults.specs.Limits.{HasBodyRoom}

abbrev pub is_close : Line → Bool
is_close Close = true
is_close _ = false

-- a line of a body before those behind it, where it does not end the body; a line of no form is none
abbrev pub onto_body : Option Line → List Line → List Line
onto_body None ls = ls
onto_body (Some Close) ls = []
onto_body (Some line) ls = line ∷ ls

-- the lines that are left of a body of this name, of all that are left: those up to the first `}`
unfoldable pub lines_of_body : Word → List NumberedLine → List Line
lines_of_body name [] = []
lines_of_body name (l ∷ ls) = onto_body (line_in (InBody name) l.words) (lines_of_body name ls)

-- the body of this function, of whose lines these are gone through and these are left
pub record IsBody (i : Interface) (name : Word) (before behind : List Line) (b : Body) : Type 0 where
  pub params : b.params.now ≡ params_of (named i.ecalls name)
  pub temporaries : b.temporaries ≡ filter_map temporary_name (before ++ behind)
  pub given : b.given ≡ length (filter_map temporary_name before)
  pub room : HasBodyRoom before b.room
  pub left : b.left ≡ count_by is_action behind

-- the body around a line of it
pub record IsAround (i : Interface) (name : Word) (before : List Line) (line : Line) (behind : List Line) (b : BodyAround)
    : Type 0 where
  pub params : b.params.now ≡ params_of (named i.ecalls name)
  pub names : b.names ≡ names_in (named i.ecalls name) (before ++ line ∷ behind)
  pub temporaries : b.temporaries.now ≡ filter_map temporary_name before
  pub room : HasBodyRoom before b.room
  pub behind_it : b.behind ≡ count_by is_action behind
