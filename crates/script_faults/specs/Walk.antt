-- How far the lines of a script are gone through, and what is known there.
use Rattle.std.specs.Prelude.{ℕ, ◌≡◌, ◌≤◌, ◌<◌, ◌==◌, Bool, true, false, List, [], ◌∷◌, ◌++◌, filter, count_by, slice_get, Option, None, option_map, unwrap_or}
use Rattle.std.specs.List.{AllByRecursion}
use Rattle.edl_interface.specs.declared.Interface.{Interface}
use Rattle.call_script.specs.Spelling.{Word, NumberedLine}
use Rattle.call_script.specs.Line.{Line, Thread}
use Rattle.call_script.specs.Block.{Block, PlacedLine, Scope, InBody, scope_of, placed, placed_from, open_after, home}
use Rattle.call_script.specs.Standing.{Standing, lines_of, is_thread}
use Rattle.call_script.specs.Faults.{Fault, max_threads}
use Rattle.script_laws.specs.FirstFault.{Rising, Below, fault_with}
use Rattle.script_lines.specs.Nesting.{open_blocks}
use Rattle.script_faults.specs.declared.body.Body.{Body}
use Rattle.script_faults.specs.declared.walk.SoFar.{SoFar}
use Rattle.script_faults.specs.Before.{IsBefore}
use Rattle.script_faults.specs.Bodies.{IsBody}

-- the number of the line that opens the innermost of these blocks
abbrev pub innermost : List Block → ℕ
innermost blocks = unwrap_or (option_map (λ b. b.number) (slice_get blocks 0)) 0

-- of these, the lines of the block that the line of this number opens
abbrev pub of_block : ℕ → List PlacedLine → List Line
of_block n ls = lines_of (filter (λ l. home l == n) ls)

abbrev pub is_body : Scope → Bool
is_body (InBody name) = true
is_body _ = false

-- no block stands in a body
unfoldable pub NoneInBody : List Block → Type 0
NoneInBody [] = Unit {0}
NoneInBody (b ∷ blocks) = (is_body (scope_of blocks) ≡ false) × NoneInBody blocks

-- behind these lines these blocks are open, and these lines are left
pub record ArePlaced (before : List PlacedLine) (blocks : List Block) (ls : List NumberedLine) : Type 0 where
  pub next : ℕ
  pub positive : 1 ≤ next
  pub homes : AllByRecursion (λ l. home l < next) before
  pub below : Below next blocks
  pub rising : Rising next ls
  pub none_in_body : NoneInBody blocks

-- the body around the lines that are left, where they stand in one
abbrev pub IsWithin : Interface → List PlacedLine → List Block → List NumberedLine → Body → Type 0
IsWithin i before blocks ls b =
    (name : Word) → scope_of blocks ≡ InBody name
    → IsBody i name (of_block (innermost blocks) before) (of_block (innermost blocks) (placed_from blocks ls)) b

-- these lines are gone through without fault, and these are left
pub record IsSoFar (i : Interface) (before : List PlacedLine) (ls : List NumberedLine) (s : SoFar) : Type 0 where
  pub place : ArePlaced before (open_blocks s.blocks) ls
  pub summary : IsBefore (lines_of before) s.before
  pub within : IsWithin i before (open_blocks s.blocks) ls s.body
  pub few_threads : count_by is_thread (Thread ∷ lines_of before) ≤ max_threads

-- where a line stands
abbrev pub standing : List PlacedLine → List Block → NumberedLine → List NumberedLine → Standing
standing before blocks l ls =
    record { before = before; here = placed blocks l; behind = placed_from (open_after (placed blocks l)) ls }

-- a line was gone past
pub record IsPast (i : Interface) (before : List PlacedLine) (l : NumberedLine) (ls : List NumberedLine) (old new : SoFar)
    : Type 0 where
  pub so_far : IsSoFar i (before ++ placed (open_blocks old.blocks) l ∷ []) ls new
  pub blocks : open_blocks new.blocks ≡ open_after (placed (open_blocks old.blocks) l)

abbrev pub coded : ℕ → ℕ → Fault
coded number code = record { line = number; code = code }

-- the code of a line's fault, or it has none and was gone past
pub record IsTurn (i : Interface) (racing : Bool) (left : Option ℕ) (before : List PlacedLine) (l : NumberedLine)
    (ls : List NumberedLine) (old new : SoFar) (code : Option ℕ) : Type 0 where
  pub told : option_map (coded l.number) code ≡ fault_with i racing left (standing before (open_blocks old.blocks) l ls)
  pub past : code ≡ None → IsPast i before l ls old new
