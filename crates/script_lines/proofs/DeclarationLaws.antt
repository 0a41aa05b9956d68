-- Declarations, by their first word.
use Rattle.std.proofs.Common.{◌≡◌, false, List, ◌∷◌, Some, None, refl, ◌∙◌}
use Rattle.std.specs.Prelude.{option_map, codes, if◌then◌else◌}
use Rattle.std.specs.Str.{bytes_eq}
use Rattle.call_script.specs.Spelling.{Word}
use Rattle.call_script.specs.Line.{Foreign, Bytes, Cell, Race, Body, Handler, Thread, Racer}
use Rattle.script_lines.specs.declared.shapes.Shape.TheVariants.{Any, Number, Name}
use Rattle.script_lines.specs.Shapes.{two, three, opens, opened}
use Rattle.script_lines.specs.Tables.{declaration}
use Rattle.script_lines.proofs.RowLaws.{or-none, two-is, three-is, opened-is, opens-is}

module _ (ws : List Word) where
  pub foreign_row : declaration (codes "foreign" ∷ ws)
      ≡ option_map (λ p. Foreign p.0 p.1.0 p.1.1) (three Name Number Number ws)
  unfolding declaration
  foreign_row = or-none _ ∙ three-is Foreign Name Number Number ws

  pub bytes_row : declaration (codes "bytes" ∷ ws) ≡ option_map (λ p. Bytes p.0 p.1) (two Number Any ws)
  unfolding declaration
  bytes_row = or-none _ ∙ two-is Bytes Number Any ws

  pub cell_row : declaration (codes "cell" ∷ ws) ≡ option_map (λ p. Cell p.0 p.1) (two Number Number ws)
  unfolding declaration
  cell_row = or-none _ ∙ two-is Cell Number Number ws

  pub race_row : declaration (codes "race" ∷ ws) ≡ option_map (λ p. Race p.0 p.1.0 p.1.1) (three Number Number Any ws)
  unfolding declaration
  race_row = or-none _ ∙ three-is Race Number Number Any ws

  pub body_row : declaration (codes "body" ∷ ws) ≡ option_map Body (opened Name ws)
  unfolding declaration
  body_row = or-none _ ∙ opened-is Body Name ws

  pub handler_row : declaration (codes "handler" ∷ ws) ≡ option_map Handler (opened Name ws)
  unfolding declaration
  handler_row = or-none _ ∙ opened-is Handler Name ws

  pub thread_row : declaration (codes "thread" ∷ ws) ≡ (if opens ws then Some Thread else None)
  unfolding declaration
  thread_row = or-none _ ∙ opens-is Thread ws

  pub racer_row : declaration (codes "racer" ∷ ws) ≡ (if opens ws then Some Racer else None)
  unfolding declaration
  racer_row = or-none _ ∙ opens-is Racer ws

pub ruleset rows = (foreign_row, bytes_row, cell_row, race_row, body_row, handler_row, thread_row, racer_row)

-- no row begins with the word
pub no_declaration : (w : Word) (ws : List Word) → bytes_eq (codes "foreign") w ≡ false
    → bytes_eq (codes "bytes") w ≡ false
    → bytes_eq (codes "cell") w ≡ false → bytes_eq (codes "race") w ≡ false → bytes_eq (codes "body") w ≡ false
    → bytes_eq (codes "handler") w ≡ false → bytes_eq (codes "thread") w ≡ false → bytes_eq (codes "racer") w ≡ false
    → declaration (w ∷ ws) ≡ None
unfolding declaration
no_declaration w ws a b c d e f g h = rw (a, b, c, d, e, f, g, h) refl
