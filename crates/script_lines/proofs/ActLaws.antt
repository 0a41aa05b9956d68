-- Acts, by their first word.
use Rattle.std.proofs.Common.{◌≡◌, false, List, ◌∷◌, Some, None, refl, ◌∙◌}
use Rattle.std.specs.Prelude.{option_map, codes}
use Rattle.std.specs.Str.{bytes_eq}
use Rattle.call_script.specs.Spelling.{Word}
use Rattle.call_script.specs.Parser.{arguments}
use Rattle.call_script.specs.Line.{Poke, Repeat, Return, Status, Call, Raw, Peek}
use Rattle.script_lines.specs.declared.shapes.Shape.TheVariants.{Any, Number, Name, Place}
use Rattle.script_lines.specs.Shapes.{reads, one, two, opened}
use Rattle.script_lines.specs.Arguments.{last_arguments}
use Rattle.script_lines.specs.Tables.{racer_act, act}
use Rattle.script_lines.proofs.RowLaws.{or-none, one-is, two-is, opened-is, ended-with}

module _ (ws : List Word) where
  pub poke_row : racer_act (codes "poke" ∷ ws) ≡ option_map (λ p. Poke p.0 p.1) (two Place Any ws)
  unfolding racer_act
  poke_row = or-none _ ∙ two-is Poke Place Any ws

  pub repeat_row : racer_act (codes "repeat" ∷ ws) ≡ option_map Repeat (opened Number ws)
  unfolding racer_act
  repeat_row = or-none _ ∙ opened-is Repeat Number ws

  pub return_row : racer_act (codes "return" ∷ ws) ≡ option_map Return (one Number ws)
  unfolding racer_act
  return_row = or-none _ ∙ one-is Return Number ws

  pub status_row : racer_act (codes "status" ∷ ws) ≡ option_map Status (one Number ws)
  unfolding racer_act
  status_row = or-none _ ∙ one-is Status Number ws

  pub raw_row : act (codes "raw" ∷ ws) ≡ option_map (λ p. Raw p.0 p.1) (two Number Number ws)
  unfolding act
  raw_row = or-none _ ∙ two-is Raw Number Number ws

  pub peek_row : act (codes "peek" ∷ ws) ≡ option_map (λ p. Peek p.0 p.1) (two Place Number ws)
  unfolding act
  peek_row = or-none _ ∙ two-is Peek Place Number ws

  pub call_without_name : reads Name ws ≡ None → act (codes "call" ∷ ws) ≡ None
  unfolding act
  call_without_name e = rw e refl

  pub call_row : (w : Word) (xs : List Word) → reads Name ws ≡ Some (w, xs)
      → act (codes "call" ∷ ws) ≡ option_map (Call w) (last_arguments xs)
  unfolding act last_arguments
  call_row w xs e = rw e (or-none _ ∙ ended-with (Call w) (arguments xs))

pub ruleset rows = (poke_row, repeat_row, return_row, status_row, raw_row, peek_row)

-- no row begins with the word
pub no_racer_act : (w : Word) (ws : List Word) → bytes_eq (codes "poke") w ≡ false → bytes_eq (codes "repeat") w ≡ false
    → bytes_eq (codes "return") w ≡ false → bytes_eq (codes "status") w ≡ false → racer_act (w ∷ ws) ≡ None
unfolding racer_act
no_racer_act w ws a b c d = rw (a, b, c, d) refl

-- the rows of racers stand behind the others
pub other_act : (w : Word) (ws : List Word) → bytes_eq (codes "call") w ≡ false → bytes_eq (codes "raw") w ≡ false
    → bytes_eq (codes "peek") w ≡ false → act (w ∷ ws) ≡ racer_act (w ∷ ws)
unfolding act racer_act
other_act w ws a b c = rw (a, b, c) refl
