-- The lines of a scope.
use Rattle.std.proofs.Common.{◌≡◌, Bool, true, false, List, [], ◌∷◌, Some, None, refl, ap, sym, ◌∙◌}
use Rattle.std.specs.Prelude.{◌&&◌, codes}
use Rattle.std.specs.Str.{bytes_eq}
use Rattle.call_script.specs.Spelling.{Word}
use Rattle.call_script.specs.Parser.{or_else, ended}
use Rattle.call_script.specs.Line.{Line, Close, settings, declarations, acts, close}
use Rattle.call_script.specs.Block.{Scope, Outside, InBody, InHandler, InThread, InRacer, own_forms, line_in}
use Rattle.script_lines.specs.Shapes.{is_ended}
use Rattle.script_lines.specs.Tables.{setting_line, declaration, act, racer_act, body_line, own_line}
use Rattle.script_lines.proofs.RowLaws.{read-either}

module _ (ws : List Word) where
  pub own_outside : own_line Outside ws ≡ or_else (declaration ws) (act ws)
  unfolding own_line declaration act
  own_outside = read-either declarations acts ws

  pub own_in_body : (name : Word) → own_line (InBody name) ws ≡ body_line ws
  unfolding own_line body_line
  own_in_body name = refl

  pub own_in_handler : (name : Word) → own_line (InHandler name) ws ≡ act ws
  unfolding own_line act
  own_in_handler name = refl

  pub own_in_thread : own_line InThread ws ≡ act ws
  unfolding own_line act
  own_in_thread = refl

  pub own_in_racer : own_line InRacer ws ≡ racer_act ws
  unfolding own_line racer_act
  own_in_racer = refl

pub ruleset own_lines = (own_outside, own_in_body, own_in_handler, own_in_thread, own_in_racer)

-- no words are no line
pub no_words : (scope : Scope) (ws : List Word) → ws ≡ [] → line_in scope ws ≡ None
no_words Outside ws e = rw e refl
no_words (InBody name) ws e = rw e refl
no_words (InHandler name) ws e = rw e refl
no_words InThread ws e = rw e refl
no_words InRacer ws e = rw e refl

module _ (scope : Scope) (ws : List Word) where
  in-order : line_in scope ws ≡ or_else (ended (close ws)) (or_else (setting_line ws) (own_line scope ws))
  unfolding setting_line own_line
  in-order = ap (or_else (ended (close ws))) (read-either settings (own_forms scope) ws)

  module _ (w : Word) (xs : List Word) (first : ws ≡ w ∷ xs) where
    pub closing : (bytes_eq (codes "}") w && is_ended xs) ≡ true → line_in scope ws ≡ Some Close
    closing e = rw first (go (bytes_eq (codes "}") w) xs refl e)
      where
        go : (t : Bool) (ys : List Word) → bytes_eq (codes "}") w ≡ t → (t && is_ended ys) ≡ true
            → line_in scope (w ∷ ys) ≡ Some Close
        go true [] e f = rw e refl
        go true (y ∷ ys) e f = absurd cc
        go false ys e f = absurd cc

    not-closing : (bytes_eq (codes "}") w && is_ended xs) ≡ false
        → line_in scope ws ≡ or_else (setting_line (w ∷ xs)) (own_line scope (w ∷ xs))
    not-closing e = in-order ∙ rw first (go (bytes_eq (codes "}") w) xs refl e)
      where
        go : (t : Bool) (ys : List Word) → bytes_eq (codes "}") w ≡ t → (t && is_ended ys) ≡ false
            → or_else (ended (close (w ∷ ys))) (or_else (setting_line (w ∷ ys)) (own_line scope (w ∷ ys)))
            ≡ or_else (setting_line (w ∷ ys)) (own_line scope (w ∷ ys))
        go false ys e f = rw e refl
        go true [] e f = absurd cc
        go true (y ∷ ys) e f = rw e refl

    pub setting_first : (l : Line) → (bytes_eq (codes "}") w && is_ended xs) ≡ false → Some l ≡ setting_line (w ∷ xs)
        → line_in scope ws ≡ Some l
    setting_first l e f = not-closing e ∙ ap (λ o. or_else o (own_line scope (w ∷ xs))) (sym f)

    pub own_else : (bytes_eq (codes "}") w && is_ended xs) ≡ false → None ≡ setting_line (w ∷ xs)
        → line_in scope ws ≡ own_line scope (w ∷ xs)
    own_else e f = not-closing e ∙ ap (λ o. or_else o (own_line scope (w ∷ xs))) (sym f)
