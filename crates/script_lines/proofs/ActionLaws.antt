-- What a body does, by the first word of a line.
use Rattle.std.proofs.Common.{◌≡◌, true, false, List, [], ◌∷◌, Some, None, refl, ap, ◌∙◌}
use Rattle.std.specs.Prelude.{option_map, codes, take, drop}
use Rattle.std.specs.Str.{bytes_eq}
use Rattle.body_vm.specs.declared.Action.TheVariants as action
use Rattle.body_vm.specs.declared.Operand.TheVariants as operand
use Rattle.call_script.specs.Spelling.{Word}
use Rattle.call_script.specs.Parser.{arguments, or_else, first_to_read}
use Rattle.call_script.specs.Line.{Do, Temp, Ocall, Register, Block, Value, CellNumber, SkipCount}
use Rattle.script_lines.specs.declared.line.Calculation.{Calculation}
use Rattle.script_lines.specs.declared.line.Calculation.TheVariants as how
use Rattle.script_lines.specs.declared.shapes.Shape.TheVariants.{Any, Number, Name}
use Rattle.script_lines.specs.Lines.{calculation_of, calculation_word, alone, ◌·◌, register, block, value, cell, skip, register_in, block_in, value_in, number_in}
use Rattle.script_lines.specs.Shapes.{reads, is_ended, two, three, four}
use Rattle.script_lines.specs.Arguments.{last_arguments}
use Rattle.script_lines.specs.Tables.{action_lines, calculation, on_block, on_cell, jump, action_line, body_line}
use Rattle.script_lines.proofs.RowLaws.{or-none, two-is, ended-with, do-two, do-three, do-four, read-either}

-- ---- calculations

pub calculation_row : (k : Calculation) (ws : List Word) → calculation (calculation_word k ∷ ws)
    ≡ option_map (λ p. Do (alone (calculation_of k) · register p.0 · value p.1)) (two Any Any ws)
unfolding calculation
calculation_row how.Set ws = or-none _ ∙ do-two (alone action.Set) Register register_in Any Value value_in Any ws
calculation_row how.Add ws = or-none _ ∙ do-two (alone action.Add) Register register_in Any Value value_in Any ws
calculation_row how.Sub ws = or-none _ ∙ do-two (alone action.Sub) Register register_in Any Value value_in Any ws
calculation_row how.Mul ws = or-none _ ∙ do-two (alone action.Mul) Register register_in Any Value value_in Any ws
calculation_row how.And ws = or-none _ ∙ do-two (alone action.And) Register register_in Any Value value_in Any ws
calculation_row how.Or ws = or-none _ ∙ do-two (alone action.Or) Register register_in Any Value value_in Any ws
calculation_row how.Xor ws = or-none _ ∙ do-two (alone action.Xor) Register register_in Any Value value_in Any ws

-- no row begins with the word
pub no_calculation : (w : Word) (ws : List Word) → bytes_eq (codes "set") w ≡ false → bytes_eq (codes "add") w ≡ false
    → bytes_eq (codes "sub") w ≡ false → bytes_eq (codes "mul") w ≡ false → bytes_eq (codes "and") w ≡ false
    → bytes_eq (codes "or") w ≡ false → bytes_eq (codes "xor") w ≡ false → calculation (w ∷ ws) ≡ None
unfolding calculation
no_calculation w ws a b c d e f g = rw (a, b, c, d, e, f, g) refl

-- ---- the other actions

module _ (ws : List Word) where
  pub len_row : on_block (codes "len" ∷ ws)
      ≡ option_map (λ p. Do (alone action.Len · register p.0 · block p.1)) (two Any Any ws)
  unfolding on_block
  len_row = or-none _ ∙ do-two (alone action.Len) Register register_in Any Block block_in Any ws

  pub sum_row : on_block (codes "sum" ∷ ws)
      ≡ option_map (λ p. Do (alone action.Sum · register p.0 · block p.1)) (two Any Any ws)
  unfolding on_block
  sum_row = or-none _ ∙ do-two (alone action.Sum) Register register_in Any Block block_in Any ws

  pub get_row : on_block (codes "get" ∷ ws)
      ≡ option_map (λ p. Do (alone action.Get · register p.0 · block p.1.0 · value p.1.1)) (three Any Any Any ws)
  unfolding on_block
  get_row = or-none _ ∙ do-three (alone action.Get) Register register_in Any Block block_in Any Value value_in Any ws

  pub put_row : on_block (codes "put" ∷ ws)
      ≡ option_map (λ p. Do (alone action.Put · block p.0 · value p.1.0 · value p.1.1)) (three Any Any Any ws)
  unfolding on_block
  put_row = or-none _ ∙ do-three (alone action.Put) Block block_in Any Value value_in Any Value value_in Any ws

  pub fill_row : on_block (codes "fill" ∷ ws)
      ≡ option_map (λ p. Do (alone action.Fill · block p.0 · value p.1)) (two Any Any ws)
  unfolding on_block
  fill_row = or-none _ ∙ do-two (alone action.Fill) Block block_in Any Value value_in Any ws

  pub copy_row : on_block (codes "copy" ∷ ws)
      ≡ option_map (λ p. Do (alone action.Copy · block p.0 · block p.1)) (two Any Any ws)
  unfolding on_block
  copy_row = or-none _ ∙ do-two (alone action.Copy) Block block_in Any Block block_in Any ws

  pub cload_row : on_cell (codes "cload" ∷ ws)
      ≡ option_map (λ p. Do (alone action.Cload · register p.0 · cell p.1)) (two Any Number ws)
  unfolding on_cell
  cload_row = or-none _ ∙ do-two (alone action.Cload) Register register_in Any CellNumber number_in Number ws

  pub cswap_row : on_cell (codes "cswap" ∷ ws)
      ≡ option_map (λ p. Do (alone action.Cswap · register p.0 · cell p.1.0 · value p.1.1)) (three Any Number Any ws)
  unfolding on_cell
  cswap_row = or-none _
      ∙ do-three (alone action.Cswap) Register register_in Any CellNumber number_in Number Value value_in Any ws

  pub cadd_row : on_cell (codes "cadd" ∷ ws)
      ≡ option_map (λ p. Do (alone action.Cadd · register p.0 · cell p.1.0 · value p.1.1)) (three Any Number Any ws)
  unfolding on_cell
  cadd_row = or-none _
      ∙ do-three (alone action.Cadd) Register register_in Any CellNumber number_in Number Value value_in Any ws

  pub ccas_row : on_cell (codes "ccas" ∷ ws)
      ≡ option_map (λ p. Do (alone action.Ccas · register p.0 · cell p.1.0 · value p.1.1.0 · value p.1.1.1))
      (four Any Number Any Any ws)
  unfolding on_cell
  ccas_row = or-none _
      ∙ do-four (alone action.Ccas) Register register_in Any CellNumber number_in Number Value value_in Any
      Value value_in Any ws

  pub skipz_row : jump (codes "skipz" ∷ ws)
      ≡ option_map (λ p. Do (alone action.Skipz · register p.0 · skip p.1)) (two Any Number ws)
  unfolding jump
  skipz_row = or-none _ ∙ do-two (alone action.Skipz) Register register_in Any SkipCount number_in Number ws

  pub skipnz_row : jump (codes "skipnz" ∷ ws)
      ≡ option_map (λ p. Do (alone action.Skipnz · register p.0 · skip p.1)) (two Any Number ws)
  unfolding jump
  skipnz_row = or-none _ ∙ do-two (alone action.Skipnz) Register register_in Any SkipCount number_in Number ws

  pub return_alone : ws ≡ [] → jump (codes "return" ∷ ws) ≡ Some (Do (alone (action.Return (operand.Number 0))))
  unfolding jump
  return_alone e = rw e refl

  module _ (w : Word) (xs : List Word) (first : ws ≡ w ∷ xs) where
    pub return_value : is_ended xs ≡ true → jump (codes "return" ∷ ws) ≡ Some (Do (alone action.Return · value w))
    unfolding jump
    return_value e = rw first (go xs e)
      where
        go : (ys : List Word) → is_ended ys ≡ true
            → jump (codes "return" ∷ w ∷ ys) ≡ Some (Do (alone action.Return · value w))
        go [] e = refl
        go (y ∷ ys) e = absurd cc

    pub return_too_long : is_ended xs ≡ false → jump (codes "return" ∷ ws) ≡ None
    unfolding jump
    return_too_long e = rw first (go xs e)
      where
        go : (ys : List Word) → is_ended ys ≡ false → jump (codes "return" ∷ w ∷ ys) ≡ None
        go (y ∷ ys) e = refl
        go [] e = absurd cc

-- no row of these begins with the word
pub no_block_line : (w : Word) (ws : List Word) → bytes_eq (codes "len") w ≡ false → bytes_eq (codes "sum") w ≡ false
    → bytes_eq (codes "get") w ≡ false → bytes_eq (codes "put") w ≡ false → bytes_eq (codes "fill") w ≡ false
    → bytes_eq (codes "copy") w ≡ false → on_block (w ∷ ws) ≡ None
unfolding on_block
no_block_line w ws a b c d e f = rw (a, b, c, d, e, f) refl

pub no_cell_line : (w : Word) (ws : List Word) → bytes_eq (codes "cload") w ≡ false
    → bytes_eq (codes "cswap") w ≡ false → bytes_eq (codes "cadd") w ≡ false → bytes_eq (codes "ccas") w ≡ false
    → on_cell (w ∷ ws) ≡ None
unfolding on_cell
no_cell_line w ws a b c d = rw (a, b, c, d) refl

pub no_jump : (w : Word) (ws : List Word) → bytes_eq (codes "skipz") w ≡ false → bytes_eq (codes "skipnz") w ≡ false
    → bytes_eq (codes "return") w ≡ false → jump (w ∷ ws) ≡ None
unfolding jump
no_jump w ws a b c = rw (a, b, c) refl

-- ---- lines of bodies

-- an action is one of the four kinds
pub one_of_four : (ws : List Word)
    → action_line ws ≡ or_else (calculation ws) (or_else (on_block ws) (or_else (on_cell ws) (jump ws)))
unfolding action_line calculation on_block on_cell jump
one_of_four ws =
    read-either (take 7 action_lines) (drop 7 action_lines) ws
    ∙ ap (λ o. or_else (first_to_read (take 7 action_lines) ws) o)
    (read-either (take 6 (drop 7 action_lines)) (drop 13 action_lines) ws
    ∙ ap (λ o. or_else (first_to_read (take 6 (drop 7 action_lines)) ws) o)
    (read-either (take 4 (drop 13 action_lines)) (drop 17 action_lines) ws))

module _ (ws : List Word) where
  pub temp_row : body_line (codes "temp" ∷ ws) ≡ option_map (λ p. Temp p.0 p.1) (two Name Number ws)
  unfolding body_line
  temp_row = or-none _ ∙ two-is Temp Name Number ws

  pub ocall_without_return : reads Any ws ≡ None → body_line (codes "ocall" ∷ ws) ≡ None
  unfolding body_line
  ocall_without_return e = rw e refl

  module _ (r : Word) (xs : List Word) (returned : reads Any ws ≡ Some (r, xs)) where
    pub ocall_without_status : reads Any xs ≡ None → body_line (codes "ocall" ∷ ws) ≡ None
    unfolding body_line
    ocall_without_status e = rw (returned, e) refl

    module _ (q : Word) (ys : List Word) (status : reads Any xs ≡ Some (q, ys)) where
      pub ocall_without_name : reads Name ys ≡ None → body_line (codes "ocall" ∷ ws) ≡ None
      unfolding body_line
      ocall_without_name e = rw (returned, status, e) refl

      pub ocall_row : (w : Word) (zs : List Word) → reads Name ys ≡ Some (w, zs)
          → body_line (codes "ocall" ∷ ws) ≡ option_map (Ocall r q w) (last_arguments zs)
      unfolding body_line last_arguments
      ocall_row w zs e = rw (returned, status, e) (or-none _ ∙ ended-with (Ocall r q w) (arguments zs))

pub other_body_line : (w : Word) (ws : List Word) → bytes_eq (codes "temp") w ≡ false
    → bytes_eq (codes "ocall") w ≡ false
    → body_line (w ∷ ws) ≡ action_line (w ∷ ws)
unfolding body_line action_line
other_body_line w ws a b = rw (a, b) refl

pub ruleset return_rows = (return_alone, return_value, return_too_long)

pub ruleset ocall_too_short = (ocall_without_return, ocall_without_status, ocall_without_name)
