-- The lines of a script, as their definition has them.
use Rattle.std.specs.Prelude.{ℕ, [], unwrap_or, codes}
use Rattle.sgx_base.specs.Numbers.{spelled_number}
use Rattle.body_vm.specs.declared.Operand.{Operand}
use Rattle.body_vm.specs.declared.Operand.TheVariants.{Number}
use Rattle.body_vm.specs.declared.Action.{Action}
use Rattle.body_vm.specs.declared.Action.TheVariants as action
use Rattle.call_script.specs.Spelling.{Word}
use Rattle.call_script.specs.Settings as settings
use Rattle.call_script.specs.BodyNames.{BodyNames, register_of, block_of, operand_of}
use Rattle.call_script.specs.Line as line
use Rattle.call_script.specs.Line.{Phrase, word_phrase, applied, Register, Block, Value, CellNumber, SkipCount}
use Rattle.call_script.specs.Block as blocks
use Rattle.script_lines.specs.declared.line.Setting.{Setting}
use Rattle.script_lines.specs.declared.line.Setting.TheVariants as setting
use Rattle.script_lines.specs.declared.line.Calculation.{Calculation}
use Rattle.script_lines.specs.declared.line.Calculation.TheVariants as calculation
use Rattle.script_lines.specs.declared.line.ActionWords.{ActionWords}
use Rattle.script_lines.specs.declared.line.ActionWords.TheVariants as does
use Rattle.script_lines.specs.declared.line.Scope.{Scope}
use Rattle.script_lines.specs.declared.line.Scope.TheVariants as scope
use Rattle.script_lines.specs.declared.line.Line.{Line}
use Rattle.script_lines.specs.declared.line.Line.TheVariants as its

abbrev pub setting_of : Setting → settings.Setting
setting_of setting.Host = settings.host
setting_of setting.Stack = settings.stack
setting_of setting.Arena = settings.arena
setting_of setting.Cells = settings.cells
setting_of setting.Retries = settings.retries
setting_of setting.TrustedWorkers = settings.tworkers
setting_of setting.UntrustedWorkers = settings.uworkers
setting_of setting.Slots = settings.slots

-- ---- actions

abbrev pub calculation_of : Calculation → ℕ → Operand → Action
calculation_of calculation.Set = action.Set
calculation_of calculation.Add = action.Add
calculation_of calculation.Sub = action.Sub
calculation_of calculation.Mul = action.Mul
calculation_of calculation.And = action.And
calculation_of calculation.Or = action.Or
calculation_of calculation.Xor = action.Xor

abbrev pub calculation_word : Calculation → Word
calculation_word calculation.Set = codes "set"
calculation_word calculation.Add = codes "add"
calculation_word calculation.Sub = codes "sub"
calculation_word calculation.Mul = codes "mul"
calculation_word calculation.And = codes "and"
calculation_word calculation.Or = codes "or"
calculation_word calculation.Xor = codes "xor"

-- a phrase without words
abbrev pub alone : {A : Type 0} → A → Phrase A
alone a = record { parts = []; meaning = λ names. a }

infixl 70 ◌·◌
abbrev pub ◌·◌ : {A C : Type 0} → Phrase (A → C) → Phrase A → Phrase C
f · a = applied f a

-- a word in each role
abbrev pub register_in : BodyNames → Word → ℕ
register_in names w = unwrap_or (register_of w) 0

abbrev pub block_in : BodyNames → Word → ℕ
block_in names w = unwrap_or (block_of names w) 0

abbrev pub value_in : BodyNames → Word → Operand
value_in names w = unwrap_or (operand_of names w) (Number 0)

abbrev pub number_in : BodyNames → Word → ℕ
number_in names w = unwrap_or (spelled_number w) 0

abbrev pub register : Word → Phrase ℕ
register w = word_phrase Register register_in w

abbrev pub block : Word → Phrase ℕ
block w = word_phrase Block block_in w

abbrev pub value : Word → Phrase Operand
value w = word_phrase Value value_in w

abbrev pub cell : Word → Phrase ℕ
cell w = word_phrase CellNumber number_in w

abbrev pub skip : Word → Phrase ℕ
skip w = word_phrase SkipCount number_in w

abbrev pub phrase_of : ActionWords → Phrase Action
phrase_of (does.Calculate how r v) = alone (calculation_of how) · register r.now · value v.now
phrase_of (does.Len r b) = alone action.Len · register r.now · block b.now
phrase_of (does.Sum r b) = alone action.Sum · register r.now · block b.now
phrase_of (does.Get r b v) = alone action.Get · register r.now · block b.now · value v.now
phrase_of (does.Put b v w) = alone action.Put · block b.now · value v.now · value w.now
phrase_of (does.Fill b v) = alone action.Fill · block b.now · value v.now
phrase_of (does.Copy b c) = alone action.Copy · block b.now · block c.now
phrase_of (does.Cload r i) = alone action.Cload · register r.now · cell i.now
phrase_of (does.Cswap r i v) = alone action.Cswap · register r.now · cell i.now · value v.now
phrase_of (does.Cadd r i v) = alone action.Cadd · register r.now · cell i.now · value v.now
phrase_of (does.Ccas r i v w) = alone action.Ccas · register r.now · cell i.now · value v.now · value w.now
phrase_of (does.Skipz r n) = alone action.Skipz · register r.now · skip n.now
phrase_of (does.Skipnz r n) = alone action.Skipnz · register r.now · skip n.now
phrase_of (does.Return v) = alone action.Return · value v.now
phrase_of does.End = alone (action.Return (Number 0))

-- ---- lines

abbrev pub line_of : Line → line.Line
line_of (its.Set s number) = line.Set (setting_of s) number.now
line_of (its.Foreign name size alignment) = line.Foreign name.now size.now alignment.now
line_of (its.Bytes address hex) = line.Bytes address.now hex.now
line_of (its.Cell cell value) = line.Cell cell.now value.now
line_of (its.Race access address hex) = line.Race access.now address.now hex.now
line_of (its.Body name) = line.Body name.now
line_of (its.Handler name) = line.Handler name.now
line_of its.Thread = line.Thread
line_of its.Racer = line.Racer
line_of (its.Call name args) = line.Call name.now args
line_of (its.Raw ordinal address) = line.Raw ordinal.now address.now
line_of (its.Poke place hex) = line.Poke place.now hex.now
line_of (its.Peek place length) = line.Peek place.now length.now
line_of (its.Repeat times) = line.Repeat times.now
line_of (its.Return value) = line.Return value.now
line_of (its.Status status) = line.Status status.now
line_of (its.Do a) = line.Do (phrase_of a)
line_of (its.Temp name size) = line.Temp name.now size.now
line_of (its.Ocall returned status name args) = line.Ocall returned.now status.now name.now args
line_of its.Close = line.Close

abbrev pub scope_of : Scope → blocks.Scope
scope_of scope.Outside = blocks.Outside
scope_of (scope.InBody name) = blocks.InBody name.now
scope_of (scope.InHandler name) = blocks.InHandler name.now
scope_of scope.InThread = blocks.InThread
scope_of scope.InRacer = blocks.InRacer
