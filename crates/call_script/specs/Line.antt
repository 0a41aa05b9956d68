-- The forms of lines: what a line is by its words alone, with the words that stand in its places.
use Rattle.std.specs.Prelude.{ℕ, List, [], ◌∷◌, ◌++◌, map, unwrap_or}
use Prim.Native.String.{String}
use Rattle.std.specs.Str.{bytes_eq}
use Rattle.sgx_base.specs.Numbers.{spelled_number}
use Rattle.body_vm.specs.declared.Operand.{Operand}
use Rattle.body_vm.specs.declared.Operand.TheVariants.{Number}
use Rattle.body_vm.specs.declared.Action.{Action}
use Rattle.body_vm.specs.declared.Action.TheVariants as action
use Rattle.call_script.specs.Spelling.{Word}
use Rattle.call_script.specs.Parser.{Parser, satisfying, ◌>>=◌, ◌<*>◌, ◌<*◌, pure, said, keyword, any, number, name, place, arguments}
use Rattle.call_script.specs.Settings.{Setting, all_settings}
use Rattle.call_script.specs.BodyNames.{BodyNames, register_of, block_of, operand_of}

-- what a word of an action stands for: R, B, V, the number of a cell, or how many actions are passed over
pub data Role : Type 0 where
  Register : Role
  Block : Role
  Value : Role
  CellNumber : Role
  SkipCount : Role

pub record Part : Type 0 where
  pub role : Role
  pub word : Word

-- the parts of an action, or of its beginning, and what it means where the names mean what they do
pub record Phrase (A : Type 0) : Type 0 where
  pub parts : List Part
  pub meaning : BodyNames → A

-- a line of a script, by its words
pub data Line : Type 0 where
  Set : Setting → (number : Word) → Line
  Foreign : (name size alignment : Word) → Line
  Bytes : (address hex : Word) → Line
  Cell : (cell value : Word) → Line
  Race : (access address hex : Word) → Line
  Body : (name : Word) → Line
  Handler : (name : Word) → Line
  Thread : Line
  Racer : Line
  Call : (name : Word) → (args : List Word) → Line
  Raw : (ordinal address : Word) → Line
  Poke : (place hex : Word) → Line
  Peek : (place length : Word) → Line
  Repeat : (times : Word) → Line
  Return : (value : Word) → Line
  Status : (status : Word) → Line
  Do : Phrase Action → Line
  Temp : (name size : Word) → Line
  Ocall : (return status name : Word) → (args : List Word) → Line
  Close : Line

-- ---- outside of bodies

abbrev pub set : Setting → Parser Line
set s = satisfying (bytes_eq s.word) >>= λ w. pure (Set s) <*> number

abbrev pub settings : List (Parser Line)
settings = map set all_settings

abbrev pub declarations : List (Parser Line)
declarations =
    keyword "foreign" Foreign <*> name <*> number <*> number
    ∷ keyword "bytes" Bytes <*> number <*> any
    ∷ keyword "cell" Cell <*> number <*> number
    ∷ keyword "race" Race <*> number <*> number <*> any
    ∷ keyword "body" Body <*> name <* said "{"
    ∷ keyword "handler" Handler <*> name <* said "{"
    ∷ keyword "thread" Thread <* said "{"
    ∷ keyword "racer" Racer <* said "{"
    ∷ []

-- `return`, `status` and places in a frame have their form outside handlers too
abbrev pub racer_acts : List (Parser Line)
racer_acts =
    keyword "poke" Poke <*> place <*> any
    ∷ keyword "repeat" Repeat <*> number <* said "{"
    ∷ keyword "return" Return <*> number
    ∷ keyword "status" Status <*> number
    ∷ []

abbrev pub acts : List (Parser Line)
acts =
    keyword "call" Call <*> name <*> arguments
    ∷ keyword "raw" Raw <*> number <*> number
    ∷ keyword "peek" Peek <*> place <*> number
    ∷ racer_acts

abbrev pub close : Parser Line
close = keyword "}" Close

-- ---- in bodies

-- a word in a role, and what it means
abbrev pub word_phrase : {A : Type 0} → Role → (BodyNames → Word → A) → Word → Phrase A
word_phrase role meaning w =
    record { parts = record { role = role; word = w } ∷ []; meaning = λ names. meaning names w }

abbrev pub in_role : {A : Type 0} → Role → (BodyNames → Word → A) → Parser Word → Parser (Phrase A)
in_role role meaning p = p >>= λ w. pure (word_phrase role meaning w)

-- a register, a block, a value
abbrev pub R : Parser (Phrase ℕ)
R = in_role Register (λ names w. unwrap_or (register_of w) 0) any

abbrev pub B : Parser (Phrase ℕ)
B = in_role Block (λ names w. unwrap_or (block_of names w) 0) any

abbrev pub V : Parser (Phrase Operand)
V = in_role Value (λ names w. unwrap_or (operand_of names w) (Number 0)) any

-- the number of a cell, and how many actions are passed over
abbrev pub I : Parser (Phrase ℕ)
I = in_role CellNumber (λ names w. unwrap_or (spelled_number w) 0) number

abbrev pub N : Parser (Phrase ℕ)
N = in_role SkipCount (λ names w. unwrap_or (spelled_number w) 0) number

abbrev pub applied : {A C : Type 0} → Phrase (A → C) → Phrase A → Phrase C
applied f a = record { parts = f.parts ++ a.parts; meaning = λ names. f.meaning names (a.meaning names) }

-- the phrase that goes on with another
infixl 70 ◌·◌
abbrev pub ◌·◌ : {A C : Type 0} → Parser (Phrase (A → C)) → Parser (Phrase A) → Parser (Phrase C)
p · q = p >>= λ f. q >>= λ a. pure (applied f a)

abbrev pub verb : {A : Type 0} → String → A → Parser (Phrase A)
verb text a = keyword text (record { parts = []; meaning = λ names. a })

abbrev pub actions : List (Parser (Phrase Action))
actions =
    verb "set" action.Set · R · V
    ∷ verb "add" action.Add · R · V
    ∷ verb "sub" action.Sub · R · V
    ∷ verb "mul" action.Mul · R · V
    ∷ verb "and" action.And · R · V
    ∷ verb "or" action.Or · R · V
    ∷ verb "xor" action.Xor · R · V
    ∷ verb "len" action.Len · R · B
    ∷ verb "sum" action.Sum · R · B
    ∷ verb "get" action.Get · R · B · V
    ∷ verb "put" action.Put · B · V · V
    ∷ verb "fill" action.Fill · B · V
    ∷ verb "copy" action.Copy · B · B
    ∷ verb "cload" action.Cload · R · I
    ∷ verb "cswap" action.Cswap · R · I · V
    ∷ verb "cadd" action.Cadd · R · I · V
    ∷ verb "ccas" action.Ccas · R · I · V · V
    ∷ verb "skipz" action.Skipz · R · N
    ∷ verb "skipnz" action.Skipnz · R · N
    ∷ verb "return" action.Return · V
    ∷ verb "return" (action.Return (Number 0))
    ∷ []

abbrev pub doing : Parser (Phrase Action) → Parser Line
doing p = p >>= λ phrase. pure (Do phrase)

-- those that name a temporary or an OCALL are lines of their own
abbrev pub body_lines : List (Parser Line)
body_lines =
    keyword "temp" Temp <*> name <*> number
    ∷ keyword "ocall" Ocall <*> any <*> any <*> name <*> arguments
    ∷ map doing actions
