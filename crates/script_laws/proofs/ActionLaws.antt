-- An action without fault is sound.
use Rattle.std.proofs.Common.{arith, ℕ, ◌≡◌, ◌+◌, ◌-◌, ◌<◌, ◌≤◌, ◌^◌, Bool, true, false, List, [], ◌∷◌, length, map, Option, Some, None, refl, sym, ap, subst, ◌∙◌, leb-true, leb-false, ltb-true, ltb-false, drop}
use Rattle.std.specs.Prelude.{◌==◌, ◌&&◌, ◌||◌, not, unwrap_or, if◌then◌else◌, position, filter_map, count_by, is_none, nat_le, nat_lt, slice_get, slice_index}
use Rattle.std.specs.List.{AllByRecursion, slice_index_or}
use Rattle.std.specs.Str.{bytes_eq}
use Rattle.std.proofs.lemmas.Bool.{and_parts}
use Rattle.std.proofs.lemmas.List.Quantifiers.{position-Some}
use Rattle.std.proofs.lemmas.Option.{slice_get-get_or}
use Rattle.std.proofs.lemmas.List.{length-append, length-map}
use Prim.Native.String.{String}
use Rattle.sgx_base.specs.Numbers.{spelled_number, if_fits, is_decimal, is_hexadecimal, digits_value}
use Rattle.edl_interface.specs.declared.Class.{Class}
use Rattle.edl_interface.specs.declared.Param.{Param}
use Rattle.edl_interface.specs.declared.Function.{Function}
use Rattle.edl_interface.specs.declared.Interface.{Interface}
use Rattle.edl_interface.specs.Parameters.{marshalled}
use Rattle.body_vm.specs.declared.Operand.{Operand}
use Rattle.body_vm.specs.declared.Operand.TheVariants.{Number}
use Rattle.body_vm.specs.declared.Action.{Action}
use Rattle.body_vm.specs.declared.Action.TheVariants as action
use Rattle.call_script.specs.Spelling.{Word, is_number, is_dotted_name}
use Rattle.call_script.specs.Parser.{Parser, ◌<*>◌, pure, satisfying, said, keyword, any, number, name, place, arguments}
use Rattle.call_script.specs.Settings.{Setting, all_settings, cells}
use Rattle.call_script.specs.Block.{Scope, Outside, InBody, InHandler, InThread, InRacer, own_forms, forms_in, line_in, scope_at}
use Rattle.call_script.specs.BodyNames.{BodyNames, register_of, is_register_word, block_of, block_names, operand_by, param_of, is_value_class}
use Rattle.call_script.specs.Line.{Line, Set, Foreign, Bytes, Cell, Race, Body, Handler, Thread, Racer, Call, Raw, Poke, Peek, Repeat, Return, Status, Do, Temp, Ocall, Close, set, settings, declarations, acts, racer_acts, body_lines, doing, Phrase, Part, Role, word_phrase, in_role, Register, Block, Value, CellNumber, SkipCount, R, B, V, I, N, ◌·◌, verb, actions}
use Rattle.call_script.specs.Standing.{Standing, beside, whole_script, setting_before, names_in, names_at, body_function, temporary_name, is_action}
use Rattle.call_script.specs.Faults.{rows}
use Rattle.call_script.specs.Parts.{any_part, is_no_name, is_wide_number, is_unknown_name, is_no_cell, is_skip_past}
use Rattle.call_script.specs.Sound.{IsRegister, IsBlock, IsOperand, IsSoundAction, is_temporary_action}
use Rattle.script_laws.proofs.ParserLaws.{Gives, Gives-pure, Gives-bind, Gives-keyword, Gives-<*>, Gives-<*, All-left, All-right, All-++, All-map, first_to_read-is}

-- a name that is known is something
pub no-name : (w : Word) (none : Bool) → not (is_dotted_name w) ≡ false → (is_dotted_name w && none) ≡ false
    → none ≡ false
no-name w none e h = go (is_dotted_name w) none e h
  where
    go : (t none : Bool) → not t ≡ false → (t && none) ≡ false → none ≡ false
    go true none e h = h
    go false none e h = absurd cc

-- what is not none
pub there : {A : Type 0} (o : Option A) → is_none o ≡ false → (a : A) × (o ≡ Some a)
there None e = absurd cc
there (Some a) e = (a, refl)

last-of-four : (a b c d : Bool) → (a && (b && (c && d))) ≡ true → d ≡ true
last-of-four true true true d e = e
last-of-four true true false d e = absurd cc
last-of-four true false c d e = absurd cc
last-of-four false b c d e = absurd cc

-- `r0` to `r7` are below 8
pub register-below : (w : Word) (r : ℕ) → register_of w ≡ Some r → r < 8
register-below w r e = go (is_register_word w) refl e
  where
    go : (t : Bool) → is_register_word w ≡ t → (if t then Some (slice_index w 1 - 48) else None) ≡ Some r → r < 8
    go true h e =
        let bound : slice_index w 1 ≤ 55 =
        leb-true (slice_index w 1) 55
        (last-of-four (length w == 2) (slice_index w 0 == 114) (nat_le 48 (slice_index w 1))
        (nat_le (slice_index w 1) 55) h) in
        let is : slice_index w 1 - 48 ≡ r = ap (λ o. unwrap_or o 0) e in
        omega arith
    go false h e = absurd cc

-- a number of 64 bits
fits : (n k : ℕ) → if_fits n ≡ Some k → k < 2 ^ 64
fits n k e = go (nat_lt n (2 ^ 64)) refl e
  where
    go : (t : Bool) → nat_lt n (2 ^ 64) ≡ t → (if t then Some n else None) ≡ Some k → k < 2 ^ 64
    go true h e = subst (λ m. m < 2 ^ 64) (ap (λ o. unwrap_or o n) e) (ltb-true n (2 ^ 64) h)
    go false h e = absurd cc

pub number-fits : (w : Word) (k : ℕ) → spelled_number w ≡ Some k → k < 2 ^ 64
number-fits w k = go (is_decimal w) (is_hexadecimal w)
  where
    go : (s t : Bool)
        → (if s then if_fits (digits_value 10 w) else (if t then if_fits (digits_value 16 (drop 2 w)) else None))
        ≡ Some k → k < 2 ^ 64
    go true t e = fits _ k e
    go false true e = fits _ k e
    go false false e = absurd cc

-- the parameter that a word names, for a class that passes the test
param-found : (test : Class → Bool) (w : Word) (ps : List Param) (place : ℕ)
    → position (λ p. bytes_eq p.name w && test p.class) ps ≡ Some place
    → (p : Param) × (slice_get ps place ≡ Some p) × (test p.class ≡ true)
param-found test w [] place e = absurd cc
param-found test w (p ∷ ps) place e =
    let at = position-Some (λ q. bytes_eq q.name w && test q.class) (p ∷ ps) place p e in (
      slice_index_or (p ∷ ps) place p,
      slice_get-get_or (p ∷ ps) place p at.0,
      (and_parts (bytes_eq (slice_index_or (p ∷ ps) place p).name w) (test (slice_index_or (p ∷ ps) place p).class)
          at.1).1,
    )

-- a value is a number that is not too wide, or a name that is known
value-known : (dotted number : Bool) (spelled register param : Option ℕ) → (not number && not dotted) ≡ false
    → (number && is_none spelled) ≡ false
    → (dotted && is_none (operand_by spelled register param)) ≡ false
    → is_none (operand_by spelled register param) ≡ false
value-known dotted number (Some n) register param a b c = refl
value-known true number None register param a b c = c
value-known false true None register param a b c = absurd cc
value-known false false None register param a b c = absurd cc

module _ (i : Interface) (f : Function) (temporaries : List Word) (count left : ℕ) where
  abbrev pub names : BodyNames
  names = record { params = f.params; temporaries = temporaries }

  -- a part of which no rule finds fault
  pub record IsFine (p : Part) : Type 0 where
    pub name : is_no_name p.role p.word ≡ false
    pub narrow : is_wide_number p.role p.word ≡ false
    pub known : is_unknown_name names p.role p.word ≡ false
    pub cell : is_no_cell count p.role p.word ≡ false
    pub skip : is_skip_past left p.role p.word ≡ false

  -- where its parts are fine, what the phrase means is so
  abbrev pub Means : {A : Type 0} → (A → Type 0) → Phrase A → Type 0
  Means P phrase = AllByRecursion IsFine phrase.parts → P (phrase.meaning names)

  -- it takes what is so to what is so
  abbrev From : {A C : Type 0} → (A → Type 0) → (C → Type 0) → (A → C) → Type 0
  From {A} Q P g = (a : A) → Q a → P (g a)

  Gives-· : {A C : Type 0} (P : C → Type 0) (Q : A → Type 0) (p : Parser (Phrase (A → C))) (q : Parser (Phrase A))
      → Gives (Means (From Q P)) p → Gives (Means Q) q → Gives (Means P) (p · q)
  Gives-· P Q p q h g =
      Gives-bind _ (Means P) p _ h (λ x k. Gives-bind _ (Means P) q _ g (λ y m.
      Gives-pure (Means P) _ (λ fine. k (All-left IsFine x.parts y.parts fine) (y.meaning names)
      (m (All-right IsFine x.parts y.parts fine)))))

  Gives-word : {A : Type 0} (P : A → Type 0) (role : Role) (meaning : BodyNames → Word → A) (p : Parser Word)
      → ((w : Word) → IsFine (record { role = role; word = w }) → P (meaning names w))
      → Gives (Means P) (in_role role meaning p)
  Gives-word P role meaning p h =
      Gives-bind (λ w. Unit {0}) (Means P) p _ (λ ws w rest e. tt)
      (λ w k. Gives-pure (Means P) (word_phrase role meaning w) (λ fine. h w fine.0))

  Gives-R : Gives (Means IsRegister) R
  Gives-R = Gives-word IsRegister Register _ any (λ w fine.
      let r = there (register_of w) (no-name w (is_none (register_of w)) fine.name fine.known) in
      rw r.1 (register-below w r.0 r.1))

  pub block-count : length (block_names names) ≡ length (marshalled f) + length temporaries
  block-count =
      length-append (map (λ p. p.name) (marshalled f)) temporaries
      ∙ ap (λ n. n + length temporaries) (length-map (marshalled f) (λ p. p.name))

  Gives-B : Gives (Means (IsBlock i count f (length temporaries))) B
  Gives-B = Gives-word (IsBlock i count f (length temporaries)) Block _ any (λ w fine.
      let b = there (block_of names w) (no-name w (is_none (block_of names w)) fine.name fine.known) in
      let below : b.0 < length (block_names names) = (position-Some (bytes_eq w) (block_names names) b.0 [] b.1).0 in
      let total = block-count in
      rw b.1 (omega arith))

  -- what a value means
  pub operand-is : (w : Word) (number register param : Option ℕ) → spelled_number w ≡ number → register_of w ≡ register
      → param_of is_value_class names w ≡ param
      → is_none (operand_by number register param) ≡ false
      → IsOperand i count f (length temporaries) (unwrap_or (operand_by number register param) (Number 0))
  operand-is w (Some n) register param a b c e = number-fits w n a
  operand-is w None (Some r) param a b c e = register-below w r b
  operand-is w None None (Some place) a b c e = param-found is_value_class w f.params place c
  operand-is w None None None a b c e = absurd cc

  Gives-V : Gives (Means (IsOperand i count f (length temporaries))) V
  Gives-V =
      Gives-word (IsOperand i count f (length temporaries)) Value _ any (λ w fine. operand-is w _ _ _ refl refl refl
      (value-known (is_dotted_name w) (is_number w) (spelled_number w) (register_of w)
      (param_of is_value_class names w) fine.name fine.narrow fine.known))

  Gives-I : Gives (Means (λ cell. cell < count)) I
  Gives-I = Gives-word (λ cell. cell < count) CellNumber _ number (λ w fine. leb-false _ _ fine.cell)

  Gives-N : Gives (Means (λ n. n ≤ left)) N
  Gives-N = Gives-word (λ n. n ≤ left) SkipCount _ number (λ w fine. ltb-false _ _ fine.skip)

  -- ---- the actions

  abbrev IsAction : Action → Type 0
  IsAction a = IsSoundAction i count f (length temporaries) left a × (is_temporary_action a ≡ false)

  Gives-verb : {A : Type 0} (P : A → Type 0) (text : String) (a : A) → P a → Gives (Means P) (verb text a)
  Gives-verb P text a h = Gives-keyword (Means P) text _ (λ fine. h)

  abbrev IsBlockHere : ℕ → Type 0
  IsBlockHere = IsBlock i count f (length temporaries)

  abbrev IsOperandHere : Operand → Type 0
  IsOperandHere = IsOperand i count f (length temporaries)

  abbrev IsCellHere : ℕ → Type 0
  IsCellHere cell = cell < count

  abbrev IsSkipHere : ℕ → Type 0
  IsSkipHere n = n ≤ left

  Gives-RV-row : (text : String) (a : ℕ → Operand → Action) → (From IsRegister (From IsOperandHere IsAction)) a
      → Gives (Means IsAction) (verb text a · R · V)
  Gives-RV-row text a h =
      Gives-· IsAction IsOperandHere (verb text a · R) V
      (Gives-· (From IsOperandHere IsAction) IsRegister (verb text a) R
      (Gives-verb (From IsRegister (From IsOperandHere IsAction)) text a h) Gives-R) Gives-V

  Gives-RB-row : (text : String) (a : ℕ → ℕ → Action) → (From IsRegister (From IsBlockHere IsAction)) a
      → Gives (Means IsAction) (verb text a · R · B)
  Gives-RB-row text a h =
      Gives-· IsAction IsBlockHere (verb text a · R) B (Gives-· (From IsBlockHere IsAction) IsRegister (verb text a) R
      (Gives-verb (From IsRegister (From IsBlockHere IsAction)) text a h) Gives-R) Gives-B

  Gives-RBV-row : (text : String) (a : ℕ → ℕ → Operand → Action)
      → (From IsRegister (From IsBlockHere (From IsOperandHere IsAction))) a
      → Gives (Means IsAction) (verb text a · R · B · V)
  Gives-RBV-row text a h =
      Gives-· IsAction IsOperandHere (verb text a · R · B) V
      (Gives-· (From IsOperandHere IsAction) IsBlockHere (verb text a · R) B
      (Gives-· (From IsBlockHere (From IsOperandHere IsAction)) IsRegister (verb text a) R
      (Gives-verb (From IsRegister (From IsBlockHere (From IsOperandHere IsAction))) text a h) Gives-R) Gives-B)
      Gives-V

  Gives-BVV-row : (text : String) (a : ℕ → Operand → Operand → Action)
      → (From IsBlockHere (From IsOperandHere (From IsOperandHere IsAction))) a
      → Gives (Means IsAction) (verb text a · B · V · V)
  Gives-BVV-row text a h =
      Gives-· IsAction IsOperandHere (verb text a · B · V) V
      (Gives-· (From IsOperandHere IsAction) IsOperandHere (verb text a · B) V
      (Gives-· (From IsOperandHere (From IsOperandHere IsAction)) IsBlockHere (verb text a) B
      (Gives-verb (From IsBlockHere (From IsOperandHere (From IsOperandHere IsAction))) text a h) Gives-B) Gives-V)
      Gives-V

  Gives-BV-row : (text : String) (a : ℕ → Operand → Action) → (From IsBlockHere (From IsOperandHere IsAction)) a
      → Gives (Means IsAction) (verb text a · B · V)
  Gives-BV-row text a h =
      Gives-· IsAction IsOperandHere (verb text a · B) V
      (Gives-· (From IsOperandHere IsAction) IsBlockHere (verb text a) B
      (Gives-verb (From IsBlockHere (From IsOperandHere IsAction)) text a h) Gives-B) Gives-V

  Gives-BB-row : (text : String) (a : ℕ → ℕ → Action) → (From IsBlockHere (From IsBlockHere IsAction)) a
      → Gives (Means IsAction) (verb text a · B · B)
  Gives-BB-row text a h =
      Gives-· IsAction IsBlockHere (verb text a · B) B (Gives-· (From IsBlockHere IsAction) IsBlockHere (verb text a) B
      (Gives-verb (From IsBlockHere (From IsBlockHere IsAction)) text a h) Gives-B) Gives-B

  Gives-RI-row : (text : String) (a : ℕ → ℕ → Action) → (From IsRegister (From IsCellHere IsAction)) a
      → Gives (Means IsAction) (verb text a · R · I)
  Gives-RI-row text a h =
      Gives-· IsAction IsCellHere (verb text a · R) I (Gives-· (From IsCellHere IsAction) IsRegister (verb text a) R
      (Gives-verb (From IsRegister (From IsCellHere IsAction)) text a h) Gives-R) Gives-I

  Gives-RIV-row : (text : String) (a : ℕ → ℕ → Operand → Action)
      → (From IsRegister (From IsCellHere (From IsOperandHere IsAction))) a
      → Gives (Means IsAction) (verb text a · R · I · V)
  Gives-RIV-row text a h =
      Gives-· IsAction IsOperandHere (verb text a · R · I) V
      (Gives-· (From IsOperandHere IsAction) IsCellHere (verb text a · R) I
      (Gives-· (From IsCellHere (From IsOperandHere IsAction)) IsRegister (verb text a) R
      (Gives-verb (From IsRegister (From IsCellHere (From IsOperandHere IsAction))) text a h) Gives-R) Gives-I)
      Gives-V

  Gives-RIVV-row : (text : String) (a : ℕ → ℕ → Operand → Operand → Action)
      → (From IsRegister (From IsCellHere (From IsOperandHere (From IsOperandHere IsAction)))) a
      → Gives (Means IsAction) (verb text a · R · I · V · V)
  Gives-RIVV-row text a h =
      Gives-· IsAction IsOperandHere (verb text a · R · I · V) V
      (Gives-· (From IsOperandHere IsAction) IsOperandHere (verb text a · R · I) V
      (Gives-· (From IsOperandHere (From IsOperandHere IsAction)) IsCellHere (verb text a · R) I
      (Gives-· (From IsCellHere (From IsOperandHere (From IsOperandHere IsAction))) IsRegister (verb text a) R
      (Gives-verb (From IsRegister (From IsCellHere (From IsOperandHere (From IsOperandHere IsAction)))) text a h)
      Gives-R) Gives-I) Gives-V) Gives-V

  Gives-RN-row : (text : String) (a : ℕ → ℕ → Action) → (From IsRegister (From IsSkipHere IsAction)) a
      → Gives (Means IsAction) (verb text a · R · N)
  Gives-RN-row text a h =
      Gives-· IsAction IsSkipHere (verb text a · R) N (Gives-· (From IsSkipHere IsAction) IsRegister (verb text a) R
      (Gives-verb (From IsRegister (From IsSkipHere IsAction)) text a h) Gives-R) Gives-N

  Gives-V-row : (text : String) (a : Operand → Action) → (From IsOperandHere IsAction) a
      → Gives (Means IsAction) (verb text a · V)
  Gives-V-row text a h =
      Gives-· IsAction IsOperandHere (verb text a) V (Gives-verb (From IsOperandHere IsAction) text a h) Gives-V

  -- what each of the actions gives
  pub Gives-actions : AllByRecursion (Gives (Means IsAction)) actions
  Gives-actions = (
    Gives-RV-row "set" action.Set (λ x hx y hy. ((hx, hy), refl)),
    (
      Gives-RV-row "add" action.Add (λ x hx y hy. ((hx, hy), refl)),
      (
        Gives-RV-row "sub" action.Sub (λ x hx y hy. ((hx, hy), refl)),
        (
          Gives-RV-row "mul" action.Mul (λ x hx y hy. ((hx, hy), refl)),
          (
            Gives-RV-row "and" action.And (λ x hx y hy. ((hx, hy), refl)),
            (
              Gives-RV-row "or" action.Or (λ x hx y hy. ((hx, hy), refl)),
              (
                Gives-RV-row "xor" action.Xor (λ x hx y hy. ((hx, hy), refl)),
                (
                  Gives-RB-row "len" action.Len (λ x hx y hy. ((hx, hy), refl)),
                  (
                    Gives-RB-row "sum" action.Sum (λ x hx y hy. ((hx, hy), refl)),
                    (
                      Gives-RBV-row "get" action.Get (λ x hx y hy z hz. ((hx, hy, hz), refl)),
                      (
                        Gives-BVV-row "put" action.Put (λ x hx y hy z hz. ((hx, hy, hz), refl)),
                        (
                          Gives-BV-row "fill" action.Fill (λ x hx y hy. ((hx, hy), refl)),
                          (
                            Gives-BB-row "copy" action.Copy (λ x hx y hy. ((hx, hy), refl)),
                            (
                              Gives-RI-row "cload" action.Cload (λ x hx y hy. ((hx, hy), refl)),
                              (
                                Gives-RIV-row "cswap" action.Cswap (λ x hx y hy z hz. ((hx, hy, hz), refl)),
                                (
                                  Gives-RIV-row "cadd" action.Cadd (λ x hx y hy z hz. ((hx, hy, hz), refl)),
                                  (
                                    Gives-RIVV-row "ccas" action.Ccas (λ x hx y hy z hz u hu. ((hx, hy, hz, hu), refl)),
                                    (
                                      Gives-RN-row "skipz" action.Skipz (λ x hx y hy. ((hx, hy), refl)),
                                      (
                                        Gives-RN-row "skipnz" action.Skipnz (λ x hx y hy. ((hx, hy), refl)),
                                        (
                                          Gives-V-row "return" action.Return (λ x hx. (hx, refl)),
                                          (
                                            Gives-verb IsAction "return" (action.Return (Number 0)) (omega arith, refl),
                                            tt,
                                          ),
                                        ),
                                      ),
                                    ),
                                  ),
                                ),
                              ),
                            ),
                          ),
                        ),
                      ),
                    ),
                  ),
                ),
              ),
            ),
          ),
        ),
      ),
    ),
  )

  -- ---- lines

  -- a line that does something means a sound action, where its parts are fine
  abbrev pub IsFineLine : Line → Type 0
  IsFineLine (Do phrase) = Means IsAction phrase
  IsFineLine line = Unit {0}

  abbrev Takes : {A C : Type 0} → (C → Type 0) → (A → C) → Type 0
  Takes {A} P g = (a : A) → Unit {0} → P (g a)

  Gives-taken : {A C : Type 0} (P : C → Type 0) (p : Parser (A → C)) (q : Parser A) → Gives (Takes P) p
      → Gives P (p <*> q)
  Gives-taken P p q h = Gives-<*> P (λ a. Unit {0}) p q h (λ ws a rest e. tt)

  Gives-declarations : AllByRecursion (Gives IsFineLine) declarations
  Gives-declarations = (
    Gives-taken IsFineLine (keyword "foreign" Foreign <*> name <*> number) number
        (Gives-taken (Takes IsFineLine) (keyword "foreign" Foreign <*> name) number
        (Gives-taken (Takes (Takes IsFineLine)) (keyword "foreign" Foreign) name
        (Gives-keyword (Takes (Takes (Takes IsFineLine))) "foreign" Foreign (λ x hx y hy z hz. tt)))),
    (
      Gives-taken IsFineLine (keyword "bytes" Bytes <*> number) any
          (Gives-taken (Takes IsFineLine) (keyword "bytes" Bytes) number
          (Gives-keyword (Takes (Takes IsFineLine)) "bytes" Bytes (λ x hx y hy. tt))),
      (
        Gives-taken IsFineLine (keyword "cell" Cell <*> number) number
            (Gives-taken (Takes IsFineLine) (keyword "cell" Cell) number
            (Gives-keyword (Takes (Takes IsFineLine)) "cell" Cell (λ x hx y hy. tt))),
        (
          Gives-taken IsFineLine (keyword "race" Race <*> number <*> number) any
              (Gives-taken (Takes IsFineLine) (keyword "race" Race <*> number) number
              (Gives-taken (Takes (Takes IsFineLine)) (keyword "race" Race) number
              (Gives-keyword (Takes (Takes (Takes IsFineLine))) "race" Race (λ x hx y hy z hz. tt)))),
          (
            Gives-<* IsFineLine (keyword "body" Body <*> name) (said "{")
                (Gives-taken IsFineLine (keyword "body" Body) name
                (Gives-keyword (Takes IsFineLine) "body" Body (λ x hx. tt))),
            (
              Gives-<* IsFineLine (keyword "handler" Handler <*> name) (said "{")
                  (Gives-taken IsFineLine (keyword "handler" Handler) name
                  (Gives-keyword (Takes IsFineLine) "handler" Handler (λ x hx. tt))),
              (
                Gives-<* IsFineLine (keyword "thread" Thread) (said "{")
                    (Gives-keyword IsFineLine "thread" Thread (tt)),
                (
                  Gives-<* IsFineLine (keyword "racer" Racer) (said "{") (Gives-keyword IsFineLine "racer" Racer (tt)),
                  tt,
                ),
              ),
            ),
          ),
        ),
      ),
    ),
  )

  Gives-racer_acts : AllByRecursion (Gives IsFineLine) racer_acts
  Gives-racer_acts = (
    Gives-taken IsFineLine (keyword "poke" Poke <*> place) any
        (Gives-taken (Takes IsFineLine) (keyword "poke" Poke) place
        (Gives-keyword (Takes (Takes IsFineLine)) "poke" Poke (λ x hx y hy. tt))),
    (
      Gives-<* IsFineLine (keyword "repeat" Repeat <*> number) (said "{")
          (Gives-taken IsFineLine (keyword "repeat" Repeat) number
          (Gives-keyword (Takes IsFineLine) "repeat" Repeat (λ x hx. tt))),
      (
        Gives-taken IsFineLine (keyword "return" Return) number
            (Gives-keyword (Takes IsFineLine) "return" Return (λ x hx. tt)),
        (
          Gives-taken IsFineLine (keyword "status" Status) number
              (Gives-keyword (Takes IsFineLine) "status" Status (λ x hx. tt)),
          tt,
        ),
      ),
    ),
  )

  Gives-acts : AllByRecursion (Gives IsFineLine) acts
  Gives-acts = (
    Gives-taken IsFineLine (keyword "call" Call <*> name) arguments
        (Gives-taken (Takes IsFineLine) (keyword "call" Call) name
        (Gives-keyword (Takes (Takes IsFineLine)) "call" Call (λ x hx y hy. tt))),
    (
      Gives-taken IsFineLine (keyword "raw" Raw <*> number) number
          (Gives-taken (Takes IsFineLine) (keyword "raw" Raw) number
          (Gives-keyword (Takes (Takes IsFineLine)) "raw" Raw (λ x hx y hy. tt))),
      (
        Gives-taken IsFineLine (keyword "peek" Peek <*> place) number
            (Gives-taken (Takes IsFineLine) (keyword "peek" Peek) place
            (Gives-keyword (Takes (Takes IsFineLine)) "peek" Peek (λ x hx y hy. tt))),
        Gives-racer_acts,
      ),
    ),
  )

  Gives-set : (which : Setting) → Gives IsFineLine (set which)
  Gives-set which =
      Gives-bind (λ w. Unit {0}) IsFineLine (satisfying (bytes_eq which.word)) _ (λ ws w rest e. tt) (λ w k.
      Gives-taken IsFineLine (pure (Set which)) number (Gives-pure (Takes IsFineLine) (Set which) (λ n h. tt)))

  Gives-settings : AllByRecursion (Gives IsFineLine) settings
  Gives-settings =
      All-map (λ which. Unit {0}) (Gives IsFineLine) set all_settings (λ which h. Gives-set which) (
        tt,
        (tt, (tt, (tt, (tt, (tt, (tt, (tt, tt))))))),
      )

  Gives-doing : (p : Parser (Phrase Action)) → Gives (Means IsAction) p → Gives IsFineLine (doing p)
  Gives-doing p h = Gives-bind (Means IsAction) IsFineLine p _ h (λ phrase k. Gives-pure IsFineLine (Do phrase) k)

  Gives-body_lines : AllByRecursion (Gives IsFineLine) body_lines
  Gives-body_lines = (
    Gives-taken IsFineLine (keyword "temp" Temp <*> name) number
        (Gives-taken (Takes IsFineLine) (keyword "temp" Temp) name
        (Gives-keyword (Takes (Takes IsFineLine)) "temp" Temp (λ x hx y hy. tt))),
    (
      Gives-taken IsFineLine (keyword "ocall" Ocall <*> any <*> any <*> name) arguments
          (Gives-taken (Takes IsFineLine) (keyword "ocall" Ocall <*> any <*> any) name
          (Gives-taken (Takes (Takes IsFineLine)) (keyword "ocall" Ocall <*> any) any
          (Gives-taken (Takes (Takes (Takes IsFineLine))) (keyword "ocall" Ocall) any
          (Gives-keyword (Takes (Takes (Takes (Takes IsFineLine)))) "ocall" Ocall (λ x hx y hy z hz u hu. tt))))),
      All-map (Gives (Means IsAction)) (Gives IsFineLine) doing actions Gives-doing Gives-actions,
    ),
  )

  Gives-own : (scope : Scope) → AllByRecursion (Gives IsFineLine) (own_forms scope)
  Gives-own Outside = All-++ (Gives IsFineLine) declarations acts Gives-declarations Gives-acts
  Gives-own (InBody function) = Gives-body_lines
  Gives-own (InHandler function) = Gives-acts
  Gives-own InThread = Gives-acts
  Gives-own InRacer = Gives-racer_acts

  -- what stands in a place is a line whose action is sound, where its parts are fine
  pub line_in-is : (scope : Scope) (ws : List Word) (line : Line) → line_in scope ws ≡ Some line → IsFineLine line
  line_in-is scope ws line e =
      first_to_read-is IsFineLine (forms_in scope) (
        Gives-keyword IsFineLine "}" Close tt,
        All-++ (Gives IsFineLine) settings (own_forms scope) Gives-settings (Gives-own scope),
      ) ws line e

-- ---- a line of a body without fault

pub or-false : (a b : Bool) → (a || b) ≡ false → (a ≡ false) × (b ≡ false)
or-false true b e = absurd cc
or-false false b e = (refl, e)

module _ (i : Interface) (f : Function) (temporaries : List Word) (count left : ℕ) where
  all-fine : (parts : List Part) → any_part is_no_name parts ≡ false → any_part is_wide_number parts ≡ false
      → any_part (is_unknown_name (record { params = f.params; temporaries = temporaries })) parts ≡ false
      → any_part (is_no_cell count) parts ≡ false → any_part (is_skip_past left) parts ≡ false
      → AllByRecursion (IsFine i f temporaries count left) parts
  all-fine [] a b c d e = tt
  all-fine (p ∷ parts) a b c d e =
      let first = or-false (is_no_name p.role p.word) (any_part is_no_name parts) a in
      let second = or-false (is_wide_number p.role p.word) (any_part is_wide_number parts) b in
      let third = or-false (is_unknown_name (record { params = f.params; temporaries = temporaries }) p.role p.word)
      (any_part (is_unknown_name (record { params = f.params; temporaries = temporaries })) parts) c in
      let fourth = or-false (is_no_cell count p.role p.word) (any_part (is_no_cell count) parts) d in
      let fifth = or-false (is_skip_past left p.role p.word) (any_part (is_skip_past left) parts) e in (
        record { name = first.0; narrow = second.0; known = third.0; cell = fourth.0; skip = fifth.0 },
        all-fine parts first.1 second.1 third.1 fourth.1 fifth.1,
      )

-- the temporaries of the body around a line
abbrev pub temporaries_at : Standing → List Word
temporaries_at s = filter_map temporary_name (beside s (whole_script s))

-- in the body of a function, an action without fault is sound, and makes no temporary block
pub sound_action : (i : Interface) (racing left : Bool) (s : Standing) (f : Function) (ws : List Word)
    (phrase : Phrase Action)
    → body_function i (scope_at s.here) ≡ Some f → line_in (scope_at s.here) ws ≡ Some (Do phrase)
    → AllByRecursion (λ r. r.broken ≡ false) (rows i racing left s (Do phrase))
    → IsSoundAction i (setting_before s cells) f (length (temporaries_at s)) (count_by is_action (beside s s.behind))
    (phrase.meaning (names_at i s)) × (is_temporary_action (phrase.meaning (names_at i s)) ≡ false)
sound_action i racing left s f ws phrase around reads all =
    let same : names_at i s ≡ record { params = f.params; temporaries = temporaries_at s } =
    ap (λ g. names_in g (beside s (whole_script s))) around in
    let known : any_part (is_unknown_name (names_at i s)) phrase.parts ≡ false = all.1.1.1.1.1.1.1.0 in
    let named : any_part (is_unknown_name (record { params = f.params; temporaries = temporaries_at s })) phrase.parts
    ≡ false = subst (λ n. any_part (is_unknown_name n) phrase.parts ≡ false) same known in
    let fine = all-fine i f (temporaries_at s) (setting_before s cells) (count_by is_action (beside s s.behind))
    phrase.parts all.0 all.1.0 named all.1.1.1.1.1.1.1.1.1.0 all.1.1.1.1.1.1.1.1.0 in
    subst (λ n. IsSoundAction i (setting_before s cells) f (length (temporaries_at s))
    (count_by is_action (beside s s.behind)) (phrase.meaning n) × (is_temporary_action (phrase.meaning n) ≡ false))
    (sym same)
    (line_in-is i f (temporaries_at s) (setting_before s cells) (count_by is_action (beside s s.behind))
    (scope_at s.here) ws (Do phrase) reads fine)
