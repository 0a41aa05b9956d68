-- What the words in the places of a line are by its form.
use Rattle.std.proofs.Common.{ℕ, ◌≡◌, true, false, Bool, List, [], ◌∷◌, Option, Some, None, refl, ap, subst}
use Rattle.std.specs.Prelude.{slice_get, unwrap_or, if◌then◌else◌}
use Rattle.std.specs.List.{AllByRecursion}
use Rattle.std.specs.Str.{bytes_eq}
use Rattle.body_vm.specs.declared.Action.{Action}
use Rattle.call_script.specs.Spelling.{Word, is_number, is_name, is_place}
use Rattle.call_script.specs.Parser.{Parser, ◌<*>◌, pure, satisfying, said, keyword, any, number, name, place, arguments}
use Rattle.call_script.specs.Settings.{Setting, all_settings}
use Rattle.call_script.specs.Line.{Line, Set, Foreign, Bytes, Cell, Race, Body, Handler, Thread, Racer, Call, Raw, Poke, Peek, Repeat, Return, Status, Do, Temp, Ocall, Close, Phrase, set, settings, declarations, acts, racer_acts, body_lines, doing, actions}
use Rattle.call_script.specs.Block.{Scope, Outside, InBody, InHandler, InThread, InRacer, own_forms, forms_in, line_in}
use Rattle.script_laws.proofs.ParserLaws.{Gives, Gives-pure, Gives-bind, Gives-keyword, Gives-<*>, Gives-<*, All-++, All-map, first_to_read-is}

abbrev pub IsNumber : Word → Type 0
IsNumber w = is_number w ≡ true

abbrev pub IsName : Word → Type 0
IsName w = is_name w ≡ true

abbrev pub IsPlace : Word → Type 0
IsPlace w = is_place w ≡ true

abbrev IsAny : Word → Type 0
IsAny w = Unit {0}

abbrev IsAnyList : List Word → Type 0
IsAnyList ws = Unit {0}

-- where a racer's acts do not stand
abbrev pub IsNoRacer : Scope → Type 0
IsNoRacer InRacer = ⊥
IsNoRacer _ = Unit {0}

-- in no block
abbrev pub IsOutside : Scope → Type 0
IsOutside Outside = Unit {0}
IsOutside _ = ⊥

-- one of the settings
abbrev pub IsASetting : Setting → Type 0
IsASetting s = (k : ℕ) × (slice_get all_settings k ≡ Some s)

-- what the form of a line says of its words
abbrev pub IsLine : Scope → Line → Type 0
IsLine scope (Set s n) = IsASetting s × IsNumber n
IsLine scope (Bytes address hex) = IsNumber address
IsLine scope (Cell cell value) = IsNumber cell × IsNumber value
IsLine scope (Race access address hex) = IsNumber access × IsNumber address
IsLine scope (Body f) = IsOutside scope
IsLine scope (Handler f) = IsOutside scope
IsLine scope Thread = IsOutside scope
IsLine scope Racer = IsOutside scope
IsLine scope (Call f args) = IsNoRacer scope
IsLine scope (Raw ordinal address) = IsNoRacer scope × IsNumber ordinal × IsNumber address
IsLine scope (Poke at hex) = IsPlace at
IsLine scope (Peek at count) = IsNoRacer scope × IsPlace at × IsNumber count
IsLine scope (Repeat times) = IsNumber times
IsLine scope (Return value) = IsNumber value
IsLine scope (Status status) = IsNumber status
IsLine scope (Temp block size) = IsName block × IsNumber size
IsLine scope _ = Unit {0}

gives-satisfying : (test : Word → Bool) → Gives (λ w. test w ≡ true) (satisfying test)
gives-satisfying test [] a rest e = absurd cc
gives-satisfying test (w ∷ ws) a rest e = go (test w) refl e
  where
    go : (t : Bool) → test w ≡ t → ◌≡◌ {A = Option (Word × List Word)} (if t then Some (w, ws)
        else None) (Some (a, rest)) → test a ≡ true
    go true h e =
        subst (λ x. test x ≡ true)
        (ap (λ (o : Option (Word × List Word)). (unwrap_or {T = Word × List Word} o (w, ws)).0) e) h
    go false h e = absurd cc

gives-number : Gives IsNumber number
gives-number = gives-satisfying is_number

gives-name : Gives IsName name
gives-name = gives-satisfying is_name

gives-place : Gives IsPlace place
gives-place = gives-satisfying is_place

gives-any : Gives IsAny any
gives-any ws a rest e = tt

gives-arguments : Gives IsAnyList arguments
gives-arguments ws a rest e = tt

every : {A : Type 0} (xs : List A) → AllByRecursion (λ x. Unit {0}) xs
every [] = tt
every (x ∷ xs) = (tt, every xs)

abbrev From : {A C : Type 0} → (A → Type 0) → (C → Type 0) → (A → C) → Type 0
From {A} Q P g = (a : A) → Q a → P (g a)

module _ (scope : Scope) where
  abbrev IsHere : Line → Type 0
  IsHere = IsLine scope

  gives-set : (s : Setting) → IsASetting s → Gives IsHere (set s)
  gives-set s among = Gives-bind IsAny IsHere (satisfying (bytes_eq s.word)) _ (λ ws w rest e. tt) (λ w k.
      Gives-<*> IsHere IsNumber (pure (Set s)) number (Gives-pure (From IsNumber IsHere) (Set s) (λ n h. (among, h)))
      gives-number)

  gives-settings : AllByRecursion (Gives IsHere) settings
  gives-settings =
      All-map IsASetting (Gives IsHere) set all_settings gives-set (
        (0, refl),
        ((1, refl), ((2, refl), ((3, refl), ((4, refl), ((5, refl), ((6, refl), ((7, refl), tt))))))),
      )

  gives-declarations : IsOutside scope → AllByRecursion (Gives IsHere) declarations
  gives-declarations out = (
    Gives-<*> IsHere IsNumber (keyword "foreign" Foreign <*> name <*> number) number
        (Gives-<*> (From IsNumber IsHere) IsNumber (keyword "foreign" Foreign <*> name) number
        (Gives-<*> (From IsNumber (From IsNumber IsHere)) IsName (keyword "foreign" Foreign) name
        (Gives-keyword (From IsName (From IsNumber (From IsNumber IsHere))) "foreign" Foreign (λ a ha b hb c hc. tt))
        gives-name) gives-number) gives-number,
    (
      Gives-<*> IsHere IsAny (keyword "bytes" Bytes <*> number) any
          (Gives-<*> (From IsAny IsHere) IsNumber (keyword "bytes" Bytes) number
          (Gives-keyword (From IsNumber (From IsAny IsHere)) "bytes" Bytes (λ a ha b hb. ha)) gives-number) gives-any,
      (
        Gives-<*> IsHere IsNumber (keyword "cell" Cell <*> number) number
            (Gives-<*> (From IsNumber IsHere) IsNumber (keyword "cell" Cell) number
            (Gives-keyword (From IsNumber (From IsNumber IsHere)) "cell" Cell (λ a ha b hb. (ha, hb))) gives-number)
            gives-number,
        (
          Gives-<*> IsHere IsAny (keyword "race" Race <*> number <*> number) any
              (Gives-<*> (From IsAny IsHere) IsNumber (keyword "race" Race <*> number) number
              (Gives-<*> (From IsNumber (From IsAny IsHere)) IsNumber (keyword "race" Race) number
              (Gives-keyword (From IsNumber (From IsNumber (From IsAny IsHere))) "race" Race
              (λ a ha b hb c hc. (ha, hb))) gives-number) gives-number) gives-any,
          (
            Gives-<* IsHere (keyword "body" Body <*> name) (said "{")
                (Gives-<*> IsHere IsName (keyword "body" Body) name
                (Gives-keyword (From IsName IsHere) "body" Body (λ a ha. out)) gives-name),
            (
              Gives-<* IsHere (keyword "handler" Handler <*> name) (said "{")
                  (Gives-<*> IsHere IsName (keyword "handler" Handler) name
                  (Gives-keyword (From IsName IsHere) "handler" Handler (λ a ha. out)) gives-name),
              (
                Gives-<* IsHere (keyword "thread" Thread) (said "{") (Gives-keyword IsHere "thread" Thread (out)),
                (
                  Gives-<* IsHere (keyword "racer" Racer) (said "{") (Gives-keyword IsHere "racer" Racer (out)),
                  tt,
                ),
              ),
            ),
          ),
        ),
      ),
    ),
  )

  gives-racer_acts : AllByRecursion (Gives IsHere) racer_acts
  gives-racer_acts = (
    Gives-<*> IsHere IsAny (keyword "poke" Poke <*> place) any
        (Gives-<*> (From IsAny IsHere) IsPlace (keyword "poke" Poke) place
        (Gives-keyword (From IsPlace (From IsAny IsHere)) "poke" Poke (λ a ha b hb. ha)) gives-place) gives-any,
    (
      Gives-<* IsHere (keyword "repeat" Repeat <*> number) (said "{")
          (Gives-<*> IsHere IsNumber (keyword "repeat" Repeat) number
          (Gives-keyword (From IsNumber IsHere) "repeat" Repeat (λ a ha. ha)) gives-number),
      (
        Gives-<*> IsHere IsNumber (keyword "return" Return) number
            (Gives-keyword (From IsNumber IsHere) "return" Return (λ a ha. ha)) gives-number,
        (
          Gives-<*> IsHere IsNumber (keyword "status" Status) number
              (Gives-keyword (From IsNumber IsHere) "status" Status (λ a ha. ha)) gives-number,
          tt,
        ),
      ),
    ),
  )

  gives-acts : IsNoRacer scope → AllByRecursion (Gives IsHere) acts
  gives-acts may = (
    Gives-<*> IsHere IsAnyList (keyword "call" Call <*> name) arguments
        (Gives-<*> (From IsAnyList IsHere) IsName (keyword "call" Call) name
        (Gives-keyword (From IsName (From IsAnyList IsHere)) "call" Call (λ a ha b hb. may)) gives-name)
        gives-arguments,
    (
      Gives-<*> IsHere IsNumber (keyword "raw" Raw <*> number) number
          (Gives-<*> (From IsNumber IsHere) IsNumber (keyword "raw" Raw) number
          (Gives-keyword (From IsNumber (From IsNumber IsHere)) "raw" Raw (λ a ha b hb. (may, ha, hb))) gives-number)
          gives-number,
      (
        Gives-<*> IsHere IsNumber (keyword "peek" Peek <*> place) number
            (Gives-<*> (From IsNumber IsHere) IsPlace (keyword "peek" Peek) place
            (Gives-keyword (From IsPlace (From IsNumber IsHere)) "peek" Peek (λ a ha b hb. (may, ha, hb))) gives-place)
            gives-number,
        gives-racer_acts,
      ),
    ),
  )

  gives-doing : (p : Parser (Phrase Action)) → Gives IsHere (doing p)
  gives-doing p =
      Gives-bind (λ phrase. Unit {0}) IsHere p _ (λ ws a rest e. tt) (λ phrase k. Gives-pure IsHere (Do phrase) tt)

  gives-body_lines : AllByRecursion (Gives IsHere) body_lines
  gives-body_lines = (
    Gives-<*> IsHere IsNumber (keyword "temp" Temp <*> name) number
        (Gives-<*> (From IsNumber IsHere) IsName (keyword "temp" Temp) name
        (Gives-keyword (From IsName (From IsNumber IsHere)) "temp" Temp (λ a ha b hb. (ha, hb))) gives-name)
        gives-number,
    (
      Gives-<*> IsHere IsAnyList (keyword "ocall" Ocall <*> any <*> any <*> name) arguments
          (Gives-<*> (From IsAnyList IsHere) IsName (keyword "ocall" Ocall <*> any <*> any) name
          (Gives-<*> (From IsName (From IsAnyList IsHere)) IsAny (keyword "ocall" Ocall <*> any) any
          (Gives-<*> (From IsAny (From IsName (From IsAnyList IsHere))) IsAny (keyword "ocall" Ocall) any
          (Gives-keyword (From IsAny (From IsAny (From IsName (From IsAnyList IsHere)))) "ocall" Ocall
          (λ a ha b hb c hc d hd. tt)) gives-any) gives-any) gives-name) gives-arguments,
      All-map (λ p. Unit {0}) (Gives IsHere) doing actions (λ p h. gives-doing p) (every actions),
    ),
  )

gives-own : (scope : Scope) → AllByRecursion (Gives (IsLine scope)) (own_forms scope)
gives-own Outside =
    All-++ (Gives (IsLine Outside)) declarations acts (gives-declarations Outside tt) (gives-acts Outside tt)
gives-own (InBody f) = gives-body_lines (InBody f)
gives-own (InHandler f) = gives-acts (InHandler f) tt
gives-own InThread = gives-acts InThread tt
gives-own InRacer = gives-racer_acts InRacer

pub form-is : (scope : Scope) (ws : List Word) (line : Line) → line_in scope ws ≡ Some line → IsLine scope line
form-is scope ws line e =
    first_to_read-is (IsLine scope) (forms_in scope) (
      Gives-keyword (IsLine scope) "}" Close tt,
      All-++ (Gives (IsLine scope)) settings (own_forms scope) (gives-settings scope) (gives-own scope),
    ) ws line e
