-- Actions stand in bodies alone.
use Rattle.std.proofs.Common.{◌≡◌, true, false, List, Some, refl}
use Rattle.std.specs.List.{AllByRecursion}
use Rattle.std.specs.Str.{bytes_eq}
use Rattle.call_script.specs.Spelling.{Word}
use Rattle.call_script.specs.Settings.{Setting, all_settings}
use Rattle.call_script.specs.Parser.{Parser, ◌<*>◌, pure, satisfying, said, keyword, any, number, name, place, arguments}
use Rattle.call_script.specs.Line.{Line, Set, Foreign, Bytes, Cell, Race, Body, Handler, Thread, Racer, Call, Raw, Poke, Peek, Repeat, Return, Status, Close, set, settings, declarations, acts, racer_acts}
use Rattle.call_script.specs.Block.{Scope, Outside, InBody, InHandler, InThread, InRacer, own_forms, forms_in, line_in}
use Rattle.call_script.specs.Standing.{is_action}
use Rattle.script_laws.proofs.ParserLaws.{Gives, Gives-pure, Gives-bind, Gives-keyword, Gives-<*>, Gives-<*, All-++, All-map, first_to_read-is}
use Rattle.script_faults.specs.Walk.{is_body}

abbrev IsNoAction : Line → Type 0
IsNoAction line = is_action line ≡ false

abbrev Takes : {A C : Type 0} → (C → Type 0) → (A → C) → Type 0
Takes {A} P g = (a : A) → Unit {0} → P (g a)

taken : {A C : Type 0} (P : C → Type 0) (p : Parser (A → C)) (q : Parser A) → Gives (Takes P) p → Gives P (p <*> q)
taken P p q h = Gives-<*> P (λ a. Unit {0}) p q h (λ ws a rest e. tt)

gives-set : (which : Setting) → Gives IsNoAction (set which)
gives-set which =
    Gives-bind (λ w. Unit {0}) IsNoAction (satisfying (bytes_eq which.word)) _ (λ ws w rest e. tt) (λ w k.
    taken IsNoAction (pure (Set which)) number (Gives-pure (Takes IsNoAction) (Set which) (λ n h. refl)))

gives-settings : AllByRecursion (Gives IsNoAction) settings
gives-settings =
    All-map (λ which. Unit {0}) (Gives IsNoAction) set all_settings (λ which h. gives-set which) (
      tt,
      (tt, (tt, (tt, (tt, (tt, (tt, (tt, tt))))))),
    )

gives-declarations : AllByRecursion (Gives IsNoAction) declarations
gives-declarations = (
  taken IsNoAction (keyword "foreign" Foreign <*> name <*> number) number
      (taken (Takes IsNoAction) (keyword "foreign" Foreign <*> name) number
      (taken (Takes (Takes IsNoAction)) (keyword "foreign" Foreign) name
      (Gives-keyword _ "foreign" Foreign (λ a ha b hb c hc. refl)))),
  (
    taken IsNoAction (keyword "bytes" Bytes <*> number) any
        (taken (Takes IsNoAction) (keyword "bytes" Bytes) number
        (Gives-keyword _ "bytes" Bytes (λ a ha b hb. refl))),
    (
      taken IsNoAction (keyword "cell" Cell <*> number) number
          (taken (Takes IsNoAction) (keyword "cell" Cell) number
          (Gives-keyword _ "cell" Cell (λ a ha b hb. refl))),
      (
        taken IsNoAction (keyword "race" Race <*> number <*> number) any
            (taken (Takes IsNoAction) (keyword "race" Race <*> number) number
            (taken (Takes (Takes IsNoAction)) (keyword "race" Race) number
            (Gives-keyword _ "race" Race (λ a ha b hb c hc. refl)))),
        (
          Gives-<* IsNoAction (keyword "body" Body <*> name) (said "{")
              (taken IsNoAction (keyword "body" Body) name (Gives-keyword _ "body" Body (λ a ha. refl))),
          (
            Gives-<* IsNoAction (keyword "handler" Handler <*> name) (said "{")
                (taken IsNoAction (keyword "handler" Handler) name
                (Gives-keyword _ "handler" Handler (λ a ha. refl))),
            (
              Gives-<* IsNoAction (keyword "thread" Thread) (said "{") (Gives-keyword IsNoAction "thread" Thread refl),
              (
                Gives-<* IsNoAction (keyword "racer" Racer) (said "{") (Gives-keyword IsNoAction "racer" Racer refl),
                tt,
              ),
            ),
          ),
        ),
      ),
    ),
  ),
)

gives-racer_acts : AllByRecursion (Gives IsNoAction) racer_acts
gives-racer_acts = (
  taken IsNoAction (keyword "poke" Poke <*> place) any
      (taken (Takes IsNoAction) (keyword "poke" Poke) place (Gives-keyword _ "poke" Poke (λ a ha b hb. refl))),
  (
    Gives-<* IsNoAction (keyword "repeat" Repeat <*> number) (said "{")
        (taken IsNoAction (keyword "repeat" Repeat) number (Gives-keyword _ "repeat" Repeat (λ a ha. refl))),
    (
      taken IsNoAction (keyword "return" Return) number (Gives-keyword _ "return" Return (λ a ha. refl)),
      (
        taken IsNoAction (keyword "status" Status) number (Gives-keyword _ "status" Status (λ a ha. refl)),
        tt,
      ),
    ),
  ),
)

gives-acts : AllByRecursion (Gives IsNoAction) acts
gives-acts = (
  taken IsNoAction (keyword "call" Call <*> name) arguments
      (taken (Takes IsNoAction) (keyword "call" Call) name (Gives-keyword _ "call" Call (λ a ha b hb. refl))),
  (
    taken IsNoAction (keyword "raw" Raw <*> number) number
        (taken (Takes IsNoAction) (keyword "raw" Raw) number (Gives-keyword _ "raw" Raw (λ a ha b hb. refl))),
    (
      taken IsNoAction (keyword "peek" Peek <*> place) number
          (taken (Takes IsNoAction) (keyword "peek" Peek) place (Gives-keyword _ "peek" Peek (λ a ha b hb. refl))),
      gives-racer_acts,
    ),
  ),
)

gives-own : (scope : Scope) → is_body scope ≡ false → AllByRecursion (Gives IsNoAction) (own_forms scope)
gives-own Outside e = All-++ (Gives IsNoAction) declarations acts gives-declarations gives-acts
gives-own (InBody f) e = absurd cc
gives-own (InHandler f) e = gives-acts
gives-own InThread e = gives-acts
gives-own InRacer e = gives-racer_acts

no-action : (scope : Scope) (ws : List Word) (line : Line) → is_body scope ≡ false → line_in scope ws ≡ Some line
    → is_action line ≡ false
no-action scope ws line e h =
    first_to_read-is IsNoAction (forms_in scope) (
      Gives-keyword IsNoAction "}" Close refl,
      All-++ (Gives IsNoAction) settings (own_forms scope) gives-settings (gives-own scope e),
    ) ws line h

-- where an action has its form, a body is around it
pub action-in_body : (scope : Scope) (ws : List Word) (line : Line) → line_in scope ws ≡ Some line
    → is_action line ≡ true → (name : Word) × (scope ≡ InBody name)
action-in_body (InBody name) ws line h e = (name, refl)
action-in_body Outside ws line h e = let k = no-action Outside ws line refl h in absurd cc
action-in_body (InHandler name) ws line h e = let k = no-action (InHandler name) ws line refl h in absurd cc
action-in_body InThread ws line h e = let k = no-action InThread ws line refl h in absurd cc
action-in_body InRacer ws line h e = let k = no-action InRacer ws line refl h in absurd cc
