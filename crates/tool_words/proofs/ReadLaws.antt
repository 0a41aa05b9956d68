-- How clap's answer on the tool's command tells what the words ask for.
use Rattle.std.proofs.Common.{◌≡◌, ◌∙◌, ap, ap₂, sym, refl, true, List, [], Some, None, Result, Ok, Err, IfOk, cond}
use Rattle.clap.specs.Walk.{Row, Text, is_empty}
use Rattle.clap.specs.Kinds.{Kinds}
use Rattle.clap.specs.Simple.{App, is_simple, matches_of}
use Rattle.clap.specs.Faults.{fault_of, is_simple_and_free}
use Rattle.clap.proofs.OnLiterals.{clap_on_literals}
use Rattle.tool_words.specs.Words.{tool, asked, request_of}
use Rattle.tool_words.specs.declared.Request.{Request}
use Rattle.tool_words.specs.declared.WordsFault.{WordsFault}

-- clap's contract is exact for the tool's command
pub is_plain : is_simple_and_free tool ≡ true
unfolding clap_on_literals
is_plain = refl

pub has_matches : is_simple tool ≡ true
unfolding clap_on_literals
has_matches = refl

-- words without a fault ask for what their matches say
request_taken : (app : App) (words texts : List Text) → app ≡ tool → texts ≡ words → fault_of app texts ≡ []
    → request_of words ≡ asked (matches_of app texts)
request_taken app words texts is_tool are none =
    let no_fault : fault_of tool words ≡ [] = sym (ap₂ fault_of is_tool are) ∙ none in
    ap (λ (kinds : Kinds). cond (is_empty kinds) (asked (matches_of tool words)) None) no_fault
    ∙ ap asked (sym (ap₂ matches_of is_tool are))

-- an answer on the matches is one on the words
pub ok_of : (app : App) (words texts : List Text) (rows : List Row) (result : Result Request WordsFault)
    → app ≡ tool → texts ≡ words → fault_of app texts ≡ [] → rows ≡ matches_of app texts
    → IfOk result (λ r. asked rows ≡ Some r) → IfOk result (λ r. request_of words ≡ Some r)
ok_of app words texts rows (Ok r) is_tool are none found is =
    request_taken app words texts is_tool are none ∙ ap asked (sym found) ∙ is
ok_of app words texts rows (Err e) is_tool are none found is = tt

pub none_of : (app : App) (words texts : List Text) (rows : List Row)
    → app ≡ tool → texts ≡ words → fault_of app texts ≡ [] → rows ≡ matches_of app texts
    → asked rows ≡ None → request_of words ≡ None
none_of app words texts rows is_tool are none found is =
    request_taken app words texts is_tool are none ∙ ap asked (sym found) ∙ is
