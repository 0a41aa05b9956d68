use Rattle.std.proofs.Common.{◌∙◌, ap, map}
use Rattle.clap.specs.Simple.{is_simple}
use Rattle.clap.specs.Faults.{is_simple_and_free}
use Rattle.tool_words.proofs.ReadLaws.{is_plain, has_matches, ok_of, none_of}
use Rattle.tool_words.proofs.read_words.Goals as goal

pub returns-clause-ok : goal.returns-clause-ok
returns-clause-ok c =
    let is_tool = c.in_ok-command.ensures in
    let are = ap (map (λ t. t.now)) c.as_slice.ensures.value ∙ c.in_ok-texts.ensures in
    let none = c.in_ok-matches.ensures.kinds (ap is_simple_and_free is_tool ∙ is_plain) in
    let rows = (c.in_ok-matches.ensures.matches (ap is_simple is_tool ∙ has_matches)).0 in
    ok_of _ c.args.words.now _ _ c.asked.result is_tool are none rows c.asked.ensures.ok

pub returns-clause-usage : goal.returns-clause-usage
returns-clause-usage c =
    let is_tool = c.in_ok-command.ensures in
    let are = ap (map (λ t. t.now)) c.as_slice.ensures.value ∙ c.in_ok-texts.ensures in
    let none = c.in_ok-matches.ensures.kinds (ap is_simple_and_free is_tool ∙ is_plain) in
    let rows = (c.in_ok-matches.ensures.matches (ap is_simple is_tool ∙ has_matches)).0 in
    λ usage. none_of _ c.args.words.now _ _ is_tool are none rows (c.asked.ensures.usage usage)
