use Rattle.std.proofs.Common.{◌∙◌, ap, ap₂, true}
use Rattle.std.proofs.lemmas.Result.{IfOk-weaker}
use Rattle.clap.specs.Simple.{app_of_fields, on_top, with_rule}
use Rattle.tool_words.proofs.command.Goals as goal

pub returns : goal.returns
returns c =
    let bare = ap app_of_fields c.no_binary_name.ensures
    ∙ ap (on_top (λ s. record s { no_binary_name = true })) c.new.ensures.app in
    let without_help = ap app_of_fields c.disable_help_flag.ensures
    ∙ ap (on_top (λ s. record s { disable_help_flag = true })) bare in
    let without_version = ap app_of_fields c.disable_version_flag.ensures
    ∙ ap (on_top (λ s. record s { disable_version_flag = true })) without_help in
    let one = c.in_ok-arg.ensures.shape c.flag.ensures.own ∙ ap₂ with_rule without_version c.flag.ensures.rule in
    let two = c.in_ok-arg-2.ensures.shape c.flag-2.ensures.own ∙ ap₂ with_rule one c.flag-2.ensures.rule in
    let three = c.in_ok-arg-3.ensures.shape c.option.ensures.own ∙ ap₂ with_rule two c.option.ensures.rule in
    let four = c.in_ok-arg-4.ensures.shape c.flag-3.ensures.own ∙ ap₂ with_rule three c.flag-3.ensures.rule in
    let five = c.in_ok-arg-5.ensures.shape c.flag-4.ensures.own ∙ ap₂ with_rule four c.flag-4.ensures.rule in
    let six = c.in_ok-arg-6.ensures.shape c.option-2.ensures.own ∙ ap₂ with_rule five c.option-2.ensures.rule in
    let seven = c.in_ok-arg-7.ensures.shape c.option-3.ensures.own ∙ ap₂ with_rule six c.option-3.ensures.rule in
    let eight = c.in_ok-arg-8.ensures.shape c.flag-5.ensures.own ∙ ap₂ with_rule seven c.flag-5.ensures.rule in
    IfOk-weaker c.arg-9.result _ _
    (λ r added. added.shape c.files.ensures.own ∙ ap₂ with_rule eight c.files.ensures.rule) c.arg-9.ensures
