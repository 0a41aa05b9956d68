use Rattle.std.proofs.Common.{map}
use Rattle.std.specs.Option.{option_copied}
use Rattle.script_values.proofs.FunctionLaws.{ocall_is}
use Rattle.script_values.proofs.body_lines.ocall.Goals as goal

pub returns : goal.returns
returns c =
    let words = c.args.words.now in
    ocall_is c.args.ocalls.now c.args.names.now words.ret.now words.status.now words.name.now
    (map (λ w. w.now) words.args.now) c.register_or_zero.result c.register_or_zero-2.result c.ordinal_of.result
    c.in_ok-args.args c.register_or_zero.ensures c.register_or_zero-2.ensures c.ordinal_of.ensures
    (option_copied c.named.result) c.named.ensures c.in_ok-args.ensures
