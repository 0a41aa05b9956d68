use Rattle.script_value.specs.Left.{formed_lines}
use Rattle.script_value.proofs.WordLaws.{all_words}
use Rattle.script_value.proofs.words.words.Goals as goal

pub returns : goal.returns
returns c =
    all_words c.args.racing c.args.settings (formed_lines c.args.bytes.now) c.in_ok-host.field-0.host
    c.in_ok-host.field-0.cells c.in_ok-zeros.field-0 c.append.new.self c.append-2.new.self c.push.new.self
    c.slot_count.result c.in_ok-host.ensures.host c.in_ok-host.ensures.cells c.slot_count.ensures
    c.in_ok-zeros.ensures c.in_ok-append.ensures c.in_ok-append-2.ensures c.in_ok-push.ensures.ok
