use Rattle.std.proofs.Common.{rules}
use Rattle.call_engine.proofs.CauseLaws.{no_plain_script}
use Rattle.call_engine.proofs.PlainLaws.{no_workers}
use Rattle.call_engine.proofs.preparing.machine_of.Goals as goal

pub returns-in_err-interface-clause-err : goal.returns-in_err-interface-clause-err
returns-in_err-interface-clause-err c = let h = c.in_err-interface.ensures.err c.args.racing in search rules

pub returns-in_err-bridges-clause-err : goal.returns-in_err-bridges-clause-err
returns-in_err-bridges-clause-err c = search rules

pub returns-in_err-script-clause-err : goal.returns-in_err-script-clause-err
returns-in_err-script-clause-err c =
    let h = no_plain_script c.args.racing c.args.gathered.now c.args.text.now c.in_ok-interface.interface c.in_ok-interface.ensures.ok
    c.in_err-script.field-0.0 c.in_err-script.ensures.err in
    search rules

pub returns-clause-ok : goal.returns-clause-ok
returns-clause-ok c = record {
  interface = c.in_ok-interface.ensures.ok;
  bridges = c.in_ok-bridges.ensures;
  script = c.in_ok-script.ensures.ok;
}

pub returns-clause-plain : goal.returns-clause-plain
returns-clause-plain c =
    let workers = no_workers c.in_ok-script.script c.in_ok-script.ensures.plain in
    record {
      sound = c.in_ok-interface.ensures.sound;
      runnable = c.in_ok-interface.ensures.runnable;
      bridges = c.in_ok-bridges.ensures;
      racing = c.args.racing;
      script = c.in_ok-script.ensures.sound;
      no_trusted_workers = workers.0;
      no_untrusted_workers = workers.1;
    }
