use Rattle.std.proofs.Common.{rules}
use Rattle.call_engine.proofs.CauseLaws.{unread_script, prepared, unprepared}
use Rattle.call_engine.proofs.SoundLaws.{sound_if_plain}
use Rattle.call_engine.proofs.preparing.prepare.Goals as goal

pub returns-in_err-gathered-clause-err : goal.returns-in_err-gathered-clause-err
returns-in_err-gathered-clause-err g c = let h = c.in_err-gathered.ensures.err c.args.racing c.args.script.now in search rules

pub returns-in_err-text-clause-err : goal.returns-in_err-text-clause-err
returns-in_err-text-clause-err g c =
    let h = unread_script c.args.racing c.args.paths.now c.args.edl.now c.args.script.now c.in_ok-gathered.gathered
    (g.F.Files.state c.args.files.now)
    (g.F.Files.state c.read_root.new.files)
    (g.F.Files.state c.read_file.new.files)
    c.in_err-text.field-0.0 c.read_root.ensures.kept c.in_ok-gathered.ensures.ok c.in_err-text.ensures.err in
    search rules

pub returns-clause-ok : goal.returns-clause-ok
returns-clause-ok g c =
    prepared c.args.racing c.args.paths.now c.args.edl.now c.args.script.now c.in_ok-gathered.gathered c.in_ok-text.text.items c.deref.result.now c.machine_of.result
    (g.F.Files.state c.args.files.now)
    (g.F.Files.state c.read_root.new.files)
    c.read_root.ensures.kept c.deref.ensures.value c.in_ok-gathered.ensures.ok c.in_ok-text.ensures.ok c.machine_of.ensures.ok

pub returns-clause-err : goal.returns-clause-err
returns-clause-err g c =
    unprepared c.args.racing c.args.paths.now c.args.edl.now c.args.script.now c.in_ok-gathered.gathered c.in_ok-text.text.items c.deref.result.now c.machine_of.result
    (g.F.Files.state c.args.files.now)
    (g.F.Files.state c.read_root.new.files)
    (g.F.Files.state c.read_file.new.files)
    c.read_root.ensures.kept c.deref.ensures.value c.in_ok-gathered.ensures.ok c.in_ok-text.ensures.ok c.machine_of.ensures.err

pub returns-clause-sound : goal.returns-clause-sound
returns-clause-sound g c = sound_if_plain c.machine_of.result c.machine_of.ensures.plain
