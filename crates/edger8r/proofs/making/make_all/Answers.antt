use Rattle.std.proofs.Common.{List, ℕ, Ok, Err, subst}
use Rattle.edger8r.specs.declared.ending.Ending.TheVariants.{Made}
use Rattle.edger8r.specs.Made.{MakesFile}
use Rattle.edger8r.proofs.MakeLaws.{next_file, stopped, no_file}
use Rattle.edger8r.proofs.making.make_all.Goals as goal

pub loop-name-preserved : goal.loop-name-preserved
loop-name-preserved g c =
    let before = g.F.Files.state c.loop-name.files in
    let middle = g.F.Files.state c.make_file.new.files in
    λ after ending more.
    c.loop-name.invariant after ending
    (next_file c.args.choices.now c.args.names.now c.loop-name.name-index c.name-item.result before middle after ending c.loop-name-test.true c.name-item.is
    (subst (λ (n : List ℕ). MakesFile c.args.choices.now n before middle (Ok tt)) c.text.ensures c.in_default.ensures) more)

pub returns-in-Err : goal.returns-in-Err
returns-in-Err g c =
    let before = g.F.Files.state c.loop-name.files in
    let middle = g.F.Files.state c.make_file.new.files in
    c.loop-name.invariant middle c.in-Err.ending
    (stopped c.args.choices.now c.args.names.now c.loop-name.name-index c.name-item.result before middle c.in-Err.ending c.loop-name-test.true c.name-item.is
    (subst (λ (n : List ℕ). MakesFile c.args.choices.now n before middle (Err c.in-Err.ending)) c.text.ensures c.in-Err.ensures))

pub returns : goal.returns
returns g c =
    c.loop-name.invariant (g.F.Files.state c.loop-name.files) Made
    (no_file c.args.choices.now c.args.names.now c.loop-name.name-index (g.F.Files.state c.loop-name.files) c.loop-name-test.false)
