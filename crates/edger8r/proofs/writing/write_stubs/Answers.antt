use Rattle.std.proofs.Common.{Ok, Err}
use Rattle.edger8r.specs.Made.{stub_of}
use Rattle.edger8r.proofs.MakeLaws.{next_stub, refused_stub, no_stub}
use Rattle.edger8r.proofs.writing.write_stubs.Goals as goal

pub loop-stub-preserved : goal.loop-stub-preserved
loop-stub-preserved g c =
    let f = stub_of c.args.printed.now.gathered.now c.args.printed.now.interface.now c.args.printed.now.options.now in
    λ after result more.
    c.loop-stub.invariant after result
    (next_stub f c.args.stubs.now c.loop-stub.stub-index c.stub-item.result
    (g.F.Files.state c.loop-stub.files) (g.F.Files.state c.write_stub.new.files) after result c.loop-stub-test.true c.stub-item.is c.write_stub.ensures.kept c.in_default.ensures.told c.in_default.ensures.counted more)

pub returns-in-Err : goal.returns-in-Err
returns-in-Err g c =
    let f = stub_of c.args.printed.now.gathered.now c.args.printed.now.interface.now c.args.printed.now.options.now in
    c.loop-stub.invariant (g.F.Files.state c.write_stub.new.files) (Err c.in-Err.fault)
    (refused_stub f c.args.stubs.now c.loop-stub.stub-index c.stub-item.result
    (g.F.Files.state c.loop-stub.files) (g.F.Files.state c.write_stub.new.files) c.in-Err.fault c.loop-stub-test.true c.stub-item.is c.write_stub.ensures.kept c.in-Err.ensures.told)

pub returns : goal.returns
returns g c =
    let f = stub_of c.args.printed.now.gathered.now c.args.printed.now.interface.now c.args.printed.now.options.now in
    c.loop-stub.invariant (g.F.Files.state c.loop-stub.files) (Ok tt)
    (no_stub f c.args.stubs.now c.loop-stub.stub-index (g.F.Files.state c.loop-stub.files) c.loop-stub-test.false)
