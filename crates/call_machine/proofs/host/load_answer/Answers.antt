use Rattle.std.proofs.Common.{◌≡◌, true}
use Rattle.call_machine.specs.Result.{is_success}
use Rattle.call_machine.proofs.HostCalls.{success_of, return_loaded, return_cut}
use Rattle.call_machine.proofs.Maps.{on_ok_maps, err_maps}
use Rattle.call_machine.proofs.host.load_answer.Goals as goal

pub returns-clause-ok : goal.returns-clause-ok
returns-clause-ok g c out same =
    let success : is_success out.status ≡ true = success_of c.args.status out.status same c.if-ne.ensures in
    on_ok_maps c.load_return.result _ _ (return_loaded c.args.function.now c.args.at c.return_size.result out _ _ success c.return_size.ensures) c.load_return.ensures.ok

pub returns-clause-full : goal.returns-clause-full
returns-clause-full g c out same =
    let success : is_success out.status ≡ true = success_of c.args.status out.status same c.if-ne.ensures in
    err_maps c.load_return.result _ _ (return_cut c.args.function.now c.args.at c.return_size.result out _ _ success c.return_size.ensures) c.load_return.ensures.full
