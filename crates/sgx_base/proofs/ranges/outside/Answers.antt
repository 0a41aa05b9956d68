use Rattle.std.proofs.Common.{◌≡◌, leb, arith}
use Rattle.std.proofs.lemmas.Grind.{common_steps}
use Rattle.sgx_base.specs.Ranges.{is_outside, enclave_end}
use Rattle.sgx_base.proofs.RangesAgree.{outside_agrees}
use Rattle.sgx_base.proofs.ranges.outside.Goals as goal

pub returns-else-last-lt-ENCLAVE_START-clause-set :
    goal.returns-else-last-lt-ENCLAVE_START-clause-set
returns-else-last-lt-ENCLAVE_START-clause-set c =
    let e : leb enclave_end c.args.a ≡ is_outside c.args.a c.args.n = grind (arith, common_steps) in
    rw e (outside_agrees c.args.a c.args.n)
