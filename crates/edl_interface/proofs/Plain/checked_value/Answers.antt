use Rattle.std.proofs.Common.{arith, ◌≡◌}
use Rattle.sgx_base.specs.Bytes.{little_endian}
use Rattle.edl_interface.specs.Parameters.{value_at}
use Rattle.edl_interface.proofs.BytesLaws.{little_endian_bound, extension_wide, extension_none}
use Rattle.edl_interface.proofs.Plain.checked_value.Goals as goal
use Rattle.edl_interface.proofs.Plain.checked_value.Goals.{in_default-via-then-self-lt1, in_default-via-else-self-lt1+else-self-lt9}

pub extended-requires-clause-fits : goal.extended-requires-clause-fits
extended-requires-clause-fits c = rw c.read_little_endian.ensures (little_endian_bound c.args.bytes.now c.type_inv.bytes c.args.self.now.size c.requires)

pub returns-in_default : goal.returns-in_default
returns-in_default c =
    let e : value_at c.args.self.now c.args.bytes.now ≡ little_endian c.args.bytes.now =
    elim c.in_default.branch as (λ _. value_at c.args.self.now c.args.bytes.now ≡ little_endian c.args.bytes.now) [ in_default-via-then-self-lt1 w ↦ extension_none _ _ _ (omega arith) c.requires | in_default-via-else-self-lt1+else-self-lt9 w ↦ extension_wide _ _ _ (omega arith) ] in
    rw e c.checked_little_endian.ensures
