use Rattle.pool_laws.proofs.PlainMachines.{plain_pools, plain_acts, plain_stack}
use Rattle.pool_laws.proofs.plain_machines_law.Goals as goal

pub returns : goal.returns
returns c = record {
  machine = λ m plain. plain_pools m plain;
  acts = λ m plain. plain_acts m plain;
  stack = λ m plain. plain_stack m plain;
}
