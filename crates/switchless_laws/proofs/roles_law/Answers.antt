use Rattle.std.proofs.Common.{ℕ}
use Rattle.switchless_laws.proofs.RolesKeep.{caller_ended, worker_leads}
use Rattle.switchless_laws.proofs.roles_law.Goals as goal

pub returns-clause-caller : goal.returns-clause-caller
returns-clause-caller r c = λ pool log end slot at h. caller_ended ℕ pool slot at log end h

pub returns-clause-worker : goal.returns-clause-worker
returns-clause-worker r c = λ pool log rest slot at h. worker_leads _ pool slot at log rest h
