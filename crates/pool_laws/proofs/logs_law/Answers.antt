use Rattle.pool_laws.proofs.Keeping.{few_looks, log_keeps, log_leaves}
use Rattle.pool_laws.proofs.logs_law.Goals as goal

pub returns-clause-begun : goal.returns-clause-begun
returns-clause-begun g c = λ pool t rest before after kept empty few r.
    log_keeps pool t rest before after empty few r kept

pub returns-clause-ended : goal.returns-clause-ended
returns-clause-ended g c = λ pool t x before after kept empty few r. log_leaves pool t x before after empty few r kept

pub returns-clause-looks : goal.returns-clause-looks
returns-clause-looks g c = λ t rest before after reached. few_looks t rest before after reached
