use Rattle.run_laws.proofs.WholeOrCut.{whole_or_cut, one_limit}
use Rattle.run_laws.proofs.whole_or_cut_law.Goals as goal

pub returns-clause-whole : goal.returns-clause-whole
returns-clause-whole c = whole_or_cut

pub returns-clause-one_limit : goal.returns-clause-one_limit
returns-clause-one_limit c = one_limit
