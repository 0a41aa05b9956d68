use Rattle.std.proofs.Common.{List, subst}
use Rattle.sgx_base.specs.Outcome.{OrMemory}
use Rattle.edl_grammar.specs.declared.SourceFile.{SourceFile}
use Rattle.edl_reader.specs.declared.faults.SourceFault.TheVariants.{Memory}
use Rattle.edl_reader.specs.Accepted.{IsRefused}
use Rattle.edl_reader.specs.Sources.{IsEdlFault}
use Rattle.edl_reader.proofs.CauseLaws.{edl_fault}
use Rattle.edl_reader.proofs.interfaces.interface_of.Goals as goal

pub returns-in-Err-clause-err : goal.returns-in-Err-clause-err
returns-in-Err-clause-err c =
    subst (λ (files : List SourceFile). OrMemory Memory (IsEdlFault files (IsRefused c.args.gathered.now c.args.foreign.now c.args.runner)) c.of_rules.result) c.as_slice.ensures
    (edl_fault (IsRefused c.args.gathered.now c.args.foreign.now c.args.runner) c.as_slice.result.now c.in-Err.fault c.of_rules.result c.in-Err.ensures.err c.of_rules.ensures)
