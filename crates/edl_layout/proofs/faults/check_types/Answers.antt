use Rattle.std.proofs.Common.{◌<◌, ◌≤◌, length, arith}
use Rattle.std.proofs.lemmas.Result.{err_from_is_err_and}
use Rattle.edl_grammar.specs.Files.{types_of}
use Rattle.edl_layout.proofs.Judging.{first_fault, clean_more, all_clean}
use Rattle.edl_layout.proofs.faults.check_types.Goals as goal

pub returns-in_err-check_type-clause-fault : goal.returns-in_err-check_type-clause-fault
returns-in_err-check_type-clause-fault c =
    let low : c.loop-number.number < length (types_of c.args.tables.now.gathered.now) = omega arith in
    let p = err_from_is_err_and c.from_residual.result c.from_residual.ensures.1 in
    rw (p.1, p.2) (λ stated. first_fault c.args.tables.now.gathered.now c.args.tables.now.foreign.now c.loop-number.number c.in_err-check_type.field-0.0 low c.loop-number.invariant (c.in_err-check_type.ensures.fault stated))

pub loop-number-preserved : goal.loop-number-preserved
loop-number-preserved c = clean_more c.args.tables.now.gathered.now c.args.tables.now.foreign.now c.loop-number.number c.loop-number.invariant c.in_ok-check_type.ensures.clean

pub returns-clause-clean : goal.returns-clause-clean
returns-clause-clean c =
    let high : length (types_of c.args.tables.now.gathered.now) ≤ c.loop-number.number = omega arith in
    all_clean c.args.tables.now.gathered.now c.args.tables.now.foreign.now c.loop-number.number high c.loop-number.invariant
