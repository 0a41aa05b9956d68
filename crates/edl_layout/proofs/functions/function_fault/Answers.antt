use Rattle.std.proofs.Common.{◌≡◌, List, ◌∙◌, sym, subst}
use Rattle.edl_grammar.specs.declared.Declared.{Declared}
use Rattle.edl_grammar.specs.Files.{FunctionIn, fault_in}
use Rattle.edl_layout.specs.declared.LayoutFault.{LayoutFault}
use Rattle.edl_layout.specs.declared.LayoutFault.TheVariants as faults
use Rattle.edl_layout.specs.Faults.{FaultAmong, IsCleanParam, ParamFault, FunctionFault, result, param}
use Rattle.edl_layout.proofs.functions.function_fault.Goals as goal

pub returns-then-is_unknown : goal.returns-then-is_unknown
returns-then-is_unknown c =
    let f : FunctionIn = record { file = c.args.file; is_trusted = c.args.is_trusted; decl = c.args.decl.now } in
    let at : c.unknown_at.result ≡ faults.Unknown (fault_in c.args.types.now.gathered c.args.file c.args.decl.now.result.token 12) = cc in
    subst (λ (e : LayoutFault). FunctionFault c.args.types.now.gathered c.args.types.now.foreign f e) (sym at) (result (sym c.is_unknown.ensures ∙ c.if-is_unknown.true))

pub returns-in-Some : goal.returns-in-Some
returns-in-Some c =
    let g = c.args.types.now.gathered in
    let foreign = c.args.types.now.foreign in
    param c.in-Some.fault (sym c.is_unknown.ensures ∙ c.if-is_unknown.false)
    (subst (λ (ps : List Declared). FaultAmong (IsCleanParam g foreign) (ParamFault g foreign c.args.file) ps c.in-Some.fault) c.as_slice.ensures c.in-Some.ensures)
