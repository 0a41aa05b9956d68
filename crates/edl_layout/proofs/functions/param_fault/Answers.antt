use Rattle.std.proofs.Common.{◌≡◌, Bool, ◌∙◌, sym, subst}
use Rattle.edl_layout.specs.declared.LayoutFault.{LayoutFault}
use Rattle.edl_layout.specs.declared.LayoutFault.TheVariants as faults
use Rattle.edl_grammar.specs.Files.{fault_in}
use Rattle.edl_layout.specs.Faults.{ParamFault, unknown, long}
use Rattle.edl_layout.specs.Pushed.{IsArrayTest}
use Rattle.edl_layout.proofs.functions.param_fault.Goals as goal

pub returns-then-is_no_value : goal.returns-then-is_no_value
returns-then-is_no_value c =
    let at : c.unknown_at.result ≡ faults.Unknown (fault_in c.args.types.now.gathered c.args.file c.args.declared.now.written.token 12) = cc in
    subst (λ (e : LayoutFault). ParamFault c.args.types.now.gathered c.args.types.now.foreign c.args.file c.args.declared.now e) (sym at) (unknown (sym c.is_no_value.ensures ∙ c.if-is_no_value.true))

pub returns-then-is_long_array : goal.returns-then-is_long_array
returns-then-is_long_array c =
    let t = subst (λ (b : Bool). IsArrayTest c.args.types.now.gathered c.args.types.now.foreign c.args.declared.now b) c.if-is_long_array.true c.is_long_array.ensures in
    let at : c.too_large_at.result ≡ faults.TooLarge (fault_in c.args.types.now.gathered c.args.file c.args.declared.now.token 14) = cc in
    subst (λ (e : LayoutFault). ParamFault c.args.types.now.gathered c.args.types.now.foreign c.args.file c.args.declared.now e) (sym at)
    (long (sym c.is_no_value.ensures ∙ c.if-is_no_value.false) t.0 t.1.0 t.1.1 t.1.2)
