use Rattle.std.proofs.Common.{◌≡◌, Bool, sym, subst}
use Rattle.edl_grammar.specs.Files.{FunctionIn, fault_in}
use Rattle.edl_layout.specs.declared.LayoutFault.{LayoutFault}
use Rattle.edl_layout.specs.declared.LayoutFault.TheVariants as faults
use Rattle.edl_layout.specs.Faults.{FunctionFault, frame}
use Rattle.edl_layout.specs.Pushed.{IsFrameTest}
use Rattle.edl_layout.proofs.functions.frame_fault.Goals as goal

pub returns-then-is_frame_too_large : goal.returns-then-is_frame_too_large
returns-then-is_frame_too_large c known clean =
    let f : FunctionIn = record { file = c.args.file; is_trusted = c.args.is_trusted; decl = c.args.decl.now } in
    let t = subst (λ (b : Bool). IsFrameTest c.args.types.now.gathered c.args.types.now.foreign f b) c.if-is_frame_too_large.true (c.is_frame_too_large.ensures c.args.file) in
    let at : c.too_large_at.result ≡ faults.TooLarge (fault_in c.args.types.now.gathered c.args.file c.args.decl.now.token 14) = cc in
    subst (λ (e : LayoutFault). FunctionFault c.args.types.now.gathered c.args.types.now.foreign f e) (sym at) (frame known clean t.0 t.1 t.2)
