use Rattle.std.proofs.Common.{◌≡◌, ◌∙◌, ◌+◌, ◌++◌, ◌∷◌, List, [], Option, length, drop, ap, sym, subst, arith, length-append}
use Rattle.edl_interface.specs.declared.Param.{Param}
use Rattle.edl_interface.specs.Parameters.{is_marshalled}
use Rattle.enclave_memory.specs.declared.Block.{Block}
use Rattle.call_machine.specs.Entry.{IsPlaced, HasGrown}
use Rattle.call_machine.proofs.CopiesIn.{IsCopying, marshalled_in, kept_left, other_left, placed_item, leads_host, copying_none, copying_more, copying_refused, copying_full}
use Rattle.call_machine.proofs.CopyResults.{stop_maps}
use Rattle.call_machine.proofs.marshalling.copy_params.Goals as goal
use Rattle.call_machine.proofs.marshalling.copy_params.Goals.{then-is_marshalled+in-Ok, else-is_marshalled}

pub loop-param-init : goal.loop-param-init
loop-param-init g c =
    let all : marshalled_in c.args.function.now.params ≡ marshalled_in (drop 0 c.as_slice-param-items.result.now) = ap (λ l. marshalled_in l) (sym c.as_slice-param-items.ensures) in
    let none : [] ≡ c.new-blocks.result.items = sym c.new-blocks.ensures in
    record {
      copying = subst (λ l. IsCopying c.args.function.now c.args.fields.now c.args.arena.now c.args.arena.now (g.P.WordPort.state c.args.port.now) (g.P.WordPort.state c.args.port.now) l (marshalled_in (drop 0 c.as_slice-param-items.result.now))) none
          (subst (λ l. IsCopying c.args.function.now c.args.fields.now c.args.arena.now c.args.arena.now (g.P.WordPort.state c.args.port.now) (g.P.WordPort.state c.args.port.now) [] l) all
          (copying_none c.args.function.now c.args.fields.now c.args.arena.now (g.P.WordPort.state c.args.port.now)));
      few = omega (arith, ap (λ (l : List (Option Block)). length l) none);
    }

pub copy_param-requires : goal.copy_param-requires
copy_param-requires g c =
    subst (λ h. IsPlaced h c.args.function.now c.args.fields.now c.param-item.result) (sym (leads_host _ _ _ _ c.loop-param.invariant.copying.leads))
    (placed_item _ c.args.function.now c.args.fields.now c.as_slice-param-items.result.now c.loop-param.param-index c.param-item.result c.as_slice-param-items.ensures c.loop-param-test.true c.param-item.is
    (sym c.is_marshalled.ensures ∙ c.if-is_marshalled.true) c.requires.allowed)

pub returns-in-Err-clause-err : goal.returns-in-Err-clause-err
returns-in-Err-clause-err g c =
    let rest : List Param = marshalled_in (drop (c.loop-param.param-index + 1) c.as_slice-param-items.result.now) in
    let so_far : IsCopying c.args.function.now c.args.fields.now c.args.arena.now c.loop-param.arena (g.P.WordPort.state c.args.port.now) (g.P.WordPort.state c.loop-param.port) c.loop-param.blocks.items (c.param-item.result ∷ rest) =
    subst (λ l. IsCopying c.args.function.now c.args.fields.now c.args.arena.now c.loop-param.arena (g.P.WordPort.state c.args.port.now) (g.P.WordPort.state c.loop-param.port) c.loop-param.blocks.items l)
    (kept_left (λ (p : Param). is_marshalled p.class) c.as_slice-param-items.result.now c.loop-param.param-index c.param-item.result c.loop-param-test.true c.param-item.is (sym c.is_marshalled.ensures ∙ c.if-is_marshalled.true))
    c.loop-param.invariant.copying in
    stop_maps c.in-Err.stop _ _ _ _
    (λ status p. (
      copying_refused c.args.function.now c.args.fields.now c.args.arena.now c.loop-param.arena _ _ c.loop-param.blocks.items c.param-item.result rest so_far _ status p.0,
      subst (λ m. HasGrown c.args.arena.now m) (sym p.1) so_far.grown,
    ))
    (λ full p. (
      p.0,
      copying_full c.args.function.now c.args.fields.now c.args.arena.now c.loop-param.arena _ _ c.loop-param.blocks.items c.param-item.result rest so_far _ p.1,
    ))
    c.in-Err.ensures.err

pub loop-param-preserved : goal.loop-param-preserved
loop-param-preserved g c =
    let rest : List Param = marshalled_in (drop (c.loop-param.param-index + 1) c.as_slice-param-items.result.now) in
    elim c.if-is_marshalled.branch [
      | then-is_marshalled+in-Ok w ↦
          let so_far : IsCopying c.args.function.now c.args.fields.now c.args.arena.now c.loop-param.arena (g.P.WordPort.state c.args.port.now) (g.P.WordPort.state c.loop-param.port) c.loop-param.blocks.items (c.param-item.result ∷ rest) =
          subst (λ l. IsCopying c.args.function.now c.args.fields.now c.args.arena.now c.loop-param.arena (g.P.WordPort.state c.args.port.now) (g.P.WordPort.state c.loop-param.port) c.loop-param.blocks.items l)
          (kept_left (λ (p : Param). is_marshalled p.class) c.as_slice-param-items.result.now c.loop-param.param-index c.param-item.result c.loop-param-test.true c.param-item.is (sym c.is_marshalled.ensures ∙ w.if-is_marshalled.true))
          c.loop-param.invariant.copying in
          let more : length (c.loop-param.blocks.items ++ w.in-Ok.block ∷ []) ≡ length c.loop-param.blocks.items + 1 = length-append c.loop-param.blocks.items (w.in-Ok.block ∷ []) in
          rw (w.port-is, w.arena-is, w.blocks-is, w.push.ensures.items) record {
            copying = copying_more c.args.function.now c.args.fields.now c.args.arena.now c.loop-param.arena _ _ c.loop-param.blocks.items c.param-item.result rest so_far _ _ w.in-Ok.block w.in-Ok.ensures.ok;
            few = omega (arith, more, c.loop-param.invariant.few);
          }
      | else-is_marshalled w ↦ rw (w.port-is, w.arena-is, w.blocks-is) record {
        copying = subst (λ l. IsCopying c.args.function.now c.args.fields.now c.args.arena.now c.loop-param.arena (g.P.WordPort.state c.args.port.now) (g.P.WordPort.state c.loop-param.port) c.loop-param.blocks.items l)
            (other_left (λ (p : Param). is_marshalled p.class) c.as_slice-param-items.result.now c.loop-param.param-index c.param-item.result c.loop-param-test.true c.param-item.is (sym c.is_marshalled.ensures ∙ w.if-is_marshalled.false))
            c.loop-param.invariant.copying;
        few = omega (arith, c.loop-param.invariant.few);
      }
    ]
