use Rattle.std.proofs.Common.{◌≡◌, ◌-◌, cond, drop, get_or, sym, ◌∙◌, ap, Option, Some, arith, ℕ, List}
use Rattle.std.specs.Str.{bytes_eq}
use Rattle.std.specs.Map.{lookup}
use Rattle.edl_layout.specs.declared.ForeignType.{ForeignType}
use Rattle.edl_layout.specs.Named.{first_from}
use Rattle.edl_layout.proofs.Naming.{first_past, table_step}
use Rattle.edl_layout.proofs.tables.put_foreign.Goals as goal

pub loop-i-init : goal.loop-i-init
loop-i-init c = λ name. rw c.requires (sym (first_past (λ (t : ForeignType). bytes_eq t.name name.now) _ c.args.types.now))

pub loop-i-preserved : goal.loop-i-preserved
loop-i-preserved c = λ name.
    let v : Option ℕ = lookup (λ k. bytes_eq name.now k.now) c.loop-i.table.entries in
    let e : c.bytes.result.now ≡ (get_or c.args.types.now (c.loop-i.i - 1) c.index-types-i.result).name = cc in
    table_step (λ (t : ForeignType). bytes_eq t.name name.now) c.args.types.now c.loop-i.i c.index-types-i.result v _ c.loop-i-test.true c.loop-i.auto.i (c.loop-i.invariant name)
    (c.in_ok-insert.ensures.updates.0 name ∙ ap (λ (n : List ℕ). cond (bytes_eq n name.now) (Some (c.loop-i.i - 1)) v) e)

pub returns : goal.returns
returns c = λ name.
    let e : c.loop-i.i ≡ 0 = omega arith in
    c.loop-i.invariant name ∙ ap (λ n. first_from (λ (t : ForeignType). bytes_eq t.name name.now) n (drop n c.args.types.now)) e
