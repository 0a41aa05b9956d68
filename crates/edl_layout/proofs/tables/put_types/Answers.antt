use Rattle.std.proofs.Common.{◌≡◌, ◌-◌, cond, drop, get_or, sym, ◌∙◌, ap, Option, Some, ℕ, arith}
use Rattle.std.specs.Str.{bytes_eq}
use Rattle.std.specs.Map.{lookup}
use Rattle.edl_layout.specs.declared.tables.TypeAt.{TypeAt}
use Rattle.edl_layout.specs.Named.{seen, is_under, first_from}
use Rattle.edl_layout.proofs.Naming.{first_past, first_map, table_step}
use Rattle.edl_layout.proofs.tables.put_types.Goals as goal

pub loop-i-init : goal.loop-i-init
loop-i-init c = λ name. rw c.requires (sym (first_past (λ (t : TypeAt). is_under c.args.tag name.now (seen t)) _ c.args.types.now))

pub loop-i-preserved-in_ok-insert : goal.loop-i-preserved-in_ok-insert
loop-i-preserved-in_ok-insert c = λ name.
    let v : Option ℕ = lookup (λ k. bytes_eq name.now k.now) c.loop-i.table.entries in
    let item : TypeAt = get_or c.args.types.now (c.loop-i.i - 1) c.index-types-i.result in
    table_step (λ (t : TypeAt). is_under c.args.tag name.now (seen t)) c.args.types.now c.loop-i.i c.index-types-i.result v _ c.loop-i-test.true c.loop-i.auto.i (c.loop-i.invariant name)
    (c.in_ok-insert.ensures.updates.0 name ∙ ap (λ b. cond b (Some (c.loop-i.i - 1)) v) (sym (c.in-Some.ensures item.file name.now)))

pub loop-i-preserved : goal.loop-i-preserved
loop-i-preserved c = λ name.
    let v : Option ℕ = lookup (λ k. bytes_eq name.now k.now) c.loop-i.table.entries in
    let item : TypeAt = get_or c.args.types.now (c.loop-i.i - 1) c.index-types-i.result in
    table_step (λ (t : TypeAt). is_under c.args.tag name.now (seen t)) c.args.types.now c.loop-i.i c.index-types-i.result v v c.loop-i-test.true c.loop-i.auto.i (c.loop-i.invariant name)
    (ap (λ b. cond b (Some (c.loop-i.i - 1)) v) (sym (c.in_default.ensures item.file name.now)))

pub returns : goal.returns
returns c = λ name.
    let e : c.loop-i.i ≡ 0 = omega arith in
    c.loop-i.invariant name ∙ ap (λ n. first_from (λ (t : TypeAt). is_under c.args.tag name.now (seen t)) n (drop n c.args.types.now)) e ∙ sym (first_map (is_under c.args.tag name.now) seen 0 c.args.types.now)
