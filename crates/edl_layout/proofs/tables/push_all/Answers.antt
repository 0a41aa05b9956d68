use Rattle.std.proofs.Common.{◌≡◌, ◌<◌, ◌≤◌, List, ◌++◌, map, length, get_or, refl, ◌∙◌, ap, subst, arith}
use Rattle.edl_grammar.specs.declared.SourceFile.{SourceFile}
use Rattle.edl_grammar.specs.declared.TypeDecl.{TypeDecl}
use Rattle.edl_grammar.specs.Files.{types_of}
use Rattle.edl_layout.specs.Named.{seen}
use Rattle.edl_layout.proofs.Flat.{in_file, flat_next, flat_all}
use Rattle.edl_layout.proofs.tables.push_all.Goals as goal

pub loop-i-init : goal.loop-i-init
loop-i-init c = rw c.requires refl

pub loop-i-preserved : goal.loop-i-preserved
loop-i-preserved c =
    let same : c.in-Ok.number ≡ c.loop-i.i = omega (arith, c.in-Ok.ensures) in
    let decls : c.as_slice.result.now ≡ (get_or c.args.gathered.now.files c.loop-i.i c.file-item.result).tree.types =
    c.as_slice.ensures ∙ ap (λ (f : SourceFile). f.tree.types) (c.file-item.is ∙ ap (λ (fs : List SourceFile). get_or fs c.loop-i.i c.file-item.result) c.as_slice-file-items.ensures) in
    flat_next (map seen c.loop-i.types.items) (map seen c.push_types.new.types.items) c.args.gathered.now.files c.loop-i.i c.file-item.result (types_of c.args.gathered.now)
    (subst (λ (fs : List SourceFile). c.loop-i.i < length fs) c.as_slice-file-items.ensures c.loop-i-test.true)
    (c.in_ok-push_types.ensures ∙ ap (λ n. map seen c.loop-i.types.items ++ map (in_file n) c.as_slice.result.now) same ∙ ap (λ (ds : List TypeDecl). map seen c.loop-i.types.items ++ map (in_file c.loop-i.i) ds) decls)
    c.loop-i.invariant

pub returns : goal.returns
returns c =
    flat_all (map seen c.loop-i.types.items) c.args.gathered.now.files c.loop-i.i (types_of c.args.gathered.now)
    (subst (λ (fs : List SourceFile). length fs ≤ c.loop-i.i) c.as_slice-file-items.ensures c.loop-i-test.false) c.loop-i.invariant
