use Rattle.std.proofs.Common.{List, ◌++◌, [], ◌∷◌, map, sym, ◌∙◌, ap, append-nil, arith}
use Rattle.std.proofs.lemmas.List.{map-append}
use Rattle.edl_grammar.specs.declared.TypeDecl.{TypeDecl}
use Rattle.edl_layout.specs.Named.{seen}
use Rattle.edl_layout.proofs.Flat.{in_file, pushed_next}
use Rattle.edl_layout.proofs.Sweeping.{whole_taken}
use Rattle.edl_layout.proofs.tables.push_types.Goals as goal

pub loop-decl-init : goal.loop-decl-init
loop-decl-init c = sym (append-nil (map seen c.args.types.now.items))

pub loop-decl-preserved : goal.loop-decl-preserved
loop-decl-preserved c =
    pushed_next (map seen c.loop-decl.types.items) (map seen c.push.new.self.items) c.args.file c.args.decls.now c.loop-decl.decl-index c.decl-item.result (map seen c.args.types.now.items)
    c.loop-decl-test.true c.loop-decl.invariant
    (ap (map seen) c.in_ok-push.ensures.items ∙ map-append seen c.loop-decl.types.items _ ∙ ap (λ (d : TypeDecl). map seen c.loop-decl.types.items ++ in_file c.args.file d ∷ []) c.decl-item.is)

pub returns : goal.returns
returns c = c.loop-decl.invariant ∙ ap (λ (ds : List TypeDecl). map seen c.args.types.now.items ++ map (in_file c.args.file) ds) (whole_taken c.loop-decl.decl-index c.args.decls.now (omega arith))
