use Rattle.std.proofs.Common.{ap, sym, Some, None, option_map, ◌∙◌}
use Rattle.std.proofs.lemmas.Option.{slice_get_within}
use Rattle.edl_grammar.specs.Files.{TypeIn, types_of}
use Rattle.edl_layout.specs.Named.{is_under}
use Rattle.edl_layout.proofs.Naming.{number_of, first_none}
use Rattle.edl_layout.proofs.tables.Declarations.declared.Goals as goal

pub decl_at-requires-clause-within : goal.decl_at-requires-clause-within
decl_at-requires-clause-within c =
    let p = number_of (is_under None c.args.name.now) (types_of c.args.self.now.gathered.now) c.in-Some.number (sym c.in-Some.ensures) in
    slice_get_within (types_of c.args.self.now.gathered.now) c.in-Some.number p.0 p.2.0

pub returns-in-Some : goal.returns-in-Some
returns-in-Some c =
    let p = number_of (is_under None c.args.name.now) (types_of c.args.self.now.gathered.now) c.in-Some.number (sym c.in-Some.ensures) in
    ap Some (sym (c.decl_at.ensures p.0 p.2.0)) ∙ ap (option_map (λ (t : TypeIn). t.decl)) (sym p.1)

pub returns-in-None : goal.returns-in-None
returns-in-None c = ap (option_map (λ (t : TypeIn). t.decl)) (sym (first_none (is_under None c.args.name.now) 0 (types_of c.args.self.now.gathered.now) (sym c.in-None.ensures)))
