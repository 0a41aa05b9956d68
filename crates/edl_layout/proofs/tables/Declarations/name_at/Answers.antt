use Rattle.std.proofs.Common.{ap, ◌∙◌}
use Rattle.edl_grammar.specs.declared.TypeDecl.{TypeDecl}
use Rattle.edl_layout.specs.Meaning.{is_named}
use Rattle.edl_layout.proofs.tables.Declarations.name_at.Goals as goal

pub returns : goal.returns
returns c t name at = ap (λ (d : TypeDecl). is_named name (record { file = t.file; decl = d })) (c.decl_at.ensures t at) ∙ c.name_under.ensures t.file name
