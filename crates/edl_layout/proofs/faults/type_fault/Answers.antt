use Rattle.std.proofs.Common.{List, sym, ◌∙◌, ap, subst}
use Rattle.edl_grammar.specs.declared.Declared.{Declared}
use Rattle.edl_layout.specs.Faults.{unknown_among}
use Rattle.edl_layout.specs.Firsts.{first_of}
use Rattle.edl_layout.specs.Judged.{TellsItself}
use Rattle.edl_layout.proofs.Judging.{itself_at, large_at, unknown_at, value_at, clean_at, fits_at}
use Rattle.edl_layout.proofs.faults.type_fault.Goals as goal

pub returns-then-itself : goal.returns-then-itself
returns-then-itself c =
    itself_at c.args.tables.now.gathered.now c.args.tables.now.foreign.now c.args.number c.file_at-file.result c.decl_at-decl.result.now c.decl_at-decl.ensures c.file_at-file.ensures c.token_of.result c.self_holding_at.result c.token_of.ensures c.self_holding_at.ensures
    (subst (λ b. TellsItself c.args.tables.now.gathered.now c.args.tables.now.foreign.now c.args.number b) c.if-itself.true c.requires.itself)

pub returns-then-is_large : goal.returns-then-is_large
returns-then-is_large c =
    large_at c.args.tables.now.gathered.now c.args.tables.now.foreign.now c.args.number c.file_at-file.result c.decl_at-decl.result.now c.decl_at-decl.ensures c.file_at-file.ensures c.args.sizes.now c.size_at.result c.token_of-then-is_large.result c.too_large_at.result
    c.token_of-then-is_large.ensures c.too_large_at.ensures c.requires.sizes c.size_at.ensures (sym c.is_large.ensures ∙ c.if-is_large.true)
    (subst (λ b. TellsItself c.args.tables.now.gathered.now c.args.tables.now.foreign.now c.args.number b) c.if-itself.false c.requires.itself)

pub returns-in-Some : goal.returns-in-Some
returns-in-Some c =
    unknown_at c.args.tables.now.gathered.now c.args.tables.now.foreign.now c.args.number c.file_at-file.result c.decl_at-decl.result.now c.decl_at-decl.ensures c.file_at-file.ensures c.in-Some.token c.unknown_at.result
    (ap (λ (ms : List Declared). first_of (unknown_among c.args.tables.now.gathered.now c.args.tables.now.foreign.now ms)) (sym c.members_of.ensures) ∙ sym c.in-Some.ensures) c.unknown_at.ensures
    (subst (λ b. TellsItself c.args.tables.now.gathered.now c.args.tables.now.foreign.now c.args.number b) c.if-itself.false c.requires.itself)
    (fits_at c.args.tables.now.gathered.now c.args.tables.now.foreign.now c.args.sizes.now c.args.number c.size_at.result c.requires.sizes c.requires.settled c.size_at.ensures (sym c.is_large.ensures ∙ c.if-is_large.false))

pub returns-in-Some-first_wide_value : goal.returns-in-Some-first_wide_value
returns-in-Some-first_wide_value c =
    value_at c.args.tables.now.gathered.now c.args.tables.now.foreign.now c.args.number c.file_at-file.result c.decl_at-decl.result.now c.decl_at-decl.ensures c.file_at-file.ensures c.in-Some-first_wide_value.token c.too_large_at-in-Some-first_wide_value.result
    (sym c.in-Some-first_wide_value.ensures) c.too_large_at-in-Some-first_wide_value.ensures

pub returns-in-None : goal.returns-in-None
returns-in-None c =
    clean_at c.args.tables.now.gathered.now c.args.tables.now.foreign.now c.args.number c.file_at-file.result c.decl_at-decl.result.now c.decl_at-decl.ensures c.file_at-file.ensures
    (subst (λ b. TellsItself c.args.tables.now.gathered.now c.args.tables.now.foreign.now c.args.number b) c.if-itself.false c.requires.itself)
    (fits_at c.args.tables.now.gathered.now c.args.tables.now.foreign.now c.args.sizes.now c.args.number c.size_at.result c.requires.sizes c.requires.settled c.size_at.ensures (sym c.is_large.ensures ∙ c.if-is_large.false))
    (ap (λ (ms : List Declared). first_of (unknown_among c.args.tables.now.gathered.now c.args.tables.now.foreign.now ms)) (sym c.members_of.ensures) ∙ sym c.in_default.ensures) (sym c.in-None.ensures)
