use Rattle.std.proofs.Common.{List, length, sym, subst}
use Rattle.std.specs.Str.{bytes_eq}
use Rattle.edl_grammar.specs.Files.{types_of}
use Rattle.edl_layout.specs.declared.NamedShape.{NamedShape}
use Rattle.edl_layout.specs.Filled.{IsSound}
use Rattle.edl_layout.specs.Meaning.{Standard, is_named, standard_types}
use Rattle.edl_layout.proofs.Covering.{sound_none, covers_grown, grows_on, is_table}
use Rattle.edl_layout.proofs.filling.fill.Goals as goal

pub returns : goal.returns
returns c =
    let g = c.args.types.now.gathered in
    let foreign = c.args.types.now.foreign in
    let first = c.add_declared.new.table in
    let second = c.add_standard.new.table in
    let whole = c.add_foreign.new.table in
    let standard_grows = c.in_ok-add_standard.ensures.grows in
    let foreign_grows = c.in_ok-add_foreign.ensures.grows in
    let sound : IsSound g foreign c.args.table.now = subst (λ (t : List NamedShape). IsSound g foreign t) (sym c.requires) (sound_none g foreign) in
    is_table g foreign whole
    (covers_grown g foreign is_named (types_of g) (length (types_of g)) first whole (grows_on g foreign first second whole standard_grows foreign_grows) c.in_ok-add_declared.ensures.covers)
    (covers_grown g foreign (λ name (s : Standard). bytes_eq s.name name) standard_types (length standard_types) second whole foreign_grows c.in_ok-add_standard.ensures.covers)
    c.in_ok-add_foreign.ensures.covers (foreign_grows.sound (standard_grows.sound (c.in_ok-add_declared.ensures.grows.sound sound)))
