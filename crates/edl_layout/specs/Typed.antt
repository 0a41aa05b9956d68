-- Gathered files, and the foreign types beside them.
use Rattle.edl_grammar.specs.declared.Gathered.{Gathered}
use Rattle.edl_layout.specs.declared.ForeignTypes.{ForeignTypes}

pub record Typed : Type 0 where
  pub gathered : Gathered
  pub foreign : ForeignTypes
