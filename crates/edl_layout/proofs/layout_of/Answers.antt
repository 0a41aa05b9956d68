use Rattle.std.proofs.Common.{◌≡◌, ◌∙◌, subst, Ok, Err}
use Rattle.std.specs.Prelude.{Result, IfOk, IfErr}
use Rattle.edl_grammar.specs.declared.Gathered.{Gathered}
use Rattle.edl_layout.specs.declared.ForeignTypes.{ForeignTypes}
use Rattle.edl_layout.specs.declared.LayoutFault.{LayoutFault}
use Rattle.edl_layout.specs.declared.LayoutFault.TheVariants.{Memory}
use Rattle.edl_layout.specs.declared.layouts.Layouts.{Layouts}
use Rattle.edl_layout.specs.Table.{IsTable}
use Rattle.edl_layout.specs.Judged.{HasAnswer}
use Rattle.edl_layout.specs.Faults.{HasLayouts, HasLayoutFault}
use Rattle.edl_layout.proofs.layout_of.Goals as goal

module _ (g : Gathered) (foreign : ForeignTypes) where
  known : (r : Result Layouts LayoutFault) → HasAnswer g foreign r → IfOk r (λ l. HasLayouts g foreign × IsTable g foreign l)
  known (Ok l) h = h
  known (Err e) h = tt

  faulty : (r : Result Layouts LayoutFault) → HasAnswer g foreign r → IfErr r (λ e. (e ≡ Memory → ⊥) → HasLayoutFault g foreign e)
  faulty (Ok l) h = tt
  faulty (Err e) h = h

  -- the answer for tables of these files and foreign types
  of_tables : (g' : Gathered) (foreign' : ForeignTypes) (r : Result Layouts LayoutFault) → g' ≡ g → foreign' ≡ foreign → HasAnswer g' foreign' r → HasAnswer g foreign r
  of_tables g' foreign' r p q h = subst (λ (x : Gathered). HasAnswer x foreign r) p (subst (λ (y : ForeignTypes). HasAnswer g' y r) q h)

pub returns-clause-ok : goal.returns-clause-ok
returns-clause-ok c =
    known c.args.gathered.now c.args.foreign.now c.layout_of_tables.result
    (of_tables c.args.gathered.now c.args.foreign.now _ _ c.layout_of_tables.result (c.fill.ensures.files ∙ c.empty-tables.ensures.files) (c.fill.ensures.foreign ∙ c.empty-tables.ensures.foreign) c.layout_of_tables.ensures)

pub returns-clause-fault : goal.returns-clause-fault
returns-clause-fault c =
    faulty c.args.gathered.now c.args.foreign.now c.layout_of_tables.result
    (of_tables c.args.gathered.now c.args.foreign.now _ _ c.layout_of_tables.result (c.fill.ensures.files ∙ c.empty-tables.ensures.files) (c.fill.ensures.foreign ∙ c.empty-tables.ensures.foreign) c.layout_of_tables.ensures)
