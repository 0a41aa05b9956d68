-- The interface of gathered files, or their first fault.
use Rattle.std.specs.Prelude.{◌≡◌, Bool, List, Ok, Err}
use Rattle.sgx_base.specs.declared.Fault.{Fault}
use Rattle.edl_grammar.specs.declared.Gathered.{Gathered}
use Rattle.edl_layout.specs.declared.ForeignTypes.{ForeignTypes}
use Rattle.edl_layout.specs.declared.NamedShape.{NamedShape}
use Rattle.edl_layout.specs.declared.LayoutFault.{LayoutFault}
use Rattle.edl_layout.specs.Faults.{HasLayouts, HasLayoutFault}
use Rattle.edl_layout.specs.Table.{IsTable}
use Rattle.edl_interface.specs.declared.Interface.{Interface}
use Rattle.attr_rules.specs.declared.RuleFault.TheVariants.{Rule}
use Rattle.attr_rules.specs.Checked.{checked}
use Rattle.edl_reader.specs.Told.{of_layouts}

-- the layouts that the files have with these foreign types, by their table
pub record IsLaidOut (g : Gathered) (foreign : ForeignTypes) (table : List NamedShape) : Type 0 where
  pub layouts : HasLayouts g foreign
  pub is_table : IsTable g foreign table

-- the interface of files that break no rule, those of the runner included where it is asked for
pub record IsAccepted (g : Gathered) (foreign : ForeignTypes) (runner : Bool) (i : Interface) : Type 0 where
  pub table : List NamedShape
  pub laid_out : IsLaidOut g foreign table
  pub accepted : checked g table runner ≡ Ok i

-- the files break a rule of layouts, or have layouts and break one of attributes
pub data IsRefused (g : Gathered) (foreign : ForeignTypes) (runner : Bool) (f : Fault) : Type 0 where
  no_layout : (e : LayoutFault) → HasLayoutFault g foreign e → of_layouts e ≡ Rule f → IsRefused g foreign runner f
  broken : (table : List NamedShape) → IsLaidOut g foreign table → checked g table runner ≡ Err (Rule f)
      → IsRefused g foreign runner f
