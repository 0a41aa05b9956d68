-- The bounds of an interface that is accepted.
use Rattle.std.specs.Prelude.{◌≡◌, ◌≤◌, ◌<◌, ◌*◌, ◌^◌, true, List, length, All}
use Rattle.edl_grammar.specs.declared.Gathered.{Gathered}
use Rattle.edl_grammar.specs.declared.Declared.{Declared}
use Rattle.edl_grammar.specs.Files.{FunctionIn, trusted_of, untrusted_of}
use Rattle.edl_layout.specs.declared.NamedShape.{NamedShape}
use Rattle.edl_layout.specs.Shape.{elements}
use Rattle.edl_layout.specs.Frame.{is_array}
use Rattle.edl_layout.specs.Faults.{max_frame}
use Rattle.attr_terms.specs.Rules.{max_params, max_functions}
use Rattle.attr_terms.specs.Accepted.{size_of, frame_size}

module _ (g : Gathered) (table : List NamedShape) where
  -- the length of an array fits 32 bits
  abbrev pub LengthFits : Declared → Type 0
  LengthFits p = is_array p ≡ true → size_of g table p.written * elements p.dims < 2 ^ 32

  pub record FunctionFits (f : FunctionIn) : Type 0 where
    pub params : length f.decl.params ≤ max_params
    pub lengths : All LengthFits f.decl.params
    pub frame : frame_size g table f ≤ max_frame

  pub record InterfaceFits : Type 0 where
    pub trusted : All FunctionFits (trusted_of g)
    pub untrusted : All FunctionFits (untrusted_of g)
    pub few_trusted : length (trusted_of g) ≤ max_functions
    pub few_untrusted : length (untrusted_of g) ≤ max_functions
