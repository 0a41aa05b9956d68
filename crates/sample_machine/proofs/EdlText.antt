-- The interface of a sample's EDL text.
use Rattle.std.proofs.Common.{ℕ, ◌≡◌, ◌≤◌, true, false, List, [], Option, Some, None, refl, inl, inr, ap, arith}
use Rattle.std.specs.Prelude.{Ok, Err}
use Rattle.edl_grammar.specs.declared.Gathered.{Gathered}
use Rattle.edl_grammar.specs.Files.{FunctionIn}
use Rattle.edl_grammar.specs.Parser.{int, base_type, written, attribute, attributes, members, enumeration, params, func, allow, tail, trusted_item, untrusted_item, item}
use Rattle.edl_imports.specs.Gathering.{gathering, Outcome}
use Rattle.edl_layout.specs.declared.ForeignTypes.{ForeignTypes}
use Rattle.edl_layout.specs.declared.LayoutFault.{LayoutFault}
use Rattle.edl_layout.specs.declared.NamedShape.{NamedShape}
use Rattle.edl_layout.specs.Shape.{Shape}
use Rattle.edl_layout.specs.Faults.{HasLayoutFault, FaultAmong, FunctionFault, result, param, frame, ParamFault, unknown, long, IsCleanParam, HasFrame, is_unknown, is_no_value}
use Rattle.edl_grammar.specs.declared.Declared.{Declared}
use Rattle.edl_layout.specs.Frame.{is_array}
use Rattle.attr_rules.specs.Checked.{checked}
use Rattle.sample_laws.specs.Sampled.{sample_interface}
use Rattle.sample_machine.specs.Texts.{edl_name, texts}

abbrev value_of : Outcome Gathered → Gathered
value_of (Ok g) = g
value_of (Err e) = record { files = []; trusted = []; untrusted = [] }

unfoldable pub sample_gathered : Gathered
unfolding int base_type written attribute attributes members enumeration params func allow tail trusted_item untrusted_item item
sample_gathered = value_of (gathering (texts []) [] edl_name)

pub gathers : (script : List ℕ) → gathering (texts script) [] edl_name ≡ Ok sample_gathered
unfolding sample_gathered int base_type written attribute attributes members enumeration params func allow tail trusted_item untrusted_item item
gathers script = refl

pub accepts : (table : List NamedShape) → checked sample_gathered table true ≡ Ok sample_interface
unfolding sample_gathered int base_type written attribute attributes members enumeration params func allow tail trusted_item untrusted_item item
accepts table = refl

abbrev pub no_types : ForeignTypes
no_types = record { types = []; lenient = false }

size_in : Option Shape → ℕ
size_in None = 0
size_in (Some s) = s.size

module _ (g : Gathered) (foreign : ForeignTypes) where
  param_fine : (file : ℕ) (p : Declared) (e : LayoutFault) → is_no_value g foreign p.written ≡ false → is_array p ≡ false → ParamFault g foreign file p e → ⊥
  param_fine file p e value one (unknown h) = absurd cc
  param_fine file p e value one (long v array n length big) = absurd cc

  function_fine : (f : FunctionIn) (e : LayoutFault) → is_unknown g foreign f.decl.result ≡ false
      → ((d : LayoutFault) → FaultAmong (IsCleanParam g foreign) (ParamFault g foreign f.file) f.decl.params d → ⊥)
      → ((s : Shape) → HasFrame g foreign f s → s.size ≤ 1024) → FunctionFault g foreign f e → ⊥
  function_fine f e known params frame_fits (result h) = absurd cc
  function_fine f e known params frame_fits (param d h among) = params d among
  function_fine f e known params frame_fits (frame h clean s has big) = let fits = frame_fits s has in omega (arith, fits, big)

pub layouts_fine : (e : LayoutFault) → HasLayoutFault sample_gathered no_types e → ⊥
unfolding sample_gathered int base_type written attribute attributes members enumeration params func allow tail trusted_item untrusted_item item size_in
layouts_fine e (inl h) = absurd h
layouts_fine e (inr (clean, inl h)) =
    function_fine sample_gathered no_types _ e refl
    (λ d among. elim among [
      | inl h ↦ param_fine sample_gathered no_types _ _ d refl refl h
      | inr (c, rest) ↦ elim rest [
        | inl h ↦ param_fine sample_gathered no_types _ _ d refl refl h
        | inr (c, none) ↦ absurd none
      ]
    ])
    (λ s has. let size : 24 ≡ s.size = ap size_in has.1 in omega (arith, size)) h
layouts_fine e (inr (clean, inr (c, h))) = absurd h
