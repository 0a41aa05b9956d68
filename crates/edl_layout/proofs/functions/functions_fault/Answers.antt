use Rattle.std.proofs.Common.{◌≡◌, List, true, false, Option, Some, None, ◌∙◌, ap, subst}
use Rattle.std.specs.Prelude.{filter_map}
use Rattle.edl_grammar.specs.declared.Gathered.{Gathered}
use Rattle.edl_grammar.specs.declared.Pick.{Pick}
use Rattle.edl_grammar.specs.Files.{trusted_of, untrusted_of}
use Rattle.edl_layout.specs.declared.LayoutFault.{LayoutFault}
use Rattle.edl_layout.specs.Faults.{IsCleanFunction, FunctionFault}
use Rattle.edl_layout.specs.Picks.{pick_of, AreCheckedFunctions}
use Rattle.edl_layout.proofs.Among.{checked_rest, checked_front}
use Rattle.edl_layout.proofs.functions.functions_fault.Goals as goal

pub returns-in-Some : goal.returns-in-Some
returns-in-Some c =
    let g = c.args.types.now.gathered in
    let foreign = c.args.types.now.foreign in
    let trusted : c.as_slice.result.now ≡ g.trusted = c.as_slice.ensures ∙ ap (λ (h : Gathered). h.trusted) c.gathered-gathered.ensures in
    let found : AreCheckedFunctions g foreign (filter_map (pick_of g true) c.as_slice.result.now) (Some c.in-Some.fault) =
    subst (λ (o : Option LayoutFault). AreCheckedFunctions g foreign (filter_map (pick_of g true) c.as_slice.result.now) o) c.in-Some.is c.side_fault.ensures in
    checked_front (IsCleanFunction g foreign) (FunctionFault g foreign) (trusted_of g) (untrusted_of g) c.in-Some.fault
    (subst (λ (ps : List Pick). AreCheckedFunctions g foreign (filter_map (pick_of g true) ps) (Some c.in-Some.fault)) trusted found)

pub returns-in-None : goal.returns-in-None
returns-in-None c =
    let g = c.args.types.now.gathered in
    let foreign = c.args.types.now.foreign in
    let trusted : c.as_slice.result.now ≡ g.trusted = c.as_slice.ensures ∙ ap (λ (h : Gathered). h.trusted) c.gathered-gathered.ensures in
    let untrusted : c.as_slice-in-None.result.now ≡ g.untrusted = c.as_slice-in-None.ensures ∙ ap (λ (h : Gathered). h.untrusted) c.gathered-gathered.ensures in
    let clean : AreCheckedFunctions g foreign (filter_map (pick_of g true) c.as_slice.result.now) None =
    subst (λ (o : Option LayoutFault). AreCheckedFunctions g foreign (filter_map (pick_of g true) c.as_slice.result.now) o) c.in-None.is c.side_fault.ensures in
    checked_rest (IsCleanFunction g foreign) (FunctionFault g foreign) (trusted_of g) (untrusted_of g) c.side_fault-in-None.result
    (subst (λ (ps : List Pick). AreCheckedFunctions g foreign (filter_map (pick_of g true) ps) None) trusted clean)
    (subst (λ (ps : List Pick). AreCheckedFunctions g foreign (filter_map (pick_of g false) ps) c.side_fault-in-None.result) untrusted c.side_fault-in-None.ensures)
