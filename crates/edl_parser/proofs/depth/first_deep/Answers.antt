use Rattle.std.proofs.Common.{List, ◌∙◌, ap}
use Rattle.std.specs.List.{flat_map}
use Rattle.edl_grammar.specs.declared.TypeDecl.{TypeDecl}
use Rattle.edl_grammar.specs.declared.FuncDecl.{FuncDecl}
use Rattle.edl_grammar.specs.Sentence.{least, deep_in_type, deep_in_function}
use Rattle.edl_parser.proofs.Deep.{deep_whole}
use Rattle.edl_parser.proofs.depth.first_deep.Goals as goal

pub returns : goal.returns
returns c =
    deep_whole (flat_map deep_in_type c.args.tree.now.types) (flat_map deep_in_function c.args.tree.now.trusted) (flat_map deep_in_function c.args.tree.now.untrusted)
    c.deep_in_types.result c.deep_in_functions.result c.deep_in_functions-2.result c.earlier_of-in_functions.result c.earlier_of.result
    (c.deep_in_types.ensures ∙ ap (λ (xs : List TypeDecl). least (flat_map deep_in_type xs)) c.as_slice-3.ensures)
    (c.deep_in_functions.ensures ∙ ap (λ (xs : List FuncDecl). least (flat_map deep_in_function xs)) c.as_slice.ensures)
    (c.deep_in_functions-2.ensures ∙ ap (λ (xs : List FuncDecl). least (flat_map deep_in_function xs)) c.as_slice-2.ensures)
    c.earlier_of-in_functions.ensures
    c.earlier_of.ensures
