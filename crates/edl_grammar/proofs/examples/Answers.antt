use Rattle.std.proofs.Common.{refl}
use Rattle.edl_grammar.specs.Parser.{int, base_type, written, attribute, attributes, members, enumeration, params, allow, func, tail, trusted_item, untrusted_item, item}
use Rattle.edl_grammar.proofs.examples.Goals as goal

pub returns : goal.returns
unfolding int base_type written attribute attributes members enumeration params allow func tail trusted_item untrusted_item item
returns c = record { empty = refl; cut = refl; nothing_at_all = refl; more = refl; void_comma = refl; deep = refl; files = refl; enumerations = refl; structures = refl; trusted_side = refl; untrusted_side = refl; with_ocalls = refl; whole = refl }
