use Rattle.std.proofs.Common.{refl}
use Rattle.std.specs.Str.{is_utf8, chars}
use Rattle.edl_grammar.specs.Parser.{int, base_type, written, attribute, attributes, members, enumeration, params, allow, func, tail, trusted_item, untrusted_item, item}
use Rattle.edl_imports.proofs.examples.Goals as goal

pub returns : goal.returns
unfolding is_utf8 chars lib.Utf8.encode int base_type written attribute attributes members enumeration params allow func tail trusted_item untrusted_item item
returns c = record {
  cycle = refl;
  no_such_name = refl;
  not_found = refl;
  no_root = refl;
  in_directory = refl;
  twice = refl;
  handed_on = refl;
  two_types = refl;
  two_functions = refl;
  apart = refl;
  in_order = refl;
}
