use Rattle.std.proofs.Common.{refl}
use Rattle.std.specs.Fmt.{digits}
use Rattle.edl_grammar.specs.Parser.{int, base_type, written, attribute, attributes, members, enumeration, params, allow, func, tail, trusted_item, untrusted_item, item}
use Rattle.bridge_text.specs.Template.{fill}
use Rattle.bridge_text.specs.Products.{low_digits, digit_bytes}
use Rattle.bridge_text.specs.Types.{enum_head, enum_foot}
use Rattle.bridge_text.specs.Bridges.{end_lines, back_end_lines, frame_head, frame_foot}
use Rattle.stub_printer.specs.Stubs.{file_texts, include_line, standard_includes, trusted_guard, untrusted_guard, header_foot, table_foot, trusted_source_head, untrusted_source_head, host_bridge_head, host_bridge_foot, host_frame_lines, host_call_lines, local_frame_lines, entry_head, entry_definition, entry_body, entry_call_lines, entry_return_lines, entry_foot, flag, call_table_head, entry_table_head, ocall_table_head}
use Rattle.stub_laws.proofs.examples.Goals as goal

pub returns : goal.returns
unfolding fill digits low_digits digit_bytes enum_head enum_foot end_lines back_end_lines frame_head frame_foot file_texts include_line standard_includes trusted_guard untrusted_guard header_foot table_foot trusted_source_head untrusted_source_head host_bridge_head host_bridge_foot host_frame_lines host_call_lines local_frame_lines entry_head entry_definition entry_body entry_call_lines entry_return_lines entry_foot flag call_table_head entry_table_head ocall_table_head int base_type written attribute attributes members enumeration params allow func tail trusted_item untrusted_item item
returns c = record {
  buffer_trusted_source = refl;
  buffer_untrusted_source = refl;
  events_trusted_header = refl;
  events_trusted_source = refl;
  events_untrusted_header = refl;
  events_untrusted_source = refl;
  bare_trusted_header = refl;
  bare_untrusted_header = refl;
  bare_prefixed_header = refl;
  none_trusted_header = refl;
  none_trusted_source = refl;
  none_untrusted_header = refl;
  none_untrusted_source = refl;
  outward_trusted_source = refl;
  outward_untrusted_source = refl;
  every_trusted_header = refl;
  every_trusted_source = refl;
  every_untrusted_header = refl;
  every_untrusted_source = refl;
  no_own_word = refl;
  own_word = refl;
  word_alone = refl;
  word_in_another = refl;
}
