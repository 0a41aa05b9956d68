use Rattle.std.proofs.Common.{◌≡◌, ◌++◌, ◌+◌, ◌^◌, true, drop}
use Rattle.std.specs.Prelude.{negsuc, pos, int_lt}
use Rattle.bridge_text.specs.Types.{enum_lines}
use Rattle.bridge_text.proofs.types.put_enumerators.Given as goal

abbrev pub invariant-loop-value : goal.invariant-loop-value
invariant-loop-value l = record {
  below : int_lt l.before (pos (2 ^ 64 + l.value-index)) ≡ true;
  rest : l.out.items ++ enum_lines l.before (drop l.value-index l.values) ≡ l.initial.out.items ++ enum_lines (negsuc 0) l.values;
}
