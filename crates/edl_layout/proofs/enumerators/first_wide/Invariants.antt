use Rattle.std.proofs.Common.{◌≡◌, true, drop}
use Rattle.std.specs.Prelude.{negsuc}
use Rattle.edl_layout.specs.Faults.{is_int, wide_after}
use Rattle.edl_layout.specs.Firsts.{first_of}
use Rattle.edl_layout.proofs.enumerators.first_wide.Given as goal

abbrev pub invariant-loop-value : goal.invariant-loop-value
invariant-loop-value l = record {
  int : is_int l.before ≡ true;
  rest : first_of (wide_after l.before (drop l.value-index l.values)) ≡ first_of (wide_after (negsuc 0) l.values);
}
