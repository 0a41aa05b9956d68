use Rattle.std.proofs.Common.{◌≡◌, map, take}
use Rattle.arrayvec.specs.ArrayVec.{array_vec_len}
use Rattle.edl_interface.specs.Parameters.{value_in}
use Rattle.call_machine.proofs.admission.values_of.Given as goal

-- the values so far
abbrev pub invariant-loop-param : goal.invariant-loop-param
invariant-loop-param l = record {
  count : array_vec_len l.values ≡ l.param-index;
  are : l.values.items ≡ map (value_in l.fields) (take l.param-index l.param-items);
}
