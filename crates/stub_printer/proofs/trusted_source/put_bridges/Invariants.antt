use Rattle.std.proofs.Common.{◌≡◌, ◌++◌, map, drop}
use Rattle.stub_printer.specs.Stubs.{each_from, listed_text}
use Rattle.stub_printer.proofs.trusted_source.put_bridges.Given as goal

abbrev pub invariant-loop-ordinal : goal.invariant-loop-ordinal
invariant-loop-ordinal l =
    l.out.items ++ each_from l.ordinal (listed_text l.bridges l.is_trusted) (map (λ f. f.now) (drop l.ordinal l.functions))
    ≡ l.initial.out.items ++ each_from 0 (listed_text l.bridges l.is_trusted) (map (λ f. f.now) l.functions)
