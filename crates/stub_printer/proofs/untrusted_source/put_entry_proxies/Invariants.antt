use Rattle.std.proofs.Common.{◌≡◌, ◌++◌, map, drop}
use Rattle.stub_printer.specs.Stubs.{each_from, entry_proxy}
use Rattle.stub_printer.proofs.untrusted_source.put_entry_proxies.Given as goal

abbrev pub invariant-loop-ordinal : goal.invariant-loop-ordinal
invariant-loop-ordinal l =
    l.out.items ++ each_from l.ordinal (entry_proxy l.options) (map (λ f. f.now) (drop l.ordinal l.functions))
    ≡ l.initial.out.items ++ each_from 0 (entry_proxy l.options) (map (λ f. f.now) l.functions)
