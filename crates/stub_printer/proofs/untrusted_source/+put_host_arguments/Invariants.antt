use Rattle.std.proofs.Common.{length}
use Rattle.stub_printer.proofs.untrusted_source.+put_host_arguments.Given as goal

abbrev pub decreases-put_host_arguments : goal.decreases-put_host_arguments
decreases-put_host_arguments l = length l.params.now
