use Rattle.std.proofs.Common.{◌≡◌, map}
use Rattle.command_line.proofs.search_path.directories_of.Given as goal

abbrev pub invariant-loop-directory : goal.invariant-loop-directory
invariant-loop-directory l = l.directories ≡ map (λ d. d.now) l.yielded
