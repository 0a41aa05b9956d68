-- A port that keeps one step back.
use Rattle.std.specs.Prelude.{◌-◌}
use Rattle.word_port.specs.Port.{PortState}

-- what is shown of a port whose last step is kept back: the same, with a limit that is one less
abbrev pub with_step_held : PortState → PortState
with_step_held p = record p { limit = p.limit - 1 }
