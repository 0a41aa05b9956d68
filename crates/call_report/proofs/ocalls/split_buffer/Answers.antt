use Rattle.call_report.proofs.ocalls.split_buffer.Goals as goal

pub returns-clause-here : goal.returns-clause-here
returns-clause-here c = (c.split.ensures _ c.buffer_length-length.ensures).0

pub returns-clause-rest : goal.returns-clause-rest
returns-clause-rest c = (c.split.ensures _ c.buffer_length-length.ensures).1
