use Rattle.std.proofs.Common.{refl}
use Rattle.compress.specs.Wires.{wires_of}
use Rattle.pipe_shell.proofs.burner_pipe.Goals as goal

pub returns-clause-wires : goal.returns-clause-wires
unfolding wires_of
returns-clause-wires c = refl
