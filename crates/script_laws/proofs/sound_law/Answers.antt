use Rattle.script_laws.proofs.SoundScript.{script-sound}
use Rattle.script_laws.proofs.sound_law.Goals as goal

pub returns : goal.returns
returns c = script-sound
