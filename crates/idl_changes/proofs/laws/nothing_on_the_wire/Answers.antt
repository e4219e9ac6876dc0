use Rattle.idl_changes.proofs.SpeakLemmas.{programs-speak}
use Rattle.idl_changes.proofs.laws.nothing_on_the_wire.Goals as goal

pub returns : goal.returns
returns c = programs-speak
