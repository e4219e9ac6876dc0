use Rattle.std.proofs.Common.{◌∙◌, sym}
use Rattle.idl_tool.specs.Compared.{are_failing, changes_of, has_error, listed_in, trees_of}
use Rattle.idl_tool.proofs.DiffLemmas.{none-failing, sound-none}
use Rattle.idl_tool.proofs.laws.sound_changes_speak.Goals as goal

pub returns : goal.returns
returns c = λ is_json fails old new before after status compared wire sound first second.
    let told = changes_of (listed_in old) (listed_in new) in
    let none = sound-none (has_error old new) (are_failing fails told) (sym compared.ending ∙ sound) in
    c.nothing_on_the_wire.ensures (trees_of (listed_in old)) (trees_of (listed_in new)) first second (none-failing fails wire told none)
