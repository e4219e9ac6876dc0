use Rattle.idl_macro.proofs.RoomLemmas.{replaced-room}
use Rattle.idl_macro.proofs.replacement.nesting.Goals as goal

pub returns : goal.returns
returns c = λ bank item place definitions room more hidden t p h k. replaced-room bank item place definitions room more hidden t p h k
