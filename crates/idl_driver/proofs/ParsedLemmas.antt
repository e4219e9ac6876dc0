-- What clap tells of words.
use Rattle.std.proofs.Common.{◌≡◌, ◌⊎◌, ◌∷◌, Bool, List, inl, inr, true}
use Rattle.std.proofs.lemmas.Bool.{and_parts}
use Rattle.clap.specs.Words.{App, FailsBy, HasMatchesOf, IsAmong, Kinds, Text, is_simple, is_simple_and_free}
use Rattle.clap.specs.declared.error.kind.ErrorKind.{ErrorKind}
use Rattle.clap.specs.declared.error.kind.ErrorKind.TheVariants.{OutOfMemory}
use Rattle.idl_driver.specs.Parsed.{IsRefusal, SaysWrong, Tells}
use Rattle.idl_driver.specs.declared.words.WordsFault.{WordsFault}
use Rattle.idl_driver.specs.declared.words.WordsFault.TheVariants.{Wrong, NoMemory}

-- they are wrong by it
pub refused : (kinds : Kinds) (kind : ErrorKind) (fault : WordsFault) → (kind ≡ OutOfMemory) ⊎ IsAmong kind kinds → SaysWrong (IsRefusal kind) fault → SaysWrong (Tells IsRefusal kinds) fault
refused kinds kind NoMemory among is = tt
refused kinds kind (Wrong text) (inl memory) is = absurd (is.2 memory)
refused kinds kind (Wrong text) (inr among) is = (kind, among, is)
