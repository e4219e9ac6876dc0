use Rattle.std.proofs.Common.{arith}
use Rattle.idl_check_laws.proofs.Fits.ClosingLaws.{told-settled}
use Rattle.idl_check_laws.proofs.Fits.FittingLaws.{unit-fits}
use Rattle.idl_check_laws.proofs.Fits.SoundLaws.{sound-fits}
use Rattle.idl_check_laws.proofs.NamingLaws.{settled-nameless, settled-own, told-counted}
use Rattle.idl_env.specs.Facts.{answers, count_in, world}
use Rattle.idl_env.specs.declared.keys.key.Key.TheVariants.{Nameless}
use Rattle.idl_check_laws.proofs.laws.naming.Goals as goal

pub returns-clause-own : goal.returns-clause-own
returns-clause-own c = λ facts n path e told stands.
    settled-own (world facts) (told-settled (λ front text k. unit-fits front k (λ tokens v sound. sound-fits front k tokens v sound) text) facts told) n path e stands

pub returns-clause-nameless : goal.returns-clause-nameless
returns-clause-nameless c = λ facts name scope told.
    settled-nameless (world facts) (told-settled (λ front text k. unit-fits front k (λ tokens v sound. sound-fits front k tokens v sound) text) facts told) name scope

pub returns-clause-next : goal.returns-clause-next
returns-clause-next c = λ facts scope told small. told-counted facts told (count_in (answers facts Nameless)) scope (omega arith) small
