use Rattle.std.proofs.Common.{refl}
use Rattle.idl_inputs.specs.Bank.{bank_of}
use Rattle.idl_inputs.proofs.bank.answers_come_from_inputs.Goals as goal

pub returns : goal.returns
unfolding bank_of
returns c = λ inputs. record { by_name = λ name. refl; listed = refl }
