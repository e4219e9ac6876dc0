-- What is discarded leaves what was there.
use Rattle.std.specs.Map.{keys_of}
use Rattle.idl_inputs.specs.Bank.{bank_of}
use Rattle.idl_project.proofs.RootLemmas.{IsKeeperLeft-discarded}
use Rattle.idl_project.proofs.root_table.RootTable.renewed.Goals as goal

pub returns-in-Err-clause-err : goal.returns-in-Err-clause-err
returns-in-Err-clause-err g c =
    IsKeeperLeft-discarded (bank_of c.args.change.now.base.now) (keys_of c.args.self.now) c.args.keeper.now c.all_renewed.new.keeper c.discard.new.self
    c.requires.held.texts c.requires.held.entries c.all_renewed.ensures.lists c.discard.ensures.texts c.discard.ensures.entries
