use Rattle.idl_memo.specs.Query.{noted_all}
use Rattle.idl_memo.proofs.asked.Asked.note_all.Given as goal

-- the entries with these keys and their answers
abbrev pub ghost-and : goal.ghost-and
ghost-and g a = noted_all g.B.Key.PartialEq.eq (g.B.Bank.at a.bank.now) a.self.now.items g.keys
