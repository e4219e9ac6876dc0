use Rattle.idl_scope.proofs.known.note_asked.Given as goal

-- what the question asks
abbrev pub ghost-note_all : goal.ghost-note_all
ghost-note_all g a = g.Q.Question.asked a.question.now (g.B.Bank.at a.bank.now)
