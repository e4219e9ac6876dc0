use Rattle.idl_memo.proofs.journal.Journal.note_all.Given as goal

-- these keys
abbrev pub ghost-note_all : goal.ghost-note_all
ghost-note_all g a = g.keys
