use Rattle.idl_server.proofs.closing.forget.Goals as goal

pub returns-clause-tried : goal.returns-clause-tried
returns-clause-tried c = c.shift_remove.ensures.updates.0

pub returns-clause-unread : goal.returns-clause-unread
returns-clause-unread c = c.shift_remove-2.ensures.updates.0
