use Rattle.std.proofs.Common.{ℕ, List, subst, true}
use Rattle.idl_server.specs.Files.{IsWith}
use Rattle.idl_server.proofs.loading.pass_over.Goals as goal

pub returns-clause-unread : goal.returns-clause-unread
returns-clause-unread c = subst (λ (n : List ℕ). IsWith n true c.args.unread.now.keys c.insert.new.self.keys) c.copied.ensures c.in_ok-insert.ensures.updates.0

pub returns-clause-tried : goal.returns-clause-tried
returns-clause-tried c = subst (λ (n : List ℕ). IsWith n true c.args.tried.now.keys c.insert-2.new.self.keys) c.copied-2.ensures c.in_ok-insert-2.ensures.updates.0
