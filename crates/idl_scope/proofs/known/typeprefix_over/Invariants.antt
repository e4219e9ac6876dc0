use Rattle.std.proofs.Common.{◌≡◌, length}
use Rattle.std.specs.Option.{option_copied}
use Rattle.idl_env.specs.Facts.{answers}
use Rattle.idl_scope.specs.Known.{added_by, typeprefix_around}
use Rattle.idl_scope.proofs.LookupLaws.RunLemmas.{runs}
use Rattle.idl_scope.proofs.known.typeprefix_over.Given as goal

-- what is left, over the log so far, is the whole
abbrev pub invariant-scopes : goal.invariant-scopes
invariant-scopes l =
    runs (added_by (option_copied l.own)) (answers l.env) (typeprefix_around l.names) l.log
    ≡ runs (added_by (option_copied l.own)) (answers l.env) (typeprefix_around l.path) l.fn.log

abbrev pub decreases-scopes : goal.decreases-scopes
decreases-scopes l = length l.names
