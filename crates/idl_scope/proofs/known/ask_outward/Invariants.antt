use Rattle.std.proofs.Common.{◌≡◌, length}
use Rattle.idl_memo.specs.Query.{asked, noted_all}
use Rattle.idl_env.specs.Facts.{answers}
use Rattle.idl_env.specs.keys.Key.{key_eq}
use Rattle.idl_scope.specs.Known.{typeprefix_around}
use Rattle.idl_scope.proofs.known.ask_outward.Given as goal

-- what is left, over the log so far, is the whole
abbrev pub invariant-scopes : goal.invariant-scopes
invariant-scopes l =
    noted_all key_eq (answers l.env) l.log (asked (typeprefix_around l.names) (answers l.env))
    ≡ noted_all key_eq (answers l.env) l.fn.log (asked (typeprefix_around l.path) (answers l.env))

abbrev pub decreases-scopes : goal.decreases-scopes
decreases-scopes l = length l.names
