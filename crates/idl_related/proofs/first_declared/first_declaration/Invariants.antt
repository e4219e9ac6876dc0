use Rattle.std.proofs.Common.{◌≡◌, [], drop}
use Rattle.idl_related.specs.FirstDeclared.{first_declaration}
use Rattle.idl_related.proofs.first_declared.first_declaration.Given as goal

-- it stands among the names from here on, behind those before
abbrev pub invariant-loop-name : goal.invariant-loop-name
invariant-loop-name l = first_declaration l.token l.first l.before (drop l.name-index l.own) ≡ first_declaration l.token l.first [] l.own
