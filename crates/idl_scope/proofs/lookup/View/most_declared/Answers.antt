use Rattle.std.proofs.Common.{arith}
use Rattle.idl_env.proofs.DeclaredLemmas.{declared-few}
use Rattle.idl_scope.proofs.lookup.View.most_declared.Goals as goal

pub returns-clause-most : goal.returns-clause-most
returns-clause-most c =
    let few = declared-few c.args.self.own.now.additions in
    omega (arith, few, c.most_declared.ensures, c.len.ensures)
