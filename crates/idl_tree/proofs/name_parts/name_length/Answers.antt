use Rattle.std.proofs.Common.{arith}
use Rattle.idl_tree.proofs.NameLemmas.{behind_name}
use Rattle.idl_tree.proofs.name_parts.name_length.Goals as goal

pub last_at-requires : goal.last_at-requires
last_at-requires c =
    let e = behind_name 0 c.args.name.now in
    omega (arith, e, c.requires)

pub overflow_add-result : goal.overflow_add-result
overflow_add-result c =
    let e = behind_name 0 c.args.name.now in
    omega (arith, e, c.last_at.ensures, c.requires)

pub returns : goal.returns
returns c =
    let e = behind_name 0 c.args.name.now in
    omega (arith, e, c.last_at.ensures)
