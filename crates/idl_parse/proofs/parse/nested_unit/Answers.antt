use Rattle.std.proofs.Common.{◌≡◌, None, rules}
use Rattle.idl_parse.proofs.Nesting.{levels_enough}
use Rattle.idl_unit.specs.Faults.{least_fault}
use Rattle.idl_unit.specs.TokenRules.{token_faults}
use Rattle.idl_parse.proofs.parse.nested_unit.Goals as goal

pub returns-clause-reads : goal.returns-clause-reads
returns-clause-reads c =
    let tokens = c.args.tokens.now in
    let least : least_fault (token_faults tokens) ≡ None = search rules in
    let same = levels_enough c.nesting.ensures.same c.nesting.ensures.most tokens least in
    let read = c.unit.ensures.reads in
    let here = rw same at read in
    here
