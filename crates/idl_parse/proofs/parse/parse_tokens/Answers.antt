use Rattle.std.proofs.Common.{◌≡◌, ◌+◌, ◌<◌, None, length, subst, arith, rules}
use Rattle.std.proofs.lemmas.Grind.{common_steps}
use Rattle.idl_syntax.specs.Gives.{Fails}
use Rattle.idl_syntax.specs.declared.fault.ReadingFault.{ReadingFault}
use Rattle.idl_syntax.specs.declared.fault.ReadingFault.TheVariants as fault
use Rattle.idl_parse.proofs.Parses.{fault_found, rest_found}
use Rattle.idl_parse.proofs.Stops.{some-left, stops-at}
use Rattle.idl_tree.specs.Lexeme.{lexemes}
use Rattle.idl_tree.specs.reading.ReadUnit.{unit_at}
use Rattle.idl_unit.specs.Faults.{least_fault}
use Rattle.idl_unit.specs.TokenRules.{token_faults}
use Rattle.idl_parse.proofs.parse.parse_tokens.Goals as goal

pub returns-in-Ok-clause-fault : goal.returns-in-Ok-clause-fault
returns-in-Ok-clause-fault c =
    let tokens = c.args.tokens.now in
    let rest = c.in-Ok.rest.now in
    let least : least_fault (token_faults tokens) ≡ None = search rules in
    let some : 0 < length rest = first_of (search rules, omega (arith, c.in-Ok.len_at_least), grind (arith, common_steps)) in
    let stop = rest_found c.reading.ensures.rest tokens rest c.in-Ok._tree c.in-Ok.ensures.reads some in
    (least, stops-at tokens (length rest) stop (length rest) (some-left (length rest) some))

pub returns-in-Err-NoTree-clause-fault : goal.returns-in-Err-NoTree-clause-fault
returns-in-Err-NoTree-clause-fault c =
    let tokens = c.args.tokens.now in
    let read = unit_at (length tokens + 1) (lexemes tokens) in
    let least : least_fault (token_faults tokens) ≡ None = search rules in
    let whole = c.in-Err-NoTree.is in
    let part = c.in-Err-NoTree.field-0-is in
    let is : c.in-Err-NoTree.field-0 ≡ fault.NoTree c.in-Err-NoTree.left = first_of (cc, search rules) in
    let failed = subst (λ (why : ReadingFault). Fails why read) is c.in-Err-NoTree.ensures.reads in
    (least, stops-at tokens c.in-Err-NoTree.left (fault_found c.reading.ensures.fault tokens c.in-Err-NoTree.left failed) c.max.result c.max.ensures)
