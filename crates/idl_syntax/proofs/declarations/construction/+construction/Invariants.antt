use Rattle.std.proofs.Common.{◌≤◌, ◌+◌, ◌*◌, length}
use Rattle.idl_tree.specs.Lexeme.{lexemes}
use Rattle.idl_tree.specs.reading.ReadConstruction.{case_with, construction_at, goes_on, member_with}
use Rattle.idl_tree.specs.reading.ReadExpression.{expression_at}
use Rattle.idl_tree.specs.reading.ReadType.{type_at}
use Rattle.idl_tree.specs.reading.Reading.{many_of}
use Rattle.idl_syntax.proofs.Turns.{Turns}
use Rattle.idl_syntax.proofs.declarations.construction.+construction.Given as goal

abbrev pub decreases-construction : goal.decreases-construction
decreases-construction l = l.depth * 20

abbrev pub decreases-construction_inside : goal.decreases-construction_inside
decreases-construction_inside l = l.depth * 20 + 13

abbrev pub decreases-structure : goal.decreases-structure
decreases-structure l = l.depth * 20 + 12

abbrev pub decreases-structure_rest : goal.decreases-structure_rest
decreases-structure_rest l = l.depth * 20 + 11

abbrev pub decreases-union_type : goal.decreases-union_type
decreases-union_type l = l.depth * 20 + 9

abbrev pub decreases-union_rest : goal.decreases-union_rest
decreases-union_rest l = l.depth * 20 + 8

abbrev pub decreases-union_cases : goal.decreases-union_cases
decreases-union_cases l = l.depth * 20 + 7

abbrev pub decreases-members : goal.decreases-members
decreases-members l = l.depth * 20 + 10

abbrev pub decreases-more_members : goal.decreases-more_members
decreases-more_members l = l.depth * 20 + 6

abbrev pub decreases-cases : goal.decreases-cases
decreases-cases l = l.depth * 20 + 5

abbrev pub decreases-member : goal.decreases-member
decreases-member l = l.depth * 20 + 4

abbrev pub decreases-case : goal.decreases-case
decreases-case l = l.depth * 20 + 3

abbrev pub decreases-member_type : goal.decreases-member_type
decreases-member_type l = l.depth * 20 + 2

abbrev pub invariant-more_members-members : goal.invariant-more_members-members
invariant-more_members-members l = record {
  turns : Turns goes_on (member_with (expression_at l.fn.depth) (type_at l.fn.depth) (construction_at l.fn.depth)) l.members.items (lexemes l.rest) (many_of goes_on (member_with (expression_at l.fn.depth) (type_at l.fn.depth) (construction_at l.fn.depth)) (lexemes l.fn.tokens));
  long : length l.rest ≤ length l.fn.tokens;
}

abbrev pub decreases-more_members-members : goal.decreases-more_members-members
decreases-more_members-members l = length l.rest

abbrev pub invariant-cases-cases : goal.invariant-cases-cases
invariant-cases-cases l = record {
  turns : Turns goes_on (case_with (expression_at l.fn.depth) (type_at l.fn.depth) (construction_at l.fn.depth)) l.cases.items (lexemes l.rest) (many_of goes_on (case_with (expression_at l.fn.depth) (type_at l.fn.depth) (construction_at l.fn.depth)) (lexemes l.fn.tokens));
  long : length l.rest ≤ length l.fn.tokens;
}

abbrev pub decreases-cases-cases : goal.decreases-cases-cases
decreases-cases-cases l = length l.rest
