-- Productions whose parts nest less than so many levels.
use Rattle.std.specs.Prelude.{ℕ}
use Rattle.idl_tree.specs.reading.ReadConstruction.{construction_at}
use Rattle.idl_tree.specs.reading.ReadExpression.{expression_at}
use Rattle.idl_tree.specs.reading.ReadType.{type_at}
use Rattle.idl_tree.specs.reading.Reading.{Reader}
use Rattle.idl_tree.specs.declared.declarations.construction.Construction.{Construction}
use Rattle.idl_tree.specs.declared.declarations.data_type.TypeTree.{TypeTree}
use Rattle.idl_tree.specs.declared.expression.Expression.{Expression}

abbrev pub nested : {A : Type 0} → (Reader Expression → Reader TypeTree → Reader Construction → A)
    → ℕ → A
nested reader depth = reader (expression_at depth) (type_at depth) (construction_at depth)
