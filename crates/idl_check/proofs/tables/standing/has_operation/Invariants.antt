use Rattle.std.proofs.Common.{◌≡◌, drop, map}
use Rattle.std.specs.List.{list_any}
use Rattle.idl_entity.specs.Entity.{is_operation}
use Rattle.idl_check.proofs.tables.standing.has_operation.Given as goal

-- what holds of one of all is asked of the rest
abbrev pub invariant-loop-entity : goal.invariant-loop-entity
invariant-loop-entity l =
    list_any is_operation (map (λ e. e.now) (drop l.entity-index l.entities))
    ≡ list_any is_operation (map (λ e. e.now) l.entities)
