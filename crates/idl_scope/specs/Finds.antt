-- What is found under a name, as it is held.
use Rattle.std.specs.Prelude.{List, [], ◌∷◌, map}
use Rattle.idl_entity.specs.declared.entity.Entity.{Entity}
use Rattle.idl_scope.specs.declared.finds.Finds.{Finds}
use Rattle.idl_scope.specs.declared.finds.Finds.TheVariants.{Own, Reached}

-- those that are found
abbrev pub those : Finds → List Entity
those (Own e) = e.now ∷ []
those (Reached es) = map (λ e. e.now) es.items
