use Rattle.std.proofs.Common.{ap, ◌∙◌}
use Rattle.std.specs.List.{list_any}
use Rattle.idl_entity.specs.Path.{path_eq}
use Rattle.idl_env.proofs.answering.operations.joined.Goals as goal

pub join_new-requires : goal.join_new-requires
join_new-requires c = λ p among. c.in_ok-put_there.ensures p among ∙ ap (list_any (path_eq p)) (c.as_slice.ensures.value ∙ c.in_ok-to_vec.ensures)
