use Rattle.std.proofs.Common.{◌∷◌, ap, sym, ◌∙◌}
use Rattle.std.specs.Cmp.Lexicographic.{bytes_decides}
use Rattle.idl_entity.specs.Path.{same_path}
use Rattle.idl_check.proofs.tables.declaring.declared_path.Goals as goal

pub returns-then-are_those : goal.returns-then-are_those
returns-then-are_those c =
    sym c.lent.ensures
    ∙ c.in_ok-first.ensures.some
    ∙ ap (λ n. n ∷ c.in_ok-first.around) ((bytes_decides _ _).0 (sym c.eq.ensures ∙ c.if-eq.true))
    ∙ ap (λ l. c.args.name.now ∷ l) (same_path _ _ (sym c.are_those.ensures ∙ c.if-are_those.true) ∙ c.lent-then-eq.ensures)
