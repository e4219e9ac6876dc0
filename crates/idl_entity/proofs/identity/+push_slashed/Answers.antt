use Rattle.std.proofs.Common.{◌≡◌, ◌∙◌, ◌++◌, ◌∷◌, [], append_assoc, ap, false, sym}
use Rattle.idl_entity.proofs.IdLemmas.{slashed_further}
use Rattle.idl_entity.specs.Identity.{relative, slashed}
use Rattle.idl_entity.specs.Path.{path_eq}
use Rattle.idl_entity.proofs.identity.+push_slashed.Goals as goal

pub returns : goal.returns
returns t c =
    let some : c.in-Some.around ≡ [] → ⊥ = λ e. let yes = c.is_empty.ensures.1 e in let no = c.if-is_empty.false in cc in
    let apart : path_eq c.in-Some.around c.args.scope.now ≡ false = ap (path_eq c.in-Some.around) (sym c.lent.ensures) ∙ sym c.are_those.ensures ∙ c.if-are_those.false in
    let around = slashed (relative c.in-Some.around c.args.scope.now) in
    let whole = ap (λ path. slashed (relative path c.args.scope.now)) c.in-Some.ensures.some
    ∙ slashed_further c.in-Some.name.now c.in-Some.around c.args.scope.now some apart in
    c.in_ok-extend_from_slice-2.ensures.items
    ∙ ap (λ l. l ++ c.in-Some.name.now) (c.in_ok-push.ensures.items ∙ ap (λ l. l ++ 47 ∷ []) c.in_ok-push_slashed.ensures)
    ∙ append_assoc (c.args.id.now.items ++ around) (47 ∷ []) c.in-Some.name.now
    ∙ append_assoc c.args.id.now.items around (47 ∷ c.in-Some.name.now)
    ∙ ap (λ l. c.args.id.now.items ++ l) (sym whole)
