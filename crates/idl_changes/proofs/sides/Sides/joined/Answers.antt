use Rattle.std.proofs.Common.{◌∙◌, ℕ, List, Option, ap}
use Rattle.std.specs.List.{slice_get}
use Rattle.std.specs.Option.{option_and_then}
use Rattle.idl_changes.specs.Partners.{joined}
use Rattle.idl_changes.proofs.SideLemmas.{joined-there}
use Rattle.idl_repo.specs.declared.details.row_tree.RowTree.{RowTree}
use Rattle.idl_changes.proofs.sides.Sides.joined.Goals as goal

pub returns : goal.returns
returns c =
    c.place_in.ensures
    ∙ ap (λ (places : List (Option ℕ)). option_and_then (λ (o : Option ℕ). o) (slice_get places c.args.place)) c.deref.ensures.value
    ∙ joined-there c.self.inside.before c.self.inside.after c.args.place c.self.inside.forth.items c.self.invariant.before
    ∙ ap (λ (both : List RowTree × List RowTree). joined both.0 both.1 c.args.place) c.self.view_is
