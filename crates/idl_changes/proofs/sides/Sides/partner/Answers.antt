use Rattle.std.proofs.Common.{◌∙◌, ℕ, List, Option, ap}
use Rattle.std.specs.List.{slice_get}
use Rattle.std.specs.Option.{option_and_then}
use Rattle.idl_changes.specs.Partners.{partner}
use Rattle.idl_changes.proofs.SideLemmas.{partner-there}
use Rattle.idl_repo.specs.declared.details.row_tree.RowTree.{RowTree}
use Rattle.idl_changes.proofs.sides.Sides.partner.Goals as goal

pub returns : goal.returns
returns c =
    c.place_in.ensures
    ∙ ap (λ (places : List (Option ℕ)). option_and_then (λ (o : Option ℕ). o) (slice_get places c.args.place)) c.deref.ensures.value
    ∙ partner-there c.self.inside.before c.self.inside.after c.args.place c.self.inside.partners.items c.self.invariant.partners
    ∙ ap (λ (both : List RowTree × List RowTree). partner both.0 both.1 c.args.place) c.self.view_is
