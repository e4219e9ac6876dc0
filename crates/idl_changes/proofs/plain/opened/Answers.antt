use Rattle.std.proofs.Common.{◌≡◌, ◌∙◌, ℕ, IfOk, List, Option, ap, length, subst, sym}
use Rattle.std.specs.List.{slice_get}
use Rattle.std.specs.Option.{option_and_then, option_copied, option_map_or}
use Rattle.idl_changes.specs.Plain.{around, named_by}
use Rattle.idl_changes.proofs.PlainLemmas.{opened-among}
use Rattle.idl_repo.specs.declared.details.type_tree.LayeredType.{LayeredType}
use Rattle.idl_changes.proofs.plain.opened.Goals as goal

pub returns-in-Some : goal.returns-in-Some
returns-in-Some c =
    let L = c.args.listing.now in
    let t = c.args.data_type.now in
    let z = length c.args.plains.now in
    let all = opened-among L z t
    ∙ ap (λ (ps : List (Option LayeredType)). option_map_or (around t) (option_and_then (λ (n : ℕ). option_and_then (λ (p : Option LayeredType). p) (slice_get ps n)) (named_by L t.element)) t) (sym c.requires)
    ∙ ap (λ (o : Option LayeredType). option_map_or (around t) o t) (sym c.alias_among.ensures ∙ ap option_copied c.in-Some.is)
    in
    subst (λ (u : LayeredType). IfOk c.around.result (λ (v : LayeredType). v ≡ u)) (sym all) c.around.ensures

pub returns-in-None : goal.returns-in-None
returns-in-None c =
    let L = c.args.listing.now in
    let t = c.args.data_type.now in
    let z = length c.args.plains.now in
    let all = opened-among L z t
    ∙ ap (λ (ps : List (Option LayeredType)). option_map_or (around t) (option_and_then (λ (n : ℕ). option_and_then (λ (p : Option LayeredType). p) (slice_get ps n)) (named_by L t.element)) t) (sym c.requires)
    ∙ ap (λ (o : Option LayeredType). option_map_or (around t) o t) (sym c.alias_among.ensures ∙ ap option_copied c.in-None.is)
    in
    subst (λ (u : LayeredType). IfOk c.copy_of.result (λ (v : LayeredType). v ≡ u)) (sym all) c.copy_of.ensures
