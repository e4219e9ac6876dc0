use Rattle.std.proofs.Common.{◌≡◌, ◌∙◌, ℕ, Bool, Option, ap, false, is_none, not, refl, sym, true}
use Rattle.std.specs.Option.{option_copied, option_map_or}
use Rattle.idl_changes.proofs.ListingLemmas.{got-item}
use Rattle.idl_changes.proofs.joined.is_free.Goals as goal

not-twice : (b : Bool) → not (not b) ≡ b
not-twice true = refl
not-twice false = refl

pub returns-in-Some : goal.returns-in-Some
returns-in-Some c =
    let at = sym (got-item c.args.places.now c.args.place c.get.result c.get.ensures.lookup.3) ∙ ap option_copied c.in-Some.is in
    sym (not-twice c.is_none.result) ∙ ap not (sym c.is_none.ensures)
    ∙ sym (ap (λ (o : Option (Option ℕ)). option_map_or (λ (found : Option ℕ). is_none found) o false) at)
