use Rattle.std.proofs.Common.{◌∙◌, ℕ, Option, ap, false, nat_eq, sym}
use Rattle.std.specs.List.{list_any}
use Rattle.std.specs.Option.{option_map_or}
use Rattle.idl_changes.proofs.SetLemmas.{has-place}
use Rattle.idl_changes.proofs.interfaces.is_among.Goals as goal

pub returns-in-Some : goal.returns-in-Some
returns-in-Some c =
    let keys = c.args.places.now.keys in
    c.contains.ensures ∙ has-place c.in-Some.place keys
    ∙ ap (λ (o : Option ℕ). option_map_or (λ (n : ℕ). list_any (nat_eq n) keys) o false) (sym c.in-Some.is)
