use Rattle.std.proofs.Common.{◌∙◌, ◌||◌, ℕ, Option, ap, false, nat_eq, sym}
use Rattle.std.specs.List.{list_any}
use Rattle.std.specs.Option.{option_map_or}
use Rattle.idl_changes.proofs.SetLemmas.{more-places, or-turned}
use Rattle.idl_changes.proofs.interfaces.put_in.Goals as goal

pub returns : goal.returns
returns c = λ n.
    let old = c.args.set.now.keys in
    let k = c.in-Some.place in
    more-places old c.insert.new.self.keys k n (c.in_ok-insert.ensures.updates.0 n)
    ∙ or-turned (nat_eq n k) (list_any (nat_eq n) old)
    ∙ ap (λ (o : Option ℕ). list_any (nat_eq n) old || option_map_or (nat_eq n) o false) (sym c.in-Some.is)
