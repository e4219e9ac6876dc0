use Rattle.std.proofs.Common.{◌≡◌, ◌∙◌, ℕ, List, ap, map, refl}
use Rattle.std.specs.Borrow.{Bor}
use Rattle.idl_inputs.specs.Edits.{Search}
use Rattle.idl_inputs.specs.Made.{rootless}
use Rattle.idl_inputs.specs.Project.{Inputs}
use Rattle.idl_inputs.proofs.EditLemmas.{search-accepted}
use Rattle.idl_inputs.proofs.FormLemmas.{after-formed}
use Rattle.idl_sources.proofs.sources.Sources.search.Goals as goal

pub invariant_of-self : goal.invariant_of-self
invariant_of-self c =
    let old : Inputs = c.self.inside.bank in
    let new : Inputs = c.set_search.new.self in
    let given : List (List ℕ) = map (λ (bytes : Bor (List ℕ)). bytes.now) c.args.list.now in
    let made : new ≡ record old { search = c.in_ok-list.list.items } = c.set_search.ensures.set ∙ ap (λ (list : List (List ℕ)). record old { search = list }) c.from_vec.ensures in
    after-formed (rootless old) (rootless new) (Search given) c.self.invariant (search-accepted (rootless old) given c.in_ok-list.list.items new (rootless old).roots c.in_ok-list.ensures.ok made refl)
