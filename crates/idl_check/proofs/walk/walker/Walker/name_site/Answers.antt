use Rattle.std.proofs.Common.{◌++◌, slice_get, sym, ap, ◌∙◌, arith}
use Rattle.std.proofs.lemmas.Result.{on_ok_weaker}
use Rattle.idl_check.proofs.Visits.NamesLemmas.{copied-get}
use Rattle.idl_check.specs.walk.Held.{held}
use Rattle.idl_check.specs.walk.Names.{named, names_at}
use Rattle.idl_check.specs.declared.walk.names.NameRole.TheVariants.{Used}
use Rattle.idl_parts.specs.Item.{item_at}
use Rattle.idl_tree.proofs.NameLemmas.{behind_name}
use Rattle.idl_check.proofs.walk.walker.Walker.name_site.Goals as goal

pub last_at-requires : goal.last_at-requires
last_at-requires c =
    let behind = behind_name c.args.self.now.at c.in-Used.name.now in
    let room = rw c.in-Used.is at c.requires in
    omega (arith, behind, room)

pub returns-in-Used-clause-names : goal.returns-in-Used-clause-names
returns-in-Used-clause-names c =
    let before = c.args.names.now.items in
    let old = held c.args.self.now in
    let next = held c.visit.new.self in
    let path = copied-get c.as_slice.result.now c.len-count.result c.get-found.result c.get-found.ensures.lookup
    ∙ (λ i. slice_get (c.as_slice.ensures i) (c.len-count.ensures i)) in
    on_ok_weaker c.push_used.result
    (λ given.
    given
    ∙ (λ i. before ++ named Used (c.last_at.ensures i) (path i))
    ∙ ap (λ s. before ++ names_at (item_at s) old next) (sym c.in-Used.is))
    c.push_used.ensures
