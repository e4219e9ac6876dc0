use Rattle.std.proofs.Common.{◌≤◌, ◌++◌, map, ap, ◌∙◌, arith}
use Rattle.idl_check.proofs.Visits.JudgeLemmas.{sites-length}
use Rattle.idl_check.specs.walk.Names.{site_names}
use Rattle.idl_check.specs.walk.Walk.{first_walk}
use Rattle.idl_env.specs.Facts.{answers}
use Rattle.idl_env.specs.Turns.{turns_for}
use Rattle.idl_parts.specs.Item.{item_at, items, items_length}
use Rattle.idl_parts.specs.UnitParts.{unit_parts}
use Rattle.idl_check.proofs.walk.judge.Judge.names_of_sites.Goals as goal

pub name_sites-requires : goal.name_sites-requires
name_sites-requires c =
    let sites = ap (map item_at) c.as_slice.ensures.value ∙ c.in_ok-sites.ensures in
    let all = ap items_length sites ∙ sites-length c.args.self.tokens.now c.args.tree.now c.requires in
    let at = ap (λ w. w.at) c.new-walker.ensures.walk in
    omega (arith, all, at)

pub returns : goal.returns
returns c = λ turns more.
    let bank = answers c.args.self.env.now in
    let scopes = c.args.self.scopes.now in
    let tree = c.args.tree.now in
    let sites = ap (map item_at) c.as_slice.ensures.value ∙ c.in_ok-sites.ensures in
    let enough : turns_for c.new-walker.result.env.now ≤ turns = rw c.new-walker.ensures.env more in
    c.in_ok-name_sites.ensures turns enough
    ∙ (λ i. c.new-names.ensures.items i ++ site_names turns (answers (c.new-walker.ensures.env i)) (sites i) (c.new-walker.ensures.walk i))
    ∙ (λ i. site_names turns bank (items (unit_parts tree)) (record (first_walk scopes) { fault = c.place_fault-known.ensures i }))
