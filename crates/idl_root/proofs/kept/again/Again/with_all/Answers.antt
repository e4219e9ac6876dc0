use Rattle.std.proofs.Common.{◌≡◌, ◌+◌, ◌∷◌, ◌++◌, ◌∙◌, List, ap, append-nil, arith, drop, flat_map, map, rules, sym}
use Rattle.std.proofs.lemmas.List.{at_drop_all, at_drop_more}
use Rattle.idl_root.specs.AsBefore.{judged_beside}
use Rattle.idl_root.specs.Findings.{unit_finding}
use Rattle.idl_root.specs.Held.{listed_at}
use Rattle.idl_root.specs.Printed.{listed_in}
use Rattle.idl_root.proofs.BesideLemmas.{none-beside, other-more, spelled-more, spelled-none}
use Rattle.idl_root.proofs.StoredLemmas.{item-drop}
use Rattle.idl_store.specs.Stored.{list_at}
use Rattle.idl_unit.specs.declared.unit.Unit.{Unit as RootUnit}
use Rattle.idl_root.proofs.kept.again.Again.with_all.Goals as goal

pub loop-unit-preserved : goal.loop-unit-preserved
loop-unit-preserved c =
    let units = c.args.units.now in
    let lists = c.args.kept.now.lists in
    let results = list_at lists c.args.list in
    let i = c.loop-unit.unit-index in
    let p = c.loop-unit.place in
    let unit = c.unit-item.result in
    let again = c.loop-unit.again in
    let next = c.add.new.self in
    let text = c.in-Spelled.text in
    let sites = c.in-Spelled.sites in
    let k = c.in-Some.declaration.now in
    let here : drop i units ≡ unit ∷ drop (i + 1) units =
    at_drop_more (λ (l : List RootUnit). l) units i unit c.loop-unit-test.true ∙ ap (λ u. u ∷ drop (i + 1) units) (sym c.unit-item.is) in
    let there = item-drop lists c.args.list p k (search rules) in
    let inv = c.loop-unit.invariant in (
      spelled-more unit_finding units results i p unit here again.findings.items next.findings.items _ inv.0 text sites k c.in-Spelled.is there (search rules),
      spelled-more listed_in units results i p unit here (map listed_at again.listed.items) (map listed_at next.listed.items) _ inv.1 text sites k c.in-Spelled.is there (search rules),
      omega (arith, inv.2),
    )

-- behind a unit without tokens
pub loop-unit-preserved-in_default : goal.loop-unit-preserved-in_default
loop-unit-preserved-in_default c =
    let units = c.args.units.now in
    let results = list_at c.args.kept.now.lists c.args.list in
    let i = c.loop-unit.unit-index in
    let p = c.loop-unit.place in
    let unit = c.unit-item.result in
    let here : drop i units ≡ unit ∷ drop (i + 1) units =
    at_drop_more (λ (l : List RootUnit). l) units i unit c.loop-unit-test.true ∙ ap (λ u. u ∷ drop (i + 1) units) (sym c.unit-item.is) in
    let none = none-beside unit c.in_default.not-Spelled in
    let found = c.loop-unit.again.findings.items in
    let listed = map listed_at c.loop-unit.again.listed.items in
    let inv = c.loop-unit.invariant in (
      other-more unit_finding units results i p unit here found found _ inv.0 none,
      other-more listed_in units results i p unit here listed listed _ inv.1 none,
      omega (arith, inv.2),
    )

-- where nothing is kept of the unit
pub returns-in_default-get-clause-findings : goal.returns-in_default-get-clause-findings
returns-in_default-get-clause-findings c =
    let units = c.args.units.now in
    let results = list_at c.args.kept.now.lists c.args.list in
    let i = c.loop-unit.unit-index in
    let p = c.loop-unit.place in
    let unit = c.unit-item.result in
    let here : drop i units ≡ unit ∷ drop (i + 1) units =
    at_drop_more (λ (l : List RootUnit). l) units i unit c.loop-unit-test.true ∙ ap (λ u. u ∷ drop (i + 1) units) (sym c.unit-item.is) in
    let found = c.loop-unit.again.findings.items in
    spelled-none unit_finding units results i p unit here found found _ c.loop-unit.invariant.0 c.in-Spelled.text c.in-Spelled.sites c.in-Spelled.is (search rules)

pub returns-in_default-get-clause-listed : goal.returns-in_default-get-clause-listed
returns-in_default-get-clause-listed c =
    let units = c.args.units.now in
    let results = list_at c.args.kept.now.lists c.args.list in
    let i = c.loop-unit.unit-index in
    let p = c.loop-unit.place in
    let unit = c.unit-item.result in
    let here : drop i units ≡ unit ∷ drop (i + 1) units =
    at_drop_more (λ (l : List RootUnit). l) units i unit c.loop-unit-test.true ∙ ap (λ u. u ∷ drop (i + 1) units) (sym c.unit-item.is) in
    let listed = map listed_at c.loop-unit.again.listed.items in
    spelled-none listed_in units results i p unit here listed listed _ c.loop-unit.invariant.1 c.in-Spelled.text c.in-Spelled.sites c.in-Spelled.is (search rules)

pub returns-clause-findings : goal.returns-clause-findings
returns-clause-findings c =
    let results = drop c.loop-unit.place (list_at c.args.kept.now.lists c.args.list) in
    let own = c.loop-unit.again.findings.items in
    let over = at_drop_all (λ (l : List RootUnit). own ++ flat_map unit_finding (judged_beside l results)) c.args.units.now c.loop-unit.unit-index c.loop-unit-test.false in
    sym (sym c.loop-unit.invariant.0 ∙ over ∙ append-nil own)

pub returns-clause-listed : goal.returns-clause-listed
returns-clause-listed c =
    let results = drop c.loop-unit.place (list_at c.args.kept.now.lists c.args.list) in
    let own = map listed_at c.loop-unit.again.listed.items in
    let over = at_drop_all (λ (l : List RootUnit). own ++ flat_map listed_in (judged_beside l results)) c.args.units.now c.loop-unit.unit-index c.loop-unit-test.false in
    sym (sym c.loop-unit.invariant.1 ∙ over ∙ append-nil own)
