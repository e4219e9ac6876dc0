use Rattle.std.proofs.Common.{◌≡◌, ◌+◌, ◌∷◌, ◌++◌, ◌∙◌, List, ap, append-nil, arith, drop, map, rules, sym}
use Rattle.std.proofs.lemmas.List.{at_drop_all, at_drop_more}
use Rattle.idl_root.specs.AsBefore.{closing_beside}
use Rattle.idl_root.specs.Held.{listed_at}
use Rattle.idl_root.specs.declared.compiling.printing.Listed.{Listed as HeldListed}
use Rattle.idl_root.proofs.BesideLemmas.{name-more, name-none}
use Rattle.idl_root.proofs.StoredLemmas.{item-drop}
use Rattle.idl_store.specs.Stored.{list_at}
use Rattle.idl_root.proofs.kept.again.closing_findings.Goals as goal

pub loop-name-preserved : goal.loop-name-preserved
loop-name-preserved c =
    let listed = c.args.listed.now in
    let lists = c.args.kept.now.lists in
    let entries = list_at lists c.args.list in
    let i = c.loop-name.name-index in
    let p = c.loop-name.place in
    let name = c.name-item.result in
    let k = c.in-Some.entry.now in
    let here : drop i listed ≡ name ∷ drop (i + 1) listed =
    at_drop_more (λ (l : List HeldListed). l) listed i name c.loop-name-test.true ∙ ap (λ n. n ∷ drop (i + 1) listed) (sym c.name-item.is) in
    let there = item-drop lists c.args.list p k (search rules) in
    let inv = c.loop-name.invariant in (
      name-more listed entries i p name here c.loop-name.closing.items c.push_closing.new.findings.items _ inv.0 k there (search rules),
      omega (arith, inv.1),
    )

pub returns-in_default : goal.returns-in_default
returns-in_default c =
    let listed = c.args.listed.now in
    let entries = list_at c.args.kept.now.lists c.args.list in
    let i = c.loop-name.name-index in
    let name = c.name-item.result in
    let here : drop i listed ≡ name ∷ drop (i + 1) listed =
    at_drop_more (λ (l : List HeldListed). l) listed i name c.loop-name-test.true ∙ ap (λ n. n ∷ drop (i + 1) listed) (sym c.name-item.is) in
    let own = c.loop-name.closing.items in
    name-none listed entries i c.loop-name.place name here own own _ c.loop-name.invariant.0 (search rules)

pub returns : goal.returns
returns c =
    let entries = drop c.loop-name.place (list_at c.args.kept.now.lists c.args.list) in
    let own = c.loop-name.closing.items in
    let over = at_drop_all (λ (l : List HeldListed). own ++ closing_beside (map listed_at l) entries) c.args.listed.now c.loop-name.name-index c.loop-name-test.false in
    sym (sym c.loop-name.invariant.0 ∙ over ∙ append-nil own)
