use Rattle.std.proofs.Common.{◌≡◌, ◌∙◌, ◌++◌, All, ap, length, refl, reverse, rules, subst, sym}
use Rattle.std.proofs.lemmas.List.{append-nil, drop_all}
use Rattle.std.proofs.lemmas.List.Elements.{All-push}
use Rattle.idl_related.specs.FirstDeclared.{assigned}
use Rattle.idl_related.specs.Related.{AreOfFinding}
use Rattle.idl_related.proofs.FirstDeclaredLemmas.{assigned-behind}
use Rattle.idl_related.proofs.told.matched.Goals as goal

pub findings-preserved : goal.findings-preserved
findings-preserved c =
    let finding = c.finding-item.result in
    let next = c.next_of-related in record {
      count = search rules;
      left = λ events told. next.ensures.left events (c.findings.invariant.left events told);
      lists = λ events told.
          subst (All (AreOfFinding events)) (sym c.in_ok-push.ensures.items)
          (All-push (AreOfFinding events) c.findings.all.items next.result (c.findings.invariant.lists events told)
          (next.ensures.next events (c.findings.invariant.left events told)));
      assigned =
          assigned-behind c.args.findings.now c.findings.finding-index finding c.findings.told.items next.new.told.items next.result c.findings.all.items c.push.new.self.items
          c.findings-test.true c.finding-item.is c.in_ok-push.ensures.items (λ fs. next.ensures.assigned finding fs refl)
          ∙ c.findings.invariant.assigned;
    }

pub returns-clause-lists : goal.returns-clause-lists
returns-clause-lists c = λ events told.
    let count : length c.from_vec.result ≡ length c.args.findings.now = search rules in
    (count, subst (All (AreOfFinding events)) (sym c.from_vec.ensures) (c.findings.invariant.lists events told))

pub returns-clause-assigned : goal.returns-clause-assigned
returns-clause-assigned c =
    let all = c.findings.all.items in
    c.from_vec.ensures ∙ sym (append-nil all)
    ∙ ap (λ fs. all ++ assigned fs (reverse c.findings.told.items)) (sym (drop_all c.findings.finding-index c.args.findings.now c.findings-test.false))
    ∙ c.findings.invariant.assigned
