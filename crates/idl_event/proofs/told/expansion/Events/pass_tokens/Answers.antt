use Rattle.std.proofs.Common.{◌+◌, ◌-◌, ◌≤◌, length, arith, subst, rules}
use Rattle.idl_event.specs.Apart.{TokensFirst, events_from, woven}
use Rattle.idl_event.proofs.ApartLemmas.{passed-tokens}
use Rattle.idl_event.proofs.told.expansion.Events.pass_tokens.Goals as goal

pub invariant_of-self : goal.invariant_of-self
invariant_of-self c =
    let e = c.self.inside in
    let count = c.min-count.result in
    let before : count ≤ c.tokens_before-free.result = search rules in
    let short : count ≤ length e.sites.now - e.tokens_passed = search rules in
    let long : count ≤ length e.text.now - e.tokens_passed = search rules in (
      (passed-tokens e.sites.now e.text.now e.others.now count e.tokens_passed e.others_passed c.self.invariant.0
          (λ j event lt. c.tokens_before-free.ensures j event (omega (arith, lt, before))) short long).1,
      c.self.invariant.1,
    )

pub returns-clause-passed : goal.returns-clause-passed
returns-clause-passed c =
    let e = c.self.inside in
    let count = c.min-count.result in
    let before : count ≤ c.tokens_before-free.result = search rules in
    let short : count ≤ length e.sites.now - e.tokens_passed = search rules in
    let long : count ≤ length e.text.now - e.tokens_passed = search rules in
    subst (λ old. TokensFirst count old (events_from (e.tokens_passed + count + e.others_passed) (woven e.sites.now e.text.now e.others.now))) c.self.view_is
    (passed-tokens e.sites.now e.text.now e.others.now count e.tokens_passed e.others_passed c.self.invariant.0
    (λ j event lt. c.tokens_before-free.ensures j event (omega (arith, lt, before))) short long).0
