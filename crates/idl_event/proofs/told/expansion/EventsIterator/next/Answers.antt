use Rattle.std.proofs.Common.{◌≡◌, ◌∙◌, [], None, Some, slice_get, sym, rules}
use Rattle.idl_event.proofs.ApartLemmas.{passed-no_token, passed-none, passed-other, passed-token}
use Rattle.idl_event.specs.Apart.{site_at}
use Rattle.idl_event.proofs.told.expansion.EventsIterator.next.Goals as goal

pub invariant_of-self : goal.invariant_of-self
invariant_of-self c =
    let e = c.self.inside in
    ((passed-other e.sites.now e.text.now e.others.now e.tokens_passed e.others_passed c.self.invariant.0 c.in-Some.event.now c.in-Some.ensures.some).1, c.self.invariant.1)

pub returns-in-Some-clause-steps : goal.returns-in-Some-clause-steps
returns-in-Some-clause-steps c =
    let e = c.self.inside in
    sym c.self.view_is
    ∙ (passed-other e.sites.now e.text.now e.others.now e.tokens_passed e.others_passed c.self.invariant.0 c.in-Some.event.now c.in-Some.ensures.some).0

pub returns-in-Some-clause-goes : goal.returns-in-Some-clause-goes
returns-in-Some-clause-goes c =
    let steps = returns-in-Some-clause-steps c in
    search rules

pub returns-in_err-file-in-None-clause-steps : goal.returns-in_err-file-in-None-clause-steps
returns-in_err-file-in-None-clause-steps c =
    let e = c.self.inside in
    let none : c.args.self.now ≡ [] = sym c.self.view_is
    ∙ passed-none e.sites.now e.text.now e.others.now e.tokens_passed e.others_passed c.self.invariant.0 c.in-None.ensures.none c.in_err-file-in-None.ensures.none in
    search rules

pub returns-in_err-token-in-None-clause-steps : goal.returns-in_err-token-in-None-clause-steps
returns-in_err-token-in-None-clause-steps c =
    let e = c.self.inside in
    let at : slice_get e.text.now e.tokens_passed ≡ None = c.in_err-token-in-None.ensures.none in
    let none : c.args.self.now ≡ [] = sym c.self.view_is
    ∙ passed-no_token e.sites.now e.text.now e.others.now e.tokens_passed e.others_passed c.self.invariant.0 c.in-None.ensures.none at in
    search rules

pub invariant_of-self-in-None : goal.invariant_of-self-in-None
invariant_of-self-in-None c =
    let e = c.self.inside in
    let stands = c.in_ok-file-in-None.ensures.some in
    let site = site_at stands.0 (record { file = c.in_ok-file-in-None.file.now; line = c.in_ok-file-in-None.line }) in
    let at_token : slice_get e.text.now e.tokens_passed ≡ Some c.in_ok-token-in-None.token.now = c.in_ok-token-in-None.ensures.some in (
      (passed-token e.sites.now e.text.now e.others.now e.tokens_passed e.others_passed c.self.invariant.0
          site c.in_ok-token-in-None.token.now c.in-None.ensures.none stands.1 at_token).1,
      c.self.invariant.1,
    )

pub returns-in_ok-token-in-None-clause-steps : goal.returns-in_ok-token-in-None-clause-steps
returns-in_ok-token-in-None-clause-steps c =
    let e = c.self.inside in
    let stands = c.in_ok-file-in-None.ensures.some in
    let site = site_at stands.0 (record { file = c.in_ok-file-in-None.file.now; line = c.in_ok-file-in-None.line }) in
    let at_token : slice_get e.text.now e.tokens_passed ≡ Some c.in_ok-token-in-None.token.now = c.in_ok-token-in-None.ensures.some in
    sym c.self.view_is
    ∙ (passed-token e.sites.now e.text.now e.others.now e.tokens_passed e.others_passed c.self.invariant.0
    site c.in_ok-token-in-None.token.now c.in-None.ensures.none stands.1 at_token).0

pub returns-in_ok-token-in-None-clause-goes : goal.returns-in_ok-token-in-None-clause-goes
returns-in_ok-token-in-None-clause-goes c =
    let steps = returns-in_ok-token-in-None-clause-steps c in
    search rules
