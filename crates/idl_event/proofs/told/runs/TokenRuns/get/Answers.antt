use Rattle.std.proofs.Common.{◌≡◌, ◌∙◌, Bor, IfSome, Option, None, Some, ap, slice_get, sym}
use Rattle.std.specs.Option.{option_copied}
use Rattle.idl_lex.specs.tokens.Tokens.{Token}
use Rattle.idl_event.proofs.RunsLemmas.{read-behind}
use Rattle.idl_event.proofs.SitesLemmas.{copied-get}
use Rattle.idl_event.proofs.told.runs.TokenRuns.get.Goals as goal

lent : (r : Option (Bor Token)) (o : Option Token) → option_copied r ≡ o → IfSome r (λ t. o ≡ Some t.now)
lent None o e = tt
lent (Some t) o e = sym e

pub returns-clause-some : goal.returns-clause-some
returns-clause-some c =
    let run = c.in_ok-run.run'.now in
    let place = c.in_ok-run.place in
    let some = c.in_ok-run.ensures.some in
    lent c.get.result (slice_get c.args.self.now c.args.index)
    (copied-get c.as_slice.result.now place c.get.result c.get.ensures.lookup
    ∙ ap (λ ts. slice_get ts place) c.as_slice.ensures
    ∙ sym (read-behind c.args.self.now run some.1 c.args.index place some.0 some.2))
