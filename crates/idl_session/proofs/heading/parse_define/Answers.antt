use Rattle.std.proofs.Common.{◌∙◌, Option, List, ℕ, Bor, ap, sym}
use Rattle.idl_session.specs.Headings.{words_after}
use Rattle.idl_session.specs.Requests.{define_request}
use Rattle.idl_session.proofs.HeadingLemmas.{define_request-body, IsLine-rest}
use Rattle.idl_session.proofs.heading.parse_define.Goals as goal

pub returns-clause-request : goal.returns-clause-request
returns-clause-request c =
    let parts = rw c.in-Some-more.is at c.first_part.ensures.parts in
    define_request-body c.in-Some.rest.now c.first_part.result.0.now c.in-Some-more.body.now parts (sym c.is_command_word.ensures ∙ c.if-not-is_command_word.false)
    ∙ ap (λ (rest : Option (Bor (List ℕ))). define_request (words_after rest)) (sym c.in-Some.is)

pub returns-clause-one_line : goal.returns-clause-one_line
returns-clause-one_line c =
    let parts = rw c.in-Some-more.is at c.first_part.ensures.parts in
    let one_line = rw c.in-Some.is at c.requires in
    IsLine-rest c.in-Some.rest.now c.first_part.result.0.now c.in-Some-more.body.now parts one_line
