use Rattle.std.proofs.Common.{sym, ap, ◌∙◌, Ok, Err}
use Rattle.idl_env.specs.Facts.{answers}
use Rattle.idl_scope.specs.Lookup.{further, reach_of}
use Rattle.idl_scope.proofs.LookupLaws.RunLemmas.{denoted_on, from_first_on, runs}
use Rattle.idl_scope.proofs.lookup.View.denoted.Goals as goal

pub returns-in-Err : goal.returns-in-Err
returns-in-Err c turns more =
    let own = c.args.self.own.now.additions in
    let bank = answers c.args.self.env.now in
    let first = rw c.in-Err.is at c.in_ok-first.ensures turns more in
    sym (denoted_on own bank turns c.args.cursor.now c.args.name.now c.args.log.now (Err c.in-Err.fault) c.in_ok-first.inside _ first)

pub returns-in_ok-entity-in-Ok-2 : goal.returns-in_ok-entity-in-Ok-2
returns-in_ok-entity-in-Ok-2 c turns more =
    let own = c.args.self.own.now.additions in
    let bank = answers c.args.self.env.now in
    let cursor = c.args.cursor.now in
    let name = c.args.name.now in
    let inside = c.in_ok-first.inside in
    let e = c.in-Ok.first.now in
    let first = rw c.in-Ok.is at c.in_ok-first.ensures turns more in
    let given = rw c.in-Ok-2.is at c.in_ok-last.ensures turns more in
    let last = given ∙ ap (λ names. runs own bank (further turns 0 e names) c.first_part.new.log) c.as_slice.ensures in
    let reaches = c.reach_of-reach.ensures ∙ ap (λ x. reach_of name cursor inside x) c.get.ensures in
    (λ i. (Ok (record { entity = c.in_ok-entity-in-Ok-2.ensures.cases i; reach = reaches i }), c.further.new.log))
    ∙ sym (from_first_on own bank turns cursor name inside e c.first_part.new.log (Ok c.in-Ok-2.last.now) _ last)
    ∙ sym (denoted_on own bank turns cursor name c.args.log.now (Ok e) inside _ first)

pub returns-in-Err-2 : goal.returns-in-Err-2
returns-in-Err-2 c turns more =
    let own = c.args.self.own.now.additions in
    let bank = answers c.args.self.env.now in
    let cursor = c.args.cursor.now in
    let name = c.args.name.now in
    let inside = c.in_ok-first.inside in
    let e = c.in-Ok.first.now in
    let first = rw c.in-Ok.is at c.in_ok-first.ensures turns more in
    let given = rw c.in-Err-2.is at c.in_ok-last.ensures turns more in
    let last = given ∙ ap (λ names. runs own bank (further turns 0 e names) c.first_part.new.log) c.as_slice.ensures in
    sym (from_first_on own bank turns cursor name inside e c.first_part.new.log (Err c.in-Err-2.fault) _ last)
    ∙ sym (denoted_on own bank turns cursor name c.args.log.now (Ok e) inside _ first)
