use Rattle.std.proofs.Common.{sym, ◌∙◌}
use Rattle.idl_env.specs.Facts.{answers}
use Rattle.idl_scope.specs.Finds.{those}
use Rattle.idl_scope.specs.Lookup.{judged, placed}
use Rattle.idl_scope.proofs.LookupLaws.RunLemmas.{first_on}
use Rattle.idl_scope.proofs.lookup.View.first_part.Goals as goal

pub returns : goal.returns
returns c turns more =
    let own = c.args.self.own.now.additions in
    let bank = answers c.args.self.env.now in
    let judged_is = c.judged.ensures ∙ (λ i. placed 0 (judged (c.as_bytes.ensures i) (those c.in_ok-found.found))) in
    (λ i. ((judged_is i, c.in_ok-found.inside), c.first_found.new.log))
    ∙ sym (first_on own bank turns c.args.cursor.now c.args.name.now c.args.log.now _ _ _ (c.in_ok-found.ensures turns more))
