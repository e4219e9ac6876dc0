use Rattle.std.proofs.Common.{sym, ap, ◌∙◌, ◌+◌, drop, Ok, Err}
use Rattle.idl_env.specs.Facts.{answers}
use Rattle.idl_lex.specs.kinds.Keywords.{folded}
use Rattle.idl_entity.specs.Kind.{is_scope}
use Rattle.idl_scope.specs.Lookup.{further, has, part_of}
use Rattle.idl_env.proofs.AnswerLaws.PlaceLemmas.{from_here}
use Rattle.idl_scope.proofs.LookupLaws.RunLemmas.{further_on, runs}
use Rattle.idl_scope.proofs.lookup.View.further.Goals as goal

pub returns-in-Err : goal.returns-in-Err
returns-in-Err c turns more =
    let own = c.args.self.own.now.additions in
    let bank = answers c.args.self.env.now in
    let names = c.args.names.now in
    let part = c.loop-part.part in
    let name = c.index-names-part.result in
    let here = from_here names part name c.loop-part-test.true c.index-names-part.is in
    let is_one = ap (λ e. is_scope e.kind) (sym c.get.ensures) ∙ ap is_scope (sym c.kind.ensures) ∙ sym c.is_scope.ensures ∙ c.if-not-is_scope.false in
    let given = rw c.in-Err.is at c.in_ok-next.ensures turns more in
    let gives = given ∙ ap (λ e. runs own bank (part_of (part + 1) name (has turns e.kind e.path (folded name))) c.loop-part.log) c.get-in-loop-part.ensures in
    sym (further_on own bank turns part c.loop-part.entity.now name (drop (part + 1) names) c.loop-part.log (Err c.in-Err.fault) _ is_one gives)
    ∙ ap (λ rest. runs own bank (further turns part c.loop-part.entity.now rest) c.loop-part.log) (sym here)
    ∙ c.loop-part.invariant turns more

pub loop-part-preserved : goal.loop-part-preserved
loop-part-preserved c turns more =
    let own = c.args.self.own.now.additions in
    let bank = answers c.args.self.env.now in
    let names = c.args.names.now in
    let part = c.loop-part.part in
    let name = c.index-names-part.result in
    let here = from_here names part name c.loop-part-test.true c.index-names-part.is in
    let is_one = ap (λ e. is_scope e.kind) (sym c.get.ensures) ∙ ap is_scope (sym c.kind.ensures) ∙ sym c.is_scope.ensures ∙ c.if-not-is_scope.false in
    let given = rw c.in-Ok.is at c.in_ok-next.ensures turns more in
    let gives = given ∙ ap (λ e. runs own bank (part_of (part + 1) name (has turns e.kind e.path (folded name))) c.loop-part.log) c.get-in-loop-part.ensures in
    sym (further_on own bank turns part c.loop-part.entity.now name (drop (part + 1) names) c.loop-part.log (Ok c.in-Ok.next.now) _ is_one gives)
    ∙ ap (λ rest. runs own bank (further turns part c.loop-part.entity.now rest) c.loop-part.log) (sym here)
    ∙ c.loop-part.invariant turns more
