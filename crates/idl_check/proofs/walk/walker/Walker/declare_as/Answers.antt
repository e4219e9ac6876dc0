use Rattle.std.proofs.Common.{List, ◌+◌, ◌∷◌, ◌++◌, [], Some, cond, ◌∙◌}
use Rattle.std.proofs.lemmas.Result.{on_ok_weaker}
use Rattle.idl_check.proofs.Faults.NotedLemmas.{noted-by}
use Rattle.idl_check.proofs.Faults.TableLaws.{declared-up}
use Rattle.idl_check.specs.tables.Declaring.{declared_table, stays, with_declared, written_after}
use Rattle.idl_check.specs.walk.Held.{held, held_written}
use Rattle.idl_check.specs.ids.Identifying.{with_identity}
use Rattle.idl_check.specs.told.Bodies.{with_member}
use Rattle.idl_check.specs.walk.Walk.{Walk, is_begun}
use Rattle.idl_check.specs.declared.walk.walker.Walker.{Walker}
use Rattle.idl_env.specs.Facts.{with_addition}
use Rattle.idl_env.specs.declared.additions.addition.Addition.{Addition}
use Rattle.idl_env.specs.declared.additions.addition.Addition.TheVariants.{Declares}
use Rattle.idl_check.proofs.walk.walker.Walker.declare_as.Goals as goal

pub returns-clause-visit : goal.returns-clause-visit
returns-clause-visit c = on_ok_weaker c.add_declared.result (λ added s given.
    let old = c.args.self.now in
    let there = c.args.standing.now in
    let e = c.args.entity in
    let noted = c.note.new.self in
    let fault = noted-by old.fault old.at (declared_table s there e) c.args.code (declared-up s there e) given in
    let after : Walker → Walk = λ w. record (held w) {
      at = w.at + 1;
      own = with_declared there e w.own.additions;
      begun = w.begun ++ cond (is_begun e) (e ∷ []) [];
      written = written_after (held_written w.written) e;
      last = Some e;
      bodies = with_member c.args.way e w.bodies;
    } in
    let adds : List Addition → List Addition = λ own. cond (stays there.there e) own (with_addition own (Declares e)) in
    (λ i. record (held noted) {
      at = noted.at + 1;
      own = (added i).additions;
      begun = c.in_ok-keep_begun.ensures i;
      written = c.in_ok-declare.ensures i;
      last = c.in_ok-keep_last.ensures i;
      bodies = c.in_ok-declare_member.ensures i;
    })
    ∙ (λ i. record (after noted) {
      own = adds (c.in_ok-add_identity.ensures i).additions;
      written = written_after (held_written noted.written) (c.get.ensures i);
      bodies = with_member c.args.way (c.get-2.ensures i) noted.bodies;
    })
    ∙ (λ i. record (after noted) { own = adds (with_identity there.there there.ids (c.get-3.ensures i) noted.own.additions) })
    ∙ (λ i. after (c.note.ensures i))
    ∙ (λ i. record (after old) { fault = fault i }))
    c.add_declared.ensures
