use Rattle.std.proofs.Common.{sym, ◌∙◌}
use Rattle.idl_lex.specs.kinds.Keywords.{folded}
use Rattle.idl_env.specs.Facts.{answers}
use Rattle.idl_scope.specs.Finds.{those}
use Rattle.idl_scope.specs.Lookup.{has, judged, placed}
use Rattle.idl_scope.proofs.LookupLaws.RunLemmas.{part_on, runs}
use Rattle.idl_scope.proofs.lookup.View.next_part.Goals as goal

pub returns : goal.returns
returns c turns more =
    let own = c.args.self.own.now.additions in
    let bank = answers c.args.self.env.now in
    let before = c.args.before.now in
    let same = c.in_ok-folded.ensures in
    let gives = c.in_ok-found.ensures turns more ∙ (λ i. runs own bank (has turns (c.kind.ensures i) (c.path.ensures i) (same i)) c.args.log.now) in
    let judged_is = c.judged.ensures ∙ (λ i. placed c.args.part (judged (c.as_bytes.ensures i) (those c.in_ok-found.found))) in
    (λ i. (judged_is i, c.found_in.new.log))
    ∙ sym (part_on own bank c.args.part c.args.name.now (has turns before.kind before.path (folded c.args.name.now)) c.args.log.now _ _ gives)
