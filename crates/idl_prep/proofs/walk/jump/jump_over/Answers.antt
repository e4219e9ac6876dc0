use Rattle.idl_text.specs.Line.{lines_from}
use Rattle.idl_prep.proofs.WalkLaws.JumpLemmas.{to_come-jump}
use Rattle.idl_prep.proofs.walk.jump.jump_over.Goals as goal

pub returns-clause-to_come : goal.returns-clause-to_come
returns-clause-to_come g c = λ bank enter.
    let jump = c.in-Some-jump in
    to_come-jump enter c.args.file.now bank c.in-Some.group.now c.args.groups.now (lines_from c.args.left) (lines_from jump.rest) jump.faults.now c.args.root.now c.tell_faults.new.root
    c.in-Some.ensures c.if-group.false jump.ensures.1 (c.in_ok-tell_faults.ensures bank)
