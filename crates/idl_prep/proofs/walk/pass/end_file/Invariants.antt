use Rattle.std.proofs.Common.{◌≡◌, [], length, Option}
use Rattle.idl_event.specs.declared.asked.key.RootAnswer.{RootAnswer}
use Rattle.idl_event.specs.declared.asked.key.RootKey.{RootKey}
use Rattle.idl_prep.specs.Directive.{Enter}
use Rattle.idl_prep.specs.Pass.{to_come}
use Rattle.idl_prep.proofs.walk.pass.end_file.Given as goal

abbrev pub decreases-groups : goal.decreases-groups
decreases-groups g l = length l.groups

abbrev pub invariant-groups : goal.invariant-groups
invariant-groups g l = (enter : Enter) (bank : RootKey → Option RootAnswer) → to_come bank enter l.file l.groups [] l.root ≡ to_come bank enter l.file l.fn.groups [] l.fn.root
