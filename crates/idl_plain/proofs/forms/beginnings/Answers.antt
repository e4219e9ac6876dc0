use Rattle.idl_plain.proofs.FormLaws.{blocks-told, ended-told, quoted-told, rooted-told}
use Rattle.idl_plain.proofs.forms.beginnings.Goals as goal

pub returns-clause-rooted : goal.returns-clause-rooted
returns-clause-rooted c = rooted-told

pub returns-clause-quoted : goal.returns-clause-quoted
returns-clause-quoted c = quoted-told

pub returns-clause-ended : goal.returns-clause-ended
returns-clause-ended c = ended-told

pub returns-clause-blocks : goal.returns-clause-blocks
returns-clause-blocks c = blocks-told
