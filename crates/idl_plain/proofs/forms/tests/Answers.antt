use Rattle.idl_plain.proofs.FormLaws.{bases-told, bytes-told, closings-told, endings-told, ends-told, escapes-told, headers-told, included-told, miscased-told, modules-told, nothing-told, openings-told, otherwise-told, raised-told, semicolons-told, separators-told, zeros-told}
use Rattle.idl_plain.proofs.forms.tests.Goals as goal

pub returns-clause-nothing : goal.returns-clause-nothing
returns-clause-nothing c = nothing-told

pub returns-clause-included : goal.returns-clause-included
returns-clause-included c = included-told

pub returns-clause-headers : goal.returns-clause-headers
returns-clause-headers c = headers-told

pub returns-clause-miscased : goal.returns-clause-miscased
returns-clause-miscased c = miscased-told

pub returns-clause-separators : goal.returns-clause-separators
returns-clause-separators c = separators-told

pub returns-clause-escapes : goal.returns-clause-escapes
returns-clause-escapes c = escapes-told

pub returns-clause-modules : goal.returns-clause-modules
returns-clause-modules c = modules-told

pub returns-clause-openings : goal.returns-clause-openings
returns-clause-openings c = openings-told

pub returns-clause-closings : goal.returns-clause-closings
returns-clause-closings c = closings-told

pub returns-clause-semicolons : goal.returns-clause-semicolons
returns-clause-semicolons c = semicolons-told

pub returns-clause-otherwise : goal.returns-clause-otherwise
returns-clause-otherwise c = otherwise-told

pub returns-clause-endings : goal.returns-clause-endings
returns-clause-endings c = endings-told

pub returns-clause-zeros : goal.returns-clause-zeros
returns-clause-zeros c = zeros-told

pub returns-clause-bytes : goal.returns-clause-bytes
returns-clause-bytes c = bytes-told

pub returns-clause-ends : goal.returns-clause-ends
returns-clause-ends c = ends-told

pub returns-clause-raised : goal.returns-clause-raised
returns-clause-raised c = raised-told

pub returns-clause-bases : goal.returns-clause-bases
returns-clause-bases c = bases-told
