use Rattle.std.proofs.Common.{[], refl}
use Rattle.std.proofs.lemmas.List.Elements.{All-from_recursion}
use Rattle.idl_root.specs.Compile.{compile}
use Rattle.idl_root.specs.Judged.{judged_after}
use Rattle.idl_root.specs.Told.{IsTold}
use Rattle.idl_root.proofs.ToldLemmas.{units-told}
use Rattle.idl_unit.specs.Units.{units_of}
use Rattle.idl_root.proofs.compiling.laws.telling.Goals as goal

pub returns-clause-told : goal.returns-clause-told
returns-clause-told c = λ events. All-from_recursion IsTold (judged_after [] (units_of events)) (units-told c.numbering.ensures.told events)

pub returns-clause-rows : goal.returns-clause-rows
unfolding compile
returns-clause-rows c = λ end events. refl
