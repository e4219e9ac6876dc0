use Rattle.std.proofs.Common.{arith, length-take, sym}
use Rattle.std.proofs.lemmas.List.{take_all}
use Rattle.idl_editor.proofs.told.found.first_told.Goals as goal

pub returns-then-found-le-MOST_TOLD : goal.returns-then-found-le-MOST_TOLD
returns-then-found-le-MOST_TOLD c = sym (take_all 1000 c.args.found.now c.if-found-le-MOST_TOLD.true)

pub slice_bounds-result-end : goal.slice_bounds-result-end
slice_bounds-result-end c = omega (arith, c.if-found-le-MOST_TOLD.false, length-take 1000 c.args.found.now)
