-- What is kept still is found still, and what went is found no more.
use Rattle.std.proofs.Common.{◌-◌, arith}
use Rattle.idl_store.proofs.Using.{indexed-alone, indexed-removed, indexed-same, kept-written}
use Rattle.slab.specs.Slab.{with_value}
use Rattle.std.proofs.lemmas.Grind.{common_steps}
use Rattle.idl_store.proofs.uses.release_one.Goals as goal

pub returns-then-uses-gt1-clause-indexed : goal.returns-then-uses-gt1-clause-indexed
returns-then-uses-gt1-clause-indexed g c =
    let u = c.index_mut.result.now in
    indexed-same c.args.used.now (with_value c.args.used.now c.args.number (record { result = u.result; uses = c.index.result.now.uses - 1; bucket = u.bucket; place = u.place })) c.args.index.now
    (kept-written c.args.used.now c.args.number u (c.index.result.now.uses - 1) u.place c.index_mut.ensures.value) c.requires.indexed

pub remove-requires : goal.remove-requires
remove-requires g c = indexed-alone c.args.used.now c.args.index.now c.remove-last.result.bucket c.args.number c.requires.indexed

pub returns-clause-indexed : goal.returns-clause-indexed
returns-clause-indexed g c =
    indexed-removed c.args.used.now c.remove-last.new.self c.args.index.now c.remove.new.self c.args.number c.remove-last.result c.remove-last.ensures.value c.remove-last.ensures.updates c.remove.ensures.one c.remove.ensures.gone c.requires.indexed

pub returns-clause-used : goal.returns-clause-used
returns-clause-used g c = grind (arith, common_steps)

pub returns-clause-fewer : goal.returns-clause-fewer
returns-clause-fewer g c = grind (arith, common_steps)

pub returns-then-uses-gt1-clause-used : goal.returns-then-uses-gt1-clause-used
returns-then-uses-gt1-clause-used g c = grind (arith, common_steps)

pub returns-then-uses-gt1-clause-fewer : goal.returns-then-uses-gt1-clause-fewer
returns-then-uses-gt1-clause-fewer g c = grind (arith, common_steps)
