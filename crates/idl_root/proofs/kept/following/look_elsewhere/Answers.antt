use Rattle.std.proofs.Common.{rules, subst}
use Rattle.idl_root.specs.Changed.{ShareNone}
use Rattle.idl_root.specs.Followed.{AreNoted}
use Rattle.idl_env.specs.Facts.{world}
use Rattle.idl_env.specs.Outside.{looked_at_by}
use Rattle.idl_root.proofs.kept.following.look_elsewhere.Goals as goal

pub returns-in-Some : goal.returns-in-Some
returns-in-Some c = λ yes.
    let looked = c.in-Some.looked.items in
    let changed = c.args.changed.now in
    let noted : AreNoted looked (looked_at_by (world c.args.env.now) c.args.facts.now) = search rules in
    let apart : ShareNone looked changed = subst (λ l. ShareNone l changed) c.as_slice.ensures.value (c.shares_none.ensures yes) in
    (looked, (noted, apart))
