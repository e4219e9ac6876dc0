use Rattle.std.proofs.Common.{subst, sym}
use Rattle.std.specs.Prelude.{IfSome}
use Rattle.idl_root.specs.Followed.{IsFollowed}
use Rattle.idl_root_blocks.proofs.Noting.{noted-on}
use Rattle.idl_root.proofs.kept.keeping.Keeping.cross.Goals as goal

pub returns-clause-keeping : goal.returns-clause-keeping
returns-clause-keeping c = λ lists k.
    let earlier = c.args.self.now.earlier in record {
      follows = c.in_ok-self.ensures lists earlier (subst (λ o. IfSome o (λ f. IsFollowed lists earlier f c.args.env.now)) (sym c.replace-following.ensures.value) k.follows);
      noted = noted-on c.args.env.now c.args.facts.now c.args.self.now.blocks k.noted;
    }
