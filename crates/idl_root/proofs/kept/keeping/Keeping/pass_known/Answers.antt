use Rattle.std.proofs.Common.{◌∷◌, ◌++◌, [], ap, subst, sym}
use Rattle.std.specs.Prelude.{IfSome}
use Rattle.idl_root.proofs.TakenLemmas.{at-some, some-weaker}
use Rattle.idl_root.specs.Followed.{IsFollowed, IsFollowing}
use Rattle.idl_kept.specs.Texts.{DeclarationResult}
use Rattle.idl_root_blocks.specs.Asking.{AreNoted as HaveNoted}
use Rattle.idl_root.specs.declared.kept.keeping.Keeping.{Keeping}
use Rattle.idl_store.specs.Stored.{Stored}
use Rattle.idl_root_blocks.proofs.Noting.{noted-on}
use Rattle.idl_root.proofs.kept.keeping.Keeping.pass_known.Goals as goal

pub returns-in_ok-self-in-Some-clause-keeping : goal.returns-in_ok-self-in-Some-clause-keeping
returns-in_ok-self-in-Some-clause-keeping c =
    let env = c.args.env.now in
    let writes = c.args.declaration.now.out.writes in
    let following = c.in-Some.following in
    let lists = c.args.known.declarations.now.lists in
    let now = c.caught_up.new.self in
    let before = subst (λ (s : Stored DeclarationResult). IsFollowing s.lists c.args.self.now env) (sym c.declarations.ensures) c.requires.keeping.follows in
    let followed = at-some c.in_ok-following.field-0 following _ c.in-Some.is c.in_ok-following.ensures.followed env before in
    let there : IsFollowed lists now.earlier following env =
    subst (λ e. IsFollowed lists e following env) (sym (ap (λ (k : Keeping). k.earlier) c.caught_up.ensures.rest))
    (subst (λ (s : Stored DeclarationResult). IsFollowed s.lists c.args.self.now.earlier following env) c.declarations.ensures followed) in record {
      follows = some-weaker c.in_ok-self-in-Some.field-0 _ _ (λ f more. more now.earlier there) c.in_ok-self-in-Some.ensures;
      noted =
          subst (HaveNoted (env ++ writes ∷ [])) (sym (ap (λ (k : Keeping). k.blocks) c.caught_up.ensures.rest))
          (noted-on env writes c.args.self.now.blocks c.requires.keeping.noted);
    }

pub returns-in-None-clause-keeping : goal.returns-in-None-clause-keeping
returns-in-None-clause-keeping c =
    let env = c.args.env.now in
    let behind = env ++ c.args.declaration.now.out.writes ∷ [] in
    let now = c.caught_up.new.self in record {
      follows = subst (λ o. IfSome o (λ f. IsFollowed c.args.known.declarations.now.lists now.earlier f behind)) (sym c.caught_up.ensures.none) tt;
      noted =
          subst (HaveNoted behind) (sym (ap (λ (k : Keeping). k.blocks) c.caught_up.ensures.rest))
          (noted-on env c.args.declaration.now.out.writes c.args.self.now.blocks c.requires.keeping.noted);
    }
