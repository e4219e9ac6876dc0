use Rattle.std.proofs.Common.{◌≡◌, ◌∙◌, ◌∷◌, ◌++◌, [], ap, length, map, subst, sym}
use Rattle.std.specs.Prelude.{IfSome, Option}
use Rattle.std.specs.Global.{Global}
use Rattle.std.specs.declared.rc.Rc.{Rc}
use Rattle.idl_env.specs.Facts.{answers}
use Rattle.idl_kept.specs.Texts.{DeclarationResult, Texts}
use Rattle.idl_memo.specs.Query.{HoldsIn}
use Rattle.idl_store.specs.Stored.{Stored}
use Rattle.idl_root.proofs.BlockLemmas.{own-alike}
use Rattle.idl_root.proofs.TakenLemmas.{at-some}
use Rattle.idl_root.specs.Followed.{IsFollowed, IsFollowing}
use Rattle.idl_root_blocks.specs.idl_check.walk.Verdict.{verdict_over}
use Rattle.idl_root.specs.Passed.{AllGoOn, keys_behind}
use Rattle.idl_root_blocks.specs.Asking.{AreNoted as HaveNoted, with_asked}
use Rattle.idl_root.specs.declared.kept.following.Following.{Following}
use Rattle.idl_root.specs.declared.kept.keeping.Keeping.{Keeping}
use Rattle.idl_root_blocks.specs.Places.{DeclarationPlace, declaration_result}
use Rattle.idl_root_blocks.specs.declared.text.BlockPart.TheVariants.{Text}
use Rattle.idl_root_blocks.proofs.Noting.{noted-on}
use Rattle.idl_root.proofs.kept.keeping.Keeping.judge.Goals as goal
use Rattle.idl_root.proofs.kept.keeping.Keeping.judge.Goals.{in-Some+in_ok-declaration-in-Some, in-None+in_ok-declaration-in-None}

pub judged-requires : goal.judged-requires
judged-requires c =
    let env = c.args.env.now in
    let following = c.in-Some.following in
    let before = subst (λ (s : Stored DeclarationResult). IsFollowing s.lists c.args.self.now env) (sym c.declarations.ensures) c.requires.follows in
    let followed = at-some c.in_ok-following.field-0 following _ c.in-Some.is c.in_ok-following.ensures.followed env before in
    subst (λ e. IsFollowed c.args.kept.now.declarations.lists e following env) (sym (ap (λ (k : Keeping). k.earlier) c.caught_up.ensures.rest))
    (subst (λ (s : Stored DeclarationResult). IsFollowed s.lists c.args.self.now.earlier following env) c.declarations.ensures followed)

pub ask-requires-clause-held : goal.ask-requires-clause-held
ask-requires-clause-held c =
    let here : DeclarationPlace = (c.args.text.now, answers c.args.env.now) in
    let own : c.match-branch-3.declaration.value ≡ declaration_result here = elim c.match-branch-3.branch [
      | in-Some+in_ok-declaration-in-Some w ↦ ap (λ (d : Rc DeclarationResult Global). d.value) w.declaration-is ∙ w.in_ok-declaration-in-Some.ensures.obtained.result_is
      | in-None+in_ok-declaration-in-None w ↦ ap (λ (d : Rc DeclarationResult Global). d.value) w.declaration-is ∙ w.in_ok-declaration-in-None.ensures.obtained.result_is
    ] in
    subst (λ l. HoldsIn (answers c.args.env.now) l) (sym (c.unit_log.ensures ∙ ap (λ (k : DeclarationResult). k.log) (c.deref.ensures ∙ own))) (own-alike here).answers

pub returns-clause-blocks : goal.returns-clause-blocks
returns-clause-blocks c =
    let env = c.args.env.now in
    let here : DeclarationPlace = (c.args.text.now, answers env) in
    let old = c.args.self.now.blocks.blocks in
    let own : c.match-branch-3.declaration.value ≡ declaration_result here = elim c.match-branch-3.branch [
      | in-Some+in_ok-declaration-in-Some w ↦ ap (λ (d : Rc DeclarationResult Global). d.value) w.declaration-is ∙ w.in_ok-declaration-in-Some.ensures.obtained.result_is
      | in-None+in_ok-declaration-in-None w ↦ ap (λ (d : Rc DeclarationResult Global). d.value) w.declaration-is ∙ w.in_ok-declaration-in-None.ensures.obtained.result_is
    ] in
    let same : c.match-branch-3.self.blocks.blocks ≡ old = elim c.match-branch-3.branch [
      | in-Some+in_ok-declaration-in-Some w ↦ ap (λ (k : Keeping). k.blocks.blocks) w.self-is ∙ ap (λ (k : Keeping). k.blocks.blocks) w.judged.ensures.rest ∙ ap (λ (k : Keeping). k.blocks.blocks) c.caught_up.ensures.rest
      | in-None+in_ok-declaration-in-None w ↦ ap (λ (k : Keeping). k.blocks.blocks) w.self-is ∙ ap (λ (k : Keeping). k.blocks.blocks) w.obtained.ensures.rest ∙ ap (λ (k : Keeping). k.blocks.blocks) c.caught_up.ensures.rest
    ] in
    let log = c.unit_log.ensures ∙ ap (λ (k : DeclarationResult). k.log) (c.deref.ensures ∙ own) in
    subst (λ bs. AllGoOn env (Text c.args.text.now ∷ []) old bs) (sym (c.in_ok-ask.ensures.blocks ∙ (λ i. map (with_asked env (log i)) (same i)))) (c.noting.ensures.unit env c.args.text.now old)

pub returns-clause-keys : goal.returns-clause-keys
returns-clause-keys c =
    let env = c.args.env.now in
    let here : DeclarationPlace = (c.args.text.now, answers env) in
    let own : c.match-branch-3.declaration.value ≡ declaration_result here = elim c.match-branch-3.branch [
      | in-Some+in_ok-declaration-in-Some w ↦ ap (λ (d : Rc DeclarationResult Global). d.value) w.declaration-is ∙ w.in_ok-declaration-in-Some.ensures.obtained.result_is
      | in-None+in_ok-declaration-in-None w ↦ ap (λ (d : Rc DeclarationResult Global). d.value) w.declaration-is ∙ w.in_ok-declaration-in-None.ensures.obtained.result_is
    ] in
    let same : c.match-branch-3.self.blocks.blocks ≡ c.args.self.now.blocks.blocks = elim c.match-branch-3.branch [
      | in-Some+in_ok-declaration-in-Some w ↦ ap (λ (k : Keeping). k.blocks.blocks) w.self-is ∙ ap (λ (k : Keeping). k.blocks.blocks) w.judged.ensures.rest ∙ ap (λ (k : Keeping). k.blocks.blocks) c.caught_up.ensures.rest
      | in-None+in_ok-declaration-in-None w ↦ ap (λ (k : Keeping). k.blocks.blocks) w.self-is ∙ ap (λ (k : Keeping). k.blocks.blocks) w.obtained.ensures.rest ∙ ap (λ (k : Keeping). k.blocks.blocks) c.caught_up.ensures.rest
    ] in
    let keys : c.match-branch-3.self.keys ≡ c.args.self.now.keys = elim c.match-branch-3.branch [
      | in-Some+in_ok-declaration-in-Some w ↦ ap (λ (k : Keeping). k.keys) w.self-is ∙ ap (λ (k : Keeping). k.keys) w.judged.ensures.rest ∙ ap (λ (k : Keeping). k.keys) c.caught_up.ensures.rest
      | in-None+in_ok-declaration-in-None w ↦ ap (λ (k : Keeping). k.keys) w.self-is ∙ ap (λ (k : Keeping). k.keys) w.obtained.ensures.rest ∙ ap (λ (k : Keeping). k.keys) c.caught_up.ensures.rest
    ] in
    let log = c.unit_log.ensures ∙ ap (λ (k : DeclarationResult). k.log) (c.deref.ensures ∙ own) in
    c.in_ok-ask.ensures.keys ∙ (λ i. keys_behind (same i) (keys i) (length (log i)))

pub ask-requires-clause-noted : goal.ask-requires-clause-noted
ask-requires-clause-noted c =
    let same : c.match-branch-3.self.blocks ≡ c.args.self.now.blocks = elim c.match-branch-3.branch [
      | in-Some+in_ok-declaration-in-Some w ↦ ap (λ (k : Keeping). k.blocks) w.self-is ∙ ap (λ (k : Keeping). k.blocks) w.judged.ensures.rest ∙ ap (λ (k : Keeping). k.blocks) c.caught_up.ensures.rest
      | in-None+in_ok-declaration-in-None w ↦ ap (λ (k : Keeping). k.blocks) w.self-is ∙ ap (λ (k : Keeping). k.blocks) w.obtained.ensures.rest ∙ ap (λ (k : Keeping). k.blocks) c.caught_up.ensures.rest
    ] in
    subst (HaveNoted c.args.env.now) (sym same) c.requires.noted

pub returns-clause-keeping : goal.returns-clause-keeping
returns-clause-keeping c =
    let env = c.args.env.now in
    let writes = (verdict_over env c.args.text.now).writes in
    let after = env ++ writes ∷ [] in
    let own = c.match-branch-3.self in
    let lists = c.match-branch-3.kept.declarations.lists in
    let follows : IsFollowing lists own after = elim c.match-branch-3.branch [
      | in-Some+in_ok-declaration-in-Some w ↦ subst (λ (t : Texts). IsFollowing t.declarations.lists own after) (sym w.kept-is) (subst (λ (k : Keeping). IsFollowing w.judged.new.kept.declarations.lists k after) (sym w.self-is) w.in_ok-declaration-in-Some.ensures.follows)
      | in-None+in_ok-declaration-in-None w ↦ subst (λ (o : Option Following). IfSome o (λ f. IsFollowed lists own.earlier f after)) (sym (ap (λ (k : Keeping). k.following) w.self-is ∙ w.obtained.ensures.following ∙ c.caught_up.ensures.none)) tt
    ] in record {
      follows = subst (λ (k : Keeping). IsFollowing lists k after) (sym c.in_ok-ask.ensures.rest) follows;
      noted = noted-on env writes c.ask.new.self.blocks c.in_ok-ask.ensures.noted;
    }
