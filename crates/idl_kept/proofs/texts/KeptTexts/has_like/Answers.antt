-- What is found passes the test, and where nothing is found none is alike.
use Rattle.std.proofs.Common.{◌≡◌, ◌∙◌, true, false, subst, sym}
use Rattle.std.specs.Prelude.{All, Any}
use Rattle.idl_env.specs.Facts.{answers}
use Rattle.idl_kept.proofs.Likes.{none-like, some-like}
use Rattle.idl_kept.specs.Texts.{Texts}
use Rattle.idl_memo.specs.Kept.{NoneAlikeAt}
use Rattle.idl_root_blocks.specs.Met.{IsLike}
use Rattle.idl_root_blocks.specs.Places.{BlockPlace}
use Rattle.idl_store.specs.Stored.{results_in}
use Rattle.idl_kept.proofs.texts.KeptTexts.has_like.Goals as goal

pub returns-then-has_beside-clause-some : goal.returns-then-has_beside-clause-some
returns-then-has_beside-clause-some c = λ is.
    let here : BlockPlace = (c.args.task.now.text, answers c.args.env.now) in
    subst (λ (t : Texts). Any (IsLike here) (results_in t.blocks)) c.self.view_is
    (some-like here (results_in c.self.inside.blocks) (c.has_beside.ensures.some c.if-has_beside.true))

pub returns-then-has_enclosed-clause-some : goal.returns-then-has_enclosed-clause-some
returns-then-has_enclosed-clause-some c = λ is.
    let here : BlockPlace = (c.args.task.now.text, answers c.args.env.now) in
    subst (λ (t : Texts). Any (IsLike here) (results_in t.blocks)) c.self.view_is
    (some-like here (results_in c.self.inside.blocks) (c.has_beside-then-has_enclosed.ensures.some is))

pub returns-then-has_enclosed-clause-none : goal.returns-then-has_enclosed-clause-none
returns-then-has_enclosed-clause-none c = λ is none.
    let here : BlockPlace = (c.args.task.now.text, answers c.args.env.now) in
    subst (λ (t : Texts). All (λ kept. ¬ IsLike here kept) (results_in t.blocks)) c.self.view_is
    (none-like here (results_in c.self.inside.blocks) (c.has_beside.ensures.none c.if-has_beside.false) (λ enclosed. c.has_beside-then-has_enclosed.ensures.none is)
    (subst (λ (t : Texts). NoneAlikeAt here (results_in t.blocks)) (sym c.self.view_is) none))

pub returns-else-has_enclosed-clause-none : goal.returns-else-has_enclosed-clause-none
returns-else-has_enclosed-clause-none c = λ is none.
    let here : BlockPlace = (c.args.task.now.text, answers c.args.env.now) in
    subst (λ (t : Texts). All (λ kept. ¬ IsLike here kept) (results_in t.blocks)) c.self.view_is
    (none-like here (results_in c.self.inside.blocks) (c.has_beside.ensures.none c.if-has_beside.false)
    (λ enclosed. let no : true ≡ false = sym enclosed ∙ sym c.has_enclosed.ensures ∙ c.if-has_enclosed.false in absurd (cc))
    (subst (λ (t : Texts). NoneAlikeAt here (results_in t.blocks)) (sym c.self.view_is) none))
