use Rattle.std.proofs.Common.{◌∷◌, ◌∙◌, [], ap, subst, sym}
use Rattle.std.specs.declared.rc.Rc.{Rc}
use Rattle.std.specs.Global.{Global}
use Rattle.idl_root_blocks.specs.idl_check.walk.Verdict.{verdict}
use Rattle.idl_env.specs.Facts.{answers}
use Rattle.idl_env.specs.Turns.{most_turns}
use Rattle.idl_kept.specs.Texts.{DeclarationResult, Texts, with_units}
use Rattle.idl_memo.specs.Kept.{IsAlike}
use Rattle.idl_store.specs.Stored.{Stored, grown, result_at}
use Rattle.idl_root.specs.Followed.{IsAgain, IsNext}
use Rattle.idl_root.proofs.AgainLemmas.{own-alike}
use Rattle.idl_root.proofs.StoredLemmas.{some-alike}
use Rattle.idl_root.proofs.TakenLemmas.{found-weaker, none-taken, some-taken, units-none, units-only}
use Rattle.idl_root.proofs.kept.following.Following.take_again.Goals as goal

pub returns-in-Some-clause-none : goal.returns-in-Some-clause-none
returns-in-Some-clause-none c =
    let old = c.args.kept.now in
    none-taken (λ (r : Rc DeclarationResult Global). r.value) (with_units old) c.take_again.new.self old (units-none old) c.take_again.result
    (result_at old.declarations c.in-Some.list c.in-Some.place) c.take_again.ensures.found c.take_again.ensures.ok

pub returns-in-Some-clause-next : goal.returns-in-Some-clause-next
returns-in-Some-clause-next c =
    let old = c.args.kept.now in
    let one : IsAgain old.declarations c.args.self.now c.args.text.now (c.in-Some.list, c.in-Some.place) =
    subst (λ (s : Stored DeclarationResult). IsAgain s c.args.self.now c.args.text.now (c.in-Some.list, c.in-Some.place)) c.declarations.ensures c.in-Some.ensures in
    found-weaker c.take_again.result _ _ (λ r is. subst (λ (k : DeclarationResult). IsNext old.declarations.lists k.out.writes c.args.self.now.course) (sym is.0) one.next)
    (some-taken (λ (r : Rc DeclarationResult Global). r.value) (with_units old) c.take_again.new.self c.take_again.result
    (result_at old.declarations c.in-Some.list c.in-Some.place) one.result one.found c.take_again.ensures.found c.take_again.ensures.ok)

pub returns-in-Some-clause-again : goal.returns-in-Some-clause-again
returns-in-Some-clause-again c =
    let old = c.args.kept.now in
    let new = c.take_again.new.self in
    let one : IsAgain old.declarations c.args.self.now c.args.text.now (c.in-Some.list, c.in-Some.place) =
    subst (λ (s : Stored DeclarationResult). IsAgain s c.args.self.now c.args.text.now (c.in-Some.list, c.in-Some.place)) c.declarations.ensures c.in-Some.ensures in
    found-weaker c.take_again.result _ _
    (λ r is earlier facts b.
    let text = c.args.text.now in
    let here = one.again earlier facts b in
    let alike : IsAlike text (answers facts) one.result =
    subst (λ (k : DeclarationResult). IsAlike text (answers facts) k) (sym here) (own-alike (verdict most_turns) text facts) in
    record {
      result_is = is.0 ∙ here;
      new_is = ap (λ (t : Texts). t.declarations) is.1 ∙ ap (λ (k : DeclarationResult). grown old.declarations (k ∷ [])) here;
      alike = some-alike old.declarations c.in-Some.list c.in-Some.place one.result (text, answers facts) one.found alike;
    })
    (some-taken (λ (r : Rc DeclarationResult Global). r.value) (with_units old) new c.take_again.result
    (result_at old.declarations c.in-Some.list c.in-Some.place) one.result one.found c.take_again.ensures.found c.take_again.ensures.ok)

pub returns-in-Some-clause-rest : goal.returns-in-Some-clause-rest
returns-in-Some-clause-rest c =
    units-only c.take_again.result c.args.kept.now c.take_again.new.self _ c.take_again.ensures.ok c.take_again.ensures.err
