use Rattle.std.proofs.Common.{◌≡◌, ◌∙◌, Bool, true, false, cond, Option, None, Some, refl, sym, ap}
use Rattle.std.proofs.lemmas.Result.{IfOk-weaker}
use Rattle.std.specs.Prelude.{◌&&◌, List, ℕ, nat_eq}
use Rattle.std.specs.List.{list_any}
use Rattle.idl_check.specs.tables.Rules.{is_visible}
use Rattle.idl_check.proofs.ids.identifying.id_text.Goals as goal

pub returns-then-not-is_id : goal.returns-then-not-is_id
returns-then-not-is_id c =
    let text = c.args.text.now in
    let found : Option (List ℕ) = Some text in
    ap (λ b. cond b found None) (sym (sym c.is_id.ensures ∙ c.if-not-is_id.true))

-- where two tests hold, the first does
first-holds : (a b : Bool) (x y : Option (List ℕ)) → a && b ≡ true → cond a x y ≡ cond (a && b) x y
first-holds true true x y h = refl
first-holds true false x y h = cc
first-holds false b x y h = cc

pub returns : goal.returns
returns c =
    let text = c.args.text.now in
    let holds = sym c.is_id.ensures ∙ c.if-not-is_id.false in
    IfOk-weaker c.visible.result _ _
    (λ spelled gives. gives ∙ first-holds (is_visible text) (list_any (nat_eq 58) text) (Some text) None holds)
    c.visible.ensures
