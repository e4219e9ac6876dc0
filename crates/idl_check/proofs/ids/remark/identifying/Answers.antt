use Rattle.std.proofs.Common.{Option, None, Some, cond, sym, ap, ◌∙◌}
use Rattle.idl_check.proofs.PragmaLaws.PragmaLemmas.{text-none, text-there}
use Rattle.idl_check.specs.ids.Identifying.{changed}
use Rattle.idl_check.specs.tables.Rules.{is_id}
use Rattle.idl_entity.specs.declared.identity.Fixed.TheVariants.{Id}
use Rattle.idl_env.specs.declared.additions.addition.Addition.{Addition}
use Rattle.idl_env.specs.declared.additions.addition.Addition.TheVariants.{Identifies}
use Rattle.idl_check.proofs.ids.remark.identifying.Goals as goal

pub returns-in_ok-addition-in-Some : goal.returns-in_ok-addition-in-Some
returns-in_ok-addition-in-Some c =
    let text = c.args.text.now in
    let path = c.args.path.now in
    let d = c.args.before.now in
    let there = text-there (is_id text) text c.in-Some.id (sym c.in-Some.is ∙ c.in_ok-spelled.ensures) in
    ap Some c.in_ok-addition-in-Some.ensures
    ∙ (λ i. Some (Identifies path (changed (Id (there.1 i)) d)))
    ∙ ap (λ b. cond b (Some (Identifies path (changed (Id text) d))) None) (sym there.0)

pub returns-in-None : goal.returns-in-None
returns-in-None c =
    let text = c.args.text.now in
    let adds : Option Addition = Some (Identifies c.args.path.now (changed (Id text) c.args.before.now)) in
    ap (λ b. cond b adds None) (sym (text-none (is_id text) text (sym c.in-None.is ∙ c.in_ok-spelled.ensures)))
