use Rattle.std.proofs.Common.{Option, None, Some, cond, sym, ap, ◌∙◌}
use Rattle.idl_check.proofs.PragmaLaws.PragmaLemmas.{text-none, text-there}
use Rattle.idl_check.specs.tables.Rules.{is_visible}
use Rattle.idl_env.specs.declared.additions.addition.Addition.{Addition}
use Rattle.idl_env.specs.declared.additions.addition.Addition.TheVariants.{TypePrefixes}
use Rattle.idl_check.proofs.ids.remark.prefixing.Goals as goal

pub returns-in_ok-path-in-Some : goal.returns-in_ok-path-in-Some
returns-in_ok-path-in-Some c =
    let text = c.args.text.now in
    let path = c.args.path.now in
    let there = text-there (is_visible text) text c.in-Some.prefix (sym c.in-Some.is ∙ c.in_ok-spelled.ensures) in
    (λ i. Some (TypePrefixes (c.in_ok-path-in-Some.ensures.cases i) (c.in_ok-typeprefix-in-Some.ensures i)))
    ∙ (λ i. Some (TypePrefixes path (there.1 i)))
    ∙ ap (λ b. cond b (Some (TypePrefixes path text)) None) (sym there.0)

pub returns-in-None : goal.returns-in-None
returns-in-None c =
    let text = c.args.text.now in
    let adds : Option Addition = Some (TypePrefixes c.args.path.now text) in
    ap (λ b. cond b adds None) (sym (text-none (is_visible text) text (sym c.in-None.is ∙ c.in_ok-spelled.ensures)))
