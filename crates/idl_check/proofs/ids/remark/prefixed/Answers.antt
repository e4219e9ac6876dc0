use Rattle.std.proofs.Common.{List, ◌∷◌, [], None, Some, cond, map, sym, ap, ◌∙◌}
use Rattle.std.specs.Prelude.{option_to_list}
use Rattle.idl_check.proofs.PragmaLaws.RemarkLemmas.{one-code, remark-by, scope-none, scope-prefixed, unless-added, unless-refused}
use Rattle.idl_check.specs.ids.About.{Said}
use Rattle.idl_check.specs.ids.Remarks.{prefixed_at}
use Rattle.idl_check.specs.tables.Codes.{faults_by}
use Rattle.idl_check.specs.tables.Rules.{is_no_prefix, is_prefixed, is_visible}
use Rattle.idl_entity.specs.Kind.{is_scope}
use Rattle.idl_env.specs.Facts.{answers, over, typeprefix_in}
use Rattle.idl_env.specs.declared.additions.addition.Addition.{Addition}
use Rattle.idl_env.specs.declared.additions.addition.Addition.TheVariants.{TypePrefixes}
use Rattle.idl_env.specs.declared.additions.addition.Step.TheVariants.{Stays}
use Rattle.idl_env.specs.declared.keys.key.Key.TheVariants.{Typeprefix}
use Rattle.idl_env.specs.keys.Key.{key_eq}
use Rattle.idl_fault.specs.declared.code.Code.TheVariants.{NoScope, RepeatedTypeprefix}
use Rattle.idl_memo.specs.Query.{noted}
use Rattle.idl_parts.specs.declared.part.TextPurpose.TheVariants as purpose
use Rattle.idl_unit.specs.TokenRules.{fault_at}
use Rattle.idl_unit.specs.declared.fault.Fault.{Fault}
use Rattle.idl_check.proofs.ids.remark.prefixed.Goals as goal

pub returns-then-not-is_scope : goal.returns-then-not-is_scope
returns-then-not-is_scope c = λ at.
    let own = c.args.view.own.now.additions in
    let bank = answers c.args.view.env.now in
    let e = c.args.entity.now in
    let text = c.args.text.now in
    let log = c.args.log.now in
    let none = ap is_scope (sym c.kind.ensures) ∙ sym c.is_scope.ensures ∙ c.if-not-is_scope.true in
    (λ i. (sym (unless-refused (is_no_prefix text) (fault_at at NoScope ∷ [])) i, log))
    ∙ sym (remark-by own bank purpose.Prefix at text e log _ log (sym (scope-none own bank at text e log none)))

pub returns : goal.returns
returns c = λ at.
    let own = c.args.view.own.now.additions in
    let bank = answers c.args.view.env.now in
    let e = c.args.entity.now in
    let text = c.args.text.now in
    let log = c.args.log.now in
    let after = c.typeprefix.new.log in
    let some = ap is_scope (sym c.kind.ensures) ∙ sym c.is_scope.ensures ∙ c.if-not-is_scope.false in
    let path = c.path-path.ensures in
    let again = c.is_prefixed-is_again.ensures ∙ ap is_prefixed c.in_ok-before.ensures.typeprefix ∙ (λ i. is_prefixed (typeprefix_in (over own (Typeprefix (path i)) (bank (Typeprefix (path i)))))) in
    let logged = c.in_ok-before.ensures.logged ∙ (λ i. noted key_eq bank log (Typeprefix (path i))) in
    let adds = option_to_list c.in_ok-adds.adds in
    let added = c.in_ok-adds.ensures ∙ (λ i. cond (is_visible text) (Some (TypePrefixes (path i) text)) None) in
    let said : List Fault → List Addition → Said = λ faults more. record { faults = faults; additions = more; step = Stays } in
    let stands = faults_by at ((is_prefixed (typeprefix_in (over own (Typeprefix e.path) (bank (Typeprefix e.path)))), RepeatedTypeprefix) ∷ []) in
    (λ i. (said (map (fault_at at) (option_to_list (c.first_code.ensures i))) adds, after))
    ∙ (λ i. (said (one-code at c.is_prefixed-is_again.result RepeatedTypeprefix i) adds, after))
    ∙ (λ i. (said (faults_by at ((again i, RepeatedTypeprefix) ∷ [])) (option_to_list (added i)), logged i))
    ∙ (λ i. (unless-added (is_visible text) stands (TypePrefixes e.path text) i, noted key_eq bank log (Typeprefix e.path)))
    ∙ sym (remark-by own bank purpose.Prefix at text e log (prefixed_at at text e.path (over own (Typeprefix e.path) (bank (Typeprefix e.path)))) (noted key_eq bank log (Typeprefix e.path)) (sym (scope-prefixed own bank at text e log some)))
