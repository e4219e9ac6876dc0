use Rattle.std.proofs.Common.{◌∙◌, ◌++◌, None, Some, ap, map, sym}
use Rattle.std.proofs.lemmas.List.{append-nil}
use Rattle.std.proofs.lemmas.Result.{on_ok_weaker}
use Rattle.idl_related.specs.FirstDeclared.{first_declaration_over, without_other_places}
use Rattle.idl_related.proofs.FirstDeclaredLemmas.{told-behind, told-for, told-none}
use Rattle.idl_related.specs.Judged.{before_spelled, text_and_sites}
use Rattle.idl_related.proofs.judged.JudgedUnits.tell.Goals as goal

pub returns-then-not-has_second-clause-told : goal.returns-then-not-has_second-clause-told
returns-then-not-has_second-clause-told c =
    let self = c.args.self.now in
    let unit = c.args.unit in
    let told = map without_other_places self.told.items in
    sym (append-nil told)
    ∙ ap (λ l. told ++ l)
    (told-none self.expansion.now (before_spelled self unit) (text_and_sites unit) c.args.fault (sym c.has_second.ensures ∙ c.if-not-has_second.true))

pub returns-in-None-clause-told : goal.returns-in-None-clause-told
returns-in-None-clause-told c =
    let self = c.args.self.now in
    let unit = c.args.unit in
    let fault = c.args.fault in
    let told = map without_other_places self.told.items in
    sym (append-nil told)
    ∙ ap (λ l. told ++ l)
    (told-for self.expansion.now (before_spelled self unit) (text_and_sites unit) fault None (sym c.has_second.ensures ∙ c.if-not-has_second.false)
    (sym c.in-None.is ∙ c.in_ok-site.ensures))

pub returns-in_ok-seconds-in-Some-clause-told : goal.returns-in_ok-seconds-in-Some-clause-told
returns-in_ok-seconds-in-Some-clause-told c =
    let self = c.args.self.now in
    let unit = c.args.unit in
    let fault = c.args.fault in
    let site = c.in-Some.site in
    let events = self.expansion.now in
    let spot = first_declaration_over (before_spelled self unit) unit.text.now fault.index in
    on_ok_weaker c.tell_at.result
    (λ is.
    told-behind events fault spot site c.as_slice.result.now self.told.items c.tell_at.new.self.told.items
    (λ yes. c.as_slice.ensures.value ∙ c.in_ok-seconds-in-Some.ensures.first_declared yes) is
    ∙ ap (λ l. map without_other_places self.told.items ++ l)
    (told-for events (before_spelled self unit) (text_and_sites unit) fault (Some site) (sym c.has_second.ensures ∙ c.if-not-has_second.false)
    (sym c.in-Some.is ∙ c.in_ok-site.ensures)))
    c.tell_at.ensures.told
