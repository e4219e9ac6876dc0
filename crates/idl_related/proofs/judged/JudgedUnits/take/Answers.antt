use Rattle.std.proofs.Common.{◌∙◌, ◌++◌, ap, map, sym}
use Rattle.std.proofs.lemmas.List.{append-nil}
use Rattle.std.proofs.lemmas.Result.{on_ok_weaker}
use Rattle.idl_related.specs.FirstDeclared.{names_behind, told_for, without_other_places}
use Rattle.idl_related.specs.Judged.{before_spelled, text_and_sites}
use Rattle.idl_related.proofs.judged.JudgedUnits.take.Goals as goal

pub returns-in-Some-clause-names : goal.returns-in-Some-clause-names
returns-in-Some-clause-names c =
    let unit = c.args.unit in
    on_ok_weaker c.take_fault.result
    (λ same asks. same ∙ ap (λ fault. names_behind (before_spelled c.args.self.now unit) unit.text.now fault) (sym c.in-Some.is))
    c.take_fault.ensures.first

pub returns-in-Some-clause-told : goal.returns-in-Some-clause-told
returns-in-Some-clause-told c =
    let self = c.args.self.now in
    let unit = c.args.unit in
    on_ok_weaker c.take_fault.result
    (λ is.
    is
    ∙ ap (λ fault. map without_other_places self.told.items ++ told_for self.expansion.now (before_spelled self unit) (text_and_sites unit) fault)
    (sym c.in-Some.is))
    c.take_fault.ensures.told

pub returns-in-None-clause-names : goal.returns-in-None-clause-names
returns-in-None-clause-names c =
    let unit = c.args.unit in
    on_ok_weaker c.take_names.result
    (λ is asks. is asks ∙ ap (λ fault. names_behind (before_spelled c.args.self.now unit) unit.text.now fault) (sym c.in-None.is))
    c.take_names.ensures.names

pub returns-in-None-clause-told : goal.returns-in-None-clause-told
returns-in-None-clause-told c =
    let self = c.args.self.now in
    let unit = c.args.unit in
    let told = map without_other_places self.told.items in
    on_ok_weaker c.take_names.result
    (λ same.
    ap (map without_other_places) same ∙ sym (append-nil told)
    ∙ ap (λ fault. told ++ told_for self.expansion.now (before_spelled self unit) (text_and_sites unit) fault) (sym c.in-None.is))
    c.take_names.ensures.told
