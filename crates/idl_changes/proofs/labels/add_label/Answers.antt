use Rattle.std.proofs.Common.{◌∙◌, ℕ, List, Option, ap, false, sym}
use Rattle.std.specs.Option.{is_some, option_map_or}
use Rattle.idl_changes.specs.Keys.{numbered_eq, same_numbered}
use Rattle.idl_changes.specs.Plain.{is_labelled, label_of}
use Rattle.idl_changes.specs.declared.keys.NumberedText.{NumberedText}
use Rattle.idl_changes.proofs.NameLemmas.{turned-numbered}
use Rattle.idl_changes.proofs.TableLemmas.{more-added, more-held, more-none, some-copied}
use Rattle.idl_repo.specs.declared.details.type_code_tree.CaseTree.{CaseTree}
use Rattle.idl_changes.proofs.labels.add_label.Goals as goal

pub returns-in_default : goal.returns-in_default
returns-in_default c = λ names cases numbers at are.
    more-none numbered_eq same_numbered (λ (label : NumberedText) (x : CaseTree). is_labelled names label x) cases c.args.case.now c.args.places.now
    (λ k. ap (λ (o : Option (List ℕ)). option_map_or (λ (text : List ℕ). numbered_eq (label_of names text) k) o false) c.in_default.is) are

pub returns-then-is_some : goal.returns-then-is_some
returns-then-is_some c = λ names cases numbers at are.
    let label = c.in_ok-label.label in
    let is = c.in_ok-label.ensures names numbers in
    more-held numbered_eq same_numbered (λ (l : NumberedText) (x : CaseTree). is_labelled names l x) cases c.args.case.now c.args.places.now label
    (λ k. ap (λ (o : Option (List ℕ)). option_map_or (λ (text : List ℕ). numbered_eq (label_of names text) k) o false) c.in-Some.is
    ∙ ap (λ (l : NumberedText). numbered_eq l k) (sym is) ∙ turned-numbered label k)
    (ap is_some (sym c.get.ensures) ∙ some-copied c.get.result ∙ sym c.is_some.ensures ∙ c.if-is_some.true) are

pub returns : goal.returns
returns c = λ names cases numbers at are.
    let label = c.in_ok-label.label in
    let is = c.in_ok-label.ensures names numbers in
    more-added numbered_eq same_numbered (λ (l : NumberedText) (x : CaseTree). is_labelled names l x) cases c.args.case.now c.args.places.now c.insert.new.self label c.args.place at
    (λ k. ap (λ (o : Option (List ℕ)). option_map_or (λ (text : List ℕ). numbered_eq (label_of names text) k) o false) c.in-Some.is
    ∙ ap (λ (l : NumberedText). numbered_eq l k) (sym is) ∙ turned-numbered label k)
    (ap is_some (sym c.get.ensures) ∙ some-copied c.get.result ∙ sym c.is_some.ensures ∙ c.if-is_some.false)
    c.in_ok-insert.ensures.each_key are
