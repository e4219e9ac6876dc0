use Rattle.std.proofs.Common.{SFits, false, sym, ap, ◌∙◌, w64}
use Rattle.std.proofs.lemmas.Int.{to_z-of_z}
use Rattle.idl_event.specs.Expanding.{arrival, arrived}
use Rattle.idl_macro.specs.Condition.{defined_read, judged}
use Rattle.idl_macro.proofs.ConditionLemmas.{arrival-condition}
use Rattle.idl_macro.proofs.conditional.condition.Goals as goal

pub returns-in-Some : goal.returns-in-Some
returns-in-Some g c =
    let bank = g.B.Bank.at c.args.macros.now.bank.now in
    let definitions = c.args.macros.now.definitions.now in
    let it = c.args.directive.now in
    let q = c.read_defined.new.progress in
    let r = c.replace_operand.new.progress in
    let is_read = ap (λ read. arrived read q) c.deref.ensures.value ∙ c.in_ok-read.ensures ∙ ap (λ ts. arrival bank (defined_read definitions ts) c.args.progress.now) c.as_slice.ensures in
    let is_given = ap (λ given. arrived given r) c.deref-2.ensures.value ∙ c.in_ok-given.ensures in
    let fits : SFits w64 c.in-Some.value = search in
    ap (λ taken. arrived taken r) (rw (to_z-of_z w64 c.in-Some.value fits) at c.holds.ensures)
    ∙ ap (λ found. arrival bank (judged it.place it.word.now found) r) (sym c.in-Some.is)
    ∙ arrival-condition bank it.place it.word.now definitions it.operands c.args.progress.now q r c.deref.result.now c.deref-2.result.now c.in_ok-value.field-0 is_read is_given c.in_ok-value.ensures

pub returns : goal.returns
returns g c =
    let bank = g.B.Bank.at c.args.macros.now.bank.now in
    let definitions = c.args.macros.now.definitions.now in
    let it = c.args.directive.now in
    let q = c.read_defined.new.progress in
    let r = c.replace_operand.new.progress in
    let is_read = ap (λ read. arrived read q) c.deref.ensures.value ∙ c.in_ok-read.ensures ∙ ap (λ ts. arrival bank (defined_read definitions ts) c.args.progress.now) c.as_slice.ensures in
    let is_given = ap (λ given. arrived given r) c.deref-2.ensures.value ∙ c.in_ok-given.ensures in
    ap (arrived false) c.in_ok-bad_condition-in-None.ensures
    ∙ ap (λ found. arrival bank (judged it.place it.word.now found) r) (sym c.in-None.is)
    ∙ arrival-condition bank it.place it.word.now definitions it.operands c.args.progress.now q r c.deref.result.now c.deref-2.result.now c.in_ok-value.field-0 is_read is_given c.in_ok-value.ensures
