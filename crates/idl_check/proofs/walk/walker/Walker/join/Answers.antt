use Rattle.std.proofs.Common.{◌+◌, ◌∷◌, [], sym, ap, ◌∙◌, arith}
use Rattle.idl_tree.proofs.NameLemmas.{text-length}
use Rattle.idl_check.proofs.Faults.NotedLemmas.{faulty-no, faulty-yes}
use Rattle.idl_check.specs.ids.Remarks.{is_bad_text}
use Rattle.idl_check.specs.told.Bodies.{with_text}
use Rattle.idl_check.specs.walk.Held.{held}
use Rattle.idl_check.specs.walk.Walk.{Walk, noted, passed}
use Rattle.idl_fault.specs.declared.code.Code.TheVariants.{BadIdText}
use Rattle.idl_parts.specs.Item.{item_length}
use Rattle.idl_parts.specs.Part.{Part as item}
use Rattle.idl_unit.specs.TokenRules.{fault_at}
use Rattle.idl_value.specs.Evaluation.{joined}
use Rattle.idl_check.proofs.walk.walker.Walker.join.Goals as goal

pub overflow_add-len : goal.overflow_add-len
overflow_add-len c =
    let all = text-length c.args.text.now in
    omega (arith, all, c.requires, c.len.ensures)

pub pass-requires : goal.pass-requires
pass-requires c =
    let all = text-length c.args.text.now in
    omega (arith, all, c.requires, c.len.ensures)

pub returns-then-is_bad-clause-visit : goal.returns-then-is_bad-clause-visit
returns-then-is_bad-clause-visit c =
    let w = held c.args.self.now in
    let text = c.args.text.now in
    let purpose = c.args.purpose in
    let after : Walk = record (passed (item_length (item.Says purpose text)) w) { clauses = with_text purpose text w.clauses } in
    let fault : Walk → Walk = λ u. record u { fault = noted u.fault (fault_at w.at BadIdText ∷ []) } in
    (λ i. held (c.note.ensures i))
    ∙ ap fault (ap held c.pass.ensures
    ∙ (λ i. record (passed (1 + c.len.ensures i) w) { clauses = c.in_ok-add_text.ensures i })
    ∙ (λ i. record (passed (sym (text-length text) i) w) { clauses = with_text purpose text w.clauses }))
    ∙ sym (faulty-yes (is_bad_text purpose (joined text)) BadIdText w after w.fault (sym c.in_ok-is_bad.ensures ∙ c.if-is_bad.true))

pub returns-then-is_bad-clause-at : goal.returns-then-is_bad-clause-at
returns-then-is_bad-clause-at c =
    let all = text-length c.args.text.now in
    let same = ap (λ w. w.at) c.note.ensures in
    let at = ap (λ w. w.at) c.pass.ensures in
    omega (arith, all, same, at, c.len.ensures)

pub returns-clause-visit : goal.returns-clause-visit
returns-clause-visit c =
    let w = held c.args.self.now in
    let text = c.args.text.now in
    let purpose = c.args.purpose in
    let after : Walk = record (passed (item_length (item.Says purpose text)) w) { clauses = with_text purpose text w.clauses } in
    ap held c.pass.ensures
    ∙ (λ i. record (passed (1 + c.len.ensures i) w) { clauses = c.in_ok-add_text.ensures i })
    ∙ (λ i. record (passed (sym (text-length text) i) w) { clauses = with_text purpose text w.clauses })
    ∙ sym (faulty-no (is_bad_text purpose (joined text)) BadIdText w after w.fault (sym c.in_ok-is_bad.ensures ∙ c.if-is_bad.false))

pub returns-clause-at : goal.returns-clause-at
returns-clause-at c =
    let all = text-length c.args.text.now in
    let at = ap (λ w. w.at) c.pass.ensures in
    omega (arith, all, at, c.len.ensures)
