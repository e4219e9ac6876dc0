use Rattle.std.proofs.Common.{◌≡◌, true, false, [], ◌∷◌, ◌++◌, is_some, sym, ap, ◌∙◌, arith}
use Rattle.std.specs.Map.{lookup}
use Rattle.idl_memo.specs.Query.{noted}
use Rattle.idl_memo.proofs.Noting.{noted-absent, noted-present}
use Rattle.std.proofs.lemmas.Grind.{common_steps}
use Rattle.idl_memo.proofs.log.Log.ask_lent.Goals as goal

pub returns-then-branch-clause-logged : goal.returns-then-branch-clause-logged
returns-then-branch-clause-logged g c =
    let eq = g.B.Key.PartialEq.eq in
    let key = g.L.Lent.key c.args.key.now in
    let found : is_some (lookup (eq key) c.args.self.now) ≡ true = ap (λ log. is_some (lookup (eq key) log)) (sym c.self.view_is) ∙ sym c.in_ok-contains_lent.ensures ∙ c.if-branch.true in
    sym (noted-present eq (g.B.Bank.at c.args.bank.now) c.args.self.now key found)

pub returns-clause-logged : goal.returns-clause-logged
returns-clause-logged g c =
    let eq = g.B.Key.PartialEq.eq in
    let bank = g.B.Bank.at c.args.bank.now in
    let key = g.L.Lent.key c.args.key.now in
    let log = c.self.inside.entries in
    let same_key : c.in_ok-owned.field-0 ≡ key = c.in_ok-owned.ensures in
    let same_answer : c.in_ok-copy.copy ≡ bank key = c.in_ok-copy.ensures ∙ c.in_ok-answer.ensures in
    let absent : is_some (lookup (eq key) log) ≡ false = sym c.in_ok-contains_lent.ensures ∙ c.if-branch.false in
    let put = c.in_ok-push.ensures.entries in
    let copied = log ++ (c.in_ok-owned.field-0, c.in_ok-copy.copy) ∷ [] in
    let grown : c.push.new.self ≡ log ++ (key, bank key) ∷ [] = ◌∙◌ {b = copied} put (λ i. log ++ (same_key i, same_answer i) ∷ []) in
    let was : noted eq bank log key ≡ noted eq bank c.args.self.now key = ap (λ l. noted eq bank l key) c.self.view_is in
    grown ∙ sym (noted-absent eq bank log key absent) ∙ was

pub returns-in_err-answer-clause-err : goal.returns-in_err-answer-clause-err
returns-in_err-answer-clause-err g c = grind (arith, common_steps)

pub returns-in_err-contains_lent-clause-err : goal.returns-in_err-contains_lent-clause-err
returns-in_err-contains_lent-clause-err g c = grind (arith, common_steps)

pub returns-in_err-copy-clause-err : goal.returns-in_err-copy-clause-err
returns-in_err-copy-clause-err g c = grind (arith, common_steps)

pub returns-in_err-owned-clause-err : goal.returns-in_err-owned-clause-err
returns-in_err-owned-clause-err g c = grind (arith, common_steps)

pub returns-in_err-push-clause-err : goal.returns-in_err-push-clause-err
returns-in_err-push-clause-err g c = grind (arith, common_steps)

pub returns-then-branch-clause-answer : goal.returns-then-branch-clause-answer
returns-then-branch-clause-answer g c = grind (arith, common_steps)

pub returns-then-branch-clause-err : goal.returns-then-branch-clause-err
returns-then-branch-clause-err g c = grind (arith, common_steps)

pub returns-clause-answer : goal.returns-clause-answer
returns-clause-answer g c = grind (arith, common_steps)

pub returns-clause-err : goal.returns-clause-err
returns-clause-err g c = grind (arith, common_steps)
