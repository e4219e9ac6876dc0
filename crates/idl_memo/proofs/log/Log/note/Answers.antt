use Rattle.std.proofs.Common.{◌≡◌, true, false, [], ◌∷◌, ◌++◌, is_some, sym, ap, ◌∙◌, arith}
use Rattle.std.specs.Map.{lookup}
use Rattle.std.specs.Option.{option_copied}
use Rattle.idl_memo.specs.Query.{noted}
use Rattle.idl_memo.proofs.Noting.{noted-absent, noted-present}
use Rattle.std.proofs.lemmas.Grind.{common_steps}
use Rattle.idl_memo.proofs.log.Log.note.Goals as goal

pub returns-then-contains-clause-logged : goal.returns-then-contains-clause-logged
returns-then-contains-clause-logged g c =
    let eq = g.B.Key.PartialEq.eq in
    let key = c.args.key.now in
    let found : is_some (lookup (eq key) c.args.self.now) ≡ true = ap (λ log. is_some (lookup (eq key) log)) (sym c.self.view_is) ∙ sym c.contains.ensures ∙ c.if-contains.true in
    sym (noted-present eq (λ _. option_copied c.args.answer) c.args.self.now key found)

pub returns-clause-logged : goal.returns-clause-logged
returns-clause-logged g c =
    let eq = g.B.Key.PartialEq.eq in
    let answer = option_copied c.args.answer in
    let key = c.args.key.now in
    let log = c.self.inside.entries in
    let same_key : c.in_ok-clone.field-0 ≡ key = g.met.B.Key.Datum.copy key c.in_ok-clone.field-0 c.in_ok-clone.ensures.cases in
    let same_answer : c.in_ok-copy.copy ≡ answer = c.in_ok-copy.ensures in
    let absent : is_some (lookup (eq key) log) ≡ false = sym c.contains.ensures ∙ c.if-contains.false in
    let put = c.in_ok-push.ensures.entries in
    let copied = log ++ (c.in_ok-clone.field-0, c.in_ok-copy.copy) ∷ [] in
    let grown : c.push.new.self ≡ log ++ (key, answer) ∷ [] = ◌∙◌ {b = copied} put (λ i. log ++ (same_key i, same_answer i) ∷ []) in
    let was : noted eq (λ _. answer) log key ≡ noted eq (λ _. answer) c.args.self.now key = ap (λ l. noted eq (λ _. answer) l key) c.self.view_is in
    grown ∙ sym (noted-absent eq (λ _. answer) log key absent) ∙ was

pub push-requires : goal.push-requires
push-requires g c =
    let eq = g.B.Key.PartialEq.eq in
    let same_key : c.in_ok-clone.field-0 ≡ c.args.key.now = g.met.B.Key.Datum.copy c.args.key.now c.in_ok-clone.field-0 c.in_ok-clone.ensures.cases in
    ap (λ k. is_some (lookup (eq k) c.self.inside.entries)) same_key ∙ sym c.contains.ensures ∙ c.if-contains.false

pub returns-clause-err : goal.returns-clause-err
returns-clause-err g c = grind (arith, common_steps)

pub returns-in_err-copy-clause-err : goal.returns-in_err-copy-clause-err
returns-in_err-copy-clause-err g c = grind (arith, common_steps)

pub returns-in_err-push-clause-err : goal.returns-in_err-push-clause-err
returns-in_err-push-clause-err g c = grind (arith, common_steps)

pub returns-in_err-clone-clause-err : goal.returns-in_err-clone-clause-err
returns-in_err-clone-clause-err g c = grind (arith, common_steps)

pub returns-then-contains-clause-err : goal.returns-then-contains-clause-err
returns-then-contains-clause-err g c = grind (arith, common_steps)
