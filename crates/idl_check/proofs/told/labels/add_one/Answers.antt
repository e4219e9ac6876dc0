use Rattle.std.proofs.Common.{◌∙◌, ◌++◌, ◌∷◌, [], ap, cond, sym}
use Rattle.std.proofs.lemmas.Map.Made.{is_some-lookup}
use Rattle.std.specs.Map.{keys_of}
use Rattle.idl_map.proofs.TableLemmas.{keys_of-push}
use Rattle.idl_value.specs.Equal.{value_eq}
use Rattle.idl_value.specs.Exact.{copied_value}
use Rattle.idl_check.proofs.told.labels.add_one.Goals as goal

pub returns-then-contains : goal.returns-then-contains
returns-then-contains c =
    let keys = keys_of c.args.values.now in
    let there = sym (is_some-lookup (value_eq c.args.value.now) c.args.values.now) ∙ sym c.contains.ensures ∙ c.if-contains.true in
    sym (ap (λ b. cond b keys (keys ++ c.args.value.now ∷ [])) there)

pub returns : goal.returns
returns c =
    let keys = keys_of c.args.values.now in
    let new = sym (is_some-lookup (value_eq c.args.value.now) c.args.values.now) ∙ sym c.contains.ensures ∙ c.if-contains.false in
    ap keys_of c.in_ok-push.ensures.entries
    ∙ keys_of-push c.args.values.now _ _
    ∙ ap (λ v. keys ++ v ∷ []) (copied_value c.args.value.now c.in_ok-clone.field-0 c.in_ok-clone.ensures.cases)
    ∙ sym (ap (λ b. cond b keys (keys ++ c.args.value.now ∷ [])) new)
