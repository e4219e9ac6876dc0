use Rattle.std.proofs.Common.{◌≡◌, ◌∙◌, ◌+◌, ◌∷◌, Bool, true, false, ap, drop, nat_eq, sym, if◌then◌else◌}
use Rattle.std.proofs.lemmas.List.{at_drop_all, at_drop_more}
use Rattle.std.specs.Map.{lookup}
use Rattle.std.specs.Option.{option_or}
use Rattle.idl_env.specs.keys.Key.{key_eq}
use Rattle.idl_related.specs.FirstDeclared.{first_declaration, with_name}
use Rattle.idl_related.proofs.first_declared.first_declaration.Goals as goal

pub returns-then-is_at : goal.returns-then-is_at
returns-then-is_at c =
    let token = c.args.token in
    let first = c.args.first.now in
    let own = c.args.own.now in
    let before = c.loop-name.before in
    let i = c.loop-name.name-index in
    let name = c.name-item.result in
    let rest = drop (i + 1) own in
    let there : nat_eq name.1.token token ≡ true = sym c.is_at.ensures ∙ c.if-is_at.true in
    let found = option_or (lookup (key_eq name.0) first) (lookup (key_eq name.0) before) in
    c.first_of.ensures
    ∙ ap (λ (b : Bool). if b then found else first_declaration token first (with_name before name) rest) (sym there)
    ∙ ap (λ n. first_declaration token first before (n ∷ rest)) c.name-item.is
    ∙ sym (at_drop_more (first_declaration token first before) own i name c.loop-name-test.true)
    ∙ c.loop-name.invariant

pub loop-name-preserved : goal.loop-name-preserved
loop-name-preserved c =
    let token = c.args.token in
    let first = c.args.first.now in
    let own = c.args.own.now in
    let before = c.loop-name.before in
    let i = c.loop-name.name-index in
    let name = c.name-item.result in
    let rest = drop (i + 1) own in
    let there : nat_eq name.1.token token ≡ false = sym c.is_at.ensures ∙ c.if-is_at.false in
    let found = option_or (lookup (key_eq name.0) first) (lookup (key_eq name.0) before) in
    ap (λ names. first_declaration token first names rest) c.in_ok-add_name.ensures
    ∙ ap (λ (b : Bool). if b then found else first_declaration token first (with_name before name) rest) (sym there)
    ∙ ap (λ n. first_declaration token first before (n ∷ rest)) c.name-item.is
    ∙ sym (at_drop_more (first_declaration token first before) own i name c.loop-name-test.true)
    ∙ c.loop-name.invariant

pub returns : goal.returns
returns c =
    sym (at_drop_all (first_declaration c.args.token c.args.first.now c.loop-name.before) c.args.own.now c.loop-name.name-index c.loop-name-test.false)
    ∙ c.loop-name.invariant
