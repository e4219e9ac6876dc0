use Rattle.std.proofs.Common.{◌≡◌, ◌∙◌, ◌∷◌, ◌++◌, [], Bool, true, false, ap, is_some, sym, if◌then◌else◌}
use Rattle.std.proofs.lemmas.Result.{on_ok_weaker}
use Rattle.std.specs.Map.{lookup}
use Rattle.idl_env.specs.keys.Key.{key_eq}
use Rattle.idl_related.proofs.first_declared.add_name.Goals as goal

pub returns-then-contains : goal.returns-then-contains
returns-then-contains c =
    let first = c.args.first.now in
    let name = c.args.name.now in
    let there : is_some (lookup (key_eq name.0) first) ≡ true = sym c.contains.ensures ∙ c.if-contains.true in
    ap (λ (b : Bool). if b then first else first ++ name ∷ []) (sym there)

pub returns : goal.returns
returns c =
    let first = c.args.first.now in
    let name = c.args.name.now in
    let key = c.in_ok-key.key in
    let same : key ≡ name.0 = c.in_ok-key.ensures.cases in
    let there : is_some (lookup (key_eq name.0) first) ≡ false = sym c.contains.ensures ∙ c.if-contains.false in
    on_ok_weaker c.insert.result
    (λ is.
    is (ap (λ k. is_some (lookup (key_eq k) first)) same ∙ there)
    ∙ ap (λ k. first ++ (k, name.1) ∷ []) same
    ∙ ap (λ (b : Bool). if b then first else first ++ name ∷ []) (sym there))
    c.insert.ensures.new_key
