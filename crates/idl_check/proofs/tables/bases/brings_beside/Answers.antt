use Rattle.std.proofs.Common.{◌≡◌, ◌∙◌, Bool, false, is_some, List, ℕ, [], ◌∷◌, refl, sym, ap, subst}
use Rattle.std.specs.Prelude.{fold, IfOk}
use Rattle.std.specs.List.{list_any}
use Rattle.std.specs.Map.{lookup}
use Rattle.std.specs.Str.{bytes_eq}
use Rattle.idl_check.specs.tables.Using.{with_operation}
use Rattle.idl_check.specs.tables.Rules.{is_another}
use Rattle.idl_check.proofs.BaseLemmas.{alike-any}
use Rattle.idl_check.proofs.tables.bases.brings_beside.Goals as goal

-- nothing stands beside another one where none was brought
none_another : (paths : List (List (List ℕ))) → list_any (is_another []) paths ≡ false
none_another [] = refl
none_another (p ∷ paths) = none_another paths

pub returns-then-eq : goal.returns-then-eq
returns-then-eq c =
    let paths = c.args.base.now.operations in
    let none = c.eq.ensures.exact.0 c.if-eq.true ∙ c.new.ensures in
    sym (ap (λ others. list_any (is_another (fold with_operation [] others)) paths) none ∙ none_another paths)

pub returns : goal.returns
returns c =
    let paths = c.args.base.now.operations in
    let others = c.args.others.now in
    let last = c.as_slice.ensures.value ∙ c.in_ok-others.ensures in
    let own = c.as_slice-2.ensures.value ∙ c.in_ok-paths.ensures ∙ c.in_ok-operations.ensures in
    let own_again = c.as_slice-3.ensures.value ∙ c.in_ok-paths.ensures ∙ c.in_ok-operations.ensures in
    let near = c.add_near.new.operations in
    let alike = alike-any near (fold with_operation [] others) [] paths
    (λ n asked. c.in_ok-add_near.ensures n (ap (λ l. is_some (lookup (bytes_eq n) (fold with_operation [] l))) own ∙ asked)
    ∙ (λ i. lookup (bytes_eq n) (fold with_operation (c.new-near.ensures i) (last i)))) in
    subst (λ (a : Bool). IfOk c.any_another.result (λ b. b ≡ a)) (ap (list_any (is_another near)) own_again ∙ alike) c.any_another.ensures
