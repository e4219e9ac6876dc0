use Rattle.std.proofs.Common.{◌≡◌, ◌⊎◌, ◌∙◌, ℕ, List, ap, inl, subst, sym, true}
use Rattle.std.specs.List.{list_any}
use Rattle.std.specs.Str.{bytes_eq}
use Rattle.idl_inputs.specs.Asked.{asked_of}
use Rattle.idl_server.specs.Roots.{IsOpen}
use Rattle.idl_server.proofs.CoveredLemmas.{first-none, first-there, left-asked, left-none}
use Rattle.idl_server.proofs.workspace.Workspace.first_unasked.Goals as goal

pub roots-init : goal.roots-init
roots-init c = record { all = λ name waits. inl (c.in_ok-left.ensures.all name waits); opened = c.in_ok-left.ensures.opened }

-- one root more
pub roots-preserved : goal.roots-preserved
roots-preserved c =
    let project = c.args.self.now.session.project in
    let left = c.take_all.new.names.keys in
    left-asked c.args.self.now c.deref-root-items.result.now c.roots.root-index c.root-item.result c.roots.left.keys left
    (c.deref-root-items.ensures.value ∙ c.in_ok-roots.ensures) c.roots-test.true c.root-item.is
    (λ name there.
    subst (λ (names : List (List ℕ)). (list_any (bytes_eq name) left ≡ true) ⊎ (list_any (λ one. bytes_eq one name) names ≡ true))
    (c.deref.ensures.value ∙ c.in_ok-asked.ensures ∙ ap (asked_of project) c.as_bytes.ensures.bytes) (c.take_all.ensures.left name there))
    c.take_all.ensures.few c.roots.invariant

pub returns-then-is_empty-clause-none : goal.returns-then-is_empty-clause-none
returns-then-is_empty-clause-none c = λ none. left-none c.args.self.now c.roots.left.keys (c.is_empty.ensures.0 c.if-is_empty.true) c.roots.invariant

pub returns-in-Some-clause-opened : goal.returns-in-Some-clause-opened
returns-in-Some-clause-opened c =
    subst (λ (name : List ℕ). IsOpen c.args.self.now name) (sym c.copied.ensures)
    (c.roots.invariant.opened c.in-Some.name.now (first-there c.roots.left.keys c.in-Some.name.now (sym c.in-Some.ensures.key)))

pub returns-clause-none : goal.returns-clause-none
returns-clause-none c = λ none. left-none c.args.self.now c.roots.left.keys (first-none c.roots.left.keys (sym c.in-None.ensures.key)) c.roots.invariant
