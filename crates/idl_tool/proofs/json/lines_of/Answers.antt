use Rattle.std.proofs.Common.{◌∙◌, ◌++◌, ◌∷◌, [], ℕ, List, ap, subst}
use Rattle.std.proofs.lemmas.List.{take_all}
use Rattle.std.specs.List.{AllZip}
use Rattle.idl_tool.specs.Json.{IsLineOf}
use Rattle.idl_tool.proofs.JsonLemmas.{joined-next, lines-next}
use Rattle.idl_tool.proofs.json.lines_of.Goals as goal

pub roots-init : goal.roots-init
roots-init c = ([], tt, c.new-text.ensures.items)

pub roots-preserved : goal.roots-preserved
roots-preserved c =
    let inputs = c.args.sources.now in
    let before = c.roots.text.items in
    let are = c.roots.invariant in
    let line = c.in_ok-line.line.items in
    let more = c.in_ok-extend_from_slice.ensures.items ∙ ap (λ (l : List ℕ). before ++ l) c.deref.ensures.value in (
      are.0 ++ line ∷ [],
      lines-next inputs c.args.roots.now c.args.compiled.now c.roots.index c.index-roots-index.result c.index-compiled-index.result are.0 line c.requires c.roots-test.true c.index-roots-index.is c.index-compiled-index.is are.1 c.in_ok-line.ensures,
      joined-next are.0 line before c.extend_from_slice.new.self.items are.2 more,
    )

pub returns : goal.returns
returns c =
    let are = c.roots.invariant in
    let whole = take_all c.roots.index c.args.roots.now c.roots-test.false in
    (are.0, subst (λ (rs : List (List ℕ)). AllZip (IsLineOf c.args.sources.now) rs are.0) whole are.1, are.2)
