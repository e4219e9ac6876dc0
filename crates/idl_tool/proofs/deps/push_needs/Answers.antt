use Rattle.std.proofs.Common.{◌∙◌, ◌++◌, ◌∷◌, [], ℕ, List, ap, flat_map, if◌then◌else◌, is_ok, map, sym}
use Rattle.std.proofs.lemmas.List.Folds.{flat_map-map}
use Rattle.idl_tool.specs.Deps.{need_of}
use Rattle.idl_tool.specs.make_rules.Make.{need_text}
use Rattle.idl_tool.proofs.DepsLemmas.{pushed-all, pushed-next, pushed-none}
use Rattle.idl_tool.proofs.ShownLemmas.{grown-on_ok}
use Rattle.idl_tool.proofs.deps.push_needs.Goals as goal

pub names-init : goal.names-init
names-init c =
    let text = λ (name : List ℕ). need_text (need_of c.args.deps.now.has_generated c.args.sources.now.files name) in
    pushed-none text c.args.asked.now c.args.out.now.items

pub names-preserved : goal.names-preserved
names-preserved c =
    let text = λ (name : List ℕ). need_text (need_of c.args.deps.now.has_generated c.args.sources.now.files name) in
    let name = c.name-item.result in
    pushed-next text c.args.asked.now c.names.name-index name c.args.out.now.items c.names.out.items c.push_need_of.new.out.items c.names-test.true c.names.invariant
    (c.in_ok-push_need_of.ensures ∙ ap (λ (n : List ℕ). c.names.out.items ++ text n) c.name-item.is)

pub returns : goal.returns
returns c =
    let need = need_of c.args.deps.now.has_generated c.args.sources.now.files in
    let asked = c.args.asked.now in
    let before = c.args.out.now.items in
    let after = c.names.out.items in
    let pushed = c.extend_from_slice.result in
    let all = pushed-all (λ (name : List ℕ). need_text (need name)) asked c.names.name-index before after c.names-test.false c.names.invariant ∙ ap (λ t. before ++ t) (sym (flat_map-map need_text need asked)) in
    let whole = ap (λ t. t ++ 10 ∷ []) all in
    grown-on_ok (before ++ flat_map need_text (map need asked) ++ 10 ∷ []) after pushed (c.extend_from_slice.ensures.items ∙ ap (λ t. if is_ok pushed then t else after) whole)
