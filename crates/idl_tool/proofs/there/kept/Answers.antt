use Rattle.std.proofs.Common.{Bor, ◌∙◌, ℕ, List, ap, map}
use Rattle.std.proofs.lemmas.List.{map-append}
use Rattle.idl_tool.proofs.ThereLemmas.{all-left, one-left, one-out}
use Rattle.idl_tool.proofs.there.kept.Goals as goal

pub files-preserved-then-not-is_left : goal.files-preserved-then-not-is_left
files-preserved-then-not-is_left c =
    let at = c.files in
    one-out c.args.had.now c.args.others.now c.args.files.now at.place (map (λ (w : Bor (List ℕ)). w.now) at.left.items) _ c.is_left.result c.files-test.true c.is_left.ensures at.invariant c.if-not-is_left.true

pub files-preserved : goal.files-preserved
files-preserved c =
    let at = c.files in
    let now = λ (w : Bor (List ℕ)). w.now in
    one-left c.args.had.now c.args.others.now c.args.files.now at.place (map now at.left.items) _ c.is_left.result c.files-test.true c.is_left.ensures at.invariant _ (map now c.push.new.self.items) c.if-not-is_left.false
    (ap (map now) c.in_ok-push.ensures.items ∙ map-append now at.left.items _)

pub returns : goal.returns
returns c =
    let at = c.files in
    all-left c.args.had.now c.args.others.now c.args.files.now at.place (map (λ (w : Bor (List ℕ)). w.now) at.left.items) _ c.files-test.false at.invariant
