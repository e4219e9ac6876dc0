use Rattle.std.proofs.Common.{◌∙◌, Bool, List, ap, if◌then◌else◌, sym}
use Rattle.idl_changes.specs.Plain.{plain}
use Rattle.idl_changes.specs.declared.rows.Line.TheVariants as line
use Rattle.idl_changes.proofs.LineLemmas.{layered-line}
use Rattle.idl_repo.specs.declared.details.row_tree.RowTree.{RowTree}
use Rattle.idl_repo.specs.declared.details.type_tree.LayeredType.{LayeredType}
use Rattle.idl_changes.proofs.types.type_line.Goals as goal

pub returns-then-is_empty : goal.returns-then-is_empty
returns-then-is_empty c =
    let t = c.args.old.now in
    let are = ap (λ (p : LayeredType). p.layers) (c.in_ok-plain.ensures ∙ ap (λ (L : List RowTree). plain L t) c.before-2.ensures) in
    sym (layered-line c.args.sides.now.0 c.args.sides.now.1 t c.args.new.now (sym c.in_ok-same.ensures ∙ c.if-not-same.false) c.in_ok-plain.plain.layers c.is_empty.result c.is_empty.ensures are
    ∙ ap (λ (b : Bool). if b then line.AliasedType else line.LayeredType) c.if-is_empty.true)

pub returns : goal.returns
returns c =
    let t = c.args.old.now in
    let are = ap (λ (p : LayeredType). p.layers) (c.in_ok-plain.ensures ∙ ap (λ (L : List RowTree). plain L t) c.before-2.ensures) in
    sym (layered-line c.args.sides.now.0 c.args.sides.now.1 t c.args.new.now (sym c.in_ok-same.ensures ∙ c.if-not-same.false) c.in_ok-plain.plain.layers c.is_empty.result c.is_empty.ensures are
    ∙ ap (λ (b : Bool). if b then line.AliasedType else line.LayeredType) c.if-is_empty.false)
