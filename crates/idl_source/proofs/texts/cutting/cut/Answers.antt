use Rattle.std.proofs.Common.{◌≡◌, ◌++◌, ◌∷◌, [], refl, sym, ap, subst, ◌∙◌, append_assoc, append-nil, arith, IfOk}
use Rattle.std.specs.List.{Contains}
use Rattle.std.proofs.lemmas.List.Elements.{All-contains, Contains-append_right}
use Rattle.idl_source.specs.texts.Cut.{cut_lines}
use Rattle.idl_source.specs.texts.Line.{IsLine}
use Rattle.idl_source.proofs.CutLemmas.{cut-line, cut-lines}
use Rattle.idl_source.proofs.texts.cutting.cut.Goals as goal

pub loop-line-init : goal.loop-line-init
loop-line-init c =
    ap (λ l. l ++ c.into_iter-line-iterator.result) c.new-lines.ensures
    ∙ c.into_iter-line-iterator.ensures.into_iter_gives
    ∙ c.lines-line-items.ensures.value
    ∙ cut-lines c.args.bytes.now

pub push-requires : goal.push-requires
push-requires c =
    let next : Contains c.loop-line.line-iterator c.in-Some.line.now = subst (λ l. Contains l c.in-Some.line.now) (sym c.in-Some.ensures.steps) (0, omega arith, refl) in
    let here = subst (λ l. Contains l c.in-Some.line.now) c.loop-line.invariant (Contains-append_right c.loop-line.lines c.loop-line.line-iterator c.in-Some.line.now next) in
    All-contains IsLine (cut_lines c.args.bytes.now) c.in-Some.line.now (cut-line c.args.bytes.now) here

pub loop-line-preserved : goal.loop-line-preserved
loop-line-preserved c =
    ap (λ l. l ++ c.next.new.self) c.in_ok-push.ensures
    ∙ append_assoc c.loop-line.lines (c.in-Some.line.now ∷ []) c.next.new.self
    ∙ ap (λ l. c.loop-line.lines ++ l) (sym c.in-Some.ensures.steps)
    ∙ c.loop-line.invariant

pub returns : goal.returns
returns c =
    let all : c.loop-line.lines ≡ cut_lines c.args.bytes.now =
    sym (append-nil c.loop-line.lines)
    ∙ ap (λ l. c.loop-line.lines ++ l) (sym c.in-None.ensures.steps.0)
    ∙ c.loop-line.invariant in
    subst (λ all. IfOk c.into_vec.result (λ lines. lines.items ≡ all)) all c.into_vec.ensures
