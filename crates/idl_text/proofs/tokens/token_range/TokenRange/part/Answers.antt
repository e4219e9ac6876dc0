use Rattle.std.proofs.Common.{◌≡◌, ◌∙◌, ◌+◌, ◌≤◌, ap, arith, length, subst, sym, IfOk}
use Rattle.std.specs.List.{slice_range}
use Rattle.idl_base.proofs.PartLemmas.{length-part, part-part}
use Rattle.idl_text.proofs.tokens.token_range.TokenRange.part.Goals as goal

pub returns : goal.returns
returns c =
    let it = c.self.inside in
    let all = it.tokens.value.items in
    let from = c.args.from in
    let to = c.args.to in
    let within : it.from + to ≤ it.to = omega (arith, c.requires.within, ap length c.self.view_is, length-part all it.from it.to c.self.invariant.1, c.self.invariant.0) in
    subst (λ ts. IfOk c.new.result (λ range. range ≡ ts))
    (ap (λ v. slice_range v.items (it.from + from) (it.from + to)) c.in_ok-clone.ensures.cases
    ∙ sym (part-part all it.from it.to from to c.requires.order within)
    ∙ ap (λ ts. slice_range ts from to) c.self.view_is)
    c.new.ensures
