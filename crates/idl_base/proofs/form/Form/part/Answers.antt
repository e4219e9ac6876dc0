use Rattle.std.proofs.Common.{◌≡◌, ◌∙◌, ◌≤◌, ◌+◌, IfOk, ap, length, slice_range, subst, sym}
use Rattle.std.specs.Rc.{rc_slice_items}
use Rattle.idl_base.specs.Form.{IsWithin, form_bytes}
use Rattle.idl_base.specs.declared.form.Far.{Far}
use Rattle.idl_base.proofs.PartLemmas.{part-part, part-within}
use Rattle.idl_base.proofs.form.Form.part.Goals as goal

-- a part of a part is one of the block
pub returns-in_ok-clone-in-Part-clause-same : goal.returns-in_ok-clone-in-Part-clause-same
returns-in_ok-clone-in-Part-clause-same c =
    let part = c.in-Part in
    let block = rc_slice_items part.block in
    let within = subst IsWithin part.is c.requires.held in
    let fits = subst (λ form. c.args.to ≤ length (form_bytes form)) part.is c.requires.within in
    ap (λ bytes. slice_range bytes (part.begin + c.args.from) (part.begin + c.args.to)) c.in_ok-clone-in-Part.ensures.cases
    ∙ sym (part-part block part.begin part.end c.args.from c.args.to c.requires.order (part-within block part.begin part.end c.args.to within.0 within.1 fits))
    ∙ ap (λ form. slice_range (form_bytes form) c.args.from c.args.to) (sym part.is)

pub returns-in_ok-clone-in-Far-clause-same : goal.returns-in_ok-clone-in-Far-clause-same
returns-in_ok-clone-in-Far-clause-same c =
    let from = c.args.from in
    let to = c.args.to in
    let far = c.in-Far.far.value in
    let block = rc_slice_items far.block in
    let within = subst IsWithin c.in-Far.is c.requires.held in
    let fits = subst (λ form. to ≤ length (form_bytes form)) c.in-Far.is c.requires.within in
    let copy = c.in_ok-clone-in-Far.ensures.cases ∙ ap (λ (f : Far). rc_slice_items f.block) c.deref-in-Far-2.ensures in
    let begin = ap (λ (f : Far). f.from + from) c.deref.ensures in
    let end = ap (λ (f : Far). f.from + to) c.deref-in-Far.ensures in
    let same =
    (λ i. slice_range (copy i) (begin i) (end i))
    ∙ sym (part-part block far.from far.to from to c.requires.order (part-within block far.from far.to to within.0 within.1 fits))
    ∙ ap (λ form. slice_range (form_bytes form) from to) (sym c.in-Far.is) in
    subst (λ bytes. IfOk c.shared.result (λ form. form_bytes form ≡ bytes)) same c.shared.ensures.same
