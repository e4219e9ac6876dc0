use Rattle.std.proofs.Common.{◌≡◌, ◌∷◌, ◌∙◌, ap, drop, refl, rules}
use Rattle.idl_store.specs.Stored.{list_at}
use Rattle.idl_root.specs.declared.kept.marks.Mark.TheVariants as mark
use Rattle.idl_root.proofs.ResultLemmas.{behind-entered, behind-judged, behind-left, drop-more}
use Rattle.idl_root.proofs.kept.course.Course.behind_first.Goals as goal

pub returns-in_ok-place-in-Judged-default : goal.returns-in_ok-place-in-Judged-default
returns-in_ok-place-in-Judged-default c = λ lists f is.
    let course = c.args.self in
    let marks = c.in_ok-marks.field-0.1.now in
    let here : course.marks.now ≡ mark.Judged ∷ marks = search rules in
    let all = list_at lists course.list in
    behind-judged lists f course _ marks refl refl
    (λ k ks h. ap (λ p. drop p all) c.in_ok-place-in-Judged-default.ensures.1 ∙ drop-more all course.place k ks h) here is

pub returns-in-Entered-default : goal.returns-in-Entered-default
returns-in-Entered-default c = λ lists f is.
    let marks = c.in_ok-marks.field-0.1.now in
    let own = c.in-Entered-default._inside in
    let here : c.args.self.marks.now ≡ mark.Entered own ∷ marks = search rules in
    behind-entered lists f c.args.self _ marks refl refl refl own here is

pub returns-in-Left-default : goal.returns-in-Left-default
returns-in-Left-default c = λ lists f is.
    let marks = c.in_ok-marks.field-0.1.now in
    let own = c.in-Left-default._inside in
    let here : c.args.self.marks.now ≡ mark.Left own ∷ marks = search rules in
    behind-left lists f c.args.self _ marks refl refl refl own here is
