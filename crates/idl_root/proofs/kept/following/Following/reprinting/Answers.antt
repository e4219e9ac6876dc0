use Rattle.std.proofs.Common.{◌≡◌, ◌∙◌, [], ap, rules, subst, sym, true}
use Rattle.idl_root.specs.Followed.{AgreeBut, ArePrinted, facts_of, results_from}
use Rattle.idl_store.specs.Stored.{list_at}
use Rattle.idl_root.proofs.FollowingLemmas.{beside-end}
use Rattle.idl_root.proofs.kept.following.Following.reprinting.Goals as goal

pub returns : goal.returns
returns c = λ lists earlier facts entries b printed.
    let course = c.args.self.course in
    let all = facts_of lists earlier in
    let none : course.marks.now ≡ [] = search rules in
    let but : AgreeBut true c.args.self.changed all facts =
    beside-end all c.args.self.is_around c.args.self.changed course.marks.now (results_from lists course) facts none b.beside in
    let list : c.new.result.list ≡ earlier.list = c.new.ensures.list ∙ ap (λ p. p.0) c.place-list.ensures ∙ b.list in
    record {
      before = all;
      entries = subst (λ at. ArePrinted all (list_at entries at)) (sym list) printed;
      but = subst (λ changed. AgreeBut true changed all facts) (sym c.new.ensures.changed) but;
    }
