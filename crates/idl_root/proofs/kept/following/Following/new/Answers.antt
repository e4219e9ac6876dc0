use Rattle.std.proofs.Common.{[], false, refl, subst, sym}
use Rattle.idl_root.specs.Followed.{IsBeside, facts_of, results_from}
use Rattle.idl_root.proofs.FollowingLemmas.{beside-start}
use Rattle.idl_root.proofs.kept.following.Following.new.Goals as goal

pub returns : goal.returns
returns c = λ lists there.
    let course = c.args.course in
    record {
      list = refl;
      beside = subst (λ changed. IsBeside (facts_of lists course) false changed course.marks.now (results_from lists course) []) (sym c.in_ok-new.ensures)
          (beside-start course.marks.now (results_from lists course) there);
    }
