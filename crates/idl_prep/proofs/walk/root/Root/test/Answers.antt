use Rattle.std.proofs.Common.{refl, ◌∙◌}
use Rattle.std.proofs.lemmas.Result.{IfOk-weaker}
use Rattle.idl_macro.specs.Condition.{condition}
use Rattle.idl_macro.specs.Directives.{ifdef, ifndef}
use Rattle.idl_text.specs.declared.groups.kind.Test.TheVariants.{If, Ifdef, Ifndef}
use Rattle.idl_prep.specs.State.{Way}
use Rattle.idl_prep.proofs.WalkLaws.RootLemmas.{arrival-test}
use Rattle.idl_prep.proofs.walk.root.Root.test.Goals as goal

pub returns-in-If-clause-arrival : goal.returns-in-If-clause-arrival
returns-in-If-clause-arrival g c = IfOk-weaker c.condition.result _ _ (λ _ came.
    let s = c.self.inside in
    let way : Way = record { state = record { definitions = s.definitions; once = s.once.keys }; progress = s.progress } in
    let d = c.in_ok-stated.stated in
    let is = c.in_ok-stated.ensures in
    came
    ∙ arrival-test (g.B.Bank.at c.args.site.now.bank.now) condition c.args.site.now.file.now d.place d.word.now d.operands c.args.directive.now If c.args.what way c.args.self.now
    refl c.in-If.is is.0 is.1 is.2 c.self.view_is) c.condition.ensures

pub returns-in-Ifdef-clause-arrival : goal.returns-in-Ifdef-clause-arrival
returns-in-Ifdef-clause-arrival g c = IfOk-weaker c.ifdef.result _ _ (λ _ came.
    let s = c.self.inside in
    let way : Way = record { state = record { definitions = s.definitions; once = s.once.keys }; progress = s.progress } in
    let d = c.in_ok-stated.stated in
    let is = c.in_ok-stated.ensures in
    came
    ∙ arrival-test (g.B.Bank.at c.args.site.now.bank.now) ifdef c.args.site.now.file.now d.place d.word.now d.operands c.args.directive.now Ifdef c.args.what way c.args.self.now
    refl c.in-Ifdef.is is.0 is.1 is.2 c.self.view_is) c.ifdef.ensures

pub returns-clause-arrival : goal.returns-clause-arrival
returns-clause-arrival g c = IfOk-weaker c.ifndef.result _ _ (λ _ came.
    let s = c.self.inside in
    let way : Way = record { state = record { definitions = s.definitions; once = s.once.keys }; progress = s.progress } in
    let d = c.in_ok-stated.stated in
    let is = c.in_ok-stated.ensures in
    came
    ∙ arrival-test (g.B.Bank.at c.args.site.now.bank.now) ifndef c.args.site.now.file.now d.place d.word.now d.operands c.args.directive.now Ifndef c.args.what way c.args.self.now
    refl c.in-Ifndef.is is.0 is.1 is.2 c.self.view_is) c.ifndef.ensures
