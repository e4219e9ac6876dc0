use Rattle.std.proofs.Common.{◌∙◌}
use Rattle.std.proofs.lemmas.Result.{IfOk-weaker}
use Rattle.idl_macro.specs.Directives.{define}
use Rattle.idl_prep.specs.State.{Way}
use Rattle.idl_prep.proofs.WalkLaws.RootLemmas.{ended-redefined, onward-stated}
use Rattle.idl_prep.proofs.walk.root.Root.define.Goals as goal

pub returns : goal.returns
returns g c = IfOk-weaker c.define.result _ _ (λ _ defined.
    let s = c.self.inside in
    let way : Way = record { state = record { definitions = s.definitions; once = s.once.keys }; progress = s.progress } in
    let d = c.in_ok-stated.stated in
    let is = c.in_ok-stated.ensures in
    ended-redefined (g.B.Bank.at c.args.site.now.bank.now) (λ definitions. define d.place d.word.now definitions d.operands) way c.args.self.now c.define.new.definitions c.define.new.progress
    defined c.self.view_is
    ∙ onward-stated (g.B.Bank.at c.args.site.now.bank.now) c.args.site.now.file.now c.args.directive.now define d.place d.word.now d.operands c.args.self.now is.0 is.1 is.2) c.define.ensures
