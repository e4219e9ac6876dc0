use Rattle.std.proofs.Common.{◌∙◌}
use Rattle.std.proofs.lemmas.Result.{IfOk-weaker}
use Rattle.idl_macro.specs.Directives.{undef}
use Rattle.idl_prep.specs.State.{Way}
use Rattle.idl_prep.proofs.WalkLaws.RootLemmas.{ended-redefined, onward-stated}
use Rattle.idl_prep.proofs.walk.root.Root.undef.Goals as goal

pub returns : goal.returns
returns g c = IfOk-weaker c.undef.result _ _ (λ _ taken bank.
    let s = c.self.inside in
    let way : Way = record { state = record { definitions = s.definitions; once = s.once.keys }; progress = s.progress } in
    let d = c.in_ok-stated.stated in
    let is = c.in_ok-stated.ensures in
    ended-redefined bank (λ definitions. undef d.place d.word.now definitions d.operands) way c.args.self.now c.undef.new.definitions c.undef.new.progress
    (taken bank) c.self.view_is
    ∙ onward-stated bank c.args.file.now c.args.directive.now undef d.place d.word.now d.operands c.args.self.now is.0 is.1 is.2) c.undef.ensures
