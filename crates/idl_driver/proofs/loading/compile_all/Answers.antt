use Rattle.std.proofs.Common.{◌∙◌, ap}
use Rattle.std.proofs.lemmas.Result.{IfOk-weaker, on_ok_weaker}
use Rattle.idl_inputs.specs.Project.{Inputs}
use Rattle.idl_driver.specs.Loading.{StaysAsked}
use Rattle.idl_driver.proofs.LoadingLemmas.{compiled-from, fresh, true-then}
use Rattle.idl_driver.proofs.loading.compile_all.Goals as goal

pub settle-requires : goal.settle-requires
settle-requires g c =
    let told = g.L.Loader.told in
    let new = c.new-loading.result in
    let explored = c.explore_all.new in
    true-then (told c.args.loader.now) (told explored.loader) new.sources explored.self.sources new.missing.keys explored.self.missing.keys c.in_ok-explore_all.ensures
    (fresh (told c.args.loader.now) new.sources new.missing.keys (ap (λ (i : Inputs). i.files) c.new-loading.ensures.sources ∙ c.requires) c.new-loading.ensures.none)

pub returns-clause-compiled : goal.returns-clause-compiled
returns-clause-compiled g c =
    let told = g.L.Loader.told in
    let same = c.new-loading.ensures.sources in
    let explored = c.in_ok-explore_all.ensures in
    let stays : StaysAsked c.args.sources c.explore_all.new.self.sources = record {
      macros = explored.stays.macros ∙ ap (λ (i : Inputs). i.macros) same;
      search = explored.stays.search ∙ ap (λ (i : Inputs). i.search) same;
    } in
    IfOk-weaker c.settle.result _ _
    (λ p are. compiled-from (told c.args.loader.now) (told c.explore_all.new.loader) c.args.sources c.explore_all.new.self.sources p.0 c.args.roots.now p.1.items explored.stays_told stays are)
    c.settle.ensures.compiled

pub returns-clause-still : goal.returns-clause-still
returns-clause-still g c = on_ok_weaker c.settle.result (λ same. same ∙ c.in_ok-explore_all.ensures.stays_told) c.settle.ensures.still
