use Rattle.std.proofs.Common.{◌∙◌, ℕ, List, ap, subst}
use Rattle.idl_inputs.specs.Project.{Inputs}
use Rattle.idl_driver.specs.Loading.{AreCompiled, StaysAsked}
use Rattle.idl_driver.proofs.LoadingLemmas.{compiled-from, fresh, true-then}
use Rattle.idl_driver.proofs.loading.compile_sound.Goals as goal

pub settle-requires : goal.settle-requires
settle-requires g c =
    let told = g.L.Loader.told in
    let new = c.new-loading.result in
    let parted = c.part.new in
    true-then (told c.args.loader.now) (told parted.loader) new.sources parted.self.sources new.missing.keys parted.self.missing.keys c.in_ok-sound.ensures.loading
    (fresh (told c.args.loader.now) new.sources new.missing.keys (ap (λ (i : Inputs). i.files) c.new-loading.ensures.sources ∙ c.requires) c.new-loading.ensures.none)

pub returns-clause-compiled : goal.returns-clause-compiled
returns-clause-compiled g c =
    let told = g.L.Loader.told in
    let same = c.new-loading.ensures.sources in
    let parted = c.in_ok-sound.ensures.loading in
    let stays : StaysAsked c.args.sources c.part.new.self.sources = record {
      macros = parted.stays.macros ∙ ap (λ (i : Inputs). i.macros) same;
      search = parted.stays.search ∙ ap (λ (i : Inputs). i.search) same;
    } in
    let compiled = c.in_ok-sources.compiled.items in
    let are = subst (λ (rs : List (List ℕ)). AreCompiled (told c.part.new.loader) c.part.new.self.sources c.in_ok-sources.sources rs compiled) c.deref.ensures.value c.in_ok-sources.ensures.compiled in
    compiled-from (told c.args.loader.now) (told c.part.new.loader) c.args.sources c.part.new.self.sources c.in_ok-sources.sources c.in_ok-sound.sound.items compiled parted.stays_told stays are

pub returns-clause-still : goal.returns-clause-still
returns-clause-still g c = c.in_ok-sources.ensures.still ∙ c.in_ok-sound.ensures.loading.stays_told
