use Rattle.std.proofs.Common.{◌≡◌, ◌∙◌, List, ap, map, refl, subst, sym}
use Rattle.idl_sources.specs.Compile.{compiled_root}
use Rattle.idl_inputs.specs.Project.{Inputs}
use Rattle.idl_sources.specs.declared.compile.CompiledRoot.{CompiledRoot}
use Rattle.idl_driver.specs.Tried.{AreMissing, IsTrue}
use Rattle.idl_driver.proofs.LoadingLemmas.{complete}
use Rattle.idl_driver.proofs.loading.settle.Goals as goal

pub rounds-init : goal.rounds-init
rounds-init g c = record { told = refl; is_true = c.requires; stays = record { macros = refl; search = refl } }

pub returns-in_default-clause-compiled : goal.returns-in_default-clause-compiled
returns-in_default-clause-compiled g c =
    let told = g.L.Loader.told c.args.loader.now in
    let roots = c.args.roots.now in
    let before = c.rounds.invariant in
    let missing = c.rounds.loading.missing.keys in
    let last = c.into_sources-sources.result in
    let compiled = c.in_ok-compiled.compiled.items in
    let same = c.into_sources-sources.ensures ∙ c.in_ok-compiled.ensures.same in
    let rows : compiled ≡ map (compiled_root last) roots = c.in_ok-compiled.ensures.rows ∙ ap (λ (i : Inputs). map (compiled_root i) roots) (sym same) in
    let is = subst (λ (i : Inputs). IsTrue told i missing) (sym same) before.is_true in
    let are = subst (λ (rs : List CompiledRoot). AreMissing missing rs) c.deref.ensures.value c.in_default.ensures in
    record {
      formed = c.keeps_form.ensures;
      rows = rows;
      loaded = is.loaded;
      complete = complete told last missing roots compiled is rows are;
      stays = record {
        macros = ap (λ (i : Inputs). i.macros) same ∙ before.stays.macros;
        search = ap (λ (i : Inputs). i.search) same ∙ before.stays.search;
      };
    }

pub returns-in_default-clause-still : goal.returns-in_default-clause-still
returns-in_default-clause-still g c = c.rounds.invariant.told
