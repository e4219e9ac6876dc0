use Rattle.std.proofs.Common.{◌∙◌, ℕ, List, Some, ap, subst, sym}
use Rattle.idl_driver.specs.Loading.{AreCompiled}
use Rattle.idl_driver.proofs.compilation.compile_files.Goals as goal

pub returns-clause-compiled : goal.returns-clause-compiled
returns-clause-compiled g c =
    let told = g.L.Loader.told c.args.loader.now in
    let first = c.in_ok-sources.ensures.asked in
    let compiled = c.in_ok-sources-2.compiled.items in
    let are = subst (λ (rs : List (List ℕ)). AreCompiled told c.in_ok-sources.sources c.in_ok-sources-2.sources rs compiled) c.as_slice.ensures.keys c.in_ok-sources-2.ensures.compiled in
    record {
      asked = record {
        over = record { macros = are.stays.macros ∙ first.over.macros; search = first.over.search ∙ ap Some (sym are.stays.search) };
        named = first.named;
      };
      formed = are.formed;
      loaded = are.loaded;
      complete = are.complete;
      compiled = are.rows;
    }
