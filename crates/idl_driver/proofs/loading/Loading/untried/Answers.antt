use Rattle.std.proofs.Common.{ℕ, All, Contains, List, sym, take}
use Rattle.std.proofs.lemmas.List.{take_all}
use Rattle.std.proofs.lemmas.List.Elements.{All-same}
use Rattle.idl_sources.specs.declared.compile.CompiledRoot.{CompiledRoot}
use Rattle.idl_loader.proofs.ListLemmas.{All-take_more}
use Rattle.idl_driver.proofs.loading.Loading.untried.Goals as goal

pub roots-preserved : goal.roots-preserved
roots-preserved c =
    let missing = c.args.self.now.missing.keys in
    let root = c.root-item.result in
    All-take_more (λ (r : CompiledRoot). All (λ (n : List ℕ). Contains missing n) r.absent) c.args.compiled.now c.roots.root-index root c.roots-test.true c.root-item.is c.roots.invariant
    (All-same (λ (n : List ℕ). Contains missing n) root.absent c.as_slice.result.now (sym c.as_slice.ensures) c.in_default.ensures)

pub returns : goal.returns
returns c =
    let missing = c.args.self.now.missing.keys in
    let compiled = c.args.compiled.now in
    All-same (λ (r : CompiledRoot). All (λ (n : List ℕ). Contains missing n) r.absent) compiled (take c.roots.root-index compiled) (sym (take_all c.roots.root-index compiled c.roots-test.false))
    c.roots.invariant
