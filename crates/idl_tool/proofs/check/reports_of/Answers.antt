use Rattle.std.proofs.Common.{◌++◌, ◌∷◌, [], List, subst, sym}
use Rattle.idl_tool.specs.Checked.{AreReported, Entry, Told, all_of}
use Rattle.idl_tool.proofs.CheckLemmas.{all-next, compiled-at, reported-both, reported-none, told-next}
use Rattle.idl_tool.proofs.check.reports_of.Goals as goal

pub roots-init : goal.roots-init
roots-init c =
    let files = c.args.sources.now.files in
    ([], tt, subst (λ (es : List Entry). AreReported files [] [] es) (sym c.new-reports.ensures.empty) (reported-none files []))

pub add_root-requires : goal.add_root-requires
add_root-requires c =
    compiled-at c.args.sources.now c.args.roots.now c.args.compiled.now c.roots.index c.index-roots-index.result c.index-compiled-index.result c.requires c.roots-test.true c.index-roots-index.is c.index-compiled-index.is

pub roots-preserved : goal.roots-preserved
roots-preserved c =
    let inputs = c.args.sources.now in
    let are = c.roots.invariant in
    let more = c.in_ok-add_root.ensures in
    let told = more.0 in
    let after = c.add_root.new.reports.entries in (
      are.0 ++ told ∷ [],
      told-next inputs c.args.roots.now c.roots.index c.index-roots-index.result are.0 told c.roots-test.true c.index-roots-index.is are.1 more.1,
      subst (λ (ts : List Told). AreReported inputs.files ts [] after) (sym (all-next are.0 told)) (reported-both inputs.files (all_of are.0) told [] c.roots.reports.entries after are.2 more.2),
    )
