use Rattle.std.proofs.Common.{◌∙◌, ◌++◌, [], ℕ, List, ap, ap₂, flat_map, get_or, map, sym}
use Rattle.std.proofs.lemmas.List.{get_or-map, take_all}
use Rattle.idl_inputs.specs.Bank.{bank_of}
use Rattle.idl_driver.specs.idl_sources.Details.{details_over}
use Rattle.idl_json.specs.Listed.{row_of}
use Rattle.idl_driver.specs.idl_sources.idl_root.declared.compiling.detailing.DetailedEntry.{DetailedEntry}
use Rattle.idl_driver.specs.idl_sources.idl_root.declared.compiling.detailing.Details.{Details}
use Rattle.idl_source.specs.texts.Texts.{Texts}
use Rattle.idl_tool.specs.Json.{row_in, rows_of}
use Rattle.idl_tool.proofs.DepsLemmas.{pushed-next}
use Rattle.idl_tool.proofs.diff.rows_of_all.Goals as goal

pub roots-preserved : goal.roots-preserved
roots-preserved c =
    let inputs = c.args.sources.now in
    let roots = c.args.roots.now in
    let i = c.roots.index in
    let root = c.index-roots-index.result in
    let rows = c.roots.rows.items in
    let details = details_over (bank_of inputs) in
    let same = c.roots.invariant.same ∙ c.columns-columns.ensures in
    let one = ap (λ (ds : List Details). get_or ds i c.index-all-index.result) c.requires ∙ get_or-map details roots i root c.index-all-index.result c.roots-test.true in
    let entries = c.as_slice-entries.ensures ∙ ap (λ (d : Details). d.entries) (one ∙ ap details (sym c.index-roots-index.is)) in
    record {
      rows = pushed-next (rows_of inputs) roots i root [] (map row_of rows) (map row_of c.push_rows.new.rows.items) c.roots-test.true c.roots.invariant.rows
          (c.in_ok-push_rows.ensures.rows
          ∙ ap₂ (λ (fs : Texts) (es : List DetailedEntry). map row_of rows ++ map (row_in fs root) es) same entries
          ∙ ap (λ (r : List ℕ). map row_of rows ++ rows_of inputs r) c.index-roots-index.is);
      same = c.in_ok-push_rows.ensures.same ∙ c.roots.invariant.same;
    }

pub returns : goal.returns
returns c = c.roots.invariant.rows ∙ ap (flat_map (rows_of c.args.sources.now)) (take_all c.roots.index c.args.roots.now c.roots-test.false)
