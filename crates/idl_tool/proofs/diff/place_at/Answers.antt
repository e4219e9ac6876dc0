use Rattle.std.proofs.Common.{◌∙◌, ap, sym}
use Rattle.std.specs.Option.{option_and_then, option_copied, option_map}
use Rattle.idl_json.specs.Listed.{LocatedRow, row_of}
use Rattle.idl_tool.proofs.DiffLemmas.{got-row}
use Rattle.idl_tool.proofs.diff.place_at.Goals as goal

pub returns-in-Some : goal.returns-in-Some
returns-in-Some c =
    sym (ap (option_and_then (λ (row : LocatedRow). row.declared))
    (got-row row_of c.args.rows.now c.args.place c.get.result c.get.ensures.lookup.3 ∙ ap (λ found. option_map row_of (option_copied found)) c.in-Some.is))

pub returns-in-None : goal.returns-in-None
returns-in-None c =
    sym (ap (option_and_then (λ (row : LocatedRow). row.declared))
    (got-row row_of c.args.rows.now c.args.place c.get.result c.get.ensures.lookup.3 ∙ ap (λ found. option_map row_of (option_copied found)) c.in-None.is))
