use Rattle.std.proofs.Common.{◌∙◌, ap}
use Rattle.idl_root.specs.declared.compiling.printing.Printed.{Printed}
use Rattle.idl_root.proofs.compiling.judging.RootState.ended.Goals as goal

pub returns : goal.returns
returns c = record {
  found = λ i. (c.ended.ensures.found i).items;
  rows = λ i. (c.ended.ensures.rows i).items;
  scopes = c.ended.ensures.scopes ∙ c.is_open-is_open.ensures;
  closing = ap (λ (p : Printed). p.findings.items) c.ended.ensures.printed ∙ c.requires.findings;
  listing = ap (λ (p : Printed). p.rows.items) c.ended.ensures.printed ∙ c.requires.rows;
}
