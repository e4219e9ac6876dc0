use Rattle.std.proofs.Common.{◌∙◌, ◌-◌, ◌≤◌, ◌<◌, slice_get, sym, ap, rules}
use Rattle.idl_unit.proofs.RunLemmas.{slice_range-get, slice_range-past}
use Rattle.idl_unit.proofs.site_run.SiteRun.site.Goals as goal

pub returns-then-index-to : goal.returns-then-index-to
returns-then-index-to c =
    let r = c.self.inside in
    let le : r.to - r.from ≤ c.args.index = search rules in
    sym (slice_range-past r.all.value r.from r.to c.args.index le) ∙ ap (λ l. slice_get l c.args.index) c.self.view_is

pub returns : goal.returns
returns c =
    let r = c.self.inside in
    let lt : c.args.index < r.to - r.from = search rules in
    let is = slice_range-get r.all.value r.from r.to c.args.index lt in
    search rules
