use Rattle.std.proofs.Common.{rules}
use Rattle.idl_finding.proofs.FindingLemmas.{slice_get-first}
use Rattle.idl_finding.proofs.finding.Spelled.site.Goals as goal

pub returns-in-Pragma : goal.returns-in-Pragma
returns-in-Pragma c =
    let is = slice_get-first c.args.self.sites.now in
    search rules
