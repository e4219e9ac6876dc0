use Rattle.std.proofs.Common.{◌∙◌, length, sym, ap, arith}
use Rattle.idl_event.proofs.SitesLemmas.{length-sites}
use Rattle.idl_event.proofs.told.sites.Sites.len.Goals as goal

pub returns-clause-value : goal.returns-clause-value
returns-clause-value c =
    let s = c.self.inside in
    sym (length-sites s.stretches.items s.spots.items s.count c.self.invariant) ∙ ap length c.self.view_is

pub returns-clause-small : goal.returns-clause-small
returns-clause-small c = omega (arith, c.self.invariant.few)
