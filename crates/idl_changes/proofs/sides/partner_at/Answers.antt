use Rattle.std.proofs.Common.{◌≡◌, ◌∙◌, ℕ, IfOk, Option, ap, subst, sym}
use Rattle.std.specs.Option.{option_copied}
use Rattle.idl_changes.proofs.SideLemmas.{joined-there, partner-called, partner-other}
use Rattle.idl_changes.proofs.sides.partner_at.Goals as goal

pub returns-in-Some : goal.returns-in-Some
returns-in-Some c =
    let is = partner-called c.args.sides.0.now c.args.sides.1.now c.args.place c.in-Some.entry.now (sym c.called_at.ensures ∙ ap option_copied c.in-Some.is) in
    subst (λ (o : Option ℕ). IfOk c.called_partner.result (λ found. found ≡ o)) (sym is) c.called_partner.ensures

pub returns-in-None : goal.returns-in-None
returns-in-None c =
    let old = c.args.sides.0.now in
    let new = c.args.sides.1.now in
    c.place_in.ensures ∙ joined-there old new c.args.place c.args.known.now c.requires
    ∙ sym (partner-other old new c.args.place (sym c.called_at.ensures ∙ ap option_copied c.in-None.is))
