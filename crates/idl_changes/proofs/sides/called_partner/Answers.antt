use Rattle.std.proofs.Common.{◌≡◌, ◌∙◌, ℕ, IfOk, List, Option, ap, subst, sym}
use Rattle.std.specs.Option.{option_and_then}
use Rattle.idl_changes.specs.Listing.{interface_of, name_of}
use Rattle.idl_changes.specs.Offered.{offered}
use Rattle.idl_changes.specs.Partners.{is_own_offer, joined}
use Rattle.idl_changes.proofs.SideLemmas.{asked-kept, joined-there}
use Rattle.idl_changes.proofs.sides.called_partner.Goals as goal

pub returns-in_default : goal.returns-in_default
returns-in_default c =
    let old = c.args.sides.0.now in
    let new = c.args.sides.1.now in
    let e = c.args.entry.now in
    let ask = λ (o : ℕ). option_and_then (λ (p : ℕ). offered new p (name_of e.path)) (joined old new o) in
    sym (asked-kept (λ (o : ℕ). is_own_offer old o c.args.place e) ask (interface_of old e)
    ∙ ap (option_and_then ask) (sym c.in_ok-interface.ensures ∙ c.in_default.is))

pub returns : goal.returns
returns c =
    let old = c.args.sides.0.now in
    let new = c.args.sides.1.now in
    let e = c.args.entry.now in
    let o = c.in-Some.interface in
    let ask = λ (o : ℕ). option_and_then (λ (p : ℕ). offered new p (name_of e.path)) (joined old new o) in
    let is = ap (λ (name : List ℕ). option_and_then (λ (p : ℕ). offered new p name) c.place_in.result) c.in_ok-name.ensures
    ∙ ap (option_and_then (λ (p : ℕ). offered new p (name_of e.path))) (c.place_in.ensures ∙ joined-there old new o c.args.known.now c.requires)
    ∙ sym (asked-kept (λ (o : ℕ). is_own_offer old o c.args.place e) ask (interface_of old e)
    ∙ ap (option_and_then ask) (sym c.in_ok-interface.ensures ∙ c.in-Some.is))
    in
    subst (λ (o : Option ℕ). IfOk c.offered_at.result (λ found. found ≡ o)) is c.offered_at.ensures
