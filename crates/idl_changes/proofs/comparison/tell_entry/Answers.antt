use Rattle.std.proofs.Common.{◌≡◌, ◌∙◌, ◌++◌, ℕ, List, None, OnOk, Option, Some, ap, map, subst, sym}
use Rattle.idl_changes.specs.Changes.{change_at, told_with}
use Rattle.idl_changes.specs.Differences.{gone_differences}
use Rattle.idl_changes.specs.declared.change.Change.{Change}
use Rattle.idl_changes.proofs.comparison.tell_entry.Goals as goal

pub returns-in-Some : goal.returns-in-Some
returns-in-Some c =
    let old = c.args.sides.now.0 in
    let new = c.args.sides.now.1 in
    let i = c.args.place in
    let e = c.args.entry.now in
    let told : Option ℕ → List Change =
    λ o. elim o [ None ↦ map (change_at (Some i) None) (gone_differences old new i e) | Some k ↦ told_with old new i e k ] in
    subst (λ (cs : List Change). OnOk c.tell_differences.result (c.tell_differences.new.out.items ≡ c.args.out.now.items ++ cs))
    (sym (ap told (sym c.partner.ensures ∙ c.in-Some.is))) c.tell_differences.ensures

pub returns-in_ok-told-in-None : goal.returns-in_ok-told-in-None
returns-in_ok-told-in-None c =
    let old = c.args.sides.now.0 in
    let new = c.args.sides.now.1 in
    let i = c.args.place in
    let e = c.args.entry.now in
    let told : Option ℕ → List Change =
    λ o. elim o [ None ↦ map (change_at (Some i) None) (gone_differences old new i e) | Some k ↦ told_with old new i e k ] in
    subst (λ (cs : List Change). OnOk c.push_all.result (c.push_all.new.out.items ≡ c.args.out.now.items ++ cs))
    (ap (map (change_at (Some i) None)) c.in_ok-told-in-None.ensures ∙ sym (ap told (sym c.partner.ensures ∙ c.in-None.is))) c.push_all.ensures
