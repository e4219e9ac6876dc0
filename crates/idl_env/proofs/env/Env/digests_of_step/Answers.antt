use Rattle.std.proofs.Common.{sym, ap, ◌∙◌, ◌∷◌, []}
use Rattle.std.proofs.lemmas.List.{nil_from_length}
use Rattle.idl_env.specs.Facts.{scopes_in, with_additions, world}
use Rattle.idl_env.specs.Outside.{gathered_at, looked_at}
use Rattle.idl_env.specs.declared.keys.key.Key.TheVariants as key
use Rattle.idl_env.proofs.ApartLemmas.{digests-told, looked_at-closing}
use Rattle.idl_env.proofs.env.Env.digests_of_step.Goals as goal

pub returns-in_ok-digests_of_opening-in-Opens : goal.returns-in_ok-digests_of_opening-in-Opens
returns-in_ok-digests_of_opening-in-Opens c =
    let w = world c.args.self.now in
    let f = c.args.facts.now in
    let same = ap (looked_at (with_additions f.additions w)) (sym c.step.ensures ∙ c.in-Opens.is) in
    digests-told
    (key.Cursor ∷ key.Opened c.in-Opens.path ∷ key.Prefix ∷ [])
    (looked_at (with_additions f.additions w) f.step)
    c.in_ok-digests_of_opening-in-Opens.field-0.items
    same
    c.in_ok-digests_of_opening-in-Opens.ensures

pub returns-in_ok-digests_of_closing-in-Closes : goal.returns-in_ok-digests_of_closing-in-Closes
returns-in_ok-digests_of_closing-in-Closes c =
    let w = world c.args.self.now in
    let f = c.args.facts.now in
    let none = nil_from_length f.additions (sym c.len.ensures ∙ c.if-len-eq0.true) in
    digests-told
    (key.Cursor ∷ gathered_at w (scopes_in (w.answers key.Cursor)))
    (looked_at (with_additions f.additions w) f.step)
    c.in_ok-digests_of_closing-in-Closes.field-0.items
    (looked_at-closing w f (sym c.step.ensures ∙ c.in-Closes.is) none)
    c.in_ok-digests_of_closing-in-Closes.ensures
