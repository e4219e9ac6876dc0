use Rattle.std.proofs.Common.{◌≡◌, ◌∙◌, ℕ, ◌+◌, ◌<◌, ◌≤◌, None, Some, slice_get, sym, ap, rules}
use Rattle.idl_event.proofs.SitesLemmas.{site-at, site-past}
use Rattle.idl_event.specs.Apart.{site_at}
use Rattle.idl_event.specs.Sites.{found}
use Rattle.idl_event.specs.declared.told.sites.Stretch.{Stretch}
use Rattle.idl_event.proofs.told.sites.Sites.site.Goals as goal

pub returns-then-index-self : goal.returns-then-index-self
returns-then-index-self c =
    let s = c.self.inside in
    let past : s.count ≤ c.args.index = search rules in
    sym (ap (λ l. slice_get l c.args.index) (sym c.self.view_is) ∙ site-past s.stretches.items s.spots.items s.count c.self.invariant c.args.index past)

pub returns-in_default : goal.returns-in_default
returns-in_default c =
    let s = c.self.inside in
    let within : c.args.index < s.count = search rules in
    let stands = c.self.invariant.stands c.args.index within in
    let none : None ≡ found s.stretches.items s.spots.items c.args.index = search rules in
    absurd (cc)

pub returns : goal.returns
returns c =
    let s = c.self.inside in
    let within : c.args.index < s.count = search rules in
    let stretch = c.in-Some.stretch.now in
    let line = c.in-Some.line in
    let x : ℕ × Stretch = (line, stretch) in
    let is : found s.stretches.items s.spots.items c.args.index ≡ Some x = search rules in
    sym (ap (λ l. slice_get l c.args.index) (sym c.self.view_is)
    ∙ site-at s.stretches.items s.spots.items s.count c.self.invariant c.args.index within x is
    ∙ ap (λ file. Some (site_at (c.args.index + stretch.others) (record { file = file; line = line }))) (sym c.in_ok-clone.ensures.cases))
