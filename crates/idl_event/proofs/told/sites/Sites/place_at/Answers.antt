use Rattle.std.proofs.Common.{◌≡◌, ◌∙◌, ℕ, ◌+◌, ◌<◌, ◌≤◌, None, Some, slice_get, sym, ap, rules}
use Rattle.idl_event.proofs.SitesLemmas.{site-at, site-past}
use Rattle.idl_event.specs.Sites.{found}
use Rattle.idl_event.specs.declared.told.sites.Stretch.{Stretch}
use Rattle.idl_event.proofs.told.sites.Sites.place_at.Goals as goal

pub returns-then-index-self-clause-none : goal.returns-then-index-self-clause-none
returns-then-index-self-clause-none c =
    let s = c.self.inside in
    let past : s.count ≤ c.args.index = search rules in
    ap (λ l. slice_get l c.args.index) (sym c.self.view_is) ∙ site-past s.stretches.items s.spots.items s.count c.self.invariant c.args.index past

pub returns-in_err-line-clause-none : goal.returns-in_err-line-clause-none
returns-in_err-line-clause-none c =
    let s = c.self.inside in
    let within : c.args.index < s.count = search rules in
    let stands = c.self.invariant.stands c.args.index within in
    let none : None ≡ found s.stretches.items s.spots.items c.args.index = search rules in
    absurd (cc)

pub returns-clause-some : goal.returns-clause-some
returns-clause-some c =
    let s = c.self.inside in
    let within : c.args.index < s.count = search rules in
    let stretch = c.in_ok-line.stretch.now in
    let x : ℕ × Stretch = (c.in_ok-line.line, stretch) in
    let is : found s.stretches.items s.spots.items c.args.index ≡ Some x = search rules in (
      c.args.index + stretch.others,
      ap (λ l. slice_get l c.args.index) (sym c.self.view_is)
          ∙ site-at s.stretches.items s.spots.items s.count c.self.invariant c.args.index within x is,
    )
