use Rattle.std.proofs.Common.{◌≡◌, ◌∙◌, ◌+◌, ◌-◌, ◌≤◌, ◌^◌, ◌++◌, ◌∷◌, [], Some, length, slice_get, refl, sym, ap, subst₂, rules}
use Rattle.idl_event.proofs.SitesLemmas.{line-run, push-run, stretch-more}
use Rattle.idl_event.specs.Apart.{sites_at}
use Rattle.idl_event.specs.Sites.{AreKept, in_stretch, sites_of}
use Rattle.idl_event.specs.declared.told.sites.LineEntry.{LineEntry}
use Rattle.idl_event.specs.declared.told.sites.Stretch.{Stretch}
use Rattle.idl_event.proofs.told.sites.Sites.push_run.Goals as goal

pub invariant_of-self : goal.invariant_of-self
invariant_of-self c =
    let b = c.self.inside in
    let s : Stretch = record { file = c.args.place.file; others = c.args.others } in
    let is : in_stretch b.stretches.items (slice_get b.spots.items (length b.spots.items - 1)) ≡ Some (c.args.place.line, s) = search rules in
    let few : b.count + c.args.count ≤ 2 ^ 32 = search rules in
    (push-run b.stretches.items b.spots.items b.count c.self.invariant c.args.place c.args.others c.args.count is few).0

pub returns-then-goes_on-clause-more : goal.returns-then-goes_on-clause-more
returns-then-goes_on-clause-more c =
    let b = c.self.inside in
    let s : Stretch = record { file = c.args.place.file; others = c.args.others } in
    let is : in_stretch b.stretches.items (slice_get b.spots.items (length b.spots.items - 1)) ≡ Some (c.args.place.line, s) = search rules in
    let few : b.count + c.args.count ≤ 2 ^ 32 = search rules in
    (push-run b.stretches.items b.spots.items b.count c.self.invariant c.args.place c.args.others c.args.count is few).1
    ∙ ap (λ l. l ++ sites_at (length l + c.args.others) c.args.place c.args.count) c.self.view_is

pub invariant_of-self-in_err-stretch : goal.invariant_of-self-in_err-stretch
invariant_of-self-in_err-stretch c =
    let b = c.self.inside in
    let more = c.stretch_of.ensures.more in
    subst₂ (λ l m. AreKept l m b.count) (sym more.1) refl (stretch-more b.stretches.items more.0 b.spots.items b.count c.self.invariant).0

pub returns-in_err-stretch-clause-kept : goal.returns-in_err-stretch-clause-kept
returns-in_err-stretch-clause-kept c =
    let b = c.self.inside in
    let more = c.stretch_of.ensures.more in
    let kept = ap (λ l. sites_of l b.spots.items b.count) more.1
    ∙ (stretch-more b.stretches.items more.0 b.spots.items b.count c.self.invariant).1
    ∙ c.self.view_is in
    search rules

pub invariant_of-self-in_err-push : goal.invariant_of-self-in_err-push
invariant_of-self-in_err-push c =
    let b = c.self.inside in
    let more = c.stretch_of.ensures.more in
    let spots : c.push.new.self.items ≡ b.spots.items = search rules in
    subst₂ (λ l m. AreKept l m b.count) (sym more.1) (sym spots) (stretch-more b.stretches.items more.0 b.spots.items b.count c.self.invariant).0

pub returns-in_err-push-clause-kept : goal.returns-in_err-push-clause-kept
returns-in_err-push-clause-kept c =
    let b = c.self.inside in
    let more = c.stretch_of.ensures.more in
    let spots : c.push.new.self.items ≡ b.spots.items = search rules in
    let kept = ap (λ l. sites_of l c.push.new.self.items b.count) more.1
    ∙ ap (λ l. sites_of (b.stretches.items ++ more.0) l b.count) spots
    ∙ (stretch-more b.stretches.items more.0 b.spots.items b.count c.self.invariant).1
    ∙ c.self.view_is in
    search rules

pub invariant_of-self-2 : goal.invariant_of-self-2
invariant_of-self-2 c =
    let b = c.self.inside in
    let s : Stretch = record { file = c.args.place.file; others = c.args.others } in
    let spot : LineEntry = record { first = b.count; line = c.args.place.line; stretch = c.in_ok-stretch.stretch } in
    let more = c.stretch_of.ensures.more in
    let there : slice_get c.stretch_of.new.stretches.items spot.stretch ≡ Some s = search rules in
    let spots : c.push.new.self.items ≡ b.spots.items ++ spot ∷ [] = search rules in
    let some = c.requires.some in
    let few : b.count + c.args.count ≤ 2 ^ 32 = search rules in
    let is : slice_get (b.stretches.items ++ more.0) spot.stretch ≡ Some s = sym (ap (λ l. slice_get l spot.stretch) more.1) ∙ there in
    subst₂ (λ l m. AreKept l m (b.count + c.args.count)) (sym more.1) (sym spots)
    (line-run b.stretches.items more.0 b.spots.items b.count c.self.invariant c.args.place c.args.others spot.stretch c.args.count is some few).0

pub returns-clause-more : goal.returns-clause-more
returns-clause-more c =
    let b = c.self.inside in
    let s : Stretch = record { file = c.args.place.file; others = c.args.others } in
    let spot : LineEntry = record { first = b.count; line = c.args.place.line; stretch = c.in_ok-stretch.stretch } in
    let more = c.stretch_of.ensures.more in
    let there : slice_get c.stretch_of.new.stretches.items spot.stretch ≡ Some s = search rules in
    let spots : c.push.new.self.items ≡ b.spots.items ++ spot ∷ [] = search rules in
    let some = c.requires.some in
    let few : b.count + c.args.count ≤ 2 ^ 32 = search rules in
    let is : slice_get (b.stretches.items ++ more.0) spot.stretch ≡ Some s = sym (ap (λ l. slice_get l spot.stretch) more.1) ∙ there in
    ap (λ l. sites_of l c.push.new.self.items (b.count + c.args.count)) more.1
    ∙ ap (λ l. sites_of (b.stretches.items ++ more.0) l (b.count + c.args.count)) spots
    ∙ (line-run b.stretches.items more.0 b.spots.items b.count c.self.invariant c.args.place c.args.others spot.stretch c.args.count is some few).1
    ∙ ap (λ l. l ++ sites_at (length l + c.args.others) c.args.place c.args.count) c.self.view_is
