use Rattle.std.proofs.Common.{◌≡◌, ◌∙◌, ◌+◌, ◌++◌, Some, length, slice_get, sym, ap, subst, subst₂, rules}
use Rattle.idl_event.proofs.SitesLemmas.{stretch-more}
use Rattle.idl_event.specs.Apart.{text_sites}
use Rattle.idl_event.specs.Sites.{AreKept, sites_of}
use Rattle.idl_event.specs.declared.told.sites.Stretch.{Stretch}
use Rattle.idl_event.proofs.told.sites.Sites.push_text.Goals as goal

pub invariant_of-self : goal.invariant_of-self
invariant_of-self c =
    let b = c.self.inside in
    let more = c.stretch_of.ensures.more in
    subst (λ l. AreKept l b.spots.items b.count) (sym more.1) (stretch-more b.stretches.items more.0 b.spots.items b.count c.self.invariant).0

pub returns-in_err-stretch-clause-kept : goal.returns-in_err-stretch-clause-kept
returns-in_err-stretch-clause-kept c =
    let b = c.self.inside in
    let more = c.stretch_of.ensures.more in
    let kept = ap (λ l. sites_of l b.spots.items b.count) more.1
    ∙ (stretch-more b.stretches.items more.0 b.spots.items b.count c.self.invariant).1
    ∙ c.self.view_is in
    search rules

pub invariant_of-self-in_err-push_lines : goal.invariant_of-self-in_err-push_lines
invariant_of-self-in_err-push_lines c =
    let b = c.self.inside in
    let more = c.stretch_of.ensures.more in
    let spots : c.push_lines.new.spots.items ≡ b.spots.items = search rules in
    subst₂ (λ l m. AreKept l m b.count) (sym more.1) (sym spots) (stretch-more b.stretches.items more.0 b.spots.items b.count c.self.invariant).0

pub returns-in_err-push_lines-clause-kept : goal.returns-in_err-push_lines-clause-kept
returns-in_err-push_lines-clause-kept c =
    let b = c.self.inside in
    let more = c.stretch_of.ensures.more in
    let spots : c.push_lines.new.spots.items ≡ b.spots.items = search rules in
    let kept = ap (λ l. sites_of l c.push_lines.new.spots.items b.count) more.1
    ∙ ap (λ l. sites_of (b.stretches.items ++ more.0) l b.count) spots
    ∙ (stretch-more b.stretches.items more.0 b.spots.items b.count c.self.invariant).1
    ∙ c.self.view_is in
    search rules

pub invariant_of-self-2 : goal.invariant_of-self-2
invariant_of-self-2 c =
    let b = c.self.inside in
    let stretches = c.stretch_of.new.stretches.items in
    let s : Stretch = record { file = c.args.file.now; others = c.args.others } in
    let more = c.stretch_of.ensures.more in
    let there : slice_get stretches c.in_ok-stretch.stretch ≡ Some s = search rules in
    let first : b.count ≡ c.in-Ok.first = search rules in
    let kept : AreKept stretches b.spots.items b.count =
    subst (λ l. AreKept l b.spots.items b.count) (sym more.1) (stretch-more b.stretches.items more.0 b.spots.items b.count c.self.invariant).0 in
    let pushed = c.in_ok-push_lines.ensures.more stretches s there (subst (AreKept stretches b.spots.items) first kept) in
    subst₂ (λ n m. AreKept stretches c.push_lines.new.spots.items (n + m)) (sym first) (sym c.len-2.ensures) pushed.0

pub returns-clause-more : goal.returns-clause-more
returns-clause-more c =
    let b = c.self.inside in
    let stretches = c.stretch_of.new.stretches.items in
    let s : Stretch = record { file = c.args.file.now; others = c.args.others } in
    let more = c.stretch_of.ensures.more in
    let there : slice_get stretches c.in_ok-stretch.stretch ≡ Some s = search rules in
    let first : b.count ≡ c.in-Ok.first = search rules in
    let all = stretch-more b.stretches.items more.0 b.spots.items b.count c.self.invariant in
    let kept : AreKept stretches b.spots.items b.count = subst (λ l. AreKept l b.spots.items b.count) (sym more.1) all.0 in
    let pushed = c.in_ok-push_lines.ensures.more stretches s there (subst (AreKept stretches b.spots.items) first kept) in
    let before = ap (sites_of stretches b.spots.items) (sym first) ∙ ap (λ l. sites_of l b.spots.items b.count) more.1 ∙ all.1 ∙ c.self.view_is in
    (λ j. sites_of stretches c.push_lines.new.spots.items (first j + c.len-2.ensures j))
    ∙ pushed.1
    ∙ ap (λ l. l ++ text_sites (length l + c.args.others) c.args.file.now c.args.tokens.now) before
