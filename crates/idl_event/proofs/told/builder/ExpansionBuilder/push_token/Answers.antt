use Rattle.std.proofs.Common.{List, ◌≡◌, ◌∙◌, ◌++◌, ◌∷◌, [], ◌+◌, length, sym, ap, append_assoc, subst₂, rules}
use Rattle.idl_event.proofs.ApartLemmas.{woven-token}
use Rattle.idl_event.specs.Apart.{StandApart, site_at, woven}
use Rattle.idl_event.specs.Runs.{tokens_of}
use Rattle.idl_event.specs.declared.told.event.Event.{Event}
use Rattle.idl_event.specs.declared.told.event.Event.TheVariants.{Emitted}
use Rattle.idl_event.proofs.told.builder.ExpansionBuilder.push_token.Goals as goal

pub invariant_of-self-2 : goal.invariant_of-self-2
invariant_of-self-2 c =
    let b = c.self.inside in
    let n = length b.sites + c.len.result in
    let number : n ≡ length b.sites + length b.others.items = search rules in
    let sites : c.push.new.self ≡ b.sites ++ site_at n c.args.place ∷ [] = search rules in
    let copy : c.in_ok-token.token ≡ c.args.token.now = c.in_ok-token.ensures.cases in
    let opened : c.push_reserved.new.self.items ≡ b.open.items ++ c.args.token.now ∷ [] = search rules in
    let text : tokens_of b.runs.items ++ c.push_reserved.new.self.items ≡ (tokens_of b.runs.items ++ b.open.items) ++ c.args.token.now ∷ [] = ap (λ ts. tokens_of b.runs.items ++ ts) opened ∙ sym (append_assoc (tokens_of b.runs.items) b.open.items (c.args.token.now ∷ [])) in
    subst₂ (λ ss ts. StandApart ss ts b.others.items) (sym sites) (sym text)
    (woven-token b.sites (tokens_of b.runs.items ++ b.open.items) b.others.items n c.args.place c.args.token.now c.self.invariant number).1

pub returns : goal.returns
returns c =
    let b = c.self.inside in
    let n = length b.sites + c.len.result in
    let number : n ≡ length b.sites + length b.others.items = search rules in
    let sites : c.push.new.self ≡ b.sites ++ site_at n c.args.place ∷ [] = search rules in
    let copy : c.in_ok-token.token ≡ c.args.token.now = c.in_ok-token.ensures.cases in
    let opened : c.push_reserved.new.self.items ≡ b.open.items ++ c.args.token.now ∷ [] = search rules in
    let text : tokens_of b.runs.items ++ c.push_reserved.new.self.items ≡ (tokens_of b.runs.items ++ b.open.items) ++ c.args.token.now ∷ [] = ap (λ ts. tokens_of b.runs.items ++ ts) opened ∙ sym (append_assoc (tokens_of b.runs.items) b.open.items (c.args.token.now ∷ [])) in
    ap (λ ss. woven ss (tokens_of b.runs.items ++ c.push_reserved.new.self.items) b.others.items) sites
    ∙ ap (λ ts. woven (b.sites ++ site_at n c.args.place ∷ []) ts b.others.items) text
    ∙ (woven-token b.sites (tokens_of b.runs.items ++ b.open.items) b.others.items n c.args.place c.args.token.now c.self.invariant number).0
    ∙ ap (λ (es : List Event). es ++ Emitted c.args.place c.args.token.now ∷ []) c.self.view_is

pub invariant_of-self-in_err-push : goal.invariant_of-self-in_err-push
invariant_of-self-in_err-push c =
    let b = c.self.inside in
    let sites : c.push.new.self ≡ b.sites = search rules in
    let text : tokens_of b.runs.items ++ c.reserve.new.self.items ≡ (tokens_of b.runs.items ++ b.open.items) = ap (λ ts. tokens_of b.runs.items ++ ts) c.in_ok-reserve.ensures.items in
    subst₂ (λ ss ts. StandApart ss ts b.others.items) (sym sites) (sym text) c.self.invariant
