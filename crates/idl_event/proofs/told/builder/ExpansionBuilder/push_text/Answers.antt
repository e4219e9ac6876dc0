use Rattle.std.proofs.Common.{List, ◌≡◌, ◌∙◌, ◌++◌, ◌+◌, [], ◌∷◌, length, map, sym, ap, subst, subst₂, rules}
use Rattle.idl_event.proofs.ApartLemmas.{woven-text}
use Rattle.idl_event.proofs.RunsLemmas.{tokens_of-more}
use Rattle.idl_event.specs.Apart.{StandApart, emitted_in, text_sites, woven}
use Rattle.idl_event.specs.Runs.{tokens_of}
use Rattle.idl_event.specs.declared.told.event.Event.{Event}
use Rattle.idl_lex.specs.tokens.Tokens.{Token, tokens_in}
use Rattle.idl_event.proofs.told.builder.ExpansionBuilder.push_text.Goals as goal

pub invariant_of-self : goal.invariant_of-self
invariant_of-self c =
    let b = c.self.inside in
    subst (λ (ts : List Token). StandApart b.sites ts b.others.items) (sym c.close.ensures.all) c.self.invariant

pub invariant_of-self-in_err-reserve : goal.invariant_of-self-in_err-reserve
invariant_of-self-in_err-reserve c =
    let b = c.self.inside in
    let runs : c.reserve.new.self.items ≡ c.close.new.runs.items = search rules in
    subst (λ (ts : List Token). StandApart b.sites ts b.others.items)
    (sym (ap (λ (rs : List (List Token)). tokens_of rs ++ c.close.new.open.items) runs ∙ c.close.ensures.all)) c.self.invariant

pub invariant_of-self-in_err-push_text : goal.invariant_of-self-in_err-push_text
invariant_of-self-in_err-push_text c =
    let b = c.self.inside in
    let runs : c.reserve.new.self.items ≡ c.close.new.runs.items = search rules in
    let sites : c.push_text.new.self ≡ b.sites = search rules in
    subst₂ (λ ss ts. StandApart ss ts b.others.items) (sym sites)
    (sym (ap (λ (rs : List (List Token)). tokens_of rs ++ c.close.new.open.items) runs ∙ c.close.ensures.all)) c.self.invariant

pub invariant_of-self-2 : goal.invariant_of-self-2
invariant_of-self-2 c =
    let b = c.self.inside in
    let more = c.args.tokens.now in
    let n = length b.sites + c.len-2.result in
    let number : n ≡ length b.sites + length b.others.items = search rules in
    let sites : c.push_text.new.self ≡ b.sites ++ text_sites n c.args.file.now more = search rules in
    let none : c.close.new.open.items ≡ [] = search rules in
    let pushed : c.push_reserved.new.self.items ≡ c.close.new.runs.items ++ tokens_in more ∷ [] = search rules in
    let text : tokens_of c.push_reserved.new.self.items ++ c.close.new.open.items ≡ (tokens_of b.runs.items ++ b.open.items) ++ tokens_in more =
    tokens_of-more (tokens_of b.runs.items ++ b.open.items) c.close.new.runs.items c.push_reserved.new.self.items (tokens_in more) c.close.new.open.items c.close.ensures.all none pushed in
    subst₂ (λ ss ts. StandApart ss ts b.others.items) (sym sites) (sym text)
    (woven-text b.sites (tokens_of b.runs.items ++ b.open.items) b.others.items n c.args.file.now more c.self.invariant number).1

pub returns : goal.returns
returns c =
    let b = c.self.inside in
    let more = c.args.tokens.now in
    let n = length b.sites + c.len-2.result in
    let number : n ≡ length b.sites + length b.others.items = search rules in
    let sites : c.push_text.new.self ≡ b.sites ++ text_sites n c.args.file.now more = search rules in
    let none : c.close.new.open.items ≡ [] = search rules in
    let pushed : c.push_reserved.new.self.items ≡ c.close.new.runs.items ++ tokens_in more ∷ [] = search rules in
    let text : tokens_of c.push_reserved.new.self.items ++ c.close.new.open.items ≡ (tokens_of b.runs.items ++ b.open.items) ++ tokens_in more =
    tokens_of-more (tokens_of b.runs.items ++ b.open.items) c.close.new.runs.items c.push_reserved.new.self.items (tokens_in more) c.close.new.open.items c.close.ensures.all none pushed in
    ap (λ ss. woven ss (tokens_of c.push_reserved.new.self.items ++ c.close.new.open.items) b.others.items) sites
    ∙ ap (λ ts. woven (b.sites ++ text_sites n c.args.file.now more) ts b.others.items) text
    ∙ (woven-text b.sites (tokens_of b.runs.items ++ b.open.items) b.others.items n c.args.file.now more c.self.invariant number).0
    ∙ ap (λ (es : List Event). es ++ map (emitted_in c.args.file.now) more) c.self.view_is
