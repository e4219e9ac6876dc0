use Rattle.std.proofs.Common.{List, ◌≡◌, ◌∙◌, ◌++◌, ◌+◌, append_assoc, length, map, sym, ap, subst₂, rules}
use Rattle.idl_event.proofs.ApartLemmas.{woven-text}
use Rattle.idl_event.specs.Apart.{StandApart, emitted_in, text_sites, woven}
use Rattle.idl_event.specs.Runs.{tokens_of}
use Rattle.idl_event.specs.declared.told.event.Event.{Event}
use Rattle.idl_lex.specs.tokens.Tokens.{tokens_in}
use Rattle.idl_event.proofs.told.builder.ExpansionBuilder.push_copies.Goals as goal

pub invariant_of-self-in-Ok : goal.invariant_of-self-in-Ok
invariant_of-self-in-Ok c =
    let b = c.self.inside in
    let more = c.args.tokens.now in
    let n = length b.sites + c.len.result in
    let number : n ≡ length b.sites + length b.others.items = search rules in
    let sites : c.push_text.new.self ≡ b.sites ++ text_sites n c.args.file.now more = search rules in
    let opened : c.push_clones.new.text.items ≡ b.open.items ++ tokens_in more = search rules in
    let text : tokens_of b.runs.items ++ c.push_clones.new.text.items ≡ (tokens_of b.runs.items ++ b.open.items) ++ tokens_in more =
    ap (λ ts. tokens_of b.runs.items ++ ts) opened ∙ sym (append_assoc (tokens_of b.runs.items) b.open.items (tokens_in more)) in
    subst₂ (λ ss ts. StandApart ss ts b.others.items) (sym sites) (sym text)
    (woven-text b.sites (tokens_of b.runs.items ++ b.open.items) b.others.items n c.args.file.now more c.self.invariant number).1

pub returns-in-Ok : goal.returns-in-Ok
returns-in-Ok c =
    let b = c.self.inside in
    let more = c.args.tokens.now in
    let n = length b.sites + c.len.result in
    let number : n ≡ length b.sites + length b.others.items = search rules in
    let sites : c.push_text.new.self ≡ b.sites ++ text_sites n c.args.file.now more = search rules in
    let opened : c.push_clones.new.text.items ≡ b.open.items ++ tokens_in more = search rules in
    let text : tokens_of b.runs.items ++ c.push_clones.new.text.items ≡ (tokens_of b.runs.items ++ b.open.items) ++ tokens_in more =
    ap (λ ts. tokens_of b.runs.items ++ ts) opened ∙ sym (append_assoc (tokens_of b.runs.items) b.open.items (tokens_in more)) in
    ap (λ ss. woven ss (tokens_of b.runs.items ++ c.push_clones.new.text.items) b.others.items) sites
    ∙ ap (λ ts. woven (b.sites ++ text_sites n c.args.file.now more) ts b.others.items) text
    ∙ (woven-text b.sites (tokens_of b.runs.items ++ b.open.items) b.others.items n c.args.file.now more c.self.invariant number).0
    ∙ ap (λ (es : List Event). es ++ map (emitted_in c.args.file.now) more) c.self.view_is
