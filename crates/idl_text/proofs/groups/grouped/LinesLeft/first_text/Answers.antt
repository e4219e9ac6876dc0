use Rattle.std.proofs.Common.{◌≡◌, ◌∙◌, ◌+◌, ◌≤◌, ◌++◌, ap, arith, drop, length, map, subst, sym, take}
use Rattle.std.proofs.lemmas.List.{length-take-le, take-append-drop}
use Rattle.idl_lex.specs.tokens.Tokens.{lines_of, tokens_of}
use Rattle.idl_text.specs.Line.{Text, lines_from}
use Rattle.idl_text.specs.Texts.{AreTextsOf, AreWordsOf}
use Rattle.idl_text.proofs.GatherLemmas.{text-found}
use Rattle.idl_text.proofs.groups.grouped.LinesLeft.first_text.Goals as goal

pub overflow_add-before : goal.overflow_add-before
overflow_add-before c =
    let it = c.self.inside in
    let tokens = tokens_of it.file.now in
    let text = c.in_ok-text.text.now in
    let is : c.args.self.now ≡ drop it.before tokens = sym c.self.view_is ∙ c.self.invariant.0 in
    let are : AreTextsOf tokens c.file.inside.texts = subst (λ lines. AreTextsOf (tokens_of lines) c.file.inside.texts) c.file.view_is c.file.invariant.1 in
    let here = text-found tokens c.args.self.now it.before c.file.inside.texts text is c.self.invariant.1 are c.in_ok-text.ensures.0 c.in_ok-text.ensures.1 in
    omega (arith, here.end, c.self.invariant.2)

pub behind-requires : goal.behind-requires
behind-requires c =
    let it = c.self.inside in
    let tokens = tokens_of it.file.now in
    let text = c.in_ok-text.text.now in
    let is : c.args.self.now ≡ drop it.before tokens = sym c.self.view_is ∙ c.self.invariant.0 in
    let are : AreTextsOf tokens c.file.inside.texts = subst (λ lines. AreTextsOf (tokens_of lines) c.file.inside.texts) c.file.view_is c.file.invariant.1 in
    let here = text-found tokens c.args.self.now it.before c.file.inside.texts text is c.self.invariant.1 are c.in_ok-text.ensures.0 c.in_ok-text.ensures.1 in
    subst (λ lines. it.before + text.count ≤ length (tokens_of lines)) (sym c.file.view_is) here.end

pub invariant_of-rest : goal.invariant_of-rest
invariant_of-rest c =
    let it = c.self.inside in
    let tokens = tokens_of it.file.now in
    let text = c.in_ok-text.text.now in
    let is : c.args.self.now ≡ drop it.before tokens = sym c.self.view_is ∙ c.self.invariant.0 in
    let are : AreTextsOf tokens c.file.inside.texts = subst (λ lines. AreTextsOf (tokens_of lines) c.file.inside.texts) c.file.view_is c.file.invariant.1 in
    let here = text-found tokens c.args.self.now it.before c.file.inside.texts text is c.self.invariant.1 are c.in_ok-text.ensures.0 c.in_ok-text.ensures.1 in
    (c.behind.ensures ∙ ap (λ lines. drop (it.before + text.count) (tokens_of lines)) c.file.view_is, here.end, c.self.invariant.2)

pub new-lines-requires-clause-within : goal.new-lines-requires-clause-within
new-lines-requires-clause-within c =
    let it = c.self.inside in
    let tokens = tokens_of it.file.now in
    let text = c.in_ok-text.text.now in
    let is : c.args.self.now ≡ drop it.before tokens = sym c.self.view_is ∙ c.self.invariant.0 in
    let are : AreTextsOf tokens c.file.inside.texts = subst (λ lines. AreTextsOf (tokens_of lines) c.file.inside.texts) c.file.view_is c.file.invariant.1 in
    let same : c.args.self.now ≡ c.copied.result = sym c.self.view_is ∙ sym c.copied.ensures in
    let here = text-found tokens c.args.self.now it.before c.file.inside.texts text is c.self.invariant.1 are c.in_ok-text.ensures.0 c.in_ok-text.ensures.1 in
    omega (arith, here.begins.within, ap length same)

pub new-lines-requires-clause-words : goal.new-lines-requires-clause-words
new-lines-requires-clause-words c =
    let it = c.self.inside in
    let tokens = tokens_of it.file.now in
    let text = c.in_ok-text.text.now in
    let is : c.args.self.now ≡ drop it.before tokens = sym c.self.view_is ∙ c.self.invariant.0 in
    let are : AreTextsOf tokens c.file.inside.texts = subst (λ lines. AreTextsOf (tokens_of lines) c.file.inside.texts) c.file.view_is c.file.invariant.1 in
    let same : c.args.self.now ≡ c.copied.result = sym c.self.view_is ∙ sym c.copied.ensures in
    let here = text-found tokens c.args.self.now it.before c.file.inside.texts text is c.self.invariant.1 are c.in_ok-text.ensures.0 c.in_ok-text.ensures.1 in
    subst (AreWordsOf (take text.count c.copied.result)) (sym c.deref.ensures.value)
    (subst (λ ts. AreWordsOf (take text.count ts) text.words.items) same here.begins.words)

pub returns-clause-lines : goal.returns-clause-lines
returns-clause-lines c =
    let it = c.self.inside in
    let tokens = tokens_of it.file.now in
    let text = c.in_ok-text.text.now in
    let is : c.args.self.now ≡ drop it.before tokens = sym c.self.view_is ∙ c.self.invariant.0 in
    let are : AreTextsOf tokens c.file.inside.texts = subst (λ lines. AreTextsOf (tokens_of lines) c.file.inside.texts) c.file.view_is c.file.invariant.1 in
    let same : c.args.self.now ≡ c.copied.result = sym c.self.view_is ∙ sym c.copied.ensures in
    let here = text-found tokens c.args.self.now it.before c.file.inside.texts text is c.self.invariant.1 are c.in_ok-text.ensures.0 c.in_ok-text.ensures.1 in
    let front : take text.count c.args.self.now ≡ c.new-lines.result = ap (take text.count) same ∙ sym c.new-lines.ensures in
    let back : drop text.count c.args.self.now ≡ c.behind.result =
    here.behind ∙ sym (c.behind.ensures ∙ ap (λ lines. drop (it.before + text.count) (tokens_of lines)) c.file.view_is) in
    here.begins.lines ∙ (λ i. map Text (lines_of (front i)) ++ lines_from (back i))

pub returns-clause-all : goal.returns-clause-all
returns-clause-all c =
    let it = c.self.inside in
    let tokens = tokens_of it.file.now in
    let text = c.in_ok-text.text.now in
    let is : c.args.self.now ≡ drop it.before tokens = sym c.self.view_is ∙ c.self.invariant.0 in
    let are : AreTextsOf tokens c.file.inside.texts = subst (λ lines. AreTextsOf (tokens_of lines) c.file.inside.texts) c.file.view_is c.file.invariant.1 in
    let same : c.args.self.now ≡ c.copied.result = sym c.self.view_is ∙ sym c.copied.ensures in
    let here = text-found tokens c.args.self.now it.before c.file.inside.texts text is c.self.invariant.1 are c.in_ok-text.ensures.0 c.in_ok-text.ensures.1 in
    let front : take text.count c.args.self.now ≡ c.new-lines.result = ap (take text.count) same ∙ sym c.new-lines.ensures in
    let back : drop text.count c.args.self.now ≡ c.behind.result =
    here.behind ∙ sym (c.behind.ensures ∙ ap (λ lines. drop (it.before + text.count) (tokens_of lines)) c.file.view_is) in
    sym (take-append-drop text.count c.args.self.now) ∙ (λ i. front i ++ back i)

pub returns-clause-some : goal.returns-clause-some
returns-clause-some c =
    let it = c.self.inside in
    let tokens = tokens_of it.file.now in
    let text = c.in_ok-text.text.now in
    let is : c.args.self.now ≡ drop it.before tokens = sym c.self.view_is ∙ c.self.invariant.0 in
    let are : AreTextsOf tokens c.file.inside.texts = subst (λ lines. AreTextsOf (tokens_of lines) c.file.inside.texts) c.file.view_is c.file.invariant.1 in
    let same : c.args.self.now ≡ c.copied.result = sym c.self.view_is ∙ sym c.copied.ensures in
    let here = text-found tokens c.args.self.now it.before c.file.inside.texts text is c.self.invariant.1 are c.in_ok-text.ensures.0 c.in_ok-text.ensures.1 in
    let front : take text.count c.args.self.now ≡ c.new-lines.result = ap (take text.count) same ∙ sym c.new-lines.ensures in
    omega (arith, here.some, ap length front, length-take-le text.count c.args.self.now here.begins.within)
