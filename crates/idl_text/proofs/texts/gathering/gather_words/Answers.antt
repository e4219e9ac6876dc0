use Rattle.std.proofs.Common.{◌≡◌, ◌∙◌, ◌+◌, ◌++◌, ◌<◌, ◌≤◌, ◌∷◌, [], List, append-nil, append_assoc, ap, arith, false, get_or, length, subst, sym, take}
use Rattle.std.proofs.lemmas.List.{get_or-map, length-map, take_all, take_more}
use Rattle.idl_lex.specs.tokens.Tokens.{Token}
use Rattle.idl_lex.specs.declared.tokens.token.PlacedToken.{PlacedToken}
use Rattle.idl_text.specs.Texts.{AreWordsOf}
use Rattle.idl_text.proofs.texts.gathering.gather_words.Goals as goal

abbrev no_token : PlacedToken
no_token = record { token = []; line = 0; starts_line = false; follows_word = false }

pub tokens-init : goal.tokens-init
tokens-init c = λ text are. subst (λ (ts : List PlacedToken). AreWordsOf ts c.args.words.now.items) (sym (append-nil text)) are

pub tokens-preserved : goal.tokens-preserved
tokens-preserved c = λ text are.
    let tokens = c.args.tokens.now in
    let count = c.tokens.count in
    let token = c.index-tokens-count.result in
    let lt : count < length tokens = omega (arith, c.tokens-test.true, ap length c.as_slice-tokens.ensures, length-map tokens (λ (t : PlacedToken). t.token)) in
    let t = get_or tokens count no_token in
    let word : token ≡ t.token =
    c.index-tokens-count.is ∙ ap (λ (ts : List Token). get_or ts count token) c.as_slice-tokens.ensures ∙ get_or-map (λ (t : PlacedToken). t.token) tokens count no_token token lt in
    subst (λ (ts : List PlacedToken). AreWordsOf ts c.gather_word.new.words.items)
    (append_assoc text (take count tokens) (t ∷ []) ∙ ap (λ (ts : List PlacedToken). text ++ ts) (sym (take_more tokens count no_token lt)))
    (c.in_ok-gather_word.ensures (text ++ take count tokens) t (sym word) (c.tokens.invariant text are))

pub returns : goal.returns
returns c = λ text are.
    let tokens = c.args.tokens.now in
    let all : length tokens ≤ c.tokens.count = omega (arith, c.tokens-test.false, ap length c.as_slice-tokens.ensures, length-map tokens (λ (t : PlacedToken). t.token)) in
    subst (λ (ts : List PlacedToken). AreWordsOf (text ++ ts) c.tokens.words.items) (take_all c.tokens.count tokens all) (c.tokens.invariant text are)
