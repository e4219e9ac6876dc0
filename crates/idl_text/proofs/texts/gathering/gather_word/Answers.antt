use Rattle.std.proofs.Common.{◌≡◌, ◌∙◌, ◌++◌, ◌∷◌, [], List, inl, inr, ap, subst, sym}
use Rattle.std.specs.List.{Contains}
use Rattle.idl_lex.specs.kinds.Word.{is_word}
use Rattle.idl_lex.specs.tokens.Tokens.{Token}
use Rattle.idl_text.specs.Texts.{AreWordsOf}
use Rattle.idl_text.proofs.WordLemmas.{words-met, words-new}
use Rattle.idl_text.proofs.texts.gathering.gather_word.Goals as goal

pub returns-then-not-is_word : goal.returns-then-not-is_word
returns-then-not-is_word c = λ text t same are.
    words-met text c.args.words.now.items t are (inl (ap is_word same ∙ sym c.is_word.ensures ∙ c.if-not-is_word.true))

pub returns-then-branch : goal.returns-then-branch
returns-then-branch c = λ text t same are.
    let there : Contains c.as_slice.result.now c.args.token.now = c.in_ok-is_found.ensures c.if-branch.true in
    let met : Contains c.args.words.now.items t.token =
    subst (λ (ws : List Token). Contains ws t.token) c.as_slice.ensures.value (subst (λ (w : Token). Contains c.as_slice.result.now w) (sym same) there) in
    words-met text c.args.words.now.items t are (inr met)

pub returns : goal.returns
returns c = λ text t same are.
    let old = c.args.words.now.items in
    let one : c.push.new.self.items ≡ old ++ t.token ∷ [] =
    ◌∙◌ {A = List Token} c.in_ok-push.ensures.items (ap (λ (w : Token). old ++ w ∷ []) (c.in_ok-clone.ensures.cases ∙ sym same)) in
    subst (λ (ws : List Token). AreWordsOf (text ++ t ∷ []) ws) (sym one) (words-new text old t are)
