use Rattle.std.proofs.Common.{◌≡◌, ◌∙◌, [], ℕ, Bor, List, Ok, ap, filter, fold, map, rules}
use Rattle.std.proofs.lemmas.List.{take_all}
use Rattle.std.proofs.lemmas.Result.{IfOk-at_ok}
use Rattle.idl_driver.specs.Options.{is_nameless, with_word}
use Rattle.idl_driver.proofs.OptionLemmas.{nameless-next, named-next}
use Rattle.idl_driver.proofs.preparing.roots_among.Goals as goal

pub words-preserved : goal.words-preserved
words-preserved c =
    let text = λ (w : Bor (List ℕ)). w.now in
    let words = c.args.words.now in
    let i = c.words.word-index in
    let old = map text c.words.nameless.items in
    let new = map text c.add_word.new.nameless.items in
    let added : c.add_word.result ≡ Ok tt = search rules in
    record {
      named = named-next text words i _ c.words.roots.keys c.add_word.new.roots.keys c.words-test.true c.words.invariant.named (IfOk-at_ok _ added c.add_word.ensures.named);
      nameless = nameless-next text words i _ old new c.words-test.true c.words.invariant.nameless (IfOk-at_ok _ added c.add_word.ensures.nameless);
    }

pub returns-clause-named : goal.returns-clause-named
returns-clause-named c =
    let words = c.args.words.now in
    c.words.invariant.named ∙ ap (λ (ws : List (Bor (List ℕ))). fold with_word [] (map (λ (w : Bor (List ℕ)). w.now) ws)) (take_all c.words.word-index words c.words-test.false)

pub returns-clause-nameless : goal.returns-clause-nameless
returns-clause-nameless c =
    let words = c.args.words.now in
    c.words.invariant.nameless ∙ ap (λ (ws : List (Bor (List ℕ))). filter is_nameless (map (λ (w : Bor (List ℕ)). w.now) ws)) (take_all c.words.word-index words c.words-test.false)
