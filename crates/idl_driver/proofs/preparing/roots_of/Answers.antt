use Rattle.std.proofs.Common.{◌≡◌, ◌∙◌, ◌∷◌, ◌+◌, [], ℕ, List, Bor, Some, ap, drop, map, rules, sym}
use Rattle.idl_driver.specs.Options.{named_by}
use Rattle.idl_driver.proofs.OptionLemmas.{drop-map-next, named-more}
use Rattle.idl_driver.proofs.preparing.roots_of.Goals as goal

pub words-preserved : goal.words-preserved
words-preserved c =
    let texts = map (λ (w : Bor (List ℕ)). w.now) c.args.words.now in
    let i = c.words.word-index in
    let word = c.as_bytes.result.now in
    let old = c.words.roots.keys in
    let new = c.add.new.roots.keys in
    let left = drop-map-next (λ (w : Bor (List ℕ)). w.now) c.args.words.now i _ word c.words-test.true c.as_bytes.ensures.value in
    let more : named_by old (word ∷ []) ≡ Some new = search rules in
    named-more old new word (drop (i + 1) texts) more ∙ ap (named_by old) (sym left) ∙ c.words.invariant
