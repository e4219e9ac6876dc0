use Rattle.std.proofs.Common.{◌≡◌, ◌∙◌, ◌∷◌, ◌+◌, [], ℕ, List, Bor, Some, ap, drop, map, rules, sym}
use Rattle.idl_inputs.specs.Project.{Inputs}
use Rattle.idl_driver.specs.Options.{searched_by}
use Rattle.idl_driver.proofs.OptionLemmas.{drop-map-next, searched-more}
use Rattle.idl_driver.proofs.preparing.search_all.Goals as goal

pub words-preserved : goal.words-preserved
words-preserved c =
    let texts = map (λ (w : Bor (List ℕ)). w.now) c.args.words.now in
    let i = c.words.word-index in
    let word = c.as_bytes.result.now in
    let old = c.words.directories.items in
    let new = c.search_in.new.directories.items in
    let left = drop-map-next (λ (w : Bor (List ℕ)). w.now) c.args.words.now i _ word c.words-test.true c.as_bytes.ensures.value in
    let others : c.search_in.new.sources ≡ record c.words.sources { search = new } = search rules in
    let more : searched_by old (word ∷ []) ≡ Some new = search rules in
    record {
      others = others ∙ ap (λ (i : Inputs). record i { search = new }) c.words.invariant.others;
      searched = searched-more old new word (drop (i + 1) texts) more ∙ ap (searched_by old) (sym left) ∙ c.words.invariant.searched;
    }
