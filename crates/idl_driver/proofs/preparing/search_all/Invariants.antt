use Rattle.std.proofs.Common.{◌≡◌, [], drop, map}
use Rattle.idl_driver.specs.Options.{searched_by}
use Rattle.idl_driver.proofs.preparing.search_all.Given as goal

abbrev pub invariant-words : goal.invariant-words
invariant-words l = record {
  others : l.sources ≡ record l.fn.sources { search = l.directories.items };
  searched : searched_by l.directories.items (drop l.word-index (map (λ w. w.now) l.words))
      ≡ searched_by [] (map (λ w. w.now) l.words);
}
