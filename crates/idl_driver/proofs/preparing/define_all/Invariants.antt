use Rattle.std.proofs.Common.{◌≡◌, drop, map}
use Rattle.idl_driver.specs.Options.{defined_by}
use Rattle.idl_driver.proofs.preparing.define_all.Given as goal

abbrev pub invariant-words : goal.invariant-words
invariant-words l = record {
  others : l.sources ≡ record l.fn.sources { macros = l.sources.macros };
  macros : defined_by l.sources.macros (drop l.word-index (map (λ w. w.now) l.words))
      ≡ defined_by l.fn.sources.macros (map (λ w. w.now) l.words);
}
