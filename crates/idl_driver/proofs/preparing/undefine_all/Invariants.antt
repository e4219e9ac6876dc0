use Rattle.std.proofs.Common.{◌≡◌, drop, map}
use Rattle.idl_driver.specs.Options.{undefined_by}
use Rattle.idl_driver.proofs.preparing.undefine_all.Given as goal

abbrev pub invariant-words : goal.invariant-words
invariant-words l = record {
  others : l.sources ≡ record l.fn.sources { macros = l.sources.macros };
  macros : undefined_by l.sources.macros (drop l.word-index (map (λ w. w.now) l.words))
      ≡ undefined_by l.fn.sources.macros (map (λ w. w.now) l.words);
}
