use Rattle.std.proofs.Common.{◌≡◌, [], drop, map}
use Rattle.idl_driver.specs.Options.{named_by}
use Rattle.idl_driver.proofs.preparing.roots_of.Given as goal

abbrev pub invariant-words : goal.invariant-words
invariant-words l = named_by l.roots.keys (drop l.word-index (map (λ w. w.now) l.words))
    ≡ named_by [] (map (λ w. w.now) l.words)
