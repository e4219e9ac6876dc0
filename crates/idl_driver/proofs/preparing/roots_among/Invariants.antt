use Rattle.std.proofs.Common.{◌≡◌, [], filter, fold, map, take}
use Rattle.idl_driver.specs.Options.{is_nameless, with_word}
use Rattle.idl_driver.proofs.preparing.roots_among.Given as goal

-- those of the words before
abbrev pub invariant-words : goal.invariant-words
invariant-words l = record {
  named : l.roots.keys ≡ fold with_word [] (map (λ w. w.now) (take l.word-index l.words));
  nameless : map (λ w. w.now) l.nameless.items ≡ filter is_nameless (map (λ w. w.now) (take l.word-index l.words));
}
