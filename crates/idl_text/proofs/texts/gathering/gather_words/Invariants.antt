use Rattle.std.proofs.Common.{◌++◌, ◌-◌, List, length, take}
use Rattle.idl_lex.specs.declared.tokens.token.PlacedToken.{PlacedToken}
use Rattle.idl_text.specs.Texts.{AreWordsOf}
use Rattle.idl_text.proofs.texts.gathering.gather_words.Given as goal

abbrev pub invariant-tokens : goal.invariant-tokens
invariant-tokens l =
    (text : List PlacedToken) → AreWordsOf text l.fn.words.items → AreWordsOf (text ++ take l.count l.fn.tokens) l.words.items

abbrev pub decreases-tokens : goal.decreases-tokens
decreases-tokens l = length l.fn.tokens - l.count
