use Rattle.std.proofs.lemmas.Bool.{and_parts}
use Rattle.idl_driver.proofs.ParsedLemmas.{refused}
use Rattle.idl_driver.proofs.words.parse_words.Goals as goal

pub returns-in-Ok-clause-parsed : goal.returns-in-Ok-clause-parsed
returns-in-Ok-clause-parsed c =
    let simple = c.requires.simple in
    let found = c.in-Ok.ensures.matches (and_parts _ _ simple).0 in
    (c.in-Ok.ensures.kinds simple, found.0, found.1)

pub returns-clause-wrong : goal.returns-clause-wrong
returns-clause-wrong c =
    refused _ _ c.in-Err-text_of.fault (c.in-Err.ensures.kinds c.requires.simple) c.in-Err-text_of.ensures.wrong
