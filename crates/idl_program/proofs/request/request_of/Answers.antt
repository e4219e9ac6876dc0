use Rattle.std.proofs.Common.{◌≡◌, ◌∙◌, ap, map, rules, subst}
use Rattle.std.specs.Borrow.{Bor}
use Rattle.clap.specs.Words.{Text, app_of, is_simple_and_free}
use Rattle.idl_driver.specs.Parsed.{IsDisplay, IsParsedBy}
use Rattle.idl_driver.specs.declared.words.ParsedWords.{ParsedWords}
use Rattle.idl_driver.specs.declared.words.ParsedWords.TheVariants as parsed
use Rattle.idl_program.proofs.RequestLemmas.{idlc_is_free, refused, taken, told}
use Rattle.idl_program.proofs.request.request_of.Goals as goal

pub parse_words-requires : goal.parse_words-requires
parse_words-requires c = record { simple = ap is_simple_and_free c.in_ok-command.ensures ∙ idlc_is_free }

pub chosen-requires-clause-taken : goal.chosen-requires-clause-taken
chosen-requires-clause-taken c =
    let is : c.in-Ok-Taken.field-0 ≡ parsed.Taken c.in-Ok-Taken.matches = search rules in
    (taken _ _ _ _ c.in_ok-command.ensures is c.in-Ok-Taken.ensures.parsed).0

pub chosen-requires-clause-rows : goal.chosen-requires-clause-rows
chosen-requires-clause-rows c =
    let is : c.in-Ok-Taken.field-0 ≡ parsed.Taken c.in-Ok-Taken.matches = search rules in
    (taken _ _ _ _ c.in_ok-command.ensures is c.in-Ok-Taken.ensures.parsed).1

pub returns-in-Ok-Text-clause-asked : goal.returns-in-Ok-Text-clause-asked
returns-in-Ok-Text-clause-asked c =
    let is : c.in-Ok-Text.field-0 ≡ parsed.Text c.in-Ok-Text.text = search rules in
    let app = app_of c.in_ok-command.field-0 in
    let words = map (λ (w : Bor Text). w.now) c.args.words.now in
    let shown : IsParsedBy app words (parsed.Text c.in-Ok-Text.text) = subst (λ (p : ParsedWords). IsParsedBy app words p) is c.in-Ok-Text.ensures.parsed in
    told app words IsDisplay c.in_ok-command.ensures shown

pub returns-in-Err-clause-wrong : goal.returns-in-Err-clause-wrong
returns-in-Err-clause-wrong c = refused _ _ c.in-Err.fault c.in_ok-command.ensures c.in-Err.ensures.wrong
