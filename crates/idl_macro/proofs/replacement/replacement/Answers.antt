use Rattle.std.proofs.Common.{◌≡◌, IfOk, List, Option, reverse, sym, ap, subst, ◌∙◌}
use Rattle.std.specs.Map.{keys_of}
use Rattle.std.specs.Option.{option_copied}
use Rattle.idl_event.specs.Expanding.{Reached, arrival, arrived}
use Rattle.idl_lex.specs.tokens.Tokens.{Token}
use Rattle.idl_macro.specs.Macros.{macro_of}
use Rattle.idl_macro.proofs.MacroLemmas.{hidden-entries, replacement-hidden, replacement-no_word, replacement-word}
use Rattle.idl_macro.proofs.replacement.replacement.Goals as goal

pub returns-then-not-is_word : goal.returns-then-not-is_word
returns-then-not-is_word g c =
    sym (ap (λ query. arrival (g.B.Bank.at c.args.macros.now.bank.now) query c.args.progress.now)
    (replacement-no_word c.args.macros.now.definitions.now (keys_of (reverse c.args.stack.now)) c.args.token.now (sym c.is_word.ensures ∙ c.if-not-is_word.true)))

pub returns-then-contains : goal.returns-then-contains
returns-then-contains g c =
    let entries = c.args.stack.now in
    let among = hidden-entries c.args.token.now c.spelling.result.now entries c.spelling.ensures ∙ sym c.if-contains.ensures in
    sym (ap (λ query. arrival (g.B.Bank.at c.args.macros.now.bank.now) query c.args.progress.now)
    (replacement-hidden c.args.macros.now.definitions.now (keys_of (reverse entries)) c.args.token.now (sym c.is_word.ensures ∙ c.if-not-is_word.false) among))

pub returns : goal.returns
returns g c =
    let bank = g.B.Bank.at c.args.macros.now.bank.now in
    let definitions = c.args.macros.now.definitions.now in
    let entries = c.args.stack.now in
    let among = hidden-entries c.args.token.now c.spelling.result.now entries c.spelling.ensures ∙ sym c.if-contains.ensures in
    let wanted = replacement-word definitions (keys_of (reverse entries)) c.args.token.now (sym c.is_word.ensures ∙ c.if-not-is_word.false) among in
    subst
    (λ (there : Reached × Option (Option (List Token))). IfOk c.macro_of.result (λ body. arrived (option_copied body) c.macro_of.new.progress ≡ there))
    (ap (λ word. arrival bank (macro_of definitions word) c.args.progress.now) c.spelling-2.ensures ∙ sym (ap (λ query. arrival bank query c.args.progress.now) wanted))
    c.macro_of.ensures
