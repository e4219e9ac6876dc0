use Rattle.std.proofs.Common.{◌≡◌, IfOk, List, Option, [], refl, sym, ap, subst, ◌∙◌}
use Rattle.std.specs.Option.{option_copied}
use Rattle.idl_event.specs.Expanding.{Reached, arrival, arrived}
use Rattle.idl_lex.specs.tokens.Tokens.{Token}
use Rattle.idl_macro.specs.Macros.{macro_of}
use Rattle.idl_macro.proofs.MacroLemmas.{replacement-no_word, replacement-word}
use Rattle.idl_macro.proofs.replacement.body_of.Goals as goal

pub returns-then-not-is_word : goal.returns-then-not-is_word
returns-then-not-is_word g c =
    sym (ap (λ query. arrival (g.B.Bank.at c.args.macros.now.bank.now) query c.args.progress.now)
    (replacement-no_word c.args.macros.now.definitions.now [] c.args.token.now (sym c.is_word.ensures ∙ c.if-not-is_word.true)))

pub returns : goal.returns
returns g c =
    let bank = g.B.Bank.at c.args.macros.now.bank.now in
    let definitions = c.args.macros.now.definitions.now in
    let wanted = replacement-word definitions [] c.args.token.now (sym c.is_word.ensures ∙ c.if-not-is_word.false) refl in
    subst
    (λ (there : Reached × Option (Option (List Token))). IfOk c.macro_of.result (λ body. arrived (option_copied body) c.macro_of.new.progress ≡ there))
    (ap (λ word. arrival bank (macro_of definitions word) c.args.progress.now) c.spelling.ensures ∙ sym (ap (λ query. arrival bank query c.args.progress.now) wanted))
    c.macro_of.ensures
