use Rattle.std.proofs.Common.{◌≡◌, Some, None, sym, ap, ◌∙◌}
use Rattle.std.specs.Map.{lookup}
use Rattle.std.specs.Str.{bytes_eq}
use Rattle.idl_memo.specs.Progress.{after_key}
use Rattle.idl_event.specs.Expanding.{arrival, arrived}
use Rattle.idl_event.specs.Key.{key_eq}
use Rattle.idl_event.specs.declared.asked.key.RootKey.TheVariants as key
use Rattle.idl_macro.specs.Macros.{body_in}
use Rattle.idl_macro.proofs.MacroLemmas.{macro_of-asked, macro_of-said}
use Rattle.idl_macro.proofs.definitions.Definitions.macro_of.Goals as goal

pub returns-in-Some : goal.returns-in-Some
returns-in-Some g c =
    let said : lookup (bytes_eq c.args.word.now) c.args.self.now ≡ Some c.in-Some.said.now = sym c.in-Some.ensures in
    ap (λ body. arrived body c.args.progress.now) (c.tokens_of.ensures ∙ c.as_ref.ensures.value)
    ∙ sym (ap (λ query. arrival (g.B.Bank.at c.args.bank.now) query c.args.progress.now) (macro_of-said c.args.self.now c.args.word.now c.in-Some.said.now said))

pub returns-in_ok-answer-in-None : goal.returns-in_ok-answer-in-None
returns-in_ok-answer-in-None g c =
    let bank = g.B.Bank.at c.args.bank.now in
    let unsaid : lookup (bytes_eq c.args.word.now) c.args.self.now ≡ None = sym c.in-None.ensures in
    let asked = c.in_ok-answer-in-None.ensures in
    (λ i. arrived (c.body_in.ensures i) (asked.progress i))
    ∙ ap (λ found. arrived (body_in found) (after_key key_eq bank (key.Macro c.args.word.now) c.args.progress.now)) asked.answer
    ∙ sym (ap (λ query. arrival bank query c.args.progress.now) (macro_of-asked c.args.self.now c.args.word.now unsaid))
