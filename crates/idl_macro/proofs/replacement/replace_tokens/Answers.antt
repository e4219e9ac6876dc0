use Rattle.std.proofs.Common.{◌≡◌, [], ◌∷◌, sym, ap, ◌∙◌, List, drop, refl, subst, take, arith}
use Rattle.idl_event.specs.Expanding.{after_text, reached}
use Rattle.idl_fault.specs.declared.place.Place.{Place}
use Rattle.idl_lex.specs.declared.tokens.token.PlacedToken.{PlacedToken}
use Rattle.idl_macro.specs.Replace.{place_at, text}
use Rattle.idl_macro.specs.declared.replacement.Output.TheVariants.{Text}
use Rattle.idl_macro.proofs.ReplaceLemmas.{reached-text-first, reached-text-nil}
use Rattle.idl_macro.proofs.replacement.replace_tokens.Goals as goal

pub tokens-preserved-then-count-gt0 : goal.tokens-preserved-then-count-gt0
tokens-preserved-then-count-gt0 g c =
    let bank = g.B.Bank.at c.args.macros.now.bank.now in
    let definitions = c.args.macros.now.definitions.now in
    let file = c.args.file.now in
    let q = c.count_plain.new.progress in
    let parts = c.split_at-plain.ensures in
    c.tokens.invariant
    ∙ c.in_ok-count.ensures.plain file
    ∙ (λ j. reached bank (text file definitions (sym parts.back j)) (after_text file (sym parts.front j) q))
    ∙ ap (reached bank (text file definitions c.split_at-plain.result.1)) (sym c.in_ok-emit_text.ensures)

pub tokens-preserved : goal.tokens-preserved
tokens-preserved g c =
    let bank = g.B.Bank.at c.args.macros.now.bank.now in
    let definitions = c.args.macros.now.definitions.now in
    let file = c.args.file.now in
    let t = c.in-Some.first in
    let place : Place = record { file = c.in_ok-clone.field-0; line = c.line.result } in
    let here : place ≡ place_at file t = λ j. record { file = c.in_ok-clone.ensures.cases j; line = c.line.ensures j } in
    let left = c.tokens.left in
    let p = c.tokens.progress in
    let q = c.count_plain.new.progress in
    let none : c.in_ok-count.count ≡ 0 = omega (arith, c.if-count-gt0.false) in
    let first : reached bank (text file definitions left) p ≡ reached bank (text file definitions left) q =
    subst (λ n. reached bank (text file definitions left) p ≡ reached bank (text file definitions (drop n left)) (after_text file (take n left) q)) none (c.in_ok-count.ensures.plain file) in
    c.tokens.invariant
    ∙ first
    ∙ ap (λ (ts : List PlacedToken). reached bank (text file definitions ts) q) c.in-Some.ensures
    ∙ reached-text-first bank file definitions t c.in-Some.rest Text place c.from_ref.result.now q c.replace.new.progress
    refl here (c.from_ref.ensures.value ∙ ap (λ u. u ∷ []) c.token.ensures) c.in_ok-replace.ensures.progress

pub returns : goal.returns
returns g c =
    let bank = g.B.Bank.at c.args.macros.now.bank.now in
    let definitions = c.args.macros.now.definitions.now in
    sym (c.tokens.invariant
    ∙ ap (λ (ts : List PlacedToken). reached bank (text c.args.file.now definitions ts) c.tokens.progress) c.in_default.ensures
    ∙ reached-text-nil bank c.args.file.now definitions c.tokens.progress)
