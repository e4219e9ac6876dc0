use Rattle.std.proofs.Common.{◌∙◌, List, ap, arith, length, length-append, sym}
use Rattle.std.proofs.lemmas.Result.{IfOk-weaker}
use Rattle.idl_event.specs.Expanding.{reached}
use Rattle.idl_lex.specs.declared.tokens.token.PlacedToken.{PlacedToken}
use Rattle.idl_macro.specs.Replace.{text}
use Rattle.idl_macro.proofs.ReplaceLemmas.{reached-text-append, reached-text-nil}
use Rattle.idl_macro.proofs.replacement.replace_text.Goals as goal

pub emit_lines-requires : goal.emit_lines-requires
emit_lines-requires g c = c.in_ok-are_plain.ensures.room c.if-branch.true

pub returns-then-branch : goal.returns-then-branch
returns-then-branch g c =
    IfOk-weaker c.emit_lines.result _ _ (λ _ emitted. emitted ∙ c.in_ok-are_plain.ensures.plain c.args.file.now c.if-branch.true) c.emit_lines.ensures

pub chunks-init : goal.chunks-init
chunks-init g c =
    let bank = g.B.Bank.at c.args.macros.now.bank.now in
    let definitions = c.args.macros.now.definitions.now in
    ap (λ (ts : List PlacedToken). reached bank (text c.args.file.now definitions ts) c.are_plain.new.progress) c.parts-left.ensures
    ∙ c.in_ok-are_plain.ensures.again c.args.file.now

pub chunks-preserved : goal.chunks-preserved
chunks-preserved g c =
    let bank = g.B.Bank.at c.args.macros.now.bank.now in
    let definitions = c.args.macros.now.definitions.now in
    let file = c.args.file.now in
    let part = c.in-Some.part in
    let rest = c.in-Some.rest in
    ap (reached bank (text file definitions rest)) c.in_ok-replace_tokens.ensures
    ∙ sym (reached-text-append bank file definitions part rest c.chunks.progress)
    ∙ ap (λ (ts : List PlacedToken). reached bank (text file definitions ts) c.chunks.progress) (sym c.in-Some.ensures.0)
    ∙ c.chunks.invariant

pub chunks-smaller : goal.chunks-smaller
chunks-smaller g c = omega (arith, c.in-Some.ensures.1, ap length c.in-Some.ensures.0, length-append c.in-Some.part c.in-Some.rest)

pub returns : goal.returns
returns g c =
    let bank = g.B.Bank.at c.args.macros.now.bank.now in
    let definitions = c.args.macros.now.definitions.now in
    let file = c.args.file.now in
    sym (reached-text-nil bank file definitions c.chunks.progress)
    ∙ ap (λ (ts : List PlacedToken). reached bank (text file definitions ts) c.chunks.progress) (sym c.in_default.ensures)
    ∙ c.chunks.invariant
