use Rattle.std.proofs.Common.{◌≡◌, ◌∙◌, ◌++◌, ◌+◌, Bool, ap, arith, length}
use Rattle.std.proofs.lemmas.Bool.{le-leb, leb-true, lt-ltb, ltb-true}
use Rattle.idl_lex.proofs.ColumnLemmas.{length-ended, length-open, none-left, passed-left}
use Rattle.idl_lex.specs.bytes.Columns.{ending}
use Rattle.idl_lex.proofs.bytes.text_left.LineLeft.is_passed.Goals as goal

pub returns-then-self : goal.returns-then-self
returns-then-self c =
    let left = c.args.self.now in
    let bytes = left.bytes.now in
    let size : length (bytes ++ ending left.ends) ≡ length bytes + 1 = ap (λ (e : Bool). length (bytes ++ ending e)) c.if-self.true ∙ length-ended bytes in
    (λ h. none-left left (omega (arith, size, ltb-true (length bytes) left.column h)), λ e. lt-ltb (length bytes) left.column (omega (arith, size, passed-left left e)))

pub returns-else-self : goal.returns-else-self
returns-else-self c =
    let left = c.args.self.now in
    let bytes = left.bytes.now in
    let size : length (bytes ++ ending left.ends) ≡ length bytes = ap (λ (e : Bool). length (bytes ++ ending e)) c.if-self.false ∙ length-open bytes in
    (λ h. none-left left (omega (arith, size, leb-true (length bytes) left.column h)), λ e. le-leb (length bytes) left.column (omega (arith, size, passed-left left e)))
