use Rattle.std.proofs.Common.{◌≡◌, ◌∙◌, ◌≤◌, ◌-◌, List, ℕ, IfOk, drop, length, take, ap, subst, sym}
use Rattle.idl_lex.specs.bytes.Text.{bytes_of}
use Rattle.idl_lex.proofs.LogicalLemmas.{bytes_of-placed, length-placed}
use Rattle.idl_lex.proofs.tokens.logical.Logical.spelling.Goals as goal

pub part-requires-clause-within : goal.part-requires-clause-within
part-requires-clause-within c =
    let inside = c.self.inside in
    let bytes = inside.bytes in
    let len = ap length (sym c.self.view_is) ∙ length-placed inside.numbers.items inside.last bytes in
    subst (λ n. c.args.to ≤ n) len c.requires.within

pub returns : goal.returns
returns c =
    let inside = c.self.inside in
    let bytes = inside.bytes in
    let same : bytes ≡ bytes_of c.args.self.now = sym (bytes_of-placed inside.numbers.items inside.last bytes) ∙ ap bytes_of c.self.view_is in
    subst (λ (bs : List ℕ). IfOk c.part.result (λ spelling. spelling ≡ take (c.args.to - c.args.from) (drop c.args.from bs))) same c.part.ensures
