use Rattle.std.proofs.Common.{◌∙◌, ap, sym}
use Rattle.idl_lex.specs.bytes.Text.{bytes_of}
use Rattle.idl_lex.proofs.LogicalLemmas.{bytes_of-placed}
use Rattle.idl_lex.proofs.tokens.logical.Logical.as_bytes.Goals as goal

pub returns : goal.returns
returns c =
    c.as_bytes.ensures
    ∙ sym (bytes_of-placed c.self.inside.numbers.items c.self.inside.last c.self.inside.bytes)
    ∙ ap bytes_of c.self.view_is
