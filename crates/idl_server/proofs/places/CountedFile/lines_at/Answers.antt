use Rattle.std.proofs.Common.{◌∙◌, refl, sym}
use Rattle.std.specs.Cmp.Lexicographic.{bytes_decides}
use Rattle.idl_server.proofs.places.CountedFile.lines_at.Goals as goal

pub returns-then-eq : goal.returns-then-eq
returns-then-eq c = (sym c.as_bytes.ensures.bytes ∙ (bytes_decides _ _).0 (sym c.eq.ensures ∙ c.if-eq.true) ∙ c.as_bytes-2.ensures.bytes, refl)
