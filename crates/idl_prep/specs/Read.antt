-- A line as the code holds it.
use Rattle.idl_text.specs.Line.{Line, Text, NullDirective, Directed}
use Rattle.idl_prep.specs.declared.directives.line.LineKind as declared
use Rattle.idl_prep.specs.declared.directives.line.LineKind.TheVariants as held

-- the line that it stands for
abbrev pub line_of : declared.LineKind → Line
line_of (held.Text tokens) = Text tokens
line_of (held.NullDirective line) = NullDirective line
line_of (held.Directed d) = Directed d
