use Rattle.std.proofs.Common.{arith}
use Rattle.idl_server.proofs.PlaceLemmas.{line-range}
use Rattle.idl_server.proofs.places.CountedLines.line.Goals as goal

pub returns : goal.returns
returns c =
    line-range c.args.encoding c.args.self.now c.args.number 18446744073709551615 c.between.result c.keeps_form.ensures (omega arith) c.between.ensures.start c.between.ensures.end
