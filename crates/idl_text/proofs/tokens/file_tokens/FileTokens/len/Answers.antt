use Rattle.std.proofs.Common.{ap, arith, length}
use Rattle.std.specs.List.{slice_range}
use Rattle.std.proofs.lemmas.List.{length-map}
use Rattle.idl_text.specs.Moved.{moved_token}
use Rattle.idl_base.proofs.PartLemmas.{length-part}
use Rattle.idl_text.proofs.tokens.file_tokens.FileTokens.len.Goals as goal

pub returns : goal.returns
returns c =
    let it = c.self.inside in
    let all = it.tokens.now in
    omega (arith, ap length c.self.view_is, length-map (slice_range all it.from it.to) (moved_token it.lines_before), length-part all it.from it.to c.self.invariant.1)
