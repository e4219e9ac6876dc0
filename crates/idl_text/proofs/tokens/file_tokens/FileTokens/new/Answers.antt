use Rattle.std.proofs.Common.{◌∙◌, ap, drop}
use Rattle.std.specs.List.{slice_range}
use Rattle.idl_text.specs.Moved.{moved_tokens}
use Rattle.idl_text.specs.declared.tokens.chunk.Chunk.{Chunk}
use Rattle.idl_base.proofs.PartLemmas.{part-rest}
use Rattle.idl_text.proofs.tokens.file_tokens.FileTokens.new.Goals as goal

pub returns : goal.returns
returns c =
    let tokens = c.deref.result.now.tokens in
    let from = c.args.from in
    let down = c.args.lines_before in
    ap (λ n. moved_tokens down (slice_range tokens from n)) c.len.ensures
    ∙ ap (moved_tokens down) (part-rest tokens from)
    ∙ ap (λ (b : Chunk). moved_tokens down (drop from b.tokens)) c.deref.ensures
