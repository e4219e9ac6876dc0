use Rattle.std.proofs.Common.{Some, length, ap, ◌∙◌, arith}
use Rattle.idl_check.proofs.PragmaLaws.PragmaTokens.{pragma-length}
use Rattle.idl_check.proofs.ids.pragmas.Speaker.said.Goals as goal

pub about-requires : goal.about-requires
about-requires c =
    let count = pragma-length c.args.self.tokens.now _ (c.requires ∙ ap Some c.in-Id.is) in
    let same = ap length c.as_slice-tokens.ensures in
    omega (arith, count, same)

pub about-requires-in-Version : goal.about-requires-in-Version
about-requires-in-Version c =
    let count = pragma-length c.args.self.tokens.now _ (c.requires ∙ ap Some c.in-Version.is) in
    let same = ap length c.as_slice-tokens.ensures in
    omega (arith, count, same)
