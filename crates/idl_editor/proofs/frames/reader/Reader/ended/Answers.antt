use Rattle.std.proofs.Common.{◌≢◌, [], length, ap, arith, refl}
use Rattle.idl_editor.proofs.ReadingLemmas.{ends-in_head}
use Rattle.idl_editor.proofs.frames.reader.Reader.ended.Goals as goal

pub returns-in_default-clause-received : goal.returns-in_default-clause-received
returns-in_default-clause-received c = λ rest over.
    let some : c.args.self.now ≢ [] = λ none. omega (arith, ap length none, ap length c.self.view_is, ap length c.as_slice.ensures.value) in
    (ends-in_head rest c.args.self.now some c.requires over, refl)
