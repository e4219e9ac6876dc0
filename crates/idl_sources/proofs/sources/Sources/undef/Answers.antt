use Rattle.std.proofs.Common.{◌∙◌, ap, refl, sym}
use Rattle.idl_macro.specs.Words.{is_macro_word}
use Rattle.idl_inputs.specs.Edits.{Undef}
use Rattle.idl_inputs.specs.Made.{rootless}
use Rattle.idl_inputs.specs.Project.{Inputs}
use Rattle.idl_inputs.proofs.EditLemmas.{undef-accepted}
use Rattle.idl_inputs.proofs.FormLemmas.{after-formed}
use Rattle.idl_sources.proofs.sources.Sources.undef.Goals as goal

pub invariant_of-self : goal.invariant_of-self
invariant_of-self c =
    let old : Inputs = c.self.inside.bank in
    let new : Inputs = c.undef.new.self in
    let word = c.in_ok-word.word in
    let allowed = ap is_macro_word c.in_ok-word.ensures ∙ sym c.is_macro_word.ensures ∙ c.if-not-is_macro_word.false in
    after-formed (rootless old) (rootless new) (Undef word) c.self.invariant (undef-accepted (rootless old) word new (rootless old).roots allowed c.undef.ensures.left refl)
