use Rattle.std.proofs.Common.{ap}
use Rattle.idl_check_laws.proofs.Fits.ClosingLaws.{told-settled}
use Rattle.idl_check_laws.proofs.Fits.FittingLaws.{unit-fits}
use Rattle.idl_check_laws.proofs.Fits.ReachedLaws.{IsClosed, listed-reached, names_in, only-through, through-only}
use Rattle.idl_check_laws.proofs.Fits.SoundLaws.{sound-fits}
use Rattle.idl_env.specs.Facts.{answers, entity_in}
use Rattle.idl_check_laws.proofs.laws.inheriting.Goals as goal

pub returns : goal.returns
returns c = λ facts e p told stands kind stage.
    let D = names_in (answers facts) in
    let closed : IsClosed D e = record { stands = ap entity_in stands; kind = kind; stage = stage } in
    let settled = told-settled (λ front text k. unit-fits front k (λ tokens v sound. sound-fits front k tokens v sound) text) facts told in
    let both = listed-reached D settled.whole e closed p in (
      λ i. let h = both.0 i in (h.0, h.1, through-only (answers facts) h.0 h.2, h.3, h.4),
      λ h. both.1 (h.0, h.1, only-through (answers facts) h.0 h.2, h.3, h.4),
    )
