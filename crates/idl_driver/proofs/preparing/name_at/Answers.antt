use Rattle.std.proofs.Common.{◌≡◌, ◌∙◌, ap, false, refl, true}
use Rattle.idl_source.specs.names.Path.{joined_path}
use Rattle.idl_driver.proofs.preparing.name_at.Goals as goal

pub returns-in-Some : goal.returns-in-Some
returns-in-Some c = c.join.ensures ∙ ap (λ d. joined_path d c.args.word.now) c.in-Some.ensures.same

-- `.` is a directory
pub returns-in-None : goal.returns-in-None
returns-in-None c = absurd (let no : false ≡ true = c.in-None.ensures.allowed.1 refl in cc)
