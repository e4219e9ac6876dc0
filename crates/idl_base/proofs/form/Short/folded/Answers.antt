use Rattle.std.proofs.Common.{◌∙◌, ap, take}
use Rattle.std.specs.List.{take-map}
use Rattle.std.specs.Str.{str_to_ascii_lowercase}
use Rattle.idl_base.proofs.form.Short.folded.Goals as goal

-- the first of folded bytes are the first bytes, folded
pub returns : goal.returns
returns c =
    let inside = c.self.inside in
    ap (take inside.count) c.make_ascii_lowercase.ensures.after
    ∙ take-map _ inside.count inside.bytes
    ∙ ap str_to_ascii_lowercase c.self.view_is
