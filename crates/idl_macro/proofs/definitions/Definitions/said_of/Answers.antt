use Rattle.std.proofs.Common.{sym, ap, ◌∙◌}
use Rattle.std.specs.Map.{lookup}
use Rattle.std.specs.Str.{bytes_eq}
use Rattle.idl_map.specs.Marks.{is_marked}
use Rattle.idl_macro.proofs.definitions.Definitions.said_of.Goals as goal

pub returns-then-not-has : goal.returns-then-not-has
returns-then-not-has c =
    let word = c.args.word.now in
    let unmarked = ap (is_marked c.self.inside.marks) (sym c.requires) ∙ sym c.has.ensures ∙ c.if-not-has.true in
    sym (ap (lookup (bytes_eq word)) (sym c.self.view_is) ∙ c.self.invariant word unmarked)
