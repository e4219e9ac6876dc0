use Rattle.std.proofs.Common.{sym, ap, ◌∙◌}
use Rattle.idl_map.specs.Marks.{is_marked}
use Rattle.idl_env.specs.Facts.{key_of}
use Rattle.idl_env.proofs.FirstLemmas.{unlike}
use Rattle.idl_env.proofs.additions.facts.may_be_among.Goals as goal

pub returns-then-has : goal.returns-then-has
returns-then-has c none =
    unlike c.args.additions.now (key_of c.args.other.now) (sym c.is_digest_among.ensures ∙ none)

pub returns-else-has : goal.returns-else-has
returns-else-has c _ =
    let unmarked = ap (is_marked c.args.marks.now) (sym c.digest.ensures) ∙ sym c.has.ensures ∙ c.if-has.false in
    c.requires (key_of c.args.other.now) unmarked
