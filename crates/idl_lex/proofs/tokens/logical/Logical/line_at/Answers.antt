use Rattle.std.proofs.Common.{◌∙◌, ◌<◌, ◌≤◌, length, get_or, ap, subst, sym}
use Rattle.std.proofs.lemmas.Bool.{ltb-false, ltb-true}
use Rattle.std.proofs.lemmas.List.{get_or_default, get_or_past}
use Rattle.idl_lex.specs.tokens.Logical.{line_at}
use Rattle.idl_lex.proofs.LogicalLemmas.{length-placed, line_at-placed}
use Rattle.idl_lex.proofs.tokens.logical.Logical.line_at.Goals as goal

pub returns-in-Some : goal.returns-in-Some
returns-in-Some c =
    let inside = c.self.inside in
    let bytes = inside.bytes in
    let lt : c.args.i < length bytes = subst (λ n. c.args.i < n) (ap length (sym c.self.view_is) ∙ length-placed inside.numbers.items inside.last bytes) c.requires in
    c.in-Some.ensures.lookup.1
    ∙ get_or_default c.deref.result.now c.args.i c.in-Some.number.now inside.last (ltb-true c.args.i (length c.deref.result.now) (sym c.in-Some.ensures.lookup.0))
    ∙ ap (λ ns. get_or ns c.args.i inside.last) c.deref.ensures.value
    ∙ sym (line_at-placed inside.numbers.items inside.last bytes c.args.i lt) ∙ ap (λ ps. line_at ps c.args.i) c.self.view_is

pub returns-in-None : goal.returns-in-None
returns-in-None c =
    let inside = c.self.inside in
    let bytes = inside.bytes in
    let lt : c.args.i < length bytes = subst (λ n. c.args.i < n) (ap length (sym c.self.view_is) ∙ length-placed inside.numbers.items inside.last bytes) c.requires in
    sym (get_or_past inside.numbers.items c.args.i inside.last
    (subst (λ ns. length ns ≤ c.args.i) c.deref.ensures.value (ltb-false c.args.i (length c.deref.result.now) (sym c.in-None.ensures.lookup.0))))
    ∙ sym (line_at-placed inside.numbers.items inside.last bytes c.args.i lt) ∙ ap (λ ps. line_at ps c.args.i) c.self.view_is
