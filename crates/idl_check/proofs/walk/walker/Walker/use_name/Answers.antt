use Rattle.std.proofs.Common.{sym, ◌∙◌, arith}
use Rattle.std.proofs.lemmas.Result.{on_ok_weaker}
use Rattle.idl_tree.proofs.NameLemmas.{behind_name}
use Rattle.idl_check.proofs.Visits.VisitLemmas.{named-cut, named-spoken, named-whole}
use Rattle.idl_check.specs.walk.Held.{held}
use Rattle.idl_env.specs.Facts.{answers}
use Rattle.idl_check.proofs.walk.walker.Walker.use_name.Goals as goal

pub overflow_add-self : goal.overflow_add-self
overflow_add-self c =
    let behind = behind_name c.args.self.now.at c.args.name.now in
    omega (arith, behind, c.requires)

pub cut_name-requires : goal.cut_name-requires
cut_name-requires c =
    let behind = behind_name c.args.self.now.at c.args.name.now in
    record { room = omega (arith, behind, c.requires) }

pub speak_of-requires : goal.speak_of-requires
speak_of-requires c =
    let behind = behind_name c.args.self.now.at c.args.name.now in
    record { room = omega (arith, behind, c.requires) }

pub use_any-requires : goal.use_any-requires
use_any-requires c =
    let behind = behind_name c.args.self.now.at c.args.name.now in
    record { room = omega (arith, behind, c.requires) }

pub returns-then-is_known-clause-visited : goal.returns-then-is_known-clause-visited
returns-then-is_known-clause-visited c =
    let bank = answers c.args.self.now.env.now in
    on_ok_weaker c.cut_name.result
    (λ run turns more. run turns more
    ∙ sym (named-cut bank turns c.args.way c.args.name.now (held c.args.self.now) c.args.log.now (sym c.purpose_of.ensures ∙ c.in_default.is) (sym c.is_known.ensures ∙ c.if-is_known.true)))
    c.cut_name.ensures.run

pub returns-then-is_known-clause-at : goal.returns-then-is_known-clause-at
returns-then-is_known-clause-at c =
    on_ok_weaker c.cut_name.result (λ at. at ∙ behind_name c.args.self.now.at c.args.name.now) c.cut_name.ensures.at

pub returns-in-Some-clause-visited : goal.returns-in-Some-clause-visited
returns-in-Some-clause-visited c =
    let bank = answers c.args.self.now.env.now in
    on_ok_weaker c.speak_of.result
    (λ run turns more. run turns more
    ∙ sym (named-spoken bank turns c.args.way c.in-Some.purpose c.args.name.now (held c.args.self.now) c.args.log.now (sym c.purpose_of.ensures ∙ c.in-Some.is)))
    c.speak_of.ensures.run

pub returns-in-Some-clause-at : goal.returns-in-Some-clause-at
returns-in-Some-clause-at c =
    on_ok_weaker c.speak_of.result (λ at. at ∙ behind_name c.args.self.now.at c.args.name.now) c.speak_of.ensures.at

pub returns-clause-visited : goal.returns-clause-visited
returns-clause-visited c =
    let bank = answers c.args.self.now.env.now in
    on_ok_weaker c.use_any.result
    (λ run turns more. run turns more
    ∙ sym (named-whole bank turns c.args.way c.args.name.now (held c.args.self.now) c.args.log.now (sym c.purpose_of.ensures ∙ c.in_default.is) (sym c.is_known.ensures ∙ c.if-is_known.false)))
    c.use_any.ensures.run

pub returns-clause-at : goal.returns-clause-at
returns-clause-at c =
    on_ok_weaker c.use_any.result (λ at. at ∙ behind_name c.args.self.now.at c.args.name.now) c.use_any.ensures.at
