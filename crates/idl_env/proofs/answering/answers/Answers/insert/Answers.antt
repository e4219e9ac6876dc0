use Rattle.std.proofs.Common.{◌∙◌, ap, sym}
use Rattle.std.proofs.lemmas.Result.{IfOk-weaker}
use Rattle.idl_env.specs.Stamps.{Kept, stamped_in, with_stamped}
use Rattle.idl_env.specs.keys.Key.{key_eq}
use Rattle.idl_env.specs.declared.keys.key.Key.TheVariants.{Typeprefix}
use Rattle.idl_env.proofs.AnswerLaws.OthersLemmas.{no-typeprefixes}
use Rattle.idl_env.proofs.StampLemmas.{kept-insert}
use Rattle.idl_env.proofs.WriteLemmas.{neither-first, neither-second}
use Rattle.idl_env.proofs.answering.answers.Answers.insert.Goals as goal

pub invariant_of-self : goal.invariant_of-self
invariant_of-self c = λ none path.
    let had = c.self.inside.has_typeprefixes in
    let is_one = c.is_typeprefix.result in
    let other = ap (key_eq (Typeprefix path)) (sym c.held.ensures) ∙ c.is_typeprefix.ensures (neither-second had is_one none) path in
    no-typeprefixes c.insert.result c.args.key (c.args.answer, c.self.inside.count) c.self.inside.others c.insert.new.self c.insert.ensures.each_key c.insert.ensures.err path other (c.self.invariant (neither-first had is_one none) path)

pub returns : goal.returns
returns c =
    let kept = c.self.inside in
    let key = c.args.key in
    IfOk-weaker c.insert.result _ _
    (λ _ put. kept-insert kept.cursor kept.prefix kept.others c.insert.new.self kept.count key c.args.answer c.requires put ∙ ap (λ (k : Kept). with_stamped key c.args.answer (stamped_in k)) c.self.view_is)
    c.insert.ensures.each_key
