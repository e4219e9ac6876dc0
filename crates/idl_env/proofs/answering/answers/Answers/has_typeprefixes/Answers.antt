use Rattle.std.proofs.Common.{◌∙◌, ap, sym}
use Rattle.idl_env.specs.Stamps.{Kept, answer_in, stamped_in}
use Rattle.idl_env.specs.declared.keys.key.Key.TheVariants.{Typeprefix}
use Rattle.idl_env.proofs.AnswerLaws.OthersLemmas.{lookup-others}
use Rattle.idl_env.proofs.answering.answers.Answers.has_typeprefixes.Goals as goal

pub returns : goal.returns
returns c = λ none path.
    let kept = c.self.inside in
    sym (ap (λ (k : Kept). (stamped_in k).at (Typeprefix path)) c.self.view_is)
    ∙ ap answer_in (lookup-others (Typeprefix path) kept.cursor kept.prefix kept.others tt ∙ c.self.invariant none path)
