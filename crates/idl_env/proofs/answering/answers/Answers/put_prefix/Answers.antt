use Rattle.std.proofs.Common.{◌∙◌, ap}
use Rattle.idl_env.specs.Stamps.{Kept, stamped_in, with_stamped}
use Rattle.idl_env.specs.declared.keys.key.Key.TheVariants.{Prefix}
use Rattle.idl_env.proofs.StampLemmas.{kept-prefix}
use Rattle.idl_env.proofs.answering.answers.Answers.put_prefix.Goals as goal

pub returns : goal.returns
returns c =
    let kept = c.self.inside in
    kept-prefix kept.cursor kept.prefix kept.others kept.count c.args.prefix ∙ ap (λ (k : Kept). with_stamped Prefix c.args.prefix (stamped_in k)) c.self.view_is
