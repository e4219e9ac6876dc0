use Rattle.std.proofs.Common.{◌∙◌, ap}
use Rattle.idl_env.specs.Stamps.{Kept, stamped_in, with_stamped}
use Rattle.idl_env.specs.declared.keys.key.Key.TheVariants.{Cursor}
use Rattle.idl_env.proofs.StampLemmas.{kept-cursor}
use Rattle.idl_env.proofs.answering.answers.Answers.put_cursor.Goals as goal

pub returns : goal.returns
returns c =
    let kept = c.self.inside in
    kept-cursor kept.cursor kept.prefix kept.others kept.count c.args.cursor ∙ ap (λ (k : Kept). with_stamped Cursor c.args.cursor (stamped_in k)) c.self.view_is
