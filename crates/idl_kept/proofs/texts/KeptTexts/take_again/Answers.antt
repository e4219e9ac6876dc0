-- A unit's result more, if there is one.
use Rattle.std.specs.Option.{option_to_list}
use Rattle.idl_kept.proofs.Drafts.{obtained-kept}
use Rattle.idl_kept.specs.Texts.{Texts}
use Rattle.idl_store.specs.Stored.{result_at}
use Rattle.idl_kept.proofs.texts.KeptTexts.take_again.Goals as goal

pub invariant_of-self : goal.invariant_of-self
invariant_of-self c =
    let texts : Texts = record { declarations = c.self.inside.declarations; blocks = c.self.inside.blocks; begins = c.self.inside.begins } in
    obtained-kept c.take_again.result texts c.take_again.new.self (option_to_list (result_at texts.declarations c.args.list c.args.place)) c.take_again.ensures.ok c.take_again.ensures.err c.self.invariant
