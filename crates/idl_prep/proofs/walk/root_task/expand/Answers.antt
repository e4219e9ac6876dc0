use Rattle.std.proofs.Common.{ap, sym, ◌∙◌}
use Rattle.std.proofs.lemmas.Result.{IfOk-weaker}
use Rattle.std.specs.Option.{option_copied}
use Rattle.idl_prep.proofs.WalkLaws.RootTaskLemmas.{reached-no_root, reached-root}
use Rattle.idl_prep.proofs.walk.root_task.expand.Goals as goal

pub returns-in-Some : goal.returns-in-Some
returns-in-Some g c = IfOk-weaker c.walk_file.result _ _ (λ _ walked.
    reached-root (g.B.Bank.at c.args.bank.now) c.args.file.now c.in-Some.lexed.now c.args.root.now c.file_named.new.self c.walk_file.new.root c.requires
    c.in_ok-lexed.ensures.way (sym c.in_ok-lexed.ensures.file ∙ ap option_copied c.in-Some.is) walked) c.walk_file.ensures

pub returns-in-None : goal.returns-in-None
returns-in-None g c = IfOk-weaker c.fault_absent.result _ _ (λ _ told.
    reached-no_root (g.B.Bank.at c.args.bank.now) c.args.file.now c.args.root.now c.file_named.new.self c.fault_absent.new.root
    c.in_ok-lexed.ensures.way (sym c.in_ok-lexed.ensures.file ∙ ap option_copied c.in-None.is) told) c.fault_absent.ensures
