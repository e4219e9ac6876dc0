use Rattle.std.proofs.Common.{◌≡◌, ◌∙◌, [], ◌∷◌, List, ap, fold, sym}
use Rattle.std.proofs.lemmas.Result.{IfOk-weaker}
use Rattle.std.specs.List.{AllZip}
use Rattle.clap.specs.Words.{AddsInTurn, AddsSubcommand, App, Shape, app_of, with_subcommand}
use Rattle.clap.specs.declared.builder.command.Command.{Command}
use Rattle.idl_tool.specs.Words.{IsSubcommand, idltool, subcommand_shapes}
use Rattle.idl_tool.proofs.commands.command.Goals as goal

-- subcommands of these shapes, added in turn
added : (old new : Command) (subs : List Command) (shapes : List Shape) → AllZip IsSubcommand subs shapes → AddsInTurn AddsSubcommand old subs new
    → app_of new ≡ fold with_subcommand (app_of old) shapes
added old new [] [] are adds = ap app_of (sym adds)
added old new [] (shape ∷ shapes) are adds = absurd are
added old new (sub ∷ subs) [] are adds = absurd are
added old new (sub ∷ subs) (shape ∷ shapes) are adds =
    let one = adds.1.shape are.0.1 ∙ ap (with_subcommand (app_of old)) are.0.0 in
    added adds.0 new subs shapes are.1 adds.2 ∙ ap (λ (a : App). fold with_subcommand a shapes) one

pub returns : goal.returns
unfolding idltool
returns c =
    IfOk-weaker c.subcommands-2.result _ _
    (λ all adds. added c.bare.result all c.in_ok-subcommands.subcommands.items subcommand_shapes c.in_ok-subcommands.ensures adds
    ∙ ap (λ (a : App). fold with_subcommand a subcommand_shapes) c.bare.ensures) c.subcommands-2.ensures
