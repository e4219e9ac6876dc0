use Rattle.std.proofs.Common.{◌≡◌, ◌∙◌, [], ◌∷◌, ◌++◌, List, ap, subst, sym}
use Rattle.std.specs.List.{AllZip}
use Rattle.clap.specs.declared.builder.command.Command.{Command}
use Rattle.idl_tool.specs.Words.{IsSubcommand, subcommand_shapes}
use Rattle.idl_tool.proofs.commands.subcommands.Goals as goal

-- one more
more : {before after so_far : List Command} (sub : Command) → after ≡ before ++ sub ∷ [] → before ≡ so_far → after ≡ so_far ++ sub ∷ []
more sub pushed is = pushed ∙ ap (λ (l : List Command). l ++ sub ∷ []) is

pub returns : goal.returns
returns c =
    let explain = more _ c.in_ok-push_subcommand.ensures c.new-all.ensures.items in
    let deps = more _ c.in_ok-push_subcommand-2.ensures explain in
    let check = more _ c.in_ok-push_subcommand-3.ensures deps in
    let json = more _ c.in_ok-push_subcommand-4.ensures check in
    let diff = more _ c.in_ok-push_subcommand-5.ensures json in
    let lsp = more _ c.in_ok-push_subcommand-6.ensures diff in
    let of_explain = c.in_ok-explain_command.ensures in
    let of_deps = c.in_ok-deps_command.ensures in
    let of_check = c.in_ok-check_command.ensures in
    let of_json = c.in_ok-json_command.ensures in
    let of_diff = c.in_ok-diff_command.ensures in
    let of_lsp = c.in_ok-lsp_command.ensures in
    subst (λ (all : List Command). AllZip IsSubcommand all subcommand_shapes) (sym lsp)
    ((of_explain.shape, of_explain.local), ((of_deps.shape, of_deps.local), ((of_check.shape, of_check.local), ((of_json.shape, of_json.local), ((of_diff.shape, of_diff.local), ((of_lsp.shape, of_lsp.local), tt))))))
