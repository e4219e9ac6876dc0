use Rattle.std.proofs.Common.{◌≡◌, ◌∙◌, ap, true}
use Rattle.clap.specs.Words.{app_of}
use Rattle.clap.specs.Simple.{Shape, app_of_fields, on_top}
use Rattle.idl_tool.proofs.commands.bare.Goals as goal

abbrev own_words : Shape → Shape
own_words top = record top { no_binary_name = true }

abbrev wanted : Shape → Shape
wanted top = record top { subcommand_required = true }

abbrev helping : Shape → Shape
helping top = record top { arg_required_else_help = true }

abbrev versioned : Shape → Shape
versioned top = record top { has_version = true }

pub returns : goal.returns
returns c =
    let one : app_of c.no_binary_name.result ≡ on_top own_words (app_of c.new.result) = ap app_of_fields c.no_binary_name.ensures in
    let two : app_of c.subcommand_required.result ≡ on_top wanted (app_of c.no_binary_name.result) = ap app_of_fields c.subcommand_required.ensures in
    let three : app_of c.arg_required_else_help.result ≡ on_top helping (app_of c.subcommand_required.result) = ap app_of_fields c.arg_required_else_help.ensures in
    let four : app_of c.version.result ≡ on_top versioned (app_of c.arg_required_else_help.result) = ap app_of_fields c.version.ensures in
    let five : app_of c.about.result ≡ app_of c.version.result = ap app_of_fields c.about.ensures in
    let six : app_of c.after_help.result ≡ app_of c.about.result = ap app_of_fields c.after_help.ensures in
    six ∙ five ∙ four ∙ ap (on_top versioned) (three ∙ ap (on_top helping) (two ∙ ap (on_top wanted) (one ∙ ap (on_top own_words) c.new.ensures.app)))
