use Rattle.std.proofs.Common.{◌∙◌, Option, Some, ap, sym, subst}
use Rattle.std.specs.Map.{lookup}
use Rattle.std.specs.Option.{unwrap_or}
use Rattle.std.specs.Str.{bytes_eq}
use Rattle.idl_prep.specs.Include.{directories_in}
use Rattle.idl_source.specs.texts.Texts.{Texts}
use Rattle.idl_inputs.specs.Project.{Inputs}
use Rattle.idl_inputs.specs.Refiled.{AreRefiled}
use Rattle.idl_inputs.proofs.RefiledLemmas.{texts-refiled}
use Rattle.idl_inputs.proofs.bank.SessionBank.refile.Goals as goal

-- what was put in, by the parts that were edited
pub invariant_of-self-in-Some : goal.invariant_of-self-in-Some
invariant_of-self-in-Some c =
    let inputs : Inputs = record { files = c.self.inside.files; macros = c.self.inside.macros.entries; search = directories_in (Some c.self.inside.search) } in
    let are = subst (λ (i : Inputs). AreRefiled i c.args.edited) (sym c.self.view_is) c.requires in
    let files = ap (λ (fs : Option Texts). unwrap_or fs inputs.files) (sym c.into_parts-files.ensures.files ∙ c.in-Some.is) in (
      texts-refiled inputs c.args.edited c.self.inside.texts.entries c.put_all.new.texts.entries c.in-Some.files are c.self.invariant.0
          (λ name. c.in_ok-put_all.ensures.ok name ∙ ap (λ m. unwrap_or (lookup (bytes_eq name) m.entries) (lookup (bytes_eq name) c.self.inside.texts.entries)) c.into_parts-files.ensures.answers) files,
      c.self.invariant.1,
    )

pub invariant_of-self-in-None : goal.invariant_of-self-in-None
invariant_of-self-in-None c =
    let inputs : Inputs = record { files = c.self.inside.files; macros = c.self.inside.macros.entries; search = directories_in (Some c.self.inside.search) } in
    let are = subst (λ (i : Inputs). AreRefiled i c.args.edited) (sym c.self.view_is) c.requires in
    let files = ap (λ (fs : Option Texts). unwrap_or fs inputs.files) (sym c.into_parts-files.ensures.files ∙ c.in-None.is) in (
      texts-refiled inputs c.args.edited c.self.inside.texts.entries c.put_all.new.texts.entries c.self.inside.files are c.self.invariant.0
          (λ name. c.in_ok-put_all.ensures.ok name ∙ ap (λ m. unwrap_or (lookup (bytes_eq name) m.entries) (lookup (bytes_eq name) c.self.inside.texts.entries)) c.into_parts-files.ensures.answers) files,
      c.self.invariant.1,
    )
