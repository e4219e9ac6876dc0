use Rattle.std.proofs.Common.{◌≡◌, ◌∙◌, ℕ, List, Ok, Option, ap, refl, sym}
use Rattle.std.specs.Option.{unwrap_or}
use Rattle.idl_source.specs.texts.Texts.{Texts}
use Rattle.idl_inputs.specs.Edits.{Put, after}
use Rattle.idl_inputs.specs.Made.{rootless}
use Rattle.idl_inputs.specs.Project.{Inputs, with_files}
use Rattle.idl_inputs.specs.Refiled.{files_after}
use Rattle.idl_inputs.specs.declared.file_edit.FileEdit.TheVariants as file
use Rattle.idl_inputs.proofs.FormLemmas.{after-formed}
use Rattle.idl_inputs.proofs.RefiledLemmas.{accepted-by, refiled-none, refused-by}
use Rattle.idl_sources.proofs.sources.Sources.put.Goals as goal

pub edit-requires : goal.edit-requires
edit-requires c = refiled-none c.self.inside.bank c.new-edited.result c.new-edited.ensures.files c.new-edited.ensures.answers

pub invariant_of-self-2 : goal.invariant_of-self-2
invariant_of-self-2 c =
    let old : Inputs = c.self.inside.bank in
    let first = files_after old.files c.new-edited.result in
    let last = files_after old.files c.edit.new.self in
    let same : old.files ≡ first = ap (λ (fs : Option Texts). unwrap_or fs old.files) (sym c.new-edited.ensures.files) in
    let is : after (rootless old) (Put c.as_bytes.result.now c.args.lines.items) ≡ Ok (with_files (rootless old) last) = accepted-by (rootless old) first last (file.Put c.as_bytes.result c.args.lines) same c.in_default.ensures.ok in
    after-formed (rootless old) (rootless c.refile.new.self) (Put c.as_bytes.result.now c.args.lines.items) c.self.invariant
    (is ∙ ap (λ (inputs : Inputs). Ok (rootless inputs)) (sym c.in_ok-refile.ensures.ok))

pub returns : goal.returns
returns c =
    let old : Inputs = c.self.inside.bank in
    let lines = c.args.lines.items in
    let first = files_after old.files c.new-edited.result in
    let last = files_after old.files c.edit.new.self in
    let same : old.files ≡ first = ap (λ (fs : Option Texts). unwrap_or fs old.files) (sym c.new-edited.ensures.files) in
    let is : after (rootless old) (Put c.as_bytes.result.now lines) ≡ Ok (with_files (rootless old) last) = accepted-by (rootless old) first last (file.Put c.as_bytes.result c.args.lines) same c.in_default.ensures.ok in
    ap (λ (inputs : Inputs). after (rootless inputs) (Put c.args.name.now lines)) (sym c.self.view_is)
    ∙ ap (λ (name : List ℕ). after (rootless old) (Put name lines)) (sym c.as_bytes.ensures.bytes)
    ∙ is
    ∙ ap (λ (inputs : Inputs). Ok (rootless inputs)) (sym c.in_ok-refile.ensures.ok)

pub returns-in-Err : goal.returns-in-Err
returns-in-Err c =
    let old : Inputs = c.self.inside.bank in
    let lines = c.args.lines.items in
    let first = files_after old.files c.new-edited.result in
    let same : old.files ≡ first = ap (λ (fs : Option Texts). unwrap_or fs old.files) (sym c.new-edited.ensures.files) in
    record {
      unchanged = refl;
      least = λ other.
          ap (λ (inputs : Inputs). after (rootless inputs) (Put c.args.name.now lines)) (sym c.self.view_is)
          ∙ ap (λ (name : List ℕ). after (rootless old) (Put name lines)) (sym c.as_bytes.ensures.bytes)
          ∙ refused-by (rootless old) first (file.Put c.as_bytes.result c.args.lines) c.in-Err.refusal same (c.in-Err.ensures.err other);
    }
