use Rattle.std.proofs.Common.{◌∙◌, List, ℕ, ap, slice_range, sym}
use Rattle.std.specs.Option.{option_to_list}
use Rattle.idl_source.specs.names.Candidates.{found}
use Rattle.idl_source.specs.names.Path.{joined_path}
use Rattle.idl_server.proofs.IncludeLemmas.{found-angled, found-beside, found-not_beside, found-rooted}
use Rattle.idl_server.proofs.includes.file_found.Goals as goal
use Rattle.idl_server.proofs.includes.file_found.Goals.{then-operand+in_default, else-operand}

pub returns-then-is_rooted : goal.returns-then-is_rooted
returns-then-is_rooted c =
    let inputs = c.args.session.now.project.inputs in
    let spelled = slice_range c.args.line.now c.args.operand.start c.args.operand.end in
    c.present.ensures ∙ ap (λ (directory : List ℕ). found inputs.files (option_to_list (joined_path directory spelled))) c.directory-beside.ensures
    ∙ found-rooted inputs.files inputs.search c.args.name.now spelled c.args.operand.is_quoted (sym c.is_rooted.ensures ∙ c.if-is_rooted.true)

pub returns-in-Some : goal.returns-in-Some
returns-in-Some c =
    let inputs = c.args.session.now.project.inputs in
    let spelled = slice_range c.args.line.now c.args.operand.start c.args.operand.end in
    let there = c.in-Some.ensures ∙ ap (λ (directory : List ℕ). found inputs.files (option_to_list (joined_path directory spelled))) c.directory-beside.ensures in
    found-beside inputs.files inputs.search c.args.name.now spelled c.args.operand.is_quoted (sym c.is_rooted.ensures ∙ c.if-is_rooted.false) c.if-operand.true c.in-Some.found (sym there)

pub returns : goal.returns
returns c =
    let inputs = c.args.session.now.project.inputs in
    let spelled = slice_range c.args.line.now c.args.operand.start c.args.operand.end in
    let plain = sym c.is_rooted.ensures ∙ c.if-is_rooted.false in
    elim c.if-operand.branch [
      | then-operand+in_default w ↦
          c.present_along.ensures
          ∙ found-not_beside inputs.files inputs.search c.args.name.now spelled c.args.operand.is_quoted plain w.if-operand.true
          (sym (w.in_default.ensures ∙ ap (λ (directory : List ℕ). found inputs.files (option_to_list (joined_path directory spelled))) c.directory-beside.ensures))
      | else-operand w ↦ c.present_along.ensures ∙ found-angled inputs.files inputs.search c.args.name.now spelled c.args.operand.is_quoted plain w.if-operand.false
    ]
