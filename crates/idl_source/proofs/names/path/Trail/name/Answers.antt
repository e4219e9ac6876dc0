use Rattle.std.proofs.Common.{◌∙◌, sym}
use Rattle.idl_source.specs.names.Name.{is_name}
use Rattle.idl_source.proofs.PathLemmas.{made, name_of-over, name_of-text}
use Rattle.idl_source.proofs.names.path.Trail.name.Goals as goal

pub returns-in_err-write_steps_up : goal.returns-in_err-write_steps_up
returns-in_err-write_steps_up c = c.from_residual.ensures ∙ sym (name_of-over c.args.rooted c.args.self c.in_err-write_steps_up.ensures.none)

pub returns : goal.returns
returns c =
    made is_name c.new.result c.text_from.result.now c.new.ensures.allowed c.new.ensures.same
    ∙ sym (name_of-text c.args.rooted c.args.self c.write_steps_up.new.self.down c.text_from.result.now c.text_from.ensures c.in_ok-write_steps_up.ensures.some)
