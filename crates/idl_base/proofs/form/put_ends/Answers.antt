use Rattle.std.proofs.Common.{◌∙◌, ◌-◌, length}
use Rattle.std.proofs.lemmas.List.{take_rest}
use Rattle.idl_base.proofs.FormLemmas.{all-by_ends}
use Rattle.idl_base.proofs.form.put_ends.Goals as goal

pub returns : goal.returns
returns c =
    let bytes = c.args.bytes.now in
    all-by_ends bytes c.copy_from_slice.new.self _ c.copy_from_slice-2.new.self c.args.count c.requires.within c.requires.all
    c.copy_from_slice.ensures.after
    (c.copy_from_slice-2.ensures.after ∙ take_rest bytes (length bytes - c.args.count))
