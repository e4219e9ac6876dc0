use Rattle.std.proofs.Common.{◌≡◌, ◌≤◌, ◌∙◌, IfOk, ℕ, ap, arith, length, subst, sym}
use Rattle.std.proofs.lemmas.List.{take_all}
use Rattle.idl_changes.specs.Plain.{opened_before, plain}
use Rattle.idl_changes.specs.Tables.{each, plain_alias}
use Rattle.idl_changes.proofs.TableLemmas.{length-from}
use Rattle.idl_repo.specs.declared.details.type_tree.LayeredType.{LayeredType}
use Rattle.idl_changes.proofs.plain.plain.Goals as goal

pub opened-requires : goal.opened-requires
opened-requires c =
    let L = c.args.listing.now in
    let count = ap length c.requires in
    let all : length (each (plain_alias L) L) ≤ length c.args.plains.now = omega (arith, count) in
    c.requires ∙ sym (take_all (length c.args.plains.now) (each (plain_alias L) L) all)

pub returns : goal.returns
unfolding plain
returns c =
    let L = c.args.listing.now in
    subst (λ (n : ℕ). IfOk c.opened.result (λ (t : LayeredType). t ≡ opened_before L n c.args.data_type.now)) (ap length c.requires ∙ length-from (plain_alias L) 0 L) c.opened.ensures
