use Rattle.std.proofs.Common.{◌≡◌, ◌+◌, length, ap, arith}
use Rattle.idl_check.proofs.Visits.StepsLemmas.{sum-none, sum-some}
use Rattle.idl_parts.specs.Item.{item_at, item_length}
use Rattle.idl_tree.proofs.NameLemmas.{text-length}
use Rattle.idl_tree.specs.Interface.{spell_text}
use Rattle.idl_check.proofs.walk.steps.length_of.Goals as goal

pub returns-in-Joined-clause-some : goal.returns-in-Joined-clause-some
returns-in-Joined-clause-some c =
    let text = text-length c.in-Joined.text.now in
    let joined : item_length (item_at c.args.site.now) ≡ length (spell_text c.in-Joined.text.now) = ap (λ s. item_length (item_at s)) c.in-Joined.is in
    sum-some c.checked_add.result (c.len.result + 1) (item_length (item_at c.args.site.now)) c.checked_add.ensures (omega (arith, text, joined, c.len.ensures))

pub returns-in-Joined-clause-none : goal.returns-in-Joined-clause-none
returns-in-Joined-clause-none c =
    let text = text-length c.in-Joined.text.now in
    let joined : item_length (item_at c.args.site.now) ≡ length (spell_text c.in-Joined.text.now) = ap (λ s. item_length (item_at s)) c.in-Joined.is in
    sum-none c.checked_add.result (c.len.result + 1) (item_length (item_at c.args.site.now)) c.checked_add.ensures (omega (arith, text, joined, c.len.ensures))
