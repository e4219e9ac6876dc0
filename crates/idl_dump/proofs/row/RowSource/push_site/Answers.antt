use Rattle.std.proofs.Common.{◌≡◌, ◌∙◌, ◌+◌, drop, length, sym, ap, arith}
use Rattle.std.proofs.lemmas.Result.{on_ok_weaker}
use Rattle.idl_tree.proofs.NameLemmas.{text-length}
use Rattle.idl_dump.specs.HeldRow.{rest_at}
use Rattle.idl_dump.specs.Row.{behind_site}
use Rattle.idl_parts.specs.Item.{item_at, item_length}
use Rattle.idl_tree.specs.Interface.{spell_text}
use Rattle.idl_dump.proofs.row.RowSource.push_site.Goals as goal

pub overflow_add-len : goal.overflow_add-len
overflow_add-len c =
    let e = text-length c.in-Joined.pieces.now in
    let room = ap (λ s. item_length (item_at s)) c.in-Joined.is in
    omega (arith, e, room, c.len.ensures, c.requires)

pub returns-in-Joined-clause-rest : goal.returns-in-Joined-clause-rest
returns-in-Joined-clause-rest c =
    let from = rest_at c.args.self.now in
    let e = text-length c.in-Joined.pieces.now in
    let all : 1 + c.len.result ≡ length (spell_text c.in-Joined.pieces.now) = omega (arith, e, c.len.ensures) in
    on_ok_weaker c.push_joined.result
    (λ _. c.pass-in-Joined.ensures
    ∙ (λ i. record from { tokens = drop (all i) c.args.self.now.tokens.now })
    ∙ ap (λ s. behind_site from (item_at s)) (sym c.in-Joined.is))
    c.push_joined.ensures
