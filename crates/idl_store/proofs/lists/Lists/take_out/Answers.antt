-- The list goes out, and its numbers with it.
use Rattle.std.proofs.Common.{◌∙◌, ℕ, List, ap}
use Rattle.idl_store.specs.Numbers.{drafts_of, lists_of}
use Rattle.idl_store.specs.Stored.{Stored, removed}
use Rattle.idl_store.proofs.Changing.{lists-removed}
use Rattle.idl_store.proofs.lists.Lists.take_out.Goals as goal

pub returns-then-list-len : goal.returns-then-list-len
returns-then-list-len c =
    let of : List (List ℕ) → Stored ℕ = λ ls. record { lists = ls; drafts = drafts_of c.self.inside.drafts.items } in
    ap (λ ls. of (lists_of ls)) c.remove.ensures.items
    ∙ ap of (lists-removed c.self.inside.lists.items c.args.list)
    ∙ ap (λ s. removed s c.args.list) c.self.view_is
