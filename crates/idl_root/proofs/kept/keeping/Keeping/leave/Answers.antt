use Rattle.std.proofs.Common.{◌≡◌, ◌∙◌, ◌∷◌, [], ap, length, subst, sym}
use Rattle.idl_kept.specs.Texts.{BlockResult, with_blocks}
use Rattle.idl_root.proofs.BlockLemmas.{snoc-same}
use Rattle.idl_root.proofs.TakenLemmas.{at-some}
use Rattle.idl_root.specs.Passed.{keys_behind}
use Rattle.idl_root.specs.declared.kept.keeping.Keeping.{Keeping}
use Rattle.idl_root_blocks.specs.Asking.{AreNoted as HaveNoted, OpenBlock, kept_of}
use Rattle.idl_root.proofs.kept.keeping.Keeping.leave.Goals as goal

pub returns-clause-keys : goal.returns-clause-keys
returns-clause-keys c = λ others block is.
    let found = at-some c.in_ok-block.field-0 c.in-Some.block _ c.in-Some.is c.in_ok-block.ensures.some in
    let same = snoc-same c.leave.new.self.blocks others found.0 block (sym found.1 ∙ is) in
    let asked : c.len-keys.result ≡ length block.log =
    c.len-keys.ensures ∙ ap (λ l. length l) (c.log.ensures ∙ ap (λ (k : BlockResult). k.log) (c.deref.ensures ∙ found.2)) ∙ ap (λ (b : OpenBlock). length b.log) same.1 in
    ap (λ (k : Keeping). k.keys) c.count.ensures ∙ (λ i. keys_behind (same.0 i) c.args.self.now.keys (asked i))

pub returns-clause-asked : goal.returns-clause-asked
returns-clause-asked c = λ others block is.
    let found = at-some c.in_ok-block.field-0 c.in-Some.block _ c.in-Some.is c.in_ok-block.ensures.some in
    let same = snoc-same c.leave.new.self.blocks others found.0 block (sym found.1 ∙ is) in
    c.len-keys.ensures ∙ ap (λ l. length l) (c.log.ensures ∙ ap (λ (k : BlockResult). k.log) (c.deref.ensures ∙ found.2)) ∙ ap (λ (b : OpenBlock). length b.log) same.1

pub returns-clause-noted : goal.returns-clause-noted
returns-clause-noted c = λ facts noted.
    subst (HaveNoted facts) (sym (ap (λ (k : Keeping). k.blocks) c.count.ensures)) (c.in_ok-block.ensures.noted facts noted)

pub returns-clause-blocks : goal.returns-clause-blocks
returns-clause-blocks c = λ others block is.
    let found = at-some c.in_ok-block.field-0 c.in-Some.block _ c.in-Some.is c.in_ok-block.ensures.some in
    let same = snoc-same c.leave.new.self.blocks others found.0 block (sym found.1 ∙ is) in
    ap (λ (k : Keeping). k.blocks.blocks) c.count.ensures ∙ same.0

pub returns-clause-kept : goal.returns-clause-kept
returns-clause-kept c = λ others block is.
    let found = at-some c.in_ok-block.field-0 c.in-Some.block _ c.in-Some.is c.in_ok-block.ensures.some in
    let same = snoc-same c.leave.new.self.blocks others found.0 block (sym found.1 ∙ is) in
    c.in_ok-put_block.ensures.ok ∙ ap (λ (r : BlockResult). with_blocks c.args.kept.now (r ∷ []) (c.args.begin ∷ [])) (found.2 ∙ ap kept_of same.1)

pub returns-clause-lists : goal.returns-clause-lists
returns-clause-lists c = c.put_block.ensures.lists
