use Rattle.std.proofs.Common.{◌≡◌, arith, cond, inl, inr, max, ap, ◌∙◌}
use Rattle.idl_env.specs.keys.Key.{key_eq}
use Rattle.idl_root_blocks.specs.Asking.{Opened, asked_at}
use Rattle.idl_root_blocks.proofs.Noting.{all-dated, asked-noted, passed-asks}
use Rattle.idl_root_blocks.proofs.open.OpenBlocks.ask_one.Goals as goal

pub returns-then-written-start-clause-blocks : goal.returns-then-written-start-clause-blocks
returns-then-written-start-clause-blocks c =
    let e = c.args.entry.now in
    let found = c.in-Some.ensures.some in
    passed-asks c.args.env.now c.args.self.now c.requires.noted e.0 e.1 c.in-Some.start found.0 found.1 found.2 found.3 (inl (omega (arith, c.if-written-start.true, c.written_at-written.ensures)))

pub returns-then-asked-start-clause-blocks : goal.returns-then-asked-start-clause-blocks
returns-then-asked-start-clause-blocks c =
    let e = c.args.entry.now in
    let found = c.in-Some.ensures.some in
    let was : c.asked_at-asked.result ≡ asked_at c.args.self.now.asked e.0 = c.asked_at-asked.ensures ∙ ap (λ (o : Opened). asked_at o.asked e.0) c.self.view_is in
    passed-asks c.args.env.now c.args.self.now c.requires.noted e.0 e.1 c.in-Some.start found.0 found.1 found.2 found.3 (inr (omega (arith, c.if-asked-start.true, was)))

pub returns-clause-blocks : goal.returns-clause-blocks
returns-clause-blocks c =
    let facts = c.args.env.now in
    let e = c.args.entry.now in
    let was : c.asked_at-asked.result ≡ asked_at c.args.self.now.asked e.0 = c.asked_at-asked.ensures ∙ ap (λ (o : Opened). asked_at o.asked e.0) c.self.view_is in
    c.in_ok-note.ensures.blocks
    ∙ all-dated facts c.args.self.now c.requires.noted e.0 e.1 c.requires.held c.max.result (c.max.ensures ∙ (λ i. max (c.written_at-written.ensures i) (was i)))

pub returns-clause-noted : goal.returns-clause-noted
returns-clause-noted c =
    let facts = c.args.env.now in
    let e = c.args.entry.now in
    let was : c.asked_at-asked.result ≡ asked_at c.args.self.now.asked e.0 = c.asked_at-asked.ensures ∙ ap (λ (o : Opened). asked_at o.asked e.0) c.self.view_is in
    asked-noted facts c.args.self.now c.note.new.self c.requires.noted e.0 e.1
    (c.in_ok-note.ensures.blocks
    ∙ all-dated facts c.args.self.now c.requires.noted e.0 e.1 c.requires.held c.max.result (c.max.ensures ∙ (λ i. max (c.written_at-written.ensures i) (was i))))
    (λ q. c.in_ok-note.ensures.asked q ∙ ap (λ n. cond (key_eq q e.0) n (asked_at c.args.self.now.asked q)) c.len.ensures)
