use Rattle.std.proofs.Common.{◌≡◌, sym, ap, ◌∙◌}
use Rattle.std.specs.Prelude.{◌||◌}
use Rattle.idl_env.specs.Facts.{closing, given_back, over, scopes_in, with_answer, with_prefix}
use Rattle.idl_env.specs.Held.{closable, held}
use Rattle.idl_env.specs.Stamps.{Stamped, stamped, stamped_in}
use Rattle.idl_env.specs.Written.{is_added}
use Rattle.idl_env.specs.keys.Key.{key_eq}
use Rattle.idl_env.specs.declared.answering.answer.Answer.TheVariants.{Open}
use Rattle.idl_env.specs.declared.keys.key.Key.TheVariants.{Cursor, Prefix as PrefixKey}
use Rattle.idl_env.proofs.AnswerLaws.StateLemmas.{after_closing-some, closes_at-some, kept}
use Rattle.idl_env.proofs.StampLemmas.{stamped-over}
use Rattle.idl_env.proofs.answering.state.State.close.Goals as goal

pub returns-clause-world : goal.returns-clause-world
returns-clause-world c =
    let state = c.args.self.now in
    let entries = state.answers in
    let w = held state in
    let scope = c.in-Some.scope.now in
    let outer = c.in-Some.outer.now in
    let scopes = c.cursor.ensures in
    let able = ap closable (sym scopes) ∙ sym c.in-Some.ensures in
    let closed : kept c.put_cursor.new.self ≡ with_answer Cursor (Open outer) (λ k. over (closing w scope) k (kept entries k)) =
    ap (λ (a : Stamped). a.at) c.put_cursor.ensures
    ∙ (λ i. with_answer Cursor (Open ((c.in_ok-scopes.ensures ∙ c.in_ok-clone.ensures.cases) i)) ((λ (a : Stamped). a.at) (c.in_ok-put_closing.ensures i)))
    ∙ (λ i. with_answer Cursor (Open outer) (λ k. over (sym c.in_ok-closing.ensures i) k (kept entries k))) in
    let answers : kept c.put_prefix.new.self ≡ with_prefix (given_back w.before.opened) (with_answer Cursor (Open outer) (λ k. over (closing w scope) k (kept entries k))) =
    ap (λ (a : Stamped). a.at) c.put_prefix.ensures ∙ (λ i. with_prefix (c.in_ok-prefix.ensures.prefix i) (closed i)) in
    (λ i. record { answers = answers i; inside = c.leave.ensures i; before = record w.before { opened = c.in_ok-prefix.ensures.others i } })
    ∙ sym (after_closing-some w (scopes_in (kept entries Cursor)) scope outer able)

pub returns-clause-stamps : goal.returns-clause-stamps
returns-clause-stamps c =
    let state = c.args.self.now in
    let before = (stamped_in state.answers).stamps in
    let w = held state in
    let scope = c.in-Some.scope.now in
    let outer = c.in-Some.outer.now in
    let scopes = c.cursor.ensures in
    let able = ap closable (sym scopes) ∙ sym c.in-Some.ensures in
    let added = is_added (closing w scope) in
    let put = ap (λ (a : Stamped). a.stamps) c.in_ok-put_closing.ensures ∙ (λ i. stamped (is_added (sym c.in_ok-closing.ensures i)) before) in
    let cursor = ap (λ (a : Stamped). a.stamps) c.put_cursor.ensures ∙ ap (stamped (λ k. key_eq k Cursor)) put ∙ stamped-over added (λ k. key_eq k Cursor) before in
    ap (λ (a : Stamped). a.stamps) c.put_prefix.ensures
    ∙ ap (stamped (λ k. key_eq k PrefixKey)) cursor
    ∙ stamped-over (λ k. key_eq k Cursor || added k) (λ k. key_eq k PrefixKey) before
    ∙ sym (closes_at-some w (scopes_in (kept state.answers Cursor)) scope outer able before)
