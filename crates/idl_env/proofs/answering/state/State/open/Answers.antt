use Rattle.std.proofs.Common.{◌≡◌, sym, ap, ◌∙◌, ◌++◌, ◌∷◌, [], refl, subst}
use Rattle.idl_env.specs.Facts.{after_opening, with_answer}
use Rattle.idl_env.specs.Held.{IsAmongOthers, held}
use Rattle.idl_env.specs.Stamps.{Stamped, stamped, stamped_in}
use Rattle.idl_env.specs.keys.Key.{key_eq}
use Rattle.idl_env.specs.declared.answering.answer.Answer.TheVariants.{Open, Count}
use Rattle.idl_env.specs.declared.answering.answer.Scope.{Scope}
use Rattle.idl_env.specs.declared.keys.key.Key.{Key}
use Rattle.idl_env.specs.declared.keys.key.Key.TheVariants.{Cursor, Opened}
use Rattle.idl_env.specs.declared.answering.state.State.{State}
use Rattle.idl_env.proofs.AnswerLaws.StateLemmas.{held-opening, kept}
use Rattle.idl_env.proofs.StampLemmas.{stamped-over}
use Rattle.idl_env.proofs.answering.state.State.open.Goals as goal

pub insert-requires : goal.insert-requires
insert-requires c = subst IsAmongOthers (sym c.in_ok-key.ensures) tt

pub returns-clause-world : goal.returns-clause-world
returns-clause-world c =
    let state = c.args.self.now in
    let entries = state.answers in
    let scope = c.in_ok-scope.scope in
    let put : kept c.insert.new.self ≡ with_answer (Opened scope.path) (Count scope.body) (kept entries) =
    ap (λ (a : Stamped). a.at) c.in_ok-insert.ensures
    ∙ ap (λ q. with_answer q (Count scope.body) (kept entries)) c.in_ok-key.ensures in
    let both : kept c.put_cursor.new.self ≡ with_answer Cursor (Open c.in_ok-scopes.scopes) (with_answer (Opened scope.path) (Count scope.body) (kept entries)) =
    ap (λ (a : Stamped). a.at) c.put_cursor.ensures ∙ ap (with_answer Cursor (Open c.in_ok-scopes.scopes)) put in
    let outer = c.cursor.ensures in
    let opened = ap Open (c.in_ok-scopes.ensures ∙ c.in_ok-with.ensures ∙ ap (λ scopes. scope ∷ scopes) outer) in
    let within = c.in_ok-push.ensures.items ∙ ap (λ own. state.inside.items ++ own ∷ []) c.new-2.ensures in
    let before = c.in_ok-push-2.ensures.items ∙ ap (λ prefix. state.opened ++ prefix ∷ []) c.in_ok-prefix.ensures in
    let after : State = record { answers = c.put_cursor.new.self; inside = c.push.new.self; opened = c.push-2.new.self; entered = state.entered } in
    held-opening state after scope (Open c.in_ok-scopes.scopes) opened both within before refl
    ∙ ap (after_opening (held state)) c.in_ok-scope.ensures

pub returns-clause-stamps : goal.returns-clause-stamps
returns-clause-stamps c =
    let before = (stamped_in c.args.self.now.answers).stamps in
    let path = c.args.path.now in
    let is = c.in_ok-key.ensures ∙ ap (λ (s : Scope). Opened s.path) c.in_ok-scope.ensures in
    let put = ap (λ (a : Stamped). a.stamps) c.in_ok-insert.ensures ∙ ap (λ (q : Key). stamped (λ k. key_eq k q) before) is in
    ap (λ (a : Stamped). a.stamps) c.put_cursor.ensures
    ∙ ap (stamped (λ k. key_eq k Cursor)) put
    ∙ stamped-over (λ k. key_eq k (Opened path)) (λ k. key_eq k Cursor) before
