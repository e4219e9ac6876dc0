use Rattle.std.proofs.Common.{◌≡◌, Option, sym, ap, ◌∙◌, ◌+◌, ◌∷◌, subst}
use Rattle.std.proofs.lemmas.Result.{IfOk-weaker}
use Rattle.std.specs.Prelude.{◌||◌}
use Rattle.idl_env.specs.Facts.{after_nameless, after_step, count_in, nameless, path_around, with_answer}
use Rattle.idl_env.specs.Held.{IsAmongOthers, held}
use Rattle.idl_env.specs.Stamps.{Stamped, stamped, stamped_in}
use Rattle.idl_env.specs.Written.{opens_at}
use Rattle.idl_env.specs.keys.Key.{key_eq}
use Rattle.idl_env.specs.declared.additions.addition.Step.TheVariants.{Opens}
use Rattle.idl_env.specs.declared.answering.answer.Answer.{Answer}
use Rattle.idl_env.specs.declared.answering.answer.Answer.TheVariants.{Count}
use Rattle.idl_env.specs.declared.keys.key.Key.{Key}
use Rattle.idl_env.specs.declared.keys.key.Key.TheVariants.{Nameless, Opened}
use Rattle.idl_env.proofs.AnswerLaws.StateLemmas.{kept}
use Rattle.idl_env.proofs.StampLemmas.{stamped-twice}
use Rattle.idl_env.proofs.answering.state.State.open_nameless.Goals as goal

pub insert-requires : goal.insert-requires
insert-requires c = subst IsAmongOthers (sym c.nameless-key.ensures) tt

pub open-requires : goal.open-requires
open-requires c =
    let state = c.args.self.now in
    let number = c.count_in-number.ensures ∙ ap count_in c.get.ensures ∙ ap (λ q. count_in (kept state.answers q)) c.nameless-key.ensures in
    let put : kept c.insert.new.self ≡ (after_nameless (held state)).answers =
    ap (λ (a : Stamped). a.at) c.in_ok-insert.ensures ∙ (λ i. with_answer (c.nameless-key.ensures i) (Count (number i + 1)) (kept state.answers)) in
    let key = Opened c.in_ok-path.path in
    let same = ap (λ (answers : Key → Option Answer). count_in (answers key)) put in
    rw same (c.requires key)

pub returns-clause-world : goal.returns-clause-world
returns-clause-world c =
    let state = c.args.self.now in
    let number = c.count_in-number.ensures ∙ ap count_in c.get.ensures ∙ ap (λ q. count_in (kept state.answers q)) c.nameless-key.ensures in
    let put : kept c.insert.new.self ≡ (after_nameless (held state)).answers =
    ap (λ (a : Stamped). a.at) c.in_ok-insert.ensures ∙ (λ i. with_answer (c.nameless-key.ensures i) (Count (number i + 1)) (kept state.answers)) in
    let counted : held (record state { answers = c.insert.new.self }) ≡ after_nameless (held state) = λ i. record (held state) { answers = put i } in
    let name = c.in_ok-name.ensures ∙ ap nameless number in
    let outer = c.cursor.ensures in
    let around = c.in_ok-path_of_first.ensures ∙ ap path_around outer in
    let path = c.in_ok-path.ensures ∙ (λ i. name i ∷ around i) in
    IfOk-weaker c.open.result _ _ (λ _ h. h ∙ (λ i. after_step (counted i) (Opens (path i) c.args.kind))) c.open.ensures.world

pub returns-clause-stamps : goal.returns-clause-stamps
returns-clause-stamps c =
    let state = c.args.self.now in
    let before = (stamped_in state.answers).stamps in
    let number = c.count_in-number.ensures ∙ ap count_in c.get.ensures ∙ ap (λ q. count_in (kept state.answers q)) c.nameless-key.ensures in
    let name = c.in_ok-name.ensures ∙ ap nameless number in
    let around = c.in_ok-path_of_first.ensures ∙ ap path_around c.cursor.ensures in
    let path = c.in_ok-path.ensures ∙ (λ i. name i ∷ around i) in
    let put = ap (λ (a : Stamped). a.stamps) c.in_ok-insert.ensures ∙ ap (λ (q : Key). stamped (λ k. key_eq k q) before) c.nameless-key.ensures in
    let both = stamped-twice (λ k. key_eq k Nameless) (opens_at c.in_ok-path.path) before in
    IfOk-weaker c.open.result _ _
    (λ _ h.
    h
    ∙ ap (stamped (opens_at c.in_ok-path.path)) put
    ∙ both
    ∙ (λ i. stamped (λ k. key_eq k Nameless || opens_at (path i) k) before))
    c.open.ensures.stamps
