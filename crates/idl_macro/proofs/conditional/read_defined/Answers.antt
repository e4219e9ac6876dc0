use Rattle.std.proofs.Common.{◌≡◌, List, [], ◌∷◌, ◌++◌, is_some, refl, sym, ap, ◌∙◌, append-nil}
use Rattle.std.specs.Option.{option_copied}
use Rattle.std.proofs.lemmas.List.{nil_from_length}
use Rattle.idl_memo.specs.Query.{Done}
use Rattle.idl_event.specs.Expanding.{arrival, arrived}
use Rattle.idl_lex.specs.tokens.Tokens.{Token}
use Rattle.idl_macro.specs.Condition.{defined_read, truth}
use Rattle.idl_macro.specs.Macros.{macro_of}
use Rattle.idl_macro.specs.Replace.{followed_by}
use Rattle.idl_macro.proofs.ArrivalLemmas.{arrival-and_then}
use Rattle.idl_macro.proofs.ConditionLemmas.{answering, arrival-begun, arrival-read, defined_read-name, defined_read-nil, defined_read-token}
use Rattle.idl_macro.proofs.DirectiveLemmas.{is_some-tokens}
use Rattle.idl_macro.proofs.conditional.read_defined.Goals as goal

pub tokens-init : goal.tokens-init
tokens-init g c =
    let bank = g.B.Bank.at c.args.macros.now.bank.now in
    let whole = defined_read c.args.macros.now.definitions.now c.args.operands.now in
    sym (ap (λ (items : List Token). arrival bank (followed_by (Done items) whole) c.args.progress.now) c.new-read.ensures.items
    ∙ arrival-begun bank whole c.args.progress.now)

pub tokens-preserved-in-Some-defined_at : goal.tokens-preserved-in-Some-defined_at
tokens-preserved-in-Some-defined_at g c =
    let bank = g.B.Bank.at c.args.macros.now.bank.now in
    let definitions = c.args.macros.now.definitions.now in
    let p = c.tokens.progress in
    let q = c.macro_of.new.progress in
    let t = c.in-Some.token.now in
    let rest = c.in-Some.rest.now in
    let word = c.in-Some-defined_at.word.now in
    let after = c.in-Some-defined_at.after.now in
    let read = c.tokens.read.items in
    let found = c.in_ok-body-in-Some-defined_at in
    let digit = truth (is_some (option_copied found.body)) in
    let is_digit : c.in_ok-truth_at-in-Some-defined_at.field-0 ≡ digit =
    c.in_ok-truth_at-in-Some-defined_at.ensures ∙ ap truth (c.is_some.ensures ∙ is_some-tokens found.body) in
    let answered : arrived (digit ∷ []) q ≡ arrival bank (answering definitions t rest word) p =
    arrival-and_then bank (macro_of definitions word) (λ body. Done (truth (is_some body) ∷ [])) (option_copied found.body) p q found.ensures in
    c.tokens.invariant
    ∙ ap (λ (ts : List Token). arrival bank (followed_by (Done read) (defined_read definitions ts)) p) c.in-Some.ensures.cases.0
    ∙ ap (λ query. arrival bank (followed_by (Done read) query) p) (defined_read-name definitions t rest word after c.in-Some-defined_at.ensures)
    ∙ arrival-read bank read (digit ∷ []) (answering definitions t rest word) (defined_read definitions after) p q answered
    ∙ ap (λ (ts : List Token). arrival bank (followed_by (Done ts) (defined_read definitions after)) q)
    (sym (c.in_ok-push-in-Some-defined_at.ensures.items ∙ ap (λ u. read ++ u ∷ []) is_digit))

pub tokens-preserved : goal.tokens-preserved
tokens-preserved g c =
    let bank = g.B.Bank.at c.args.macros.now.bank.now in
    let definitions = c.args.macros.now.definitions.now in
    let p = c.tokens.progress in
    let t = c.in-Some.token.now in
    let rest = c.in-Some.rest.now in
    let read = c.tokens.read.items in
    c.tokens.invariant
    ∙ ap (λ (ts : List Token). arrival bank (followed_by (Done read) (defined_read definitions ts)) p) c.in-Some.ensures.cases.0
    ∙ ap (λ query. arrival bank (followed_by (Done read) query) p) (defined_read-token definitions t rest c.in-None.ensures)
    ∙ arrival-read bank read (t ∷ []) (Done (t ∷ [])) (defined_read definitions rest) p p refl
    ∙ ap (λ (ts : List Token). arrival bank (followed_by (Done ts) (defined_read definitions rest)) p)
    (sym (c.in_ok-push-in-None.ensures.items ∙ ap (λ u. read ++ u ∷ []) c.in_ok-clone-in-None.ensures.cases))

pub returns : goal.returns
returns g c =
    let bank = g.B.Bank.at c.args.macros.now.bank.now in
    let definitions = c.args.macros.now.definitions.now in
    let read = c.tokens.read.items in
    let p = c.tokens.progress in
    let nothing : c.tokens.left.now ≡ [] = nil_from_length c.tokens.left.now c.in_default.ensures.cases in
    sym (c.tokens.invariant
    ∙ ap (λ (ts : List Token). arrival bank (followed_by (Done read) (defined_read definitions ts)) p) nothing
    ∙ ap (λ query. arrival bank (followed_by (Done read) query) p) (defined_read-nil definitions)
    ∙ ap (λ (ts : List Token). arrived ts p) (append-nil read))
