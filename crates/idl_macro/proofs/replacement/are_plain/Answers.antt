use Rattle.std.proofs.Common.{◌≡◌, ◌∙◌, ◌<◌, ◌≤◌, [], List, Option, None, Bor, ap, arith, get_or, length, refl, rules, subst, sym}
use Rattle.std.proofs.lemmas.List.{get_or_default, take_all}
use Rattle.std.proofs.lemmas.List.Elements.{All-nil}
use Rattle.std.specs.Option.{option_copied}
use Rattle.idl_event.specs.Expanding.{Reached, arrival, arrived, reached}
use Rattle.idl_event.specs.Items.{tokens_left}
use Rattle.idl_lex.specs.tokens.Tokens.{Token}
use Rattle.idl_macro.specs.Replace.{replacement}
use Rattle.idl_macro.proofs.AgainLemmas.{no_value}
use Rattle.idl_macro.proofs.WordLemmas.{AreAsked, IsAsked, asked-again, asked-all, asked-next}
use Rattle.idl_macro.proofs.replacement.are_plain.Goals as goal

pub words-init : goal.words-init
words-init g c =
    let room : length c.args.lines.now ≤ tokens_left c.args.progress.now.left = search rules in
    record { room = room; each = All-nil (IsAsked (g.B.Bank.at c.args.macros.now.bank.now) c.args.macros.now.definitions.now c.args.progress.now); again = λ file. refl }

pub words-preserved : goal.words-preserved
words-preserved g c =
    let bank = g.B.Bank.at c.args.macros.now.bank.now in
    let definitions = c.args.macros.now.definitions.now in
    let words = c.words-words.result.now in
    let count = c.words.count in
    let token = c.index-words-count.result in
    let p = c.words.progress in
    let q = c.body_of.new.progress in
    let lt : count < length words = omega (arith, c.words-test.true) in
    let word : token ≡ get_or words count [] = c.index-words-count.is ∙ get_or_default words count token [] lt in
    let none : c.in_ok-body_of.field-0 ≡ None = no_value c.in_ok-body_of.field-0 (sym c.is_some.ensures ∙ c.if-is_some.false) in
    let asked : arrived None q ≡ arrival bank (replacement definitions [] (get_or words count [])) p =
    ap (λ (o : Option (Bor (List Token))). arrived (option_copied o) q) (sym none)
    ∙ c.in_ok-body_of.ensures
    ∙ ap (λ (w : Token). arrival bank (replacement definitions [] w) p) word in
    asked-next bank definitions c.args.lines.now words c.words-words.ensures c.args.progress.now p count q lt c.words.invariant asked

pub returns-then-is_some-clause-again : goal.returns-then-is_some-clause-again
returns-then-is_some-clause-again g c = λ file.
    let bank = g.B.Bank.at c.args.macros.now.bank.now in
    let definitions = c.args.macros.now.definitions.now in
    let words = c.words-words.result.now in
    let count = c.words.count in
    let token = c.index-words-count.result in
    let p = c.words.progress in
    let q = c.body_of.new.progress in
    let lt : count < length words = omega (arith, c.words-test.true) in
    let word : token ≡ get_or words count [] = c.index-words-count.is ∙ get_or_default words count token [] lt in
    let asked : q ≡ reached bank (replacement definitions [] (get_or words count [])) p =
    ap (λ (r : Reached × Option (Option (List Token))). r.0) (c.in_ok-body_of.ensures ∙ ap (λ (w : Token). arrival bank (replacement definitions [] w) p) word) in
    (asked-again bank definitions c.args.lines.now words c.words-words.ensures c.args.progress.now p count q lt c.words.invariant asked).again file

pub returns-clause-room : goal.returns-clause-room
returns-clause-room g c = λ plain. c.words.invariant.room

pub returns-clause-plain : goal.returns-clause-plain
returns-clause-plain g c = λ file plain.
    let bank = g.B.Bank.at c.args.macros.now.bank.now in
    let definitions = c.args.macros.now.definitions.now in
    let words = c.words-words.result.now in
    let p = c.words.progress in
    let whole : AreAsked bank definitions c.args.lines.now words c.args.progress.now p =
    subst (λ (ws : List Token). AreAsked bank definitions c.args.lines.now ws c.args.progress.now p) (take_all c.words.count words (omega (arith, c.words-test.false))) c.words.invariant in
    asked-all bank definitions c.args.lines.now words c.words-words.ensures c.args.progress.now p whole file

pub returns-clause-again : goal.returns-clause-again
returns-clause-again g c = λ file. c.words.invariant.again file
