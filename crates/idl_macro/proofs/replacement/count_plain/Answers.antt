use Rattle.std.proofs.Common.{◌≡◌, ◌<◌, ◌+◌, [], List, Option, None, Bor, false, drop, get_or, length, sym, ap, ◌∙◌, arith}
use Rattle.std.proofs.lemmas.List.{drop_more, get_or-map, length-map}
use Rattle.std.specs.Option.{option_copied}
use Rattle.idl_event.specs.Expanding.{Reached, arrival, arrived, reached}
use Rattle.idl_lex.specs.tokens.Tokens.{Token}
use Rattle.idl_lex.specs.declared.tokens.token.PlacedToken.{PlacedToken}
use Rattle.idl_macro.specs.Replace.{replacement}
use Rattle.idl_macro.proofs.AgainLemmas.{no_value}
use Rattle.idl_macro.proofs.PlainLemmas.{passed-asked, passed-next}
use Rattle.idl_macro.proofs.replacement.count_plain.Goals as goal

abbrev no_token : PlacedToken
no_token = record { token = []; line = 0; starts_line = false; follows_word = false }

pub tokens-preserved : goal.tokens-preserved
tokens-preserved g c =
    let bank = g.B.Bank.at c.args.macros.now.bank.now in
    let definitions = c.args.macros.now.definitions.now in
    let tokens = c.args.tokens.now in
    let count = c.tokens.count in
    let token = c.index-tokens-count.result in
    let p = c.tokens.progress in
    let q = c.body_of.new.progress in
    let lt : count < length tokens = omega (arith, c.tokens-test.true, ap length c.as_slice-tokens.ensures, length-map tokens (λ (t : PlacedToken). t.token)) in
    let t = get_or tokens count no_token in
    let word : token ≡ t.token =
    c.index-tokens-count.is ∙ ap (λ (ts : List Token). get_or ts count token) c.as_slice-tokens.ensures ∙ get_or-map (λ (t : PlacedToken). t.token) tokens count no_token token lt in
    let none : c.in_ok-body_of.field-0 ≡ None = no_value c.in_ok-body_of.field-0 (sym c.is_some.ensures ∙ c.if-is_some.false) in
    let asked : arrived None q ≡ arrival bank (replacement definitions [] t.token) p =
    ap (λ (o : Option (Bor (List Token))). arrived (option_copied o) q) (sym none)
    ∙ c.in_ok-body_of.ensures
    ∙ ap (λ (w : Token). arrival bank (replacement definitions [] w) p) word in
    passed-next bank definitions tokens count c.args.progress.now p c.tokens.invariant t (drop (count + 1) tokens) q (drop_more tokens count no_token lt) asked

pub returns-then-is_some : goal.returns-then-is_some
returns-then-is_some g c =
    let bank = g.B.Bank.at c.args.macros.now.bank.now in
    let definitions = c.args.macros.now.definitions.now in
    let tokens = c.args.tokens.now in
    let count = c.tokens.count in
    let token = c.index-tokens-count.result in
    let p = c.tokens.progress in
    let q = c.body_of.new.progress in
    let lt : count < length tokens = omega (arith, c.tokens-test.true, ap length c.as_slice-tokens.ensures, length-map tokens (λ (t : PlacedToken). t.token)) in
    let t = get_or tokens count no_token in
    let word : token ≡ t.token =
    c.index-tokens-count.is ∙ ap (λ (ts : List Token). get_or ts count token) c.as_slice-tokens.ensures ∙ get_or-map (λ (t : PlacedToken). t.token) tokens count no_token token lt in
    let asked : q ≡ reached bank (replacement definitions [] t.token) p =
    ap (λ (r : Reached × Option (Option (List Token))). r.0) (c.in_ok-body_of.ensures ∙ ap (λ (w : Token). arrival bank (replacement definitions [] w) p) word) in
    let here = passed-asked bank definitions tokens count c.args.progress.now p c.tokens.invariant t (drop (count + 1) tokens) q (drop_more tokens count no_token lt) asked in
    record { within = here.within; room = here.room; plain = here.plain }
