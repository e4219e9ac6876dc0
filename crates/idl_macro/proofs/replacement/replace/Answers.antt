-- Each step makes a part of what is pending, and leaves the rest.
use Rattle.std.proofs.Common.{◌≡◌, ℕ, ◌+◌, ◌<◌, List, [], ◌∷◌, ◌++◌, Option, None, Some, Bor, length, reverse, sym, ap, ◌∙◌, subst}
use Rattle.std.specs.Map.{keys_of}
use Rattle.std.specs.Option.{option_copied}
use Rattle.std.proofs.lemmas.List.{length-reverse, nil_from_length, reverse-append, length-append}
use Rattle.idl_memo.specs.Progress.{after_item}
use Rattle.idl_memo.proofs.ProgressLaws.{progress_after-over}
use Rattle.idl_memo.specs.Query.{outcome}
use Rattle.idl_event.specs.Expanding.{reached}
use Rattle.idl_event.specs.Items.{rules}
use Rattle.idl_event.specs.Key.{key_eq}
use Rattle.idl_event.specs.Limits.{turns_at_most}
use Rattle.idl_event.specs.declared.told.allowance.Allowance.{Allowance}
use Rattle.idl_event.specs.declared.told.event.Item.TheVariants.{Turn}
use Rattle.idl_lex.specs.tokens.Tokens.{Token}
use Rattle.idl_macro.specs.Output.{given, given_more, item_of}
use Rattle.idl_macro.specs.Replace.{replacement}
use Rattle.idl_macro.proofs.AllowanceLemmas.{IsWithinTurns, IsWithinTurns-closed, IsWithinTurns-put, IsWithinTurns-room, IsWithinTurns-turn, left-step, left_by, not_over, replacement-found, work_left, work_left-put, work_left-turn}
use Rattle.idl_macro.proofs.MacroLemmas.{entries-opened}
use Rattle.idl_macro.proofs.OutputLemmas.{given_more-append}
use Rattle.idl_macro.proofs.ReplaceLemmas.{Open, pending, reached-pending-end, outcome-pending-end, reached-pending-stands, outcome-pending-stands, reached-pending-replaced, outcome-pending-replaced}
use Rattle.idl_macro.proofs.replacement.replace.Goals as goal

-- what is found
abbrev body_of : Option (Bor (List Token)) → Option (List Token)
body_of body = option_copied body

pub steps-preserved-in-Some-pop : goal.steps-preserved-in-Some-pop
steps-preserved-in-Some-pop g c =
    let inv = c.steps.invariant in
    let bank = g.B.Bank.at c.args.macros.now.bank.now in
    let item = item_of c.args.output.now c.args.source.place.now in
    let part = pending bank item c.args.source.place.now c.args.macros.now.definitions.now (turns_at_most + 1) in
    let popped = c.in-Some-pop.ensures in
    let f : Open = (c.in-Some-pop._word, c.in-Some-pop.rest) in
    let below = reverse c.pop.new.self in
    let nothing : c.steps.left.now ≡ [] = nil_from_length c.steps.left.now c.in-None.ensures.cases in
    let top : reverse c.steps.stack ≡ f ∷ below = ap reverse popped.entries ∙ reverse-append c.pop.new.self (f ∷ []) in
    record {
      progress = inv.progress
          ∙ ap (λ (ts : List Token). reached bank (part (reverse c.steps.stack) ts) c.steps.progress) nothing
          ∙ ap (λ (fs : List Open). reached bank (part fs []) c.steps.progress) top
          ∙ reached-pending-end bank item c.args.source.place.now c.args.macros.now.definitions.now (turns_at_most + 1) f below c.steps.progress;
      given = inv.given
          ∙ ap (λ (ts : List Token). given_more (given c.steps.output) (outcome (part (reverse c.steps.stack) ts) bank)) nothing
          ∙ ap (λ (fs : List Open). given_more (given c.steps.output) (outcome (part fs []) bank)) top
          ∙ ap (given_more (given c.steps.output)) (outcome-pending-end bank item c.args.source.place.now c.args.macros.now.definitions.now (turns_at_most + 1) f below);
      item = inv.item;
      depth = IsWithinTurns-closed c.steps.progress.left (length c.pop.new.self) (subst (λ (n : ℕ). IsWithinTurns c.steps.progress.left n) (ap length popped.entries ∙ length-append c.pop.new.self (f ∷ [])) inv.depth);
    }

pub steps-smaller-in-None-2 : goal.steps-smaller-in-None-2
steps-smaller-in-None-2 g c =
    let place = c.args.source.place.now in
    let t = c.in-Some.token.now in
    let it = item_of c.steps.output place t in
    let spent : c.put.new.progress.left ≡ left_by it c.steps.progress.left =
    left-step (g.B.Bank.at c.args.macros.now.bank.now) c.args.macros.now.definitions.now (keys_of (reverse c.steps.stack)) t it
    (body_of c.in_ok-replacement-in-Some.field-0) c.steps.progress c.replacement.new.progress c.put.new.progress
    c.in_ok-replacement-in-Some.ensures c.in_ok-put-in-None-2.ensures.progress in
    let going = not_over c.is_over.result c.steps.progress.left c.steps-test.true c.is_over.ensures.over.1 in
    subst (λ (o : Option Allowance). work_left o (length c.steps.stack) < work_left c.steps.progress.left (length c.steps.stack)) (sym spent)
    (work_left-put c.steps.output place t c.steps.progress.left (length c.steps.stack) going)

pub steps-preserved-in-None-2 : goal.steps-preserved-in-None-2
steps-preserved-in-None-2 g c =
    let inv = c.steps.invariant in
    let bank = g.B.Bank.at c.args.macros.now.bank.now in
    let place = c.args.source.place.now in
    let definitions = c.args.macros.now.definitions.now in
    let item = item_of c.args.output.now place in
    let part = pending bank item place definitions (turns_at_most + 1) in
    let fs = reverse c.steps.stack in
    let t = c.in-Some.token.now in
    let rest = c.in-Some.rest.now in
    let it = item_of c.steps.output place t in
    let asked = c.in_ok-replacement-in-Some in
    let put = c.in_ok-put-in-None-2.ensures in
    let going = not_over c.is_over.result c.steps.progress.left c.steps-test.true c.is_over.ensures.over.1 in
    let none : outcome (replacement definitions (keys_of fs) t) bank ≡ None =
    replacement-found bank definitions (keys_of fs) t (body_of asked.field-0) c.steps.progress c.replacement.new.progress going asked.ensures ∙ ap body_of c.in-None-2.is in
    let room : length fs < turns_at_most + 1 =
    IsWithinTurns-room c.steps.progress.left (length fs) going (subst (λ (n : ℕ). IsWithinTurns c.steps.progress.left n) (sym (length-reverse c.steps.stack)) inv.depth) in
    let told : c.put.new.progress ≡ after_item rules (item t) (reached bank (replacement definitions (keys_of fs) t) c.steps.progress) =
    put.progress ∙ (λ i. after_item rules (inv.item i place t) (asked.ensures i).0) in
    let spent : c.put.new.progress.left ≡ left_by it c.steps.progress.left =
    left-step bank definitions (keys_of fs) t it (body_of asked.field-0) c.steps.progress c.replacement.new.progress c.put.new.progress asked.ensures put.progress in
    record {
      progress = inv.progress
          ∙ ap (λ (ts : List Token). reached bank (part fs ts) c.steps.progress) c.in-Some.ensures.cases.0
          ∙ reached-pending-stands bank item place definitions (turns_at_most + 1) fs t rest c.steps.progress room none
          ∙ ap (reached bank (part fs rest)) (sym told);
      given = inv.given
          ∙ ap (λ (ts : List Token). given_more (given c.steps.output) (outcome (part fs ts) bank)) c.in-Some.ensures.cases.0
          ∙ ap (given_more (given c.steps.output)) (outcome-pending-stands bank item place definitions (turns_at_most + 1) fs t rest room none)
          ∙ given_more-append (given c.steps.output) (t ∷ []) (outcome (part fs rest) bank)
          ∙ ap (λ (o : Option (List Token)). given_more o (outcome (part fs rest) bank)) (sym put.given);
      item = put.item ∙ inv.item;
      depth = subst (λ (o : Option Allowance). IsWithinTurns o (length c.steps.stack)) (sym spent)
          (IsWithinTurns-put c.steps.output place t c.steps.progress.left (length c.steps.stack) inv.depth);
    }

pub steps-smaller : goal.steps-smaller
steps-smaller g c =
    let place = c.in_ok-clone-in-Some-2.field-0 in
    let bank = g.B.Bank.at c.args.macros.now.bank.now in
    let definitions = c.args.macros.now.definitions.now in
    let hidden = keys_of (reverse c.steps.stack) in
    let t = c.in-Some.token.now in
    let body = c.in-Some-2.body.now in
    let asked = c.in_ok-replacement-in-Some in
    let spent : c.tell.new.self.left ≡ left_by (Turn place) c.steps.progress.left =
    left-step bank definitions hidden t (Turn place) (body_of asked.field-0) c.steps.progress c.replacement.new.progress c.tell.new.self asked.ensures c.in_ok-tell-in-Some-2.ensures in
    let going = not_over c.is_over.result c.steps.progress.left c.steps-test.true c.is_over.ensures.over.1 in
    let found : outcome (replacement definitions hidden t) bank ≡ Some body =
    replacement-found bank definitions hidden t (body_of asked.field-0) c.steps.progress c.replacement.new.progress going asked.ensures ∙ ap body_of c.in-Some-2.is in
    let opened : c.insert.new.self ≡ c.steps.stack ++ (t, c.in-Some.rest) ∷ [] =
    entries-opened bank definitions c.steps.stack t body c.in_ok-clone-in-Some-2-2.field-0 c.in-Some.rest c.insert.new.self
    found (c.in_ok-clone-in-Some-2-2.ensures.cases ∙ c.spelling.ensures) c.in_ok-insert-in-Some-2.ensures.new_key in
    let one_more : length c.insert.new.self ≡ length c.steps.stack + 1 = ap length opened ∙ length-append c.steps.stack ((t, c.in-Some.rest) ∷ []) in
    subst (λ (n : ℕ). work_left c.tell.new.self.left n < work_left c.steps.progress.left (length c.steps.stack)) (sym one_more)
    (subst (λ (o : Option Allowance). work_left o (length c.steps.stack + 1) < work_left c.steps.progress.left (length c.steps.stack)) (sym spent)
    (work_left-turn place c.steps.progress.left (length c.steps.stack) going))

pub steps-preserved : goal.steps-preserved
steps-preserved g c =
    let inv = c.steps.invariant in
    let bank = g.B.Bank.at c.args.macros.now.bank.now in
    let place = c.args.source.place.now in
    let definitions = c.args.macros.now.definitions.now in
    let item = item_of c.args.output.now place in
    let part = pending bank item place definitions (turns_at_most + 1) in
    let fs = reverse c.steps.stack in
    let t = c.in-Some.token.now in
    let f : Open = (t, c.in-Some.rest) in
    let body = c.in-Some-2.body.now in
    let asked = c.in_ok-replacement-in-Some in
    let going = not_over c.is_over.result c.steps.progress.left c.steps-test.true c.is_over.ensures.over.1 in
    let found : outcome (replacement definitions (keys_of fs) t) bank ≡ Some body =
    replacement-found bank definitions (keys_of fs) t (body_of asked.field-0) c.steps.progress c.replacement.new.progress going asked.ensures ∙ ap body_of c.in-Some-2.is in
    let opened : c.insert.new.self ≡ c.steps.stack ++ (t, c.in-Some.rest) ∷ [] =
    entries-opened bank definitions c.steps.stack t body c.in_ok-clone-in-Some-2-2.field-0 c.in-Some.rest c.insert.new.self
    found (c.in_ok-clone-in-Some-2-2.ensures.cases ∙ c.spelling.ensures) c.in_ok-insert-in-Some-2.ensures.new_key in
    let top : reverse c.insert.new.self ≡ f ∷ fs = ap reverse opened ∙ reverse-append c.steps.stack (f ∷ []) in
    let room : length fs < turns_at_most + 1 =
    IsWithinTurns-room c.steps.progress.left (length fs) going (subst (λ (n : ℕ). IsWithinTurns c.steps.progress.left n) (sym (length-reverse c.steps.stack)) inv.depth) in
    let here : c.in_ok-clone-in-Some-2.field-0 ≡ place = λ i. record { file = c.in_ok-clone-in-Some-2.ensures.cases.0 i; line = c.in_ok-clone-in-Some-2.ensures.cases.1 i } in
    let told : c.tell.new.self ≡ after_item rules (Turn place) (reached bank (replacement definitions (keys_of fs) t) c.steps.progress) =
    c.in_ok-tell-in-Some-2.ensures ∙ (λ i. after_item rules (Turn (here i)) (asked.ensures i).0) in
    let spent : c.tell.new.self.left ≡ left_by (Turn c.in_ok-clone-in-Some-2.field-0) c.steps.progress.left =
    left-step bank definitions (keys_of fs) t (Turn c.in_ok-clone-in-Some-2.field-0) (body_of asked.field-0) c.steps.progress c.replacement.new.progress c.tell.new.self asked.ensures c.in_ok-tell-in-Some-2.ensures in
    let one_more : length c.insert.new.self ≡ length c.steps.stack + 1 = ap length opened ∙ length-append c.steps.stack (f ∷ []) in
    record {
      progress = inv.progress
          ∙ ap (λ (ts : List Token). reached bank (part fs ts) c.steps.progress) c.in-Some.ensures.cases.0
          ∙ reached-pending-replaced bank item place definitions (turns_at_most + 1) fs t c.in-Some.rest body c.steps.progress room found
          ∙ ap (reached bank (part (f ∷ fs) body)) (sym told)
          ∙ ap (λ (gs : List Open). reached bank (part gs body) c.tell.new.self) (sym top);
      given = inv.given
          ∙ ap (λ (ts : List Token). given_more (given c.steps.output) (outcome (part fs ts) bank)) c.in-Some.ensures.cases.0
          ∙ ap (given_more (given c.steps.output)) (outcome-pending-replaced bank item place definitions (turns_at_most + 1) fs t c.in-Some.rest body room found)
          ∙ ap (λ (gs : List Open). given_more (given c.steps.output) (outcome (part gs body) bank)) (sym top);
      item = inv.item;
      depth = subst (λ (n : ℕ). IsWithinTurns c.tell.new.self.left n) (sym one_more)
          (subst (λ (o : Option Allowance). IsWithinTurns o (length c.steps.stack + 1)) (sym spent)
          (IsWithinTurns-turn c.in_ok-clone-in-Some-2.field-0 c.steps.progress.left (length c.steps.stack) inv.depth c.is_over.ensures.turns));
    }

pub returns-clause-progress : goal.returns-clause-progress
returns-clause-progress g c =
    let bank = g.B.Bank.at c.args.macros.now.bank.now in
    let rest = pending bank (item_of c.args.output.now c.args.source.place.now) c.args.source.place.now c.args.macros.now.definitions.now (turns_at_most + 1) (reverse c.steps.stack) c.steps.left.now in
    sym (c.steps.invariant.progress ∙ progress_after-over rules key_eq bank rest c.steps.progress (c.is_over.ensures.over.0 c.steps-test.false))
