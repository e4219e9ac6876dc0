use Rattle.std.proofs.Common.{◌≡◌, ◌∙◌, ℕ, List, [], ◌∷◌, ◌++◌, Option, Some, arith, length, sym, ap}
use Rattle.std.proofs.lemmas.List.{length-append}
use Rattle.std.specs.Map.{lookup}
use Rattle.std.specs.Option.{option_to_list, unwrap_or}
use Rattle.std.specs.Str.{bytes_eq}
use Rattle.idl_event.specs.declared.asked.key.RootAnswer.{RootAnswer}
use Rattle.idl_inputs.proofs.RefiledLemmas.{empty-left, popped}
use Rattle.idl_inputs.proofs.bank.put_all.Goals as goal

pub loop-done-init : goal.loop-done-init
loop-done-init c =
    let same = c.reserve.ensures.entries in
    let room = c.in_ok-reserve.ensures.ok in
    let long = c.len.ensures in
    let ends = c.len-done-end.ensures in
    record {
      answered = λ name. ap (λ (es : List (List ℕ × RootAnswer)). unwrap_or (lookup (bytes_eq name) c.args.answers.entries) (lookup (bytes_eq name) es)) same;
      room = omega (arith, room, long);
      left = omega arith;
    }

-- one is left to be put in
pub unwrap-name-requires : goal.unwrap-name-requires
unwrap-name-requires c =
    let inv = c.loop-done.invariant in
    let within = c.loop-done-test.true in
    let ends = c.len-done-end.ensures in
    c.pop.ensures.found.1 (omega (arith, within, ends, inv.left))

-- the last of them
last-parts : {E : Type 0} (whole rest : List E) (last : Option E) (e : E) → last ≡ Some e → whole ≡ rest ++ option_to_list last → whole ≡ rest ++ e ∷ []
last-parts whole rest last e is parts = parts ∙ ap (λ o. rest ++ option_to_list o) is

pub loop-done-preserved : goal.loop-done-preserved
loop-done-preserved c =
    let inv = c.loop-done.invariant in
    let last : List ℕ × Option RootAnswer = c.unwrap-name.result in
    let is : c.pop.result ≡ Some last = c.unwrap-name.ensures in
    let parts : c.loop-done.left.entries ≡ c.pop.new.self.entries ++ last ∷ [] = last-parts c.loop-done.left.entries c.pop.new.self.entries c.pop.result last is c.pop.ensures.entries in
    let updated = rw is at c.pop.ensures.updates in
    let long = ap (λ (es : List (List ℕ × Option RootAnswer)). length es) parts in
    let more = length-append c.pop.new.self.entries (last ∷ []) in
    let room = c.put_one.ensures.room in
    record {
      answered = λ name.
          popped name last.0 last.1 c.loop-done.left.entries c.pop.new.self.entries
          (lookup (bytes_eq name) c.loop-done.texts.entries) (lookup (bytes_eq name) c.put_one.new.texts.entries)
          parts (updated.0 name) (c.put_one.ensures.updates.0 name)
          ∙ inv.answered name;
      room = omega (arith, inv.room, room, long, more);
      left = omega (arith, inv.left, long, more);
    }

pub returns-clause-ok : goal.returns-clause-ok
returns-clause-ok c = λ name.
    let shrunk = c.give_back.ensures in
    let inv = c.loop-done.invariant in
    let over = c.loop-done-test.false in
    let ends = c.len-done-end.ensures in
    let empty : c.loop-done.left.entries ≡ [] = empty-left c.loop-done.left.entries (omega (arith, over, ends, inv.left)) in
    ap (λ (es : List (List ℕ × RootAnswer)). lookup (bytes_eq name) es) shrunk
    ∙ ap (λ (es : List (List ℕ × Option RootAnswer)). unwrap_or (lookup (bytes_eq name) es) (lookup (bytes_eq name) c.loop-done.texts.entries)) (sym empty)
    ∙ inv.answered name
