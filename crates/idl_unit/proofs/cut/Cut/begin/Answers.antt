use Rattle.std.proofs.Common.{◌≡◌, ◌∙◌, ◌+◌, ◌++◌, ◌≤◌, drop, length, sym, ap, subst, arith, rules}
use Rattle.std.proofs.lemmas.List.{append-nil}
use Rattle.idl_unit.specs.Placing.{IsFront}
use Rattle.idl_unit.proofs.PlacingLemmas.{begin-none, front-behind}
use Rattle.idl_unit.proofs.cut.Cut.begin.Goals as goal

pub returns-in_default-clause-units : goal.returns-in_default-clause-units
returns-in_default-clause-units c =
    let s = c.args.self.now in
    let le : length s.text.now ≤ s.taken = search rules in
    let none = begin-none s.text.now s.sites.now.value s.taken s.inside c.requires.outside le in
    sym (ap (λ l. s.units.items ++ l) none.0 ∙ append-nil s.units.items)

pub returns-in_default-clause-ahead : goal.returns-in_default-clause-ahead
returns-in_default-clause-ahead c =
    let s = c.args.self.now in
    let le : length s.text.now ≤ s.taken = search rules in
    (begin-none s.text.now s.sites.now.value s.taken s.inside c.requires.outside le).1

pub returns-clause-within : goal.returns-clause-within
returns-clause-within c =
    let s = c.args.self.now in
    let run = c.in-Some.run'.now in
    let place = c.in-Some.place in
    let len = c.len-len.result in
    let front : IsFront run place (drop s.taken s.text.now) = search rules in
    record {
      length_same = c.requires.within.length_same;
      taken_at_most = omega arith;
      run = λ lt.
          let same : c.saturating_add-self.result ≡ place + len = omega (arith, lt) in
          subst (λ n. IsFront run n (drop (s.taken + len) s.text.now)) (sym same)
          (front-behind s.text.now run s.taken place len front (omega (arith, lt, same)));
    }
