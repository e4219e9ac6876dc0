use Rattle.std.proofs.Common.{◌≡◌, ◌∙◌, ◌&&◌, ℕ, Bool, List, None, Some, ap, arith, false, if◌then◌else◌, length, map, nat_eq, not, position, refl, sym, true}
use Rattle.std.specs.Option.{is_some, option_map}
use Rattle.std.specs.Str.{bytes_eq}
use Rattle.std.proofs.lemmas.Bool.Decides.{nat_tests}
use Rattle.std.proofs.lemmas.List.{length-map}
use Rattle.std.proofs.lemmas.Option.{slice_get-map, slice_get_read}
use Rattle.idl_changes.proofs.NameLemmas.{renamed-there}
use Rattle.idl_changes.proofs.TableLemmas.{some-copied}
use Rattle.idl_changes.proofs.matched.renamed.Goals as goal

none-left : (i : ℕ) (b : Bool) → (if b && not true then Some i else None) ≡ None
none-left i true = refl
none-left i false = refl

pub returns-then-is_some : goal.returns-then-is_some
returns-then-is_some g c =
    let name_of = g.T.Named.name_of in
    let old = map name_of c.args.lists.0.now in
    let new = map name_of c.args.lists.1.now in
    let i = c.args.place in
    let other = c.in_ok-other.other.now in
    let read = c.in_ok-other.ensures.lookup.3 in
    let at = slice_get-map name_of c.args.lists.1.now i ∙ ap (option_map name_of) (slice_get_read c.args.lists.1.now (length c.args.lists.1.now) i other refl read.0 (read.1 other)) in
    let held = ap (λ (n : List ℕ). is_some (position (bytes_eq n) old)) (sym c.name.ensures)
    ∙ ap is_some (sym (c.requires.before c.name.result.now))
    ∙ ap is_some (sym c.get-2.ensures) ∙ some-copied c.get-2.result ∙ sym c.is_some.ensures ∙ c.if-is_some.true
    in
    sym (renamed-there old new i (name_of other) at
    ∙ ap (λ (b : Bool). if nat_eq (length old) (length new) && not b then Some i else None) held
    ∙ none-left i (nat_eq (length old) (length new)))

pub returns : goal.returns
returns g c =
    let name_of = g.T.Named.name_of in
    let old = map name_of c.args.lists.0.now in
    let new = map name_of c.args.lists.1.now in
    let i = c.args.place in
    let other = c.in_ok-other.other.now in
    let read = c.in_ok-other.ensures.lookup.3 in
    let at = slice_get-map name_of c.args.lists.1.now i ∙ ap (option_map name_of) (slice_get_read c.args.lists.1.now (length c.args.lists.1.now) i other refl read.0 (read.1 other)) in
    let held = ap (λ (n : List ℕ). is_some (position (bytes_eq n) old)) (sym c.name.ensures)
    ∙ ap is_some (sym (c.requires.before c.name.result.now))
    ∙ ap is_some (sym c.get-2.ensures) ∙ some-copied c.get-2.result ∙ sym c.is_some.ensures ∙ c.if-is_some.false
    in
    let first = length-map c.args.lists.0.now name_of in
    let second = length-map c.args.lists.1.now name_of in
    let same : nat_eq (length old) (length new) ≡ true = grind (arith, nat_tests, first, second) in
    sym (renamed-there old new i (name_of other) at
    ∙ ap (λ (b : Bool). if nat_eq (length old) (length new) && not b then Some i else None) held
    ∙ ap (λ (b : Bool). if b && not false then Some i else None) same)
