use Rattle.std.proofs.Common.{◌∙◌, ℕ, List, Some, ap, if◌then◌else◌, refl, sym}
use Rattle.std.specs.Map.{lookup}
use Rattle.std.specs.Cmp.Lexicographic.{bytes_decides}
use Rattle.std.specs.Option.{is_some}
use Rattle.std.specs.Str.{bytes_eq}
use Rattle.idl_changes.proofs.TableLemmas.{more-added, more-held, some-copied}
use Rattle.idl_changes.proofs.matched.add_name.Goals as goal

pub returns-then-is_some : goal.returns-then-is_some
returns-then-is_some c = λ names at are.
    more-held bytes_eq (λ k q. (bytes_decides k q).0) bytes_eq names c.args.name.now c.args.places.now c.args.name.now (λ k. refl)
    (ap is_some (sym c.get.ensures) ∙ some-copied c.get.result ∙ sym c.is_some.ensures ∙ c.if-is_some.true) are

pub returns : goal.returns
returns c = λ names at are.
    more-added bytes_eq (λ k q. (bytes_decides k q).0) bytes_eq names c.args.name.now c.args.places.now c.insert.new.self c.args.name.now c.args.place at (λ k. refl)
    (ap is_some (sym c.get.ensures) ∙ some-copied c.get.result ∙ sym c.is_some.ensures ∙ c.if-is_some.false)
    (λ k. c.in_ok-insert.ensures.each_key k ∙ ap (λ (name : List ℕ). if bytes_eq k name then Some c.args.place else lookup (bytes_eq k) c.args.places.now) c.in_ok-clone.ensures.cases) are
