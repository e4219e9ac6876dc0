use Rattle.std.proofs.Common.{◌∙◌, ℕ, List, Some, ap, if◌then◌else◌, sym}
use Rattle.std.specs.Map.{lookup}
use Rattle.std.specs.Option.{is_some}
use Rattle.std.specs.Str.{bytes_eq}
use Rattle.idl_changes.proofs.NumberLemmas.{held-or, lone-or}
use Rattle.idl_changes.proofs.TableLemmas.{some-copied}
use Rattle.idl_changes.proofs.labels.add_number.Goals as goal

pub returns-then-is_some : goal.returns-then-is_some
returns-then-is_some c = λ k.
    held-or k c.args.name.now c.args.numbers.now c.args.number (ap is_some (sym c.get.ensures) ∙ some-copied c.get.result ∙ sym c.is_some.ensures ∙ c.if-is_some.true)

pub returns : goal.returns
returns c = λ k.
    lone-or k c.args.name.now c.args.numbers.now c.args.number (lookup (bytes_eq k) c.insert.new.self)
    (ap is_some (sym c.get.ensures) ∙ some-copied c.get.result ∙ sym c.is_some.ensures ∙ c.if-is_some.false)
    (c.in_ok-insert.ensures.each_key k ∙ ap (λ (name : List ℕ). if bytes_eq k name then Some c.args.number else lookup (bytes_eq k) c.args.numbers.now) c.in_ok-clone.ensures.cases)
