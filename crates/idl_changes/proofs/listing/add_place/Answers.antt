use Rattle.std.proofs.Common.{◌∙◌, ◌&&◌, ℕ, Bool, List, Some, ap, if◌then◌else◌, not, sym}
use Rattle.std.specs.Map.{lookup}
use Rattle.std.specs.Cmp.Lexicographic.{bytes_decides}
use Rattle.std.specs.Option.{is_some}
use Rattle.std.specs.Str.{bytes_eq}
use Rattle.idl_changes.specs.Listing.{is_called, place_of}
use Rattle.idl_changes.proofs.TableLemmas.{more-added, more-held, more-none, some-copied}
use Rattle.idl_repo.specs.declared.details.row_tree.RowTree.{RowTree}
use Rattle.idl_changes.proofs.listing.add_place.Goals as goal

pub returns-then-is_called : goal.returns-then-is_called
unfolding place_of
returns-then-is_called c = λ L at are.
    more-none bytes_eq (λ k q. (bytes_decides k q).0) (λ (path : List ℕ) (e : RowTree). not (is_called e) && bytes_eq path e.path) L c.args.tree.now c.args.places.now
    (λ k. ap (λ (b : Bool). not b && bytes_eq k c.args.tree.now.path) (sym c.is_called.ensures ∙ c.if-is_called.true)) are

pub returns-then-is_some : goal.returns-then-is_some
unfolding place_of
returns-then-is_some c = λ L at are.
    more-held bytes_eq (λ k q. (bytes_decides k q).0) (λ (path : List ℕ) (e : RowTree). not (is_called e) && bytes_eq path e.path) L c.args.tree.now c.args.places.now c.args.tree.now.path
    (λ k. ap (λ (b : Bool). not b && bytes_eq k c.args.tree.now.path) (sym c.is_called.ensures ∙ c.if-is_called.false))
    (ap is_some (sym c.get.ensures) ∙ some-copied c.get.result ∙ sym c.is_some.ensures ∙ c.if-is_some.true) are

pub returns : goal.returns
unfolding place_of
returns c = λ L at are.
    more-added bytes_eq (λ k q. (bytes_decides k q).0) (λ (path : List ℕ) (e : RowTree). not (is_called e) && bytes_eq path e.path) L c.args.tree.now c.args.places.now c.insert.new.self
    c.args.tree.now.path c.args.place at
    (λ k. ap (λ (b : Bool). not b && bytes_eq k c.args.tree.now.path) (sym c.is_called.ensures ∙ c.if-is_called.false))
    (ap is_some (sym c.get.ensures) ∙ some-copied c.get.result ∙ sym c.is_some.ensures ∙ c.if-is_some.false)
    (λ k. c.in_ok-insert.ensures.each_key k ∙ ap (λ (path : List ℕ). if bytes_eq k path then Some c.args.place else lookup (bytes_eq k) c.args.places.now) c.in_ok-clone.ensures.cases) are
