use Rattle.std.proofs.Common.{◌∙◌, ℕ, List, ap₂}
use Rattle.idl_changes.specs.Partners.{joined}
use Rattle.idl_changes.specs.Tables.{each}
use Rattle.idl_repo.specs.declared.details.row_tree.RowTree.{RowTree}
use Rattle.idl_changes.proofs.sides.Sides.new.Goals as goal

pub invariant_of-result : goal.invariant_of-result
invariant_of-result c = record {
  before = c.in_ok-forth.ensures.forth ∙ ap₂ (λ (old new : List RowTree). each (λ (i : ℕ) (e : RowTree). joined old new i) old) c.listing.ensures c.listing-2.ensures;
  after = c.in_ok-forth.ensures.back ∙ ap₂ (λ (old new : List RowTree). each (λ (i : ℕ) (e : RowTree). joined new old i) new) c.listing.ensures c.listing-2.ensures;
  partners = c.in_ok-partners.ensures;
}
